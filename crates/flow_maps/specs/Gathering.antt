-- What was gathered from the first runs of a book, with those that are left: what all of them come to.
use Rattle.std.specs.Prelude.{ℕ, ◌+◌, ◌++◌, List, Option, None, option_map, length, filter}
use Rattle.flow_base.specs.declared.book.Run.{Run}
use Rattle.flow_model.specs.Book.{least_from, signalled_from}
use Rattle.flow_maps.specs.Agenda.{is_open_run}
use Rattle.flow_maps.specs.Outlooks.{is_within, moment_of, soonest, waiting_from, with_next}
use Rattle.flow_maps.specs.Signals.{or_later}
use Rattle.flow_maps.specs.declared.gathering.WaitingList.{WaitingList}
use Rattle.flow_maps.specs.declared.gathering.SignalAsked.{SignalAsked}
use Rattle.flow_maps.specs.declared.outlook.BookWaits.{BookWaits}

-- what runs wait for at a moment, of a list that begins with number n
abbrev pub outlook_from : ℕ → ℕ → ℕ → List Run → BookWaits
outlook_from since at n rs =
    record {
      ready = filter (is_within since at) (waiting_from n rs);
      due = soonest at (option_map moment_of (least_from 1000000000000000 n None rs)) (waiting_from n rs);
      open_runs = length (filter is_open_run rs);
    }

abbrev pub listed_with : WaitingList → ℕ → List Run → BookWaits
listed_with l n rs =
    record {
      ready = l.ready.items ++ filter (is_within l.since l.at) (waiting_from n rs);
      due = soonest l.at (with_next (option_map moment_of (least_from 1000000000000000 n l.first rs)) l.next) (waiting_from n rs);
      open_runs = length l.opened.items + length (filter is_open_run rs);
    }

abbrev pub found_with : SignalAsked → ℕ → List Run → Option (ℕ × ℕ)
found_with s n rs = or_later s.found (signalled_from s.flow.now s.request.now n rs)
