-- What the runs of a book wait for at a moment, in one view: what whoever gives out its activities needs to know.
use Rattle.std.specs.Prelude.{ℕ, ◌+◌, ◌++◌, ◌&&◌, Bool, nat_le, nat_lt, List, [], ◌∷◌, filter, Option, Some, None, option_map, if◌then◌else◌}
use Rattle.flow_base.specs.declared.book.Due.{Due}
use Rattle.flow_base.specs.declared.book.Run.{Run}
use Rattle.flow_base.specs.declared.book.OpenActivity.{OpenActivity}
use Rattle.flow_model.specs.Book.{Book, least_due}
use Rattle.flow_maps.specs.Agenda.{open_runs}
use Rattle.flow_maps.specs.declared.outlook.BookWaits.{BookWaits}

-- an open activity of the run of a number
abbrev pub Waiting : Type 0
Waiting = ℕ × OpenActivity

abbrev pub waiting_in : ℕ → List OpenActivity → List Waiting
waiting_in n [] = []
waiting_in n (t ∷ ts) = (n, t) ∷ waiting_in n ts

-- the open activities of runs, of a list that begins with number n
abbrev pub waiting_from : ℕ → List Run → List Waiting
waiting_from n [] = []
waiting_from n (r ∷ rs) = waiting_in n r.tasks ++ waiting_from (n + 1) rs

-- All open activities of a book at their current attempts, in order of run and event.
abbrev pub waiting : Book → List Waiting
waiting b = waiting_from 1 b.runs

-- the attempt may be made by a moment
abbrev pub is_by : ℕ → Waiting → Bool
is_by at w = nat_le w.1.ready at

-- The open activities whose attempts may be made by a moment, in the same order.
abbrev pub ready_by : ℕ → Book → List Waiting
ready_by at b = filter (is_by at) (waiting b)

-- and not before another one
abbrev pub is_within : ℕ → ℕ → Waiting → Bool
is_within since at w = nat_le since w.1.ready && is_by at w

abbrev pub ready_within : ℕ → ℕ → Book → List Waiting
ready_within since at b = filter (is_within since at) (waiting b)

-- such activities of some runs, by what runs have
abbrev pub ready_of : (Waiting → Bool) → (ℕ → List OpenActivity) → List ℕ → List Waiting
ready_of p g [] = []
ready_of p g (n ∷ ns) = filter p (waiting_in n (g n)) ++ ready_of p g ns

-- the lesser of two moments, of which one needn't be there
abbrev pub sooner : Option ℕ → ℕ → Option ℕ
sooner None m = Some m
sooner (Some n) m = if nat_lt m n then Some m else Some n

-- and of two of which neither need be there
abbrev pub with_next : Option ℕ → Option ℕ → Option ℕ
with_next best None = best
with_next best (Some m) = sooner best m

-- an attempt counts that is ready after `at`
abbrev pub with_ready : ℕ → Option ℕ → Waiting → Option ℕ
with_ready at best w = if nat_lt at w.1.ready then sooner best w.1.ready else best

-- the least of a moment and of those after `at` at which attempts are ready
abbrev pub soonest : ℕ → Option ℕ → List Waiting → Option ℕ
soonest at best [] = best
soonest at best (w ∷ ws) = soonest at (with_ready at best w) ws

-- the open timer of a book that is due first
abbrev pub first_timer : Book → Option Due
first_timer b = least_due b 1000000000000000

abbrev pub moment_of : Due → ℕ
moment_of d = d.due

-- When more is to be done: the least of the open timers' due moments and of the ready moments after this one.
abbrev pub due_after : ℕ → Book → Option ℕ
due_after at b = soonest at (option_map moment_of (first_timer b)) (waiting b)

-- What a book waits for at a moment: the activities that may be attempted by then and not before another moment, when more is to be
-- done, and how many runs are open.
abbrev pub outlook_of : ℕ → ℕ → Book → BookWaits
outlook_of since at b = record { ready = ready_within since at b; due = due_after at b; open_runs = open_runs b }
