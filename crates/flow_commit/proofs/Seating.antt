-- Where the runs of the book that is kept stand, from one batch to the next.
use Rattle.std.proofs.Common.{◌≡◌, List, sym, subst, ◌∙◌, arith}
use Rattle.std.specs.Prelude.{Contains}
use Rattle.sqlite_trees.specs.declared.store.Store.{Ghosts}
use Rattle.flow_cache.specs.Entries.{Entries}
use Rattle.flow_cache.specs.Laws.{AllHave}
use Rattle.flow_check.specs.Language.{meaning_of}
use Rattle.flow_machine.specs.Seated.{FitSeats, HasNone, IsWithin, ReachedIn}
use Rattle.flow_machine.specs.declared.seats.Led.{Led}
use Rattle.flow_machine.specs.declared.seats.Seats.{Seats}
use Rattle.flow_model.specs.Book.{Book}
use Rattle.flow_rows.proofs.Telling.{told}
use Rattle.flow_tables.specs.Stored.{tables_in}
use Rattle.flow_tables.specs.Owned.{Stored, IsFit, IsUp, Follows, Keeps, book_now, kept_book, state_of}
use Rattle.flow_commit.specs.Seating.{HasSeats, IsSeated}
use Rattle.flow_commit.proofs.Following.{fit_before, keeps_behind, up_before}

-- an open connection keeps one book
pub one_kept : {S : Type 0} (g : Ghosts S) (t : Stored S) (b c : Book) → IsUp g t → Keeps (state_of g t) b → Keeps (state_of g t) c → b ≡ c
one_kept g t b c up keeps_b keeps_c = sym (told (tables_in (state_of g t).committed) b (keeps_b.kept up).1) ∙ told (tables_in (state_of g t).committed) c (keeps_c.kept up).1

pub fewer : (b : Book) (old new : Entries) → IsWithin old new → AllHave (ReachedIn meaning_of b) old → AllHave (ReachedIn meaning_of b) new
fewer b old new within all run e there = all run e (within (run, e) there)

pub seated_all : {S : Type 0} (g : Ghosts S) (t : Stored S) (s : Seats) → IsUp g t → IsSeated g t s → (b : Book) → Keeps (state_of g t) b → AllHave (ReachedIn meaning_of b) s.kept.entries
seated_all g t s up its b keeps = subst (λ k. AllHave (ReachedIn meaning_of k) s.kept.entries) (one_kept g t its.0 b up its.1.0 keeps) its.1.1

-- where none stands ahead, all are fit for the book that is kept
pub seats_fit : {S : Type 0} (g : Ghosts S) (t : Stored S) (s : Seats) → HasSeats g t s → IsFit g t → IsUp g t → (b : Book) → Keeps (state_of g t) b → FitSeats meaning_of b s
seats_fit g t s has fit up b keeps = record {
  kept = has.kept fit up b keeps;
  ahead = λ l there. let in_none = subst (λ (ls : List Led). Contains ls l) has.ahead there in absurd (omega (arith, in_none.1));
}

-- a transaction that has begun shows the book that is kept
pub begun_fit : {S : Type 0} (g : Ghosts S) (old begun : Stored S) (s : Seats) → Follows g old begun → IsFit g begun → IsUp g begun → ((b : Book) → Keeps (state_of g old) b → book_now g begun ≡ b) → HasSeats g old s
    → (b : Book) → Keeps (state_of g old) b → FitSeats meaning_of (book_now g begun) s
begun_fit g old begun s follows fit up shows has b keeps =
    subst (λ k. FitSeats meaning_of k s) (sym (shows b keeps)) (seats_fit g old s has (fit_before g old begun follows fit) (up_before g old begun follows fit up) b keeps)

-- where none is known all are reached
pub none_has : {S : Type 0} (g : Ghosts S) (t : Stored S) (s : Seats) → HasNone s → HasSeats g t s
none_has g t s none = record {
  ahead = none.ahead;
  kept = λ fit up b keeps run e there. let in_none = subst (λ (es : Entries). Contains es (run, e)) none.kept there in absurd (omega (arith, in_none.1));
}

-- they stay those of the book that is kept on
pub seated_behind : {S : Type 0} (g : Ghosts S) (old new : Stored S) (s : Seats) → Follows g old new → (IsFit g new → IsUp g old → Keeps (state_of g old) (kept_book g old)) → HasSeats g old s → HasSeats g new s
seated_behind g old new s follows own has = record {
  ahead = has.ahead;
  kept = λ fit up b keeps.
      let was_fit = fit_before g old new follows fit in
      let was_up = up_before g old new follows fit up in
      let first = kept_book g old in
      let held = own fit was_up in
      subst (λ k. AllHave (ReachedIn meaning_of k) s.kept.entries) (one_kept g new first b up (keeps_behind g old new follows fit first held) keeps) (has.kept was_fit was_up first held);
}
