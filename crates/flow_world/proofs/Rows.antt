-- What a dispatch and a report do to the world, and a stop and a refused rolling back with commands that wait, by computation: over any
-- rules and any book.
use Rattle.std.proofs.Common.{◌≡◌, ℕ, true, false, [], ◌∷◌, refl, arith, inl}
use Rattle.flow_base.specs.Syntax.{Bytes}
use Rattle.flow_base.specs.declared.value.Value.{Value}
use Rattle.flow_base.specs.declared.command.Command.{Command}
use Rattle.flow_base.specs.declared.command.Command.TheVariants as command
use Rattle.flow_model.specs.Book.{Book}
use Rattle.flow_model.specs.Apply.{Rules}
use Rattle.flow_model.specs.World.{Attempt, World, is_open_task, first, Report, Failure, Dispatch, Comes, Idle, Writing, Halted, Stopped, Submit, Take, CommitBegins, RefusedRollback, Publish, Crash, Reopen}
use Rattle.flow_model.specs.World.{submitted, taken, commit_begun, not_rolled_back, published_in, stopped}

-- the world in which an attempt was handed out
abbrev handed_out : ℕ → Book → Attempt → World
handed_out n base a = record (first n base) { dispatched = a ∷ [] }

-- an activity that is open in the book is handed out
dispatches : (u : Rules) (n : ℕ) (base : Book) (a : Attempt) → is_open_task base a ≡ true → Comes u (first n base) (Dispatch a ∷ []) (handed_out n base a)
dispatches u n base a is = (handed_out n base a, (rw is refl, refl))

-- one that isn't open is not
not_handed_out : (u : Rules) (n : ℕ) (base : Book) (a : Attempt) → is_open_task base a ≡ false → Comes u (first n base) (Dispatch a ∷ []) (first n base)
not_handed_out u n base a other = (first n base, (rw other refl, refl))

-- a report on an attempt that was handed out is submitted as a command
reports : (u : Rules) (n : ℕ) (base : Book) (a : Attempt) (v : Value) (at : ℕ)
    → Comes u (handed_out n base a) (Report 0 v at ∷ []) (record (handed_out n base a) { inbox = command.Complete (record { run = a.run; event = a.event; attempt = a.attempt; value = v; at = at }) ∷ [] })
reports u n base a v at = (record (handed_out n base a) { inbox = command.Complete (record { run = a.run; event = a.event; attempt = a.attempt; value = v; at = at }) ∷ [] }, (refl, refl))

-- and nothing on one that wasn't
reports_nothing : (u : Rules) (n : ℕ) (base : Book) (a : Attempt) (v : Value) (at : ℕ) → Comes u (handed_out n base a) (Report 1 v at ∷ []) (handed_out n base a)
reports_nothing u n base a v at = (handed_out n base a, (refl, refl))

-- an attempt that failed is told in the same way
tells_failure : (u : Rules) (n : ℕ) (base : Book) (a : Attempt) (reason : Bytes) (at : ℕ)
    → Comes u (handed_out n base a) (Failure 0 reason at ∷ []) (record (handed_out n base a) { inbox = command.Fail (record { run = a.run; event = a.event; attempt = a.attempt; reason = reason; at = at }) ∷ [] })
tells_failure u n base a reason at = (record (handed_out n base a) { inbox = command.Fail (record { run = a.run; event = a.event; attempt = a.attempt; reason = reason; at = at }) ∷ [] }, (refl, refl))

tells_nothing : (u : Rules) (n : ℕ) (base : Book) (a : Attempt) (reason : Bytes) (at : ℕ) → Comes u (handed_out n base a) (Failure 1 reason at ∷ []) (handed_out n base a)
tells_nothing u n base a reason at = (handed_out n base a, (refl, refl))

---- Worlds written out: what stands in them is told by no step of the definition

-- A stop while commands wait and a commit is under way: nothing waits any more, nobody has a receipt, and what was found is all that a
-- further stop may leave. The batch is still in hand, until the store is opened again.
crashed : ℕ → Book → Command → World
crashed n base c =
    record {
      base = base;
      inbox = [];
      limit = n;
      batch = record { limit = n; command = c } ∷ [];
      log = [];
      may = base ∷ [];
      opening = 0;
      published = 0;
      receipts = [];
      dispatched = [];
      stage = Stopped;
    }

crash_empties_inbox : (u : Rules) (n : ℕ) (base : Book) (c d e : Command) → Comes u (first n base) (Submit c ∷ Submit d ∷ Submit e ∷ Take 1 ∷ CommitBegins ∷ Crash base ∷ []) (crashed n base c)
unfolding crashed
crash_empties_inbox u n base c d e =
    let w1 = submitted (first n base) Idle c in
    let w2 = submitted w1 Idle d in
    let w3 = submitted w2 Idle e in
    let w4 = taken w3 Idle 1 in
    let w5 = commit_begun u w4 Writing in
    (w1, (refl, (w2, (refl, (w3, (refl, (w4, (refl, (w5, (refl, (stopped w5 base, (((0, omega arith, refl), refl), refl))))))))))))

-- and what waited is in no life behind it
none_waits : (u : Rules) (n : ℕ) (base : Book) (c d e : Command)
    → Comes u (first n base) (Submit c ∷ Submit d ∷ Submit e ∷ Take 1 ∷ CommitBegins ∷ Crash base ∷ Reopen ∷ Take 1 ∷ Publish ∷ []) (first n base)
none_waits u n base c d e =
    let w1 = submitted (first n base) Idle c in
    let w2 = submitted w1 Idle d in
    let w3 = submitted w2 Idle e in
    let w4 = taken w3 Idle 1 in
    let w5 = commit_begun u w4 Writing in
    let w6 = stopped w5 base in
    let w7 = first n base in
    (w1, (refl, (w2, (refl, (w3, (refl, (w4, (refl, (w5, (refl, (w6, (((0, omega arith, refl), refl), (w7, (inl ((0, omega arith, refl), refl), (w7, (refl, (w7, (refl, refl))))))))))))))))))

-- A batch was taken and couldn't be rolled back: nothing was committed, so a stop leaves the book before it alone; the batch is in hand,
-- and what waits goes on waiting.
refused : ℕ → Book → Command → Command → World
refused n base c d =
    record {
      base = base;
      inbox = d ∷ [];
      limit = n;
      batch = record { limit = n; command = c } ∷ [];
      log = [];
      may = base ∷ [];
      opening = 0;
      published = 0;
      receipts = [];
      dispatched = [];
      stage = Halted;
    }

rollback_refused : (u : Rules) (n : ℕ) (base : Book) (c d : Command) → Comes u (first n base) (Submit c ∷ Submit d ∷ Take 1 ∷ RefusedRollback ∷ Publish ∷ []) (refused n base c d)
unfolding refused
rollback_refused u n base c d =
    let w1 = submitted (first n base) Idle c in
    let w2 = submitted w1 Idle d in
    let w3 = taken w2 Idle 1 in
    let w4 = not_rolled_back w3 Writing in
    (w1, (refl, (w2, (refl, (w3, (refl, (w4, (refl, (published_in u w4 Halted, (refl, refl))))))))))
