-- What comes of what is posted: tasks that are given out, ticks, and the end.
use Rattle.std.specs.Prelude.{ℕ, ◌≡◌, ◌≤◌, ◌⊎◌, ◌∷◌, ◌++◌, [], length, true, false, Option, Some, None}
use mathlib.Core.List.{IsPrefix}
use Rattle.flow_base.specs.declared.command.Command.{Command}
use Rattle.flow_base.specs.declared.command.Command.TheVariants.{Tick}
use Rattle.flow_base.specs.declared.task.Task.{Task}
use Rattle.flow_hub.specs.declared.fed.Fed.{Fed}
use Rattle.flow_hub.specs.declared.fed.Fed.TheVariants as fed
use Rattle.flow_hub.specs.declared.known.HubFacts.{HubFacts}
use Rattle.flow_hub.specs.declared.known.BoardSummary.{BoardSummary}
use Rattle.flow_hub.specs.declared.rested.Rested.{Rested}
use Rattle.flow_hub.specs.declared.rested.Rested.TheVariants as rested
use Rattle.flow_hub.specs.Knowing.{answered_in}
use Rattle.flow_queues.specs.Posting.{IsOnce}

-- the task is the next one behind those that were given out
abbrev pub given_with : HubFacts → HubFacts → Option Task → Type 0
given_with old new None = new.given ≡ old.given
given_with old new (Some t) = new.given ≡ old.given ++ t ∷ []

-- What is given out is the next task that was posted, if one is there; and so all that were given out are a beginning of those that were
-- posted, none of them twice.
pub record HasGiven (old new : HubFacts) (task : Option Task) : Type 0 where
  pub next : given_with old new task
  pub first : IsPrefix new.given new.posted
  pub once : IsOnce new.posted

-- What came of asking for a task: the next one; or nothing, since all that was posted is given out; or the hub is closed.
abbrev pub HasFed : HubFacts → HubFacts → Fed → Type 0
HasFed old new (fed.Task t) = HasGiven old new (Some t)
HasFed old new fed.Nothing = HasGiven old new None × (new.given ≡ new.posted)
HasFed old new fed.Closed = HasGiven old new None × (new.closed ≡ true)

-- There is nothing only where a board was posted or skipped since what was taken last was answered.
abbrev pub IsLast : HubFacts → Fed → Type 0
IsLast k (fed.Task t) = Unit {0}
IsLast k fed.Nothing = k.boarded ≡ true
IsLast k fed.Closed = k.closed ≡ true

-- The command fires what is due: the moment has come by the clock, which tells such moments.
pub record IsDueBy (tells : ℕ → Type 0) (due : Option ℕ) (command : Command) : Type 0 where
  pub moment : ℕ
  pub now : ℕ
  pub told : tells now
  pub is : command ≡ Tick now
  pub named : due ≡ Some moment
  pub come : moment ≤ now

-- when more is to be done, as the last board says, if nothing was answered since
abbrev pub due_of : Option BoardSummary → Option ℕ
due_of None = None
due_of (Some o) = o.due

abbrev pub due_in : HubFacts → Option ℕ
due_in k = due_of k.outlook

-- The command asks for what is due by now, as the clock tells it, where no board could be made that would name it: behind the answer
-- there is one, or it is asked again.
pub record AsksAnew (tells : ℕ → Type 0) (k : HubFacts) (command : Command) : Type 0 where
  pub now : ℕ
  pub told : tells now
  pub is : command ≡ Tick now
  pub skipped : k.boarded ≡ true
  pub none : k.outlook ≡ None

-- why a command comes from the clock that tells such moments
abbrev pub IsTickOf : (ℕ → Type 0) → HubFacts → Command → Type 0
IsTickOf tells k c = IsDueBy tells (due_in k) c ⊎ AsksAnew tells k c

-- All that was submitted is answered, and the board that was made since says that no run is open.
pub record IsIdle (k : HubFacts) : Type 0 where
  pub outlook : BoardSummary
  pub named : k.outlook ≡ Some outlook
  pub none_open : outlook.open_runs ≡ 0
  pub answered : length k.asked ≡ answered_in k
  pub none : k.held ≡ []

-- what came of waiting for the end of all work for a while
abbrev pub IsRested : HubFacts → Rested → Type 0
IsRested k rested.Idle = IsIdle k
IsRested k rested.Closed = (k.closed ≡ true) × (IsIdle k → ⊥)
IsRested k (rested.NotYet outlook) = (k.closed ≡ false) × (k.outlook ≡ outlook) × (IsIdle k → ⊥)
