-- What is known of a position that is kept: its run has reached it.
use Rattle.std.specs.Prelude.{◌≡◌, ◌+◌, ◌≤◌, ℕ, List, ◌++◌, length, Option, Some, Result}
use Rattle.flow_base.specs.Syntax.{Bytes, Program}
use Rattle.flow_base.specs.declared.event.Cmd.{Cmd}
use Rattle.flow_base.specs.declared.event.Event.{Event}
use Rattle.flow_base.specs.declared.event.Input.{Input}
use Rattle.flow_base.specs.declared.event.Input.TheVariants.{Started}
use Rattle.flow_base.specs.declared.value.Value.{Value}
use Rattle.flow_base.specs.declared.book.Run.{Run}
use Rattle.flow_base.specs.declared.book.Change.{Change}
use Rattle.flow_base.specs.declared.book.Change.TheVariants.{AddRun, AddTurn}
use Rattle.flow_base.specs.declared.command.Command.{Command}
use Rattle.flow_base.specs.declared.command.TextFault.{TextFault}
use Rattle.flow_model.specs.Configuration.{first_configuration}
use Rattle.flow_model.specs.Turn.{Fresh}
use Rattle.flow_model.specs.Turned.{turned}
use Rattle.flow_model.specs.Stands.{Stands}
use Rattle.flow_model.specs.Book.{Book, nth, changed, changed_by}
use Rattle.flow_model.specs.Apply.{Rules, program_at, after}
use Rattle.flow_run.specs.Position.{config_of}
use Rattle.flow_run.specs.declared.stance.Stance.{Stance}

-- what texts mean
abbrev pub Meaning : Type 0
Meaning = Bytes → Result Program TextFault

-- The run of a book has reached the position under a text of the book: a beginning of its history stands there. What it was
-- under when it reached it isn't said, and a run that goes on under another text has still reached it under this one.
pub record HasReached (m : Meaning) (b : Book) (run text : ℕ) (s : Stance) : Type 0 where
  pub its_run : Run
  pub there : nth b.runs run ≡ Some its_run
  pub program : Program
  pub reads : program_at m b text ≡ Some program
  pub before : List Event
  pub later : List Event
  pub cut : its_run.history ≡ before ++ later
  pub stands : Stands program before (config_of program s)

---- Laws

-- What a run has reached it has reached in every later book: whatever is changed, texts, runs and histories only grow.
abbrev pub ReachedStays : Type 0
ReachedStays = (m : Meaning) (b : Book) (run text : ℕ) (s : Stance) (cs : List Change) → HasReached m b run text s → HasReached m (changed_by b cs) run text s

abbrev pub ReachedStaysAfter : Type 0
ReachedStaysAfter =
    (u : Rules) (b : Book) (run text : ℕ) (s : Stance) (cs : List Command) → HasReached u.program_of b run text s → HasReached u.program_of (after u b cs) run text s

-- A position with as many events as the history has is where the whole history stands under the text.
abbrev pub ReachedStands : Type 0
ReachedStands =
    (m : Meaning) (b : Book) (run text : ℕ) (s : Stance) (r : Run) (p : Program) → HasReached m b run text s → nth b.runs run ≡ Some r
    → program_at m b text ≡ Some p → (config_of p s).events ≡ length r.history → Stands p r.history (config_of p s)

-- Where a whole history stands, the run has reached that.
abbrev pub StandingIsReached : Type 0
StandingIsReached =
    (m : Meaning) (b : Book) (run text : ℕ) (s : Stance) (r : Run) (p : Program) → nth b.runs run ≡ Some r → program_at m b text ≡ Some p
    → Stands p r.history (config_of p s) → HasReached m b run text s

-- Where a turn of the standing run leads, the run has reached once the turn is recorded.
abbrev pub TurnReaches : Type 0
TurnReaches =
    (m : Meaning) (b : Book) (run text : ℕ) (s t : Stance) (r : Run) (p : Program) (at : ℕ) (i : Input) (cs : List Cmd)
    → nth b.runs run ≡ Some r → program_at m b text ≡ Some p → Stands p r.history (config_of p s) → (config_of p s).moment ≤ at
    → turned p Fresh (config_of p s) at i ≡ Some (cs, config_of p t)
    → HasReached m (changed b (AddTurn run (record { at = at; input = i; commands = cs }))) run text t

-- Where the first turn of a run leads, the run has reached once it is there.
abbrev pub FirstTurnReaches : Type 0
FirstTurnReaches =
    (m : Meaning) (b : Book) (flow : Bytes) (request : Option Bytes) (text : ℕ) (t : Stance) (p : Program) (at : ℕ) (vs : List Value) (cs : List Cmd)
    → program_at m b text ≡ Some p → turned p Fresh first_configuration at (Started vs) ≡ Some (cs, config_of p t)
    → HasReached m (changed b (AddRun flow request text (record { at = at; input = Started vs; commands = cs }))) (length b.runs + 1) text t
