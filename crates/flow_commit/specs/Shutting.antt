-- Which runs commands close: whatever comes, nothing of them is open again.
use Rattle.std.specs.Prelude.{◌≡◌, ℕ, Bool, true, false, cond, List, [], ◌∷◌, ◌++◌, Some}
use Rattle.sqlite_trees.specs.declared.store.Store.{Ghosts}
use Rattle.flow_base.specs.declared.book.Change.{Change}
use Rattle.flow_base.specs.declared.book.Change.TheVariants.{AddRun, AddTurn}
use Rattle.flow_base.specs.declared.book.Run.{Run}
use Rattle.flow_base.specs.declared.book.Turn.{Turn}
use Rattle.flow_base.specs.declared.command.Reply.{Reply}
use Rattle.flow_base.specs.declared.command.Reply.TheVariants.{Started}
use Rattle.flow_base.specs.declared.event.Cmd.{Cmd}
use Rattle.flow_base.specs.declared.event.Cmd.TheVariants.{Complete, ContinueAsNew, Fail}
use Rattle.flow_base.specs.declared.event.Input.{Input}
use Rattle.flow_base.specs.declared.event.Input.TheVariants.{Terminated}
use Rattle.flow_model.specs.Book.{Book, nth}
use Rattle.flow_model.specs.Configuration.{is_open}
use Rattle.flow_model.specs.Open.{state_of}
use Rattle.flow_tables.specs.Owned.{Stored, IsFit, IsUp, Keeps, state_of as state_in}
use Rattle.flow_base.specs.Keys.{Key}
use Rattle.flow_model.specs.Apply.{after}
use Rattle.flow_commit.specs.Boards.{AreStill}
use Rattle.flow_commit.specs.Keeping.{Keeping, IsFit as FitKeeper, logged, rules}
use Rattle.flow_commit.specs.Over.{is_over}
use Rattle.flow_commit.specs.declared.outcome.Outcome.{Outcome}
use Rattle.flow_commit.specs.declared.outcome.Outcome.TheVariants as outcomes

---- In a book

-- The run is there and closed, and has no open activity.
pub record IsShut (runs : List Run) (n : ℕ) : Type 0 where
  pub run : Run
  pub there : nth runs n ≡ Some run
  pub tasks : run.tasks ≡ []
  pub closed : is_open (state_of run.history) ≡ false

-- All these runs are.
abbrev pub AreShut : List ℕ → Book → Type 0
AreShut over b = (n : ℕ) → is_over over n ≡ true → IsShut b.runs n

-- as long as the connection is open, in the book that is kept
abbrev pub HasShut : {S : Type 0} → Ghosts S → Stored S → List ℕ → Type 0
HasShut g t over = IsFit g t → IsUp g t → (b : Book) → Keeps (state_in g t) b → AreShut over b

---- Of a keeper

-- As far as the disk has told no lie these runs are shut in the book after all commands that it has kept.
abbrev pub AreOver : {S : Type 0} → Ghosts S → Keeping S → List ℕ → Type 0
AreOver g k over = FitKeeper g k → AreShut over (after rules k.found (logged k.log))

-- All keys that it was asked with last are among these, but for what is of runs that are over.
pub record AreKnown {S : Type 0} (g : Ghosts S) (k : Keeping S) (keys : List Key) : Type 0 where
  pub over : List ℕ
  pub shut : AreOver g k over
  pub still : AreStill over k.posted keys

-- The runs that a stamp names as closed are over.
abbrev pub HasClosed : {S : Type 0} → Ghosts S → Keeping S → Outcome → Type 0
HasClosed g new (outcomes.Kept rs stamp) = AreOver g new stamp.closed
HasClosed g new (outcomes.NotApplied back f) = Unit {0}
HasClosed g new (outcomes.Unknown back f) = Unit {0}
HasClosed g new (outcomes.Halted back) = Unit {0}

---- By changes

-- whether a command of a program closes its run
abbrev pub ends_by : Cmd → Bool
ends_by (Complete v) = true
ends_by (Fail code text) = true
ends_by (ContinueAsNew vs) = true
ends_by c = false

abbrev pub ends_at : Input → Bool
ends_at (Terminated text) = true
ends_at i = false

-- whether the last of them does, if what comes before them does or doesn't
abbrev pub ends_after : Bool → List Cmd → Bool
ends_after before [] = before
ends_after before (c ∷ cs) = ends_after (ends_by c) cs

-- whether the last event of a turn does
abbrev pub ends : Turn → Bool
ends t = ends_after (ends_at t.input) t.commands

-- the run that was started, by the reply to a command
abbrev pub started_by : Reply → List ℕ
started_by (Started run) = run ∷ []
started_by r = []

-- The run that a change closes. One that another run continued as has no number here; if its first turn closes it, nothing of it was
-- ever open.
abbrev pub shut_by : Reply → Change → List ℕ
shut_by reply (AddRun flow request text t) = cond (ends t) (started_by reply) []
shut_by reply (AddTurn run t) = cond (ends t) (run ∷ []) []
shut_by reply c = []

abbrev pub shut_in : Reply → List Change → List ℕ
shut_in reply [] = []
shut_in reply (c ∷ cs) = shut_by reply c ++ shut_in reply cs
