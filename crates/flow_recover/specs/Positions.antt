-- Where the open runs of a book stand, and what keeps a book from having such positions.
use Rattle.std.specs.Prelude.{◌≡◌, ◌<◌, ◌+◌, ℕ, true, false, List, [], ◌∷◌, ◌++◌, Option, Some, None, Result, Ok, Err, if◌then◌else◌}
use Rattle.flow_base.specs.Syntax.{Program}
use Rattle.flow_base.specs.declared.event.Wrong.{Wrong}
use Rattle.flow_base.specs.declared.book.Run.{Run}
use Rattle.flow_base.specs.declared.fault.Fault.{Fault}
use Rattle.flow_base.specs.declared.fault.Fault.TheVariants as fault
use Rattle.flow_model.specs.Configuration.{is_open}
use Rattle.flow_model.specs.Stands.{Stands, FirstMismatch}
use Rattle.flow_model.specs.Open.{state_of}
use Rattle.flow_model.specs.Book.{Book, nth}
use Rattle.flow_model.specs.Apply.{program_at}
use Rattle.flow_run.specs.Position.{config_of}
pub use Rattle.flow_machine.specs.Reached.{Meaning}
pub use Rattle.flow_machine.specs.Verifying.{IsStanding}
use Rattle.flow_recover.specs.declared.positions.Position.{Position}

---- Positions

-- A position is that of a run with this number: its history stands there under its text, and these are its open activities.
pub record IsPosition (u : Meaning) (b : Book) (n : ℕ) (r : Run) (q : Position) : Type 0 where
  pub number : q.run ≡ n
  pub text : q.text ≡ r.text
  pub tasks : q.tasks ≡ r.tasks
  pub program : Program
  pub its_text : program_at u b r.text ≡ Some program
  pub stands : Stands program r.history (config_of program q.stance)

-- the open ones of a list of runs that begins with number n, each with its number
abbrev pub open_from : ℕ → List Run → List (ℕ × Run)
open_from n [] = []
open_from n (r ∷ rs) = if is_open (state_of r.history) then (n, r) ∷ open_from (n + 1) rs else open_from (n + 1) rs

-- one position for each of these runs, in their order
abbrev pub AreOf : Meaning → Book → List (ℕ × Run) → List Position → Type 0
AreOf u b [] [] = Unit {0}
AreOf u b [] (q ∷ qs) = ⊥
AreOf u b (x ∷ xs) [] = ⊥
AreOf u b (x ∷ xs) (q ∷ qs) = IsPosition u b x.0 x.1 q × AreOf u b xs qs

-- One position for each open run of the book and no other, in the order of runs.
abbrev pub ArePositions : Meaning → Book → List Position → Type 0
ArePositions u b qs = AreOf u b (open_from 1 b.runs) qs

-- these positions and what was found at the next run
abbrev pub with_found : List Position → Option Position → List Position
with_found qs None = qs
with_found qs (Some q) = qs ++ q ∷ []

---- Refusals

abbrev pub IsOpenRun : Book → ℕ → Run → Type 0
IsOpenRun b n r = (nth b.runs n ≡ Some r) × (is_open (state_of r.history) ≡ true)

-- The text of an open run isn't there, or is no program.
abbrev pub LacksProgram : Meaning → Book → Type 0
LacksProgram u b = (n : ℕ) × ((r : Run) × (IsOpenRun b n r × (program_at u b r.text ≡ None)))

-- An open run's history doesn't stand under its text: this is its first mismatch.
pub record IsMismatch (u : Meaning) (b : Book) (n place : ℕ) (name : Wrong) : Type 0 where
  pub run : Run
  pub opened : IsOpenRun b n run
  pub program : Program
  pub its_text : program_at u b run.text ≡ Some program
  pub mismatch : FirstMismatch program run.history place name

-- It is the least such run: each open one before it stands.
pub record IsLeastMismatch (u : Meaning) (b : Book) (n place : ℕ) (name : Wrong) : Type 0 where
  pub here : IsMismatch u b n place name
  pub before : (m : ℕ) (r : Run) → m < n → IsOpenRun b m r → IsStanding u b r

-- E80 has this cause, and beside it E01 and E68 alone are told.
abbrev pub Caused : {A : Type 0} → Result A Fault → Type 0 → Type 0
Caused (Err (fault.NoMemory _)) cause = Unit {0}
Caused (Err fault.StoreRefused) cause = cause
Caused (Err (fault.Mismatch run place name)) cause = Unit {0}
Caused (Err f) cause = ⊥
Caused (Ok x) cause = Unit {0}

-- E68 names this run, this place and this name.
abbrev pub Names : {A : Type 0} → Result A Fault → (ℕ → ℕ → Wrong → Type 0) → Type 0
Names (Err (fault.Mismatch run place name)) is = is run place name
Names _ is = Unit {0}

-- What is told of positions at all: E01, E68 and E80.
abbrev pub IsOfPositions : Fault → Type 0
IsOfPositions (fault.NoMemory _) = Unit {0}
IsOfPositions fault.StoreRefused = Unit {0}
IsOfPositions (fault.Mismatch run place name) = Unit {0}
IsOfPositions f = ⊥

-- Nothing is refused but for want of memory.
abbrev pub OnlyMemory : {A : Type 0} → Result A Fault → Type 0
OnlyMemory (Err (fault.NoMemory _)) = Unit {0}
OnlyMemory (Err f) = ⊥
OnlyMemory (Ok x) = Unit {0}
