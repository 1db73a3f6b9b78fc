-- Which books are sound, and which are orderly.
use Rattle.std.specs.Prelude.{◌≡◌, ◌≤◌, ℕ, true, map, All, Some, Ok, slice_get}
use Rattle.flow_base.specs.Syntax.{Bytes, Program}
use Rattle.flow_base.specs.declared.event.Cmd.TheVariants.{Schedule}
use Rattle.flow_base.specs.declared.event.What.TheVariants.{Asked}
use Rattle.flow_base.specs.declared.event.Event.{Event}
use Rattle.flow_base.specs.declared.book.OpenActivity.{OpenActivity}
use Rattle.flow_base.specs.declared.book.Run.{Run}
use Rattle.flow_model.specs.Configuration.{Configuration, is_open}
use Rattle.flow_model.specs.Stands.{Stands}
use Rattle.flow_model.specs.Open.{open_activities, state_of}
use Rattle.flow_model.specs.Book.{Book, nth}
use Rattle.flow_model.specs.Apply.{Rules, program_at}

-- An open activity has an attempt from 1 to the number of times that it is tried.
pub record IsSoundTask (r : Run) (t : OpenActivity) : Type 0 where
  pub first : 1 ≤ t.attempt
  pub event : Event
  pub scheduled : nth r.history t.event ≡ Some event
  pub tries : ℕ
  pub asked : (a : _) × ((vs : _) × ((every : ℕ) × ((k : _) × (event.what ≡ Asked (Schedule a vs tries every k)))))
  pub last : t.attempt ≤ tries

-- A run's history stands under its text, and its open activities are those of its history.
pub record IsSoundRun (u : Rules) (b : Book) (r : Run) : Type 0 where
  pub program : Program
  pub its_text : program_at u.program_of b r.text ≡ Some program
  pub place : Configuration
  pub stands : Stands program r.history place
  pub activities : map (λ (t : OpenActivity). t.event) r.tasks ≡ map (λ (t : OpenActivity). t.event) (open_activities r.history)
  pub attempts : All (IsSoundTask r) r.tasks

-- Each run is sound, and at most one run of a flow is open.
pub record IsSound (u : Rules) (b : Book) : Type 0 where
  pub runs : All (IsSoundRun u b) b.runs
  pub one_open : (i j : ℕ) (r s : Run) → slice_get b.runs i ≡ Some r → slice_get b.runs j ≡ Some s → r.flow ≡ s.flow
      → is_open (state_of r.history) ≡ true → is_open (state_of s.history) ≡ true → i ≡ j

-- The text is a program.
abbrev pub IsProgram : Rules → Bytes → Type 0
IsProgram u text = (p : Program) × (u.program_of text ≡ Ok p)

-- What commands keep beside: each text is a program, and no two runs were started by the same request. A sound book may have
-- a text without a run that is none, and a request twice; a book that commands make has neither.
pub record IsOrderly (u : Rules) (b : Book) : Type 0 where
  pub texts : All (IsProgram u) b.texts
  pub requests : (i j : ℕ) (r s : Run) (q : Bytes) → slice_get b.runs i ≡ Some r → slice_get b.runs j ≡ Some s
      → r.request ≡ Some q → s.request ≡ Some q → i ≡ j
