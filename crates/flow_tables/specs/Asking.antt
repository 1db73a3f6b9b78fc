-- What is asked of the tables in one statement, and what becomes of it.
use Rattle.std.specs.Prelude.{◌≡◌, ◌⊎◌, ◌++◌}
use Rattle.flow_tables.specs.Names.{EventRow, with_event, Book, Change, Refusal, first as list_first, Tables, Held, state, Row, Executes, HasCleanDisk, State, Survives, Error, Ghosts, Bool, IfErr, List, MatchResult, Option, true, ℕ, Kind, Changes, HasEnded, Holds, IsAtRest, IsRefused, IsStill, tables_in, StoreFault, ViewFault, Err, Ok, Result, IsSome}
use Rattle.sqlite.specs.declared.types.Value.{Value}
use Rattle.sqlite.specs.Reading.{IsReadError}
use Rattle.flow_sql.specs.States.{TellsFailure}
use Rattle.flow_view.specs.declared.fault.ViewFault.TheVariants as view
use Rattle.flow_sql.specs.Stored.{HasOddText}
use Rattle.flow_sql.specs.Coming.{IsWelcomeEvent}
use Rattle.flow_rows.specs.Rows.{IsRowIn, Two}
use Rattle.flow_tables.specs.declared.fault.StoreFault.TheVariants.{NoMemory, Refused}
use Rattle.flow_tables.specs.Reads.{IsReadFault}
use Rattle.flow_tables.specs.Faults.{IsStopped, StopsWith, Because}
use Rattle.flow_tables.specs.Puts.{IsCutShort, IsUnwelcome, IsUnfit}
use Rattle.flow_tables.specs.Owned.{ReadsBook, StopsRead}

-- the error of a column that can't be read
abbrev pub IsOfColumn : Error → Type 0
IsOfColumn e = (at : ℕ) × (v : Value) × IsReadError at v e

-- Why a question to our tables is not answered: memory ran out, the disk has failed, a limit is set on the steps of a query, or the
-- tables hold a text that isn't UTF-8; then they are as they were. A failure and such a text are told as what they are.
abbrev pub StopsAsk : Bool → State → State → StoreFault → Type 0
StopsAsk inside old new (NoMemory _) = Unit {0}
StopsAsk inside old new (Refused e) = (TellsFailure e old new ⊎ IsSome old.step_limit) ⊎ (IsStill inside old new × HasOddText (tables_in old.now) × IsOfColumn e)

-- What becomes of questions: they are answered so, and the tables are as they were, or one was refused, with this cause, and the
-- transaction may have ended. Nothing is committed.
pub record AreAsked {A : Type 0} (why : StoreFault → Type 0) (old new : State) (result : Result A StoreFault) (tells : Tables → A → Type 0) : Type 0 where
  pub reads : (inside : Bool) → Holds inside old → HasCleanDisk new
      → MatchResult result (λ v. IsStill inside old new × tells (tables_in old.now) v) (λ _. IsRefused inside old new)
  pub clean : HasCleanDisk new → HasCleanDisk old
  pub cause : HasCleanDisk new → IfErr result why
  -- of our tables it is refused for the store, or for a text of theirs
  pub stops : (inside : Bool) → Holds inside old → HasCleanDisk new → IfErr result (StopsAsk inside old new)
  pub ended : HasCleanDisk new → IsAtRest old → HasEnded old new
  pub survives : Survives old new (λ _. ⊥)

-- of one of them
abbrev pub IsAsked : {A : Type 0} → List ℕ → Row → List Kind → State → State → Result A StoreFault → (Tables → A → Type 0) → Type 0
IsAsked sql params kinds old new result tells = AreAsked (IsReadFault kinds sql params old new) old new result tells

-- what tells this was put behind what was there
abbrev pub AreBehind : {A : Type 0} → (List A → Type 0) → List A → List A → Type 0
AreBehind {A} tells before after = (more : List A) × tells more × (after ≡ before ++ more)

-- it is the first of what tells this
abbrev pub IsFirst : {A : Type 0} → (Tables → List A → Type 0) → Tables → Option A → Type 0
IsFirst {A} tells t o = (xs : List A) × tells t xs × (o ≡ list_first xs)

-- a value that was made of an answer: nothing but the want of memory hinders it
abbrev pub IsValue : {A : Type 0} → Result A ViewFault → A → Type 0
IsValue (Ok v) x = v ≡ x
IsValue (Err f) x = f ≡ view.StoreRefused → ⊥

-- What becomes of a read of the book, within a transaction.
pub record IsRecalled {S A : Type 0} (g : Ghosts S) (old new : Held S) (result : Result A ViewFault) (value : Book → A) : Type 0 where
  pub reads : HasCleanDisk (state g new) → ReadsBook (state g old) (state g new) result value
  pub clean : HasCleanDisk (state g new) → HasCleanDisk (state g old)
  pub cause : HasCleanDisk (state g new) → StopsRead (state g old) result (IsStopped g (state g old) (state g new))
  pub survives : Survives (state g old) (state g new) (λ _. ⊥)

---- Changes

-- What becomes of a change of rows, within a transaction: the tables are changed so, or it was refused, and the transaction may
-- have ended. Nothing is committed.
pub record IsChanged {S : Type 0} (g : Ghosts S) (sql : List ℕ) (params : Row) (old new : Held S) (result : Result (Unit {0}) Error) (fits welcome : Tables → Type 0) (after : Tables → Tables) : Type 0 where
  pub put : Holds true (state g old) → fits (tables_in (state g old).now) → HasCleanDisk (state g new)
      → MatchResult result (λ _. Changes (state g old) (state g new) (after (tables_in (state g old).now))) (λ _. IsRefused true (state g old) (state g new))
  pub clean : HasCleanDisk (state g new) → HasCleanDisk (state g old)
  -- a refusal is that of the statement itself
  pub ran : HasCleanDisk (state g new) → IfErr result (λ e. Executes sql params (state g old) (state g new) (Err e))
  -- and where the tables take the change, that of the store
  pub cause : Holds true (state g old) → welcome (tables_in (state g old).now) → HasCleanDisk (state g new) → IfErr result (StopsWith g old new)
  pub survives : Holds true (state g old) → Survives (state g old) (state g new) (λ _. ⊥)

-- What becomes of a look at the tables, within a transaction: what was found is so of them, and they are as they were.
abbrev pub LooksUp : {S A E : Type 0} → Ghosts S → Held S → Held S → Result A E → (A → Type 0) → Type 0
LooksUp g old new result found =
    Holds true (state g old) → HasCleanDisk (state g new) → MatchResult result (λ v. IsStill true (state g old) (state g new) × found v) (λ _. IsRefused true (state g old) (state g new))

-- and of several changes of rows: they made this of the tables, or were cut short
abbrev pub IsAltered : {S E : Type 0} → Ghosts S → Held S → Held S → Result (Unit {0}) E → (Tables → Tables) → Type 0
IsAltered g old new result after =
    Holds true (state g old) → HasCleanDisk (state g new)
    → MatchResult result (λ _. Changes (state g old) (state g new) (after (tables_in (state g old).now))) (λ _. IsCutShort (state g old) (state g new))

-- the same of what fits the tables where it is put into them
abbrev pub IsPut : {S E : Type 0} → Ghosts S → Held S → Held S → Result (Unit {0}) E → Type 0 → (Tables → Tables) → Type 0
IsPut g old new result fits after =
    Holds true (state g old) → HasCleanDisk (state g new)
    → MatchResult result (λ _. fits × Changes (state g old) (state g new) (after (tables_in (state g old).now))) (λ _. IsCutShort (state g old) (state g new))

-- They were made on a disk that was clean before, if it still is, and committed nothing.
abbrev pub IsQuiet : {S : Type 0} → Ghosts S → Held S → Held S → Type 0
IsQuiet g old new = (HasCleanDisk (state g new) → HasCleanDisk (state g old)) × (Holds true (state g old) → Survives (state g old) (state g new) (λ _. ⊥))

-- The store stopped what was done, or that doesn't fit.
abbrev pub Stops : {S A : Type 0} → Ghosts S → Held S → Held S → Result A Refusal → Type 0 → Type 0
Stops g old new result unfit = HasCleanDisk (state g new) → IfErr result (λ f. Because f (IsStopped g (state g old) (state g new)) unfit)

-- The same of a change of the book, which it also stops where the tables don't take it.
abbrev pub StopsChange : {S A : Type 0} → Ghosts S → Held S → Held S → Result A Refusal → Book → Change → Type 0
StopsChange g old new result b change =
    HasCleanDisk (state g new) → IfErr result (λ f. Because f (IsStopped g (state g old) (state g new) ⊎ IsUnwelcome b change) (IsUnfit b change))

-- What becomes of the rows of two events that are put one behind the other: they are there, or this was cut short, and where the tables
-- take both the store alone stops it.
pub record AreBothPut {S : Type 0} (g : Ghosts S) (first second : EventRow) (old new : Held S) (result : Result (Unit {0}) Refusal) : Type 0 where
  pub put : IsRowIn Two first → IsRowIn Two second → IsAltered g old new result (λ t. with_event second (with_event first t))
  pub cause : Holds true (state g old) → IsWelcomeEvent first (tables_in (state g old).now) → IsWelcomeEvent second (with_event first (tables_in (state g old).now))
      → Stops g old new result ⊥
  pub quiet : IsRowIn Two first → IsRowIn Two second → IsQuiet g old new
