-- How an error of the store is told: the want of memory by itself, all else as the store's refusal. And what stands behind
-- a refusal.
use Rattle.std.specs.Prelude.{◌≡◌, ◌⊎◌, ◌≢◌}
use Rattle.flow_tables.specs.Names.{Held, state, Executes, State, Error, Ghosts, List, false, true, ℕ, IsOver, tables_in, Refusal, StoreFault, ViewFault, SqliteFailure, OutOfMemory, Err, Ok, [], Result, IsSome}
use Rattle.flow_tables.specs.Names.{MoreFaults, HasOddText}
use Rattle.flow_view.specs.declared.fault.ViewFault.TheVariants as view
use Rattle.flow_view.specs.Reading.{Caused}
use Rattle.flow_tables.specs.declared.fault.StoreFault.TheVariants.{NoMemory, Refused}
use Rattle.flow_tables.specs.declared.fault.Refusal.TheVariants as refusal
use Rattle.flow_tables.specs.declared.fault.Uncommitted.{Uncommitted}
use Rattle.flow_tables.specs.declared.fault.Uncommitted.TheVariants as uncommitted
use Rattle.flow_sql.specs.Coming.{IsFull}
pub use Rattle.flow_sql.specs.States.{Since}

abbrev pub fault_of : Error → StoreFault
fault_of (SqliteFailure OutOfMemory) = NoMemory _
fault_of e = Refused e

-- This statement was refused, not for want of memory, and led from the one state to the other.
abbrev pub WasStopped : List ℕ → State → State → Type 0
WasStopped sql old new = (e : Error) × (e ≢ SqliteFailure OutOfMemory) × Executes sql [] old new (Err e)

---- Why the store stops what is done

-- Within a transaction over our tables, the last row of one of them had the last number that there is.
abbrev pub WasFull : {S : Type 0} → Ghosts S → State → Type 0
WasFull {S} g first = (mid : Held S) × Since first (state g mid) × IsOver true (state g mid) × IsFull (state g mid).now

-- The transaction shows our tables, and they hold a text that isn't UTF-8.
abbrev pub ShowsOddText : State → Type 0
ShowsOddText s = IsOver true s × HasOddText (tables_in s.now)

-- The store hindered what was done since the first state: the disk has failed, a limit is set on the steps of a query, or no row has
-- a number left.
abbrev pub IsHindering : {S : Type 0} → Ghosts S → State → State → Type 0
IsHindering g first new = MoreFaults first.faults new.faults ⊎ (IsSome first.step_limit ⊎ WasFull g first)

-- It stopped so, or at a text that isn't UTF-8.
abbrev pub IsStopped : {S : Type 0} → Ghosts S → State → State → Type 0
IsStopped g first new = IsHindering g first new ⊎ ShowsOddText new

-- an error that isn't the want of memory has this behind it
abbrev pub StopsWith : {S : Type 0} → Ghosts S → Held S → Held S → Error → Type 0
StopsWith g old new e = e ≢ SqliteFailure OutOfMemory → IsStopped g (state g old) (state g new)

---- Refusals

-- An error of a statement stops the change.
abbrev pub refusal_of : Error → Refusal
refusal_of (SqliteFailure OutOfMemory) = refusal.NoMemory _
refusal_of e = refusal.Stopped

-- and so does a fault of a read
abbrev pub read_refusal : StoreFault → Refusal
read_refusal (NoMemory _) = refusal.NoMemory _
read_refusal (Refused e) = refusal.Stopped

-- what a view tells of a refusal
abbrev pub told_fault : Refusal → ViewFault
told_fault (refusal.NoMemory _) = view.NoMemory _
told_fault refusal.Stopped = view.StoreRefused
told_fault refusal.Unfit = view.StoreRefused

-- and of a read that failed
abbrev pub view_fault : StoreFault → ViewFault
view_fault f = told_fault (read_refusal f)

abbrev pub told_answer : {A : Type 0} → Result A Refusal → Result A ViewFault
told_answer (Ok v) = Ok v
told_answer (Err r) = Err (told_fault r)

-- what is noted of a read that failed so
abbrev pub noted_fault : ViewFault → Refusal
noted_fault (view.NoMemory _) = refusal.NoMemory _
noted_fault view.StoreRefused = refusal.Stopped

-- What stands behind a refusal: the one where the store stopped the change, the other where it doesn't fit.
abbrev pub Because : Refusal → Type 0 → Type 0 → Type 0
Because (refusal.NoMemory _) stopped unfit = Unit {0}
Because refusal.Stopped stopped unfit = stopped
Because refusal.Unfit stopped unfit = unfit

---- The end of a transaction

-- the disk has failed once more, or the connection is shut
abbrev pub HasFailed : State → State → Type 0
HasFailed old new = MoreFaults old.faults new.faults ⊎ (new.is_open ≡ false)

-- BEGIN was refused: a transaction runs already, the disk has failed once more, or the connection is shut.
abbrev pub IsKeptOut : State → State → Type 0
IsKeptOut old new = (old.in_transaction ≡ true) ⊎ HasFailed old new

-- This statement was refused within a transaction, and its error is told so: where it is E80, the disk has failed.
pub record IsCutOff (sql : List ℕ) (old new : State) (f : ViewFault) : Type 0 where
  pub error : Error
  pub inside : old.in_transaction ≡ true
  pub refused : Executes sql [] old new (Err error)
  pub told : f ≡ told_fault (refusal_of error)
  pub failed : f ≡ view.StoreRefused → HasFailed old new

-- A commit was refused, or it wasn't asked for: the one fact or the other stands behind what is reported.
abbrev pub WasFor : (ViewFault → Type 0) → (ViewFault → Type 0) → Uncommitted → Type 0
WasFor cut barred (uncommitted.Cut c) = cut c.fault
WasFor cut barred (uncommitted.Barred f) = barred f

-- If E80 is reported the commit was asked for, and this stands behind its refusal.
abbrev pub CausedEnd : {A : Type 0} → Result A Uncommitted → Type 0 → Type 0
CausedEnd (Ok v) cause = Unit {0}
CausedEnd (Err u) cause = WasFor (λ f. Caused {A = Unit {0}} (Err f) cause) (λ f. Caused {A = Unit {0}} (Err f) ⊥) u
