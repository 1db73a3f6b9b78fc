-- What is reported of all runs of a book: how much the book holds, where each run stands, or the first that doesn't.
use Rattle.std.specs.Prelude.{◌≡◌, Bool, true, Result, Ok, Err}
use Rattle.flow_base.specs.declared.fault.Fault.{Fault}
use Rattle.flow_base.specs.declared.fault.Fault.TheVariants as fault
use Rattle.flow_check.specs.Language.{meaning_of}
use Rattle.flow_model.specs.Book.{Book}
use Rattle.flow_machine.specs.Verifying.{AllStand, AreTotals, IsLeastMismatch}
use Rattle.flow_base.specs.declared.book.Totals.{Totals}
use Rattle.flow_machine.specs.declared.verify.Unverified.{Unverified}
use Rattle.flow_machine.specs.declared.verify.Unverified.TheVariants as unverified

abbrev pub IsVerdict : Book → Result Totals Unverified → Type 0
IsVerdict b (Ok t) = AreTotals b t × AllStand meaning_of b
IsVerdict b (Err (unverified.Mismatch run place name)) = IsLeastMismatch meaning_of b run place name
IsVerdict b (Err f) = Unit {0}

-- how a refusal is reported
abbrev pub verify_fault : Unverified → Fault
verify_fault (unverified.NoMemory _) = fault.NoMemory _
verify_fault unverified.StoreRefused = fault.StoreRefused
verify_fault (unverified.Mismatch run place name) = fault.Mismatch run place name

-- E68 names the first run that doesn't stand, and Ok says how much the book holds, whose runs all stand.
abbrev pub IsVerified : Book → Result Totals Fault → Type 0
IsVerified b (Ok t) = AreTotals b t × AllStand meaning_of b
IsVerified b (Err (fault.Mismatch run place name)) = IsLeastMismatch meaning_of b run place name
IsVerified b (Err f) = Unit {0}

-- what may be reported at all: E85 only where the keeper has halted
abbrev pub IsOfVerify : Bool → Fault → Type 0
IsOfVerify halted (fault.NoMemory _) = Unit {0}
IsOfVerify halted fault.StoreRefused = Unit {0}
IsOfVerify halted (fault.Mismatch run place name) = Unit {0}
IsOfVerify halted fault.Halted = halted ≡ true
IsOfVerify halted _ = ⊥
