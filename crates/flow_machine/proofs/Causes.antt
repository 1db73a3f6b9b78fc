-- Causes of a refusal.
use Rattle.std.proofs.Common.{Err, inl, inr}
use Rattle.std.specs.Prelude.{◌⊎◌}
use Rattle.flow_view.specs.Reading.{Caused}
use Rattle.flow_view.specs.declared.fault.ViewFault.{ViewFault}
use Rattle.flow_view.specs.declared.fault.ViewFault.TheVariants as fault

-- A refusal that is handed on has every cause that follows from its cause, whatever its result would have been.
pub caused_by : (f : ViewFault) (X Y : Type 0) → (X → Y) → Caused {A = Unit {0}} (Err f) X → Caused {A = Unit {0}} (Err f) Y
caused_by (fault.NoMemory _) X Y g h = tt
caused_by fault.StoreRefused X Y g h = g h

-- the second side is another
pub other_side : (X Y Z : Type 0) → (Y → Z) → X ⊎ Y → X ⊎ Z
other_side X Y Z f (inl x) = inl x
other_side X Y Z f (inr y) = inr (f y)
