-- The end of all work.
use Rattle.std.proofs.Common.{◌≡◌, Bool, true, false, inl, inr, refl}
use Rattle.flow_hub.specs.declared.known.HubFacts.{HubFacts}
use Rattle.flow_hub.specs.Feeding.{IsIdle}
use Rattle.flow_work.specs.Resting.{HasRested}

pub rested_by : (idle : Bool) (k : HubFacts) → (idle ≡ true → IsIdle k) → (idle ≡ false → (k.closed ≡ true) × (IsIdle k → ⊥)) → HasRested k
rested_by true k rests closed = inl (rests refl)
rested_by false k rests closed = inr (closed refl).0
