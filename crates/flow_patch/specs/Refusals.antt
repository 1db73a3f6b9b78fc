-- What a refusal to settle says.
use Rattle.std.specs.Prelude.{◌≡◌, Some}
use Rattle.flow_base.specs.Syntax.{Program}
use Rattle.flow_base.specs.declared.code.Code.{Code}
use Rattle.flow_base.specs.declared.code.Code.TheVariants as code
use Rattle.flow_patch.specs.declared.fault.Unsettled.{Unsettled}
use Rattle.flow_patch.specs.declared.fault.Unsettled.TheVariants as fault
use Rattle.flow_patch.specs.Settle.{is_among, settled_ids, Settles}
use Rattle.flow_patch.specs.Unsettled.{first_unsettled}

-- The second program doesn't settle the first, and this is where it first differs; or memory was refused.
abbrev pub SaysUnsettled : Program → Program → Unsettled → Type 0
SaysUnsettled p p' (fault.NoMemory _) = Unit {0}
SaysUnsettled p p' (fault.Differs u) =
    (u.code ≡ code.NotSettled) × ((first_unsettled (is_among (settled_ids p p')) p p' ≡ Some u.at) × (Settles (is_among (settled_ids p p')) p p' → ⊥))

abbrev pub unsettled_code : Unsettled → Code
unsettled_code (fault.NoMemory _) = code.NoMemory
unsettled_code (fault.Differs u) = u.code
