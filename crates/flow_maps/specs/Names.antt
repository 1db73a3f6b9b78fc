-- Names that many are kept of, and what maps have by them.
use Rattle.std.specs.Prelude.{Bool, ◌∷◌, ◌++◌, length, Option}
use Rattle.std.specs.BTreeMap.{BTreeMap, get}
use Rattle.std.specs.Cmp.Lexicographic.{slice_cmp}
use Rattle.std.specs.Ordering.{is_eq, nat_cmp}
use Rattle.flow_base.specs.Syntax.{Bytes}
use Rattle.flow_maps.specs.declared.name.Block.{Block}
use Rattle.flow_maps.specs.declared.name.Block.TheVariants.{To23, To39, To55, To71, To135}

-- the bytes of a name, in whichever block they are
abbrev pub bytes_of : Block → Bytes
bytes_of (To23 b) = b.value
bytes_of (To39 b) = b.value
bytes_of (To55 b) = b.value
bytes_of (To71 b) = b.value
bytes_of (To135 b) = b.value

-- what a map has by a name
abbrev pub at_name : {X : Type 0} → BTreeMap Bytes X → Bytes → Option X
at_name m q = get (slice_cmp nat_cmp) m q

-- whether this is that name
abbrev pub is_name : Bytes → Bytes → Bool
is_name k q = is_eq (slice_cmp nat_cmp k q)

-- Two names as one: how long the first is, and both of them.
abbrev pub both : Bytes → Bytes → Bytes
both flow request = length flow ∷ (flow ++ request)
