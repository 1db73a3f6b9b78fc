-- Reading values one after the other, as a loop does.
use Rattle.std.proofs.Common.{◌≡◌, List, ◌++◌, length, Option, option_map, None, Vec, Global, refl}
use Rattle.std.specs.Prelude.{nat_le, if◌then◌else◌}
use Rattle.serde_json.specs.View.{view, items_view}
use Rattle.serde_json.specs.declared.value.Value.{Value as Json, Array}
use Rattle.serde_json.proofs.Views.{view-Array, items_len-items_view}
use Rattle.flow_base.specs.declared.value.Value.{Value}
use Rattle.flow_base.specs.Leaves.{values_in, any_values_in, list_in}

-- what was read before, and what is still read
abbrev pub with_front : List Value → Option (List Value) → Option (List Value)
with_front before o = option_map (λ vs. before ++ vs) o

-- an array is read by its length, and then value by value
pub values_read : (v : Vec Json Global) → values_in (view (Array v)) ≡ (if nat_le (length v.items) 256 then list_in (items_view v.items) else None)
values_read v = rw (view-Array v, items_len-items_view v.items) refl

pub any_values_read : (v : Vec Json Global) → any_values_in (view (Array v)) ≡ list_in (items_view v.items)
any_values_read v = rw (view-Array v) refl
