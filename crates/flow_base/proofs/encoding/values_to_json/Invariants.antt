use Rattle.std.proofs.Common.{◌≡◌, take, map}
use Rattle.serde_json.specs.View.{view}
use Rattle.flow_base.specs.Leaves.{value_out}
use Rattle.flow_base.proofs.encoding.values_to_json.Given as goal

abbrev pub invariant-loop-v : goal.invariant-loop-v
invariant-loop-v l = map view l.items.items ≡ map value_out (take l.v-index l.values)
