use Rattle.std.proofs.Common.{◌≡◌, ◌++◌, drop, take}
use Rattle.flow_model.specs.Step.{oldest, without_oldest}
use Rattle.flow_values.proofs.named.first.Given as goal

abbrev pub invariant-loop-i : goal.invariant-loop-i
invariant-loop-i l =
    (oldest l.name l.entries ≡ oldest l.name (drop l.i l.entries)) × (without_oldest l.name l.entries ≡ take l.i l.entries ++ without_oldest l.name (drop l.i l.entries))
