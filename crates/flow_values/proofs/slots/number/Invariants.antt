use Rattle.std.proofs.Common.{◌≡◌, drop}
use Rattle.flow_values.specs.Slots.{number_of}
use Rattle.flow_values.proofs.Slotted.{further}
use Rattle.flow_values.proofs.slots.number.Given as goal

abbrev pub invariant-loop-i : goal.invariant-loop-i
invariant-loop-i l = number_of l.names l.name ≡ further l.i (number_of (drop l.i l.names) l.name)
