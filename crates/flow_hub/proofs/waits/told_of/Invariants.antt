use Rattle.std.proofs.Common.{◌≡◌, All, take, length}
use Rattle.flow_hub.specs.Waking.{Wakes}
use Rattle.flow_hub.proofs.waits.told_of.Given as goal

abbrev pub invariant-loop-taken : goal.invariant-loop-taken
invariant-loop-taken l = (length l.told ≡ 128) × All (λ x. Wakes l.told x.ticket) (take l.taken-index l.all)
