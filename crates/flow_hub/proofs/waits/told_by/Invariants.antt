use Rattle.std.proofs.Common.{◌≡◌, All, take, length}
use Rattle.flow_hub.specs.Waking.{Wakes}
use Rattle.flow_hub.proofs.waits.told_by.Given as goal

abbrev pub invariant-loop-receipt : goal.invariant-loop-receipt
invariant-loop-receipt l = (length l.told ≡ 128) × All (λ x. Wakes l.told x.ticket) (take l.receipt-index l.receipts)
