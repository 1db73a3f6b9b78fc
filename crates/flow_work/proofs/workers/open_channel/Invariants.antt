use Rattle.std.proofs.Common.{◌≡◌, length}
use Rattle.flow_pool.specs.Ends.{IsOpenTo}
use Rattle.flow_work.proofs.workers.open_channel.Given as goal

abbrev pub invariant-ends : goal.invariant-ends
invariant-ends l = IsOpenTo l.sender l.door × (length l.receivers.items ≡ l.made)
