use Rattle.std.proofs.Common.{length}
use Rattle.flow_plain.proofs.deliver.+bind.Given as goal

abbrev pub decreases-bind : goal.decreases-bind
decreases-bind l = length l.parameters.now
