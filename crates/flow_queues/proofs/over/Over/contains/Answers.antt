use Rattle.std.proofs.Common.{ap, ◌∙◌}
use Rattle.flow_queues.specs.Over.{is_over}
use Rattle.flow_queues.proofs.over.Over.contains.Goals as goal

pub returns : goal.returns
returns c = rw (← c.self.view_is) (c.is_within.ensures c.self.inside.runs c.self.invariant ∙ ap (is_over c.self.inside.runs) c.get.ensures.value)
