use Rattle.flow_hub.proofs.waits.conditions.Goals as goal

pub returns : goal.returns
returns c i e inside = (c.from_fn.ensures.items.at i e inside).2.met
