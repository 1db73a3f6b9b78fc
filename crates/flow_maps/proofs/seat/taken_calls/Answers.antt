use Rattle.flow_maps.proofs.Names.{ap, ◌∙◌, Vec, Event}
use Rattle.flow_maps.proofs.Calling.{no_calls}
use Rattle.flow_maps.proofs.seat.taken_calls.Goals as goal

pub returns-clause-none : goal.returns-clause-none
returns-clause-none c h = no_calls c.replace.new.dest.items (ap (λ v. v.items) c.replace.ensures.after ∙ c.new.ensures.items) h
