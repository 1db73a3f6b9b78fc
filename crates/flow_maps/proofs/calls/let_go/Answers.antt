use Rattle.flow_maps.proofs.Calling.{call_out}
use Rattle.flow_maps.proofs.calls.let_go.Goals as goal

pub returns-in-Some : goal.returns-in-Some
returns-in-Some c h known = call_out c.args.calls.now.items c.remove-over.new.self.items h known c.in-Some.place c.remove-over.ensures.by_index.2

pub returns-in-None : goal.returns-in-None
returns-in-None c h known = known
