use Rattle.flow_maps.proofs.Names.{with_turn}
use Rattle.flow_maps.proofs.calls.add_call.Goals as goal

pub returns-in-Some : goal.returns-in-Some
returns-in-Some c is r long known = c.keep.ensures is (with_turn c.args.turn.now r).history (c.in-Some.ensures r long) known

pub returns-in-None : goal.returns-in-None
returns-in-None c is r long known = known
