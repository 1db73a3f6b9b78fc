use Rattle.flow_maps.proofs.calls.add_read.Goals as goal

pub returns-in-Some : goal.returns-in-Some
returns-in-Some c is known = c.keep.ensures is c.args.whole.now.history c.in-Some.ensures known

pub returns-in-None : goal.returns-in-None
returns-in-None c is known = known
