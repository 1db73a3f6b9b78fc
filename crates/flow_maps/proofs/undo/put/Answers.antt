use Rattle.flow_maps.proofs.undo.put.Goals as goal

pub returns-in-Some : goal.returns-in-Some
returns-in-Some c = λ done. (c.in-Some.undo, c.in-Some.is, c.push.ensures done)
