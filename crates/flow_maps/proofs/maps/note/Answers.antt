use Rattle.flow_maps.proofs.Undone.{known_facts}
use Rattle.flow_maps.proofs.maps.note.Goals as goal

pub returns-in-Some-note-clause-serves : goal.returns-in-Some-note-clause-serves
returns-in-Some-note-clause-serves c b h = (c.in-Some-note.ensures b (known_facts c.args.facts.now c.in-Some.known b c.in-Some.is h)).0

pub returns-in-Some-note-clause-undo : goal.returns-in-Some-note-clause-undo
returns-in-Some-note-clause-undo c b h = (c.in-Some-note.ensures b (known_facts c.args.facts.now c.in-Some.known b c.in-Some.is h)).1
