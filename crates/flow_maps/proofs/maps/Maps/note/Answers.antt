use Rattle.flow_maps.proofs.Names.{Book, changed, KnowsFacts, IsUndo}
use Rattle.flow_maps.proofs.Serving.{some_weaker}
use Rattle.flow_maps.proofs.maps.Maps.note.Goals as goal

pub returns-clause-serves : goal.returns-clause-serves
returns-clause-serves c b h = record { facts = c.note-undo.ensures.serves b h.facts; texts = c.follow.ensures b h.texts }

pub returns-clause-goes_back : goal.returns-clause-goes_back
returns-clause-goes_back c k b h back =
    let after = changed b c.args.change.now in
    c.add.ensures k b after (some_weaker c.note-undo.result (λ u. (x : Book) → KnowsFacts c.args.self.now.facts x → IsUndo u x (changed x c.args.change.now)) (λ u. IsUndo u b after) (λ u is. is b h.facts) c.note-undo.ensures.undo) back
