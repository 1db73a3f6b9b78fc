use Rattle.flow_maps.proofs.Names.{subst, Book, KnowsTexts, IsUndo}
use Rattle.flow_maps.proofs.Undone.{texts_kept}
use Rattle.flow_maps.proofs.maps.Maps.take_text_back.Goals as goal

pub returns-in-Text-clause-texts : goal.returns-in-Text-clause-texts
returns-in-Text-clause-texts c b d undo h =
    let it = subst (λ u. IsUndo u b d) c.in-Text.is undo in
    c.take_back.ensures b it.0 (subst (λ (x : Book). KnowsTexts c.args.self.now.texts x) it.1 h)

pub returns-in-Begun-clause-texts : goal.returns-in-Begun-clause-texts
returns-in-Begun-clause-texts c b d undo h = let it = subst (λ u. IsUndo u b d) c.in-Begun.is undo in texts_kept c.args.self.now.texts b d _ it.made h

pub returns-in-Before-clause-texts : goal.returns-in-Before-clause-texts
returns-in-Before-clause-texts c b d undo h = let it = subst (λ u. IsUndo u b d) c.in-Before.is undo in texts_kept c.args.self.now.texts b d _ it.made h
