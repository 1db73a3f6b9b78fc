use Rattle.flow_maps.proofs.Names.{subst, Book, Knows, IsUndo}
use Rattle.flow_maps.proofs.Undone.{texts_less}
use Rattle.flow_maps.proofs.facts.Facts.take_back.Goals as goal

pub returns-in-Text : goal.returns-in-Text
returns-in-Text c is b d undo h = texts_less c.args.self.now b d (subst (λ u. IsUndo u b d) c.in-Text.is undo) h

pub returns-in-Begun : goal.returns-in-Begun
returns-in-Begun c is b d undo h = c.take_run_back.ensures is b d (subst (λ u. IsUndo u b d) c.in-Begun.is undo) h

pub returns-in-Before : goal.returns-in-Before
returns-in-Before c is b d undo h = c.put_run_back.ensures is b d (subst (λ u. IsUndo u b d) c.in-Before.is undo) h
