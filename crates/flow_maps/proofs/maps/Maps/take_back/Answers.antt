use Rattle.flow_maps.proofs.Names.{subst, sym, KnowsFacts}
use Rattle.flow_maps.proofs.maps.Maps.take_back.Goals as goal

pub returns : goal.returns
returns c b d undo h = record {
  facts = c.take_back.ensures b d undo (subst (λ o. KnowsFacts o d) (sym c.take_text_back.ensures.facts) h.facts);
  texts = c.take_text_back.ensures.texts b d undo h.texts;
}
