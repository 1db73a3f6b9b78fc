use Rattle.std.specs.Prelude.{◌≡◌}
use Rattle.flow_maps.proofs.Names.{KnowsTexts, rules, subst, sym}
use Rattle.flow_maps.proofs.Undone.{known_facts}
use Rattle.flow_maps.proofs.maps.Maps.add_whole.Goals as goal

pub returns-then-add_whole-clause-serves : goal.returns-then-add_whole-clause-serves
returns-then-add_whole-clause-serves c b h = record { facts = c.add_whole.ensures c.if-add_whole.true b (known_facts c.args.self.now.facts c.in-Some.facts b c.in-Some.is h.facts); texts = h.texts }

pub returns-clause-serves : goal.returns-clause-serves
returns-clause-serves c b h =
    let same : c.match-self.self.texts ≡ c.args.self.now.texts = search rules in
    record { facts = tt; texts = subst (λ t. KnowsTexts t b) (sym same) h.texts }
