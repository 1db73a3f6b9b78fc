use Rattle.std.specs.Prelude.{◌≡◌}
use Rattle.flow_maps.proofs.Names.{Option, ℕ, Book, Serves, signalled, AreOf}
use Rattle.flow_maps.proofs.Serving.{some_weaker}
use Rattle.flow_maps.proofs.Undone.{known_facts}
use Rattle.flow_maps.proofs.maps.Maps.signalled.Goals as goal

pub returns-in-Some : goal.returns-in-Some
returns-in-Some c =
    let m = c.args.self.now in
    some_weaker c.find.result (λ o. (b : Book) → AreOf c.in-Some.facts.signals b → o ≡ signalled b c.args.flow.now c.args.request.now)
    (λ o. (b : Book) → Serves m b → o ≡ signalled b c.args.flow.now c.args.request.now)
    (λ o is b h. let known = known_facts m.facts c.in-Some.facts b c.in-Some.is h.facts in is b known.signals) c.find.ensures
