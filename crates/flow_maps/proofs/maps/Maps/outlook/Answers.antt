use Rattle.std.specs.Prelude.{◌≡◌}
use Rattle.flow_maps.proofs.Names.{Option, ℕ, Book, Serves, nth, outlook_of, KnowsOpen}
use Rattle.flow_maps.proofs.Serving.{some_weaker}
use Rattle.flow_maps.proofs.Undone.{known_facts}
use Rattle.flow_maps.proofs.maps.Maps.outlook.Goals as goal

pub returns-in-Some : goal.returns-in-Some
returns-in-Some c =
    let m = c.args.self.now in
    some_weaker c.outlook.result (λ o. (b : Book) → KnowsOpen c.in-Some.facts.runs.seats (λ n. nth b.runs n) → o ≡ outlook_of c.args.since c.args.at b)
    (λ o. (b : Book) → Serves m b → o ≡ outlook_of c.args.since c.args.at b)
    (λ o is b h. let known = known_facts m.facts c.in-Some.facts b c.in-Some.is h.facts in is b known.runs.seats) c.outlook.ensures
