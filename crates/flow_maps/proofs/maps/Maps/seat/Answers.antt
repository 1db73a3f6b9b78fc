use Rattle.std.specs.Prelude.{◌≡◌}
use Rattle.flow_maps.proofs.Names.{ap, ◌∙◌, Option, Some, ℕ, Run, Book, nth, IsSeat, IsSeated, KnowsOpen, Serves}
use Rattle.flow_maps.proofs.Serving.{some_weaker}
use Rattle.flow_maps.proofs.Undone.{known_facts}
use Rattle.flow_maps.proofs.maps.Maps.seat.Goals as goal

pub returns-in-Some : goal.returns-in-Some
returns-in-Some c =
    let m = c.args.self.now in
    some_weaker c.seat.result (λ s. (rs : ℕ → Option Run) → KnowsOpen c.in-Some.facts.runs.seats rs → (r : Run) × (rs c.args.run ≡ Some r) × IsSeated (Some s.now) (Some r))
    (λ s. (b : Book) → Serves m b → (r : Run) × (nth b.runs c.args.run ≡ Some r) × IsSeat s.now r)
    (λ s is b h. let it = is (λ n. nth b.runs n) (known_facts m.facts c.in-Some.facts b c.in-Some.is h.facts).runs.seats in (it.0, it.1, it.2.0)) c.seat.ensures
