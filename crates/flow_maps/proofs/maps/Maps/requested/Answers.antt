use Rattle.std.specs.Prelude.{◌≡◌}
use Rattle.flow_maps.proofs.Names.{Option, ℕ, Book, Serves, Bytes, nth, requested, IsFound, IsIndex, name_of, request_key}
use Rattle.flow_maps.proofs.Serving.{some_weaker}
use Rattle.flow_maps.proofs.Undone.{known_facts}
use Rattle.flow_maps.proofs.Serving.{request_found}
use Rattle.flow_maps.proofs.maps.Maps.requested.Goals as goal

pub returns-in-Some : goal.returns-in-Some
returns-in-Some c =
    let m = c.args.self.now in
    some_weaker c.find.result (λ o. (f : ℕ → Option Bytes) → IsIndex c.in-Some.facts.runs.requests f → IsFound o c.args.request.now f)
    (λ o. (b : Book) → Serves m b → o ≡ requested b c.args.request.now)
    (λ o is b h. let known = known_facts m.facts c.in-Some.facts b c.in-Some.is h.facts in request_found c.args.request.now b o (is (λ n. name_of request_key (nth b.runs n)) known.runs.requests)) c.find.ensures
