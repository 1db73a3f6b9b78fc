use Rattle.std.specs.Prelude.{◌≡◌}
use Rattle.flow_maps.proofs.Names.{Option, ℕ, Book, Serves, Bytes, nth, open_run, IsFound, IsIndex, name_of, open_key}
use Rattle.flow_maps.proofs.Serving.{some_weaker}
use Rattle.flow_maps.proofs.Undone.{known_facts}
use Rattle.flow_maps.proofs.Serving.{open_found}
use Rattle.flow_maps.proofs.maps.Maps.open_run.Goals as goal

pub returns-in-Some : goal.returns-in-Some
returns-in-Some c =
    let m = c.args.self.now in
    some_weaker c.find.result (λ o. (f : ℕ → Option Bytes) → IsIndex c.in-Some.facts.runs.seats.flows f → IsFound o c.args.flow.now f)
    (λ o. (b : Book) → Serves m b → o ≡ open_run b c.args.flow.now)
    (λ o is b h. let known = known_facts m.facts c.in-Some.facts b c.in-Some.is h.facts in open_found c.args.flow.now b o (is (λ n. name_of open_key (nth b.runs n)) known.runs.seats.flows)) c.find.ensures
