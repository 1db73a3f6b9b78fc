use Rattle.std.specs.Prelude.{◌≡◌}
use Rattle.flow_maps.proofs.Names.{Option, ℕ, Book, Serves, least_due, HasSlots, date_of_timer, timers_at}
use Rattle.flow_maps.proofs.Serving.{some_weaker}
use Rattle.flow_maps.proofs.Undone.{known_facts}
use Rattle.flow_maps.proofs.maps.Maps.least_due.Goals as goal

pub returns-in-Some : goal.returns-in-Some
returns-in-Some c =
    let m = c.args.self.now in
    some_weaker c.first_due.result (λ o. (b : Book) → HasSlots date_of_timer c.in-Some.facts.runs.seats.due (timers_at b) → o ≡ least_due b c.args.at)
    (λ o. (b : Book) → Serves m b → o ≡ least_due b c.args.at)
    (λ o is b h. let known = known_facts m.facts c.in-Some.facts b c.in-Some.is h.facts in is b known.runs.seats.due) c.first_due.ensures
