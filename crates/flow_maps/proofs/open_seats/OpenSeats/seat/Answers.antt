use Rattle.std.specs.Prelude.{◌≡◌}
use Rattle.flow_maps.proofs.Names.{Some, ap, get, nat_cmp, rules, sym, ◌∙◌}
use Rattle.flow_maps.proofs.Seating.{seat_there}
use Rattle.flow_maps.proofs.open_seats.OpenSeats.seat.Goals as goal

pub returns-in-Some : goal.returns-in-Some
returns-in-Some c rs h =
    let apart : get nat_cmp c.args.self.now.by_run c.args.run ≡ Some c.in-Some.apart.now = search rules in
    let there = apart ∙ ap Some (sym c.as_seat.ensures) in
    seat_there (get nat_cmp c.args.self.now.by_run c.args.run) (rs c.args.run) c.as_seat.result.now there (h.by_run c.args.run)
