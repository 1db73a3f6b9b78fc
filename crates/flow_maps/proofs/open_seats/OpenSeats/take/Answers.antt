use Rattle.flow_maps.proofs.Names.{sym, ◌∙◌}
use Rattle.flow_maps.proofs.Seating.{seat_out}
use Rattle.flow_maps.proofs.open_seats.OpenSeats.take.Goals as goal

pub returns : goal.returns
returns c rs h =
    let there = sym c.in-Some.ensures.taken in
    seat_out c.args.self.now (record { alloc = c.args.self.now.alloc; by_run = c.remove.new.seats; flows = c.remove-2.new.self; due = c.take_out.new.slots; ready = c.take_out-2.new.slots }) c.args.run c.in-Some.seat rs h there c.in-Some.ensures.others
    (c.remove-2.ensures c.if-not-remove.false)
    (λ f same. c.take_out.ensures f (same ∙ sym c.as_slice.ensures)) (λ f same. c.take_out-2.ensures f (same ∙ sym c.as_slice-2.ensures))
