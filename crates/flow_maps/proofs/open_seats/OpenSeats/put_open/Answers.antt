use Rattle.flow_maps.proofs.Names.{List, ℕ, subst, ◌∙◌, OpenActivity, Timer, HasSlots, date_of_task, date_of_timer, replaced}
use Rattle.flow_maps.proofs.Seating.{seat_in}
use Rattle.flow_maps.proofs.open_seats.OpenSeats.put_open.Goals as goal

pub returns : goal.returns
returns c is rs r none seated h =
    seat_in c.args.self.now (record { alloc = c.args.self.now.alloc; by_run = c.insert.new.seats; flows = c.put.new.self; due = c.put_in.new.slots; ready = c.put_in-2.new.slots }) c.args.run c.args.seat rs h r none seated (c.insert.ensures is)
    (c.put.ensures c.if-not-put.false)
    (λ f free was. subst (λ (ts : List Timer). HasSlots date_of_timer c.put_in.new.slots (replaced c.args.run ts f)) c.as_slice.ensures (c.put_in.ensures c.if-not-put_in.false f free was))
    (λ f free was. subst (λ (ts : List OpenActivity). HasSlots date_of_task c.put_in-2.new.slots (replaced c.args.run ts f)) c.as_slice-2.ensures (c.put_in-2.ensures c.if-not-put_in-2.false f free was))
