use Rattle.std.specs.Prelude.{◌≡◌}
use Rattle.flow_maps.proofs.Names.{ℕ, None, rules, get, contains, nat_cmp, false, sym, subst, Option, Slot, slot_cmp, IsSeated, Seat}
use Rattle.flow_maps.proofs.open_seats.OpenSeats.new.Goals as goal

pub returns : goal.returns
returns c =
    let none : (n : ℕ) → get nat_cmp c.new.result n ≡ None = search rules in
    let due : (q : Slot) → contains slot_cmp c.new-3.result q ≡ false = search rules in
    let ready : (q : Slot) → contains slot_cmp c.new-4.result q ≡ false = search rules in
    record { by_run = λ n. subst (λ (o : Option Seat). IsSeated o None) (sym (none n)) tt; flows = c.new-2.ensures; due = due; ready = ready }
