use Rattle.std.proofs.Common.{rules, ◌≡◌, ℕ, refl}
use Rattle.flow_hub.specs.declared.seats.Sight.{Sight}
use Rattle.flow_hub.specs.Seating.{nobody}
use Rattle.flow_hub.proofs.Moves.{enters}
use Rattle.flow_hub.proofs.seats.HubTable.enter.Goals as goal

pub load_new_seat-seat-requires : goal.load_new_seat-seat-requires
load_new_seat-seat-requires g c = (search rules, rw c.args.self.now.no_slot (enters (λ (n : ℕ) (w : Sight). w ≡ nobody) (λ n. refl)))
