use Rattle.flow_maps.proofs.Names.{Option, Some, Run, unbegun_run, with_turn, IsSeat, IsSeated, Seat}
use Rattle.flow_maps.proofs.Serving.{some_weaker}
use Rattle.flow_maps.proofs.seat.first_seat.Goals as goal

pub returns-in-Some : goal.returns-in-Some
returns-in-Some c =
    let fresh = unbegun_run c.args.flow.now c.args.request.now c.args.text in
    some_weaker c.behind_turn.result (λ (o : Option Seat). (r : Run) → IsSeat c.in-Some.seat r → IsSeated o (Some (with_turn c.args.turn.now r))) (λ o. IsSeated o (Some (with_turn c.args.turn.now fresh))) (λ o is. is fresh c.in-Some.ensures) c.behind_turn.ensures
