use Rattle.flow_maps.proofs.Names.{Option, Some, Run, with_attempt, with_text, with_turn, IsSeat, IsSeated, Seat}
use Rattle.flow_maps.proofs.Serving.{some_weaker}
use Rattle.flow_maps.proofs.seat.seat_behind.Goals as goal

pub returns-in-AddTurn : goal.returns-in-AddTurn
returns-in-AddTurn c =
    let t = c.in-AddTurn.turn in
    rw c.in-AddTurn.is (some_weaker c.behind_turn.result (λ (o : Option Seat). (r : Run) → IsSeat c.args.seat r → IsSeated o (Some (with_turn t r))) (λ o. (r : Run) → IsSeated (Some c.args.seat) (Some r) → IsSeated o (Some (with_turn t r))) (λ o is r h. is r h.0) c.behind_turn.ensures)

pub returns-in-SetAttempt : goal.returns-in-SetAttempt
returns-in-SetAttempt c = rw c.in-SetAttempt.is c.at_attempt.ensures

pub returns-in-SetText : goal.returns-in-SetText
returns-in-SetText c = rw c.in-SetText.is c.under_text.ensures
