use Rattle.std.specs.Prelude.{◌≡◌}
use Rattle.flow_maps.proofs.Names.{true, false, rules, IfSome, Option, Some, Run, head_of, is_open_run, IsSeated, Seat}
use Rattle.flow_maps.proofs.Serving.{some_weaker}
use Rattle.flow_maps.proofs.seat.seat_of.Goals as goal

pub returns-then-not-is_open : goal.returns-then-not-is_open
returns-then-not-is_open c =
    let run = c.args.whole.now in
    let closed : is_open_run run ≡ false = search rules in
    let tasks : run.tasks ≡ c.as_slice-then-not-is_open.result.now = search rules in
    some_weaker c.closed.result (λ (o : Option Seat). (r : Run) → r.tasks ≡ c.as_slice-then-not-is_open.result.now → (head_of r).is_open ≡ false → IsSeated o (Some r)) (λ o. IsSeated o (Some run)) (λ o is. is run tasks closed) c.closed.ensures

pub returns-in-Some : goal.returns-in-Some
returns-in-Some c =
    let opened : is_open_run c.args.whole.now ≡ true = search rules in
    (c.in-Some.ensures, opened)
