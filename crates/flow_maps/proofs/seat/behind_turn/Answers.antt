use Rattle.std.specs.Prelude.{◌≡◌}
use Rattle.flow_maps.proofs.Names.{true, false, rules, sym, ap, subst, ◌∙◌, length, Option, Some, Run, with_turn, head_of, Head, timers_behind, IsSeat, IsSeated, head_behind, Seat}
use Rattle.flow_maps.proofs.Headed.{timers_turned, turned}
use Rattle.flow_maps.proofs.Serving.{some_weaker}
use Rattle.flow_maps.proofs.seat.behind_turn.Goals as goal

pub returns-then-not-stays_open : goal.returns-then-not-stays_open
returns-then-not-stays_open c =
    let t = c.args.turn.now in
    let shut : c.in-Some.head.is_open ≡ false = search rules in
    some_weaker c.closed.result (λ (o : Option Seat). (r : Run) → r.tasks ≡ c.as_slice.result.now → (head_of r).is_open ≡ false → IsSeated o (Some r)) (λ o. (r : Run) → IsSeat c.args.seat r → IsSeated o (Some (with_turn t r)))
    (λ o is r h.
    let head : head_of (with_turn t r) ≡ c.in-Some.head = turned t r ∙ ap (head_behind t) h.head ∙ sym c.in-Some.ensures in
    is (with_turn t r) (ap (λ (k : Head). k.tasks) head ∙ sym c.as_slice.ensures) (ap (λ (k : Head). k.is_open) head ∙ shut)) c.closed.ensures

pub returns : goal.returns
returns c r h =
    let t = c.args.turn.now in
    let opened : c.in-Some.head.is_open ≡ true = search rules in
    let head : head_of (with_turn t r) ≡ c.in-Some.head = turned t r ∙ ap (head_behind t) h.head ∙ sym c.in-Some.ensures in
    let count : length r.history ≡ c.args.seat.head.events = ap (λ (k : Head). k.events) h.head in (
      record {
        head = head;
        timers = timers_turned t r ∙ ap (timers_behind (length r.history) t) h.timers ∙ ap (λ n. timers_behind n t c.args.seat.timers) count ∙ sym c.in-Some-timers_behind.ensures;
        calls = c.in-Some-calls_behind.ensures r count h.calls;
      },
      ap (λ (k : Head). k.is_open) head ∙ opened,
    )
