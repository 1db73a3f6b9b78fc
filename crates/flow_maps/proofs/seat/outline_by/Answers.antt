use Rattle.std.specs.Prelude.{◌≡◌}
use Rattle.flow_base.specs.declared.event.State.TheVariants.{Open}
use Rattle.flow_maps.proofs.Names.{true, rules, ap, ◌∙◌, List, Timer, Head}
use Rattle.flow_maps.proofs.Outlined.{made, seat_stands}
use Rattle.flow_maps.proofs.seat.outline_by.Goals as goal

pub returns : goal.returns
returns c r h =
    let seat = c.args.seat.now in
    let opened : seat.head.is_open ≡ true = search rules in
    ap (λ (x : Head). made x Open c.in-Some-copied_timers.timers) c.in-Some.ensures
    ∙ ap (λ (ts : List Timer). made seat.head Open ts) (c.in-Some-copied_timers.ensures ∙ c.as_slice.ensures)
    ∙ seat_stands seat r h opened
