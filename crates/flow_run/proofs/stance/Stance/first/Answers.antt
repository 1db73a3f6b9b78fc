use Rattle.std.proofs.Common.{◌≡◌, arith, ap, Err}
use Rattle.flow_model.specs.Checked.{shown_checked}
use Rattle.flow_run.specs.Shown.{shown_answers}
use Rattle.flow_run.specs.declared.fault.RunFault.TheVariants as fault
use Rattle.flow_run.specs.Position.{config_of}
use Rattle.flow_run.proofs.First.{turn_from, turned_from, unfit, not_closed, none_yet}
use Rattle.flow_run.proofs.stance.Stance.first.Goals as goal

pub turn-requires : goal.turn-requires
turn-requires c =
    let p = shown_checked c.args.program.now in
    let none = none_yet (config_of p c.unbegun-stance.result) (c.unbegun-stance.ensures p) in
    record { events = omega (arith, none) }

pub returns-in-Ok-clause-turn : goal.returns-in-Ok-clause-turn
returns-in-Ok-clause-turn c =
    let p = shown_checked c.args.program.now in
    turn_from p (shown_answers c.args.answers) (config_of p c.unbegun-stance.result) _ c.args.at _ _ c.in-Ok.commands.items (config_of p c.turn.new.stance)
    (c.unbegun-stance.ensures p) c.in_ok-copy_values.ensures c.in-Ok.ensures.turn

pub returns-in-Ok-clause-computed : goal.returns-in-Ok-clause-computed
returns-in-Ok-clause-computed c =
    let p = shown_checked c.args.program.now in
    turned_from p (shown_answers c.args.answers) (config_of p c.unbegun-stance.result) _ c.args.at _ _ _
    (c.unbegun-stance.ensures p) c.in_ok-copy_values.ensures c.in-Ok.ensures.computed

pub returns-in-Ok-clause-counted : goal.returns-in-Ok-clause-counted
returns-in-Ok-clause-counted c =
    let p = shown_checked c.args.program.now in
    let none = none_yet (config_of p c.unbegun-stance.result) (c.unbegun-stance.ensures p) in
    omega (arith, none, c.in-Ok.ensures.counted)

pub returns-clause-not_awaited : goal.returns-clause-not_awaited
returns-clause-not_awaited c = λ h.
    let p = shown_checked c.args.program.now in
    let f : c.in-Err.fault ≡ fault.NotAwaited = cc (h) in
    unfit p (config_of p c.unbegun-stance.result) _ _ (c.unbegun-stance.ensures p) c.in_ok-copy_values.ensures ((c.in-Err.ensures.not_awaited.0 (ap Err f)).1)

pub returns-clause-not_closed : goal.returns-clause-not_closed
returns-clause-not_closed c = λ h.
    let p = shown_checked c.args.program.now in
    let f : c.in-Err.fault ≡ fault.Closed = cc (h) in
    not_closed (config_of p c.unbegun-stance.result) (c.unbegun-stance.ensures p) (c.in-Err.ensures.closed.0 (ap Err f))
