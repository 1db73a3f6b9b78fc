use Rattle.std.proofs.Common.{rules, ◌≡◌, ap, ◌∙◌}
use Rattle.flow_model.specs.Checked.{shown_checked}
use Rattle.flow_run.specs.Position.{config_of}
use Rattle.flow_machine.specs.Listed.{signals_in}
use Rattle.flow_machine.proofs.OpenRuns.{awaited_are}
use Rattle.flow_machine.proofs.listing.awaited.Goals as goal

pub returns-clause-awaited : goal.returns-clause-awaited
returns-clause-awaited c = λ m b there reads fit.
    let p = shown_checked c.args.program.now in
    let items : c.deref.result.now ≡ c.in_ok-waits.waits.items = search rules in
    c.in_ok-signals.ensures ∙ ap signals_in items ∙ ap signals_in c.in_ok-waits.ensures
    ∙ awaited_are m b c.args.run.now p (config_of p c.in_ok-stance.stance) reads (c.in_ok-stance.ensures.stands m b there reads fit)
