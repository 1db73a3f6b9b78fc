use Rattle.std.proofs.Common.{◌≡◌, ◌+◌, ◌∙◌, List, length, ap}
use Rattle.flow_base.specs.declared.event.Cmd.{Cmd}
use Rattle.flow_run.specs.Position.{shown_frame, shown_progress}
use Rattle.flow_run.specs.Whole.{shown_standing}
use Rattle.flow_run.specs.declared.standing.Standing.{Standing}
use Rattle.flow_run.proofs.Turning.{left_is}
use Rattle.flow_run.proofs.turn.left_by.Goals as goal

pub of-requires : goal.of-requires
of-requires c = c.requires.whole

pub returns-clause-run : goal.returns-clause-run
returns-clause-run c =
    let n : c.count.result ≡ length c.args.p.asked.items = c.count.ensures.value ∙ ap (λ (xs : List Cmd). length xs) c.deref.ensures.value in
    ap shown_standing c.of.ensures ∙ left_is (shown_frame c.args.f.now) (shown_progress c.args.table.lists.items c.args.p) c.count.result n

pub returns-clause-counted : goal.returns-clause-counted
returns-clause-counted c =
    let n : c.count.result ≡ length c.args.p.asked.items = c.count.ensures.value ∙ ap (λ (xs : List Cmd). length xs) c.deref.ensures.value in
    ap (λ (r : Standing). r.events) c.of.ensures ∙ ap (λ m. c.args.f.now.events + m) n
