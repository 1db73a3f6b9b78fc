use Rattle.std.proofs.Common.{◌≡◌, suc, Some, sym, ap, ◌∙◌}
use Rattle.flow_run.specs.Position.{shown_frame, shown_progress}
use Rattle.flow_model.proofs.Weight.{rests_here, one_more, next_lighter}
use Rattle.flow_run.proofs.turn.go_on.Goals as goal

pub returns-then-not-steps-clause-runs : goal.returns-then-not-steps-clause-runs
returns-then-not-steps-clause-runs c =
    let ls = c.args.table.now.lists.items in
    let step = rw c.if-not-steps.true at c.in_ok-steps.ensures.step in
    let kept = c.in_ok-steps.ensures.kept c.if-not-steps.true in
    c.loop-steps.invariant.leads 1 (shown_progress ls c.next.new.p) (rests_here (shown_frame c.args.f.now) (shown_progress ls c.loop-steps.p) (sym step) ∙ ap Some (sym kept))

pub loop-steps-smaller : goal.loop-steps-smaller
loop-steps-smaller c =
    let ls = c.args.table.now.lists.items in
    let step = rw c.if-not-steps.false at c.in_ok-steps.ensures.step in
    next_lighter (shown_frame c.args.f.now) (shown_progress ls c.loop-steps.p) (shown_progress ls c.next.new.p) (sym step)

pub loop-steps-preserved : goal.loop-steps-preserved
loop-steps-preserved c =
    let ls = c.args.table.now.lists.items in
    let step = rw c.if-not-steps.false at c.in_ok-steps.ensures.step in
    record {
      leads = λ m q h. c.loop-steps.invariant.leads (suc m) q (one_more (shown_frame c.args.f.now) (shown_progress ls c.loop-steps.p) (shown_progress ls c.next.new.p) m (sym step) ∙ h);
      whole = c.in_ok-steps.ensures.whole;
    }
