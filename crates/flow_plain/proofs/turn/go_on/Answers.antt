use Rattle.std.proofs.Common.{suc, Some, sym, ap, ◌∙◌}
use Rattle.flow_plain.specs.Shown.{shown_frame, shown_progress}
use Rattle.flow_model.proofs.Weight.{rests_here, one_more, next_lighter}
use Rattle.flow_plain.proofs.turn.go_on.Goals as goal

pub returns-in-Rests : goal.returns-in-Rests
returns-in-Rests c =
    let step = rw c.in-Rests.is at c.in_ok-q.ensures.step in
    let kept = rw c.in-Rests.is at c.in_ok-q.ensures.kept in
    c.loop-q.invariant 1 (shown_progress c.in-Rests.q) (rests_here (shown_frame c.args.f.now) (shown_progress c.loop-q.p) (sym step) ∙ ap Some (sym kept))

pub loop-q-smaller : goal.loop-q-smaller
loop-q-smaller c =
    let step = rw c.in-Steps.is at c.in_ok-q.ensures.step in
    next_lighter (shown_frame c.args.f.now) (shown_progress c.loop-q.p) (shown_progress c.in-Steps.q) (sym step)

pub loop-q-preserved : goal.loop-q-preserved
loop-q-preserved c = λ m q h.
    let step = rw c.in-Steps.is at c.in_ok-q.ensures.step in
    c.loop-q.invariant (suc m) q (one_more (shown_frame c.args.f.now) (shown_progress c.loop-q.p) (shown_progress c.in-Steps.q) m (sym step) ∙ h)
