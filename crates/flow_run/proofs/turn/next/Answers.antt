use Rattle.std.proofs.Common.{◌≡◌, ◌∙◌, List, ap, subst, sym}
use Rattle.flow_base.specs.Syntax.{Bytes}
use Rattle.flow_base.specs.declared.event.Cmd.TheVariants.{Complete}
use Rattle.flow_base.specs.declared.value.Value.TheVariants as value
use Rattle.flow_model.specs.Rest.{is_done}
use Rattle.flow_model.specs.Turn.{ended}
use Rattle.flow_run.specs.Flat.{AreSound}
use Rattle.flow_run.specs.Position.{shown_frame, shown_progress}
use Rattle.flow_run.specs.Whole.{rest_at}
use Rattle.flow_run.specs.declared.cell.Cell.{Cell}
use Rattle.flow_run.proofs.Turning.{next_closed, next_ends}
use Rattle.flow_run.proofs.turn.next.Goals as goal

pub returns-then-not-is_open-clause-step : goal.returns-then-not-is_open-clause-step
returns-then-not-is_open-clause-step c =
    next_closed (shown_frame c.args.f.now) (shown_progress c.args.table.now.lists.items c.args.p.now) c.is_open.result c.is_open.ensures c.if-not-is_open.true

pub is_finished-requires : goal.is_finished-requires
is_finished-requires c = subst (AreSound c.args.table.now.lists.items) (sym c.deref.ensures.value) c.requires.whole.sound

pub returns-then-is_finished-clause-step : goal.returns-then-is_finished-clause-step
returns-then-is_finished-clause-step c =
    let ls = c.args.table.now.lists.items in
    let finished = c.is_finished.ensures ∙ ap (λ (cs : List Cell). is_done (rest_at ls cs)) c.deref.ensures.value in
    next_ends (shown_frame c.args.f.now) (shown_progress ls c.args.p.now) (shown_progress ls c.ends.new.p) (sym c.is_open.ensures ∙ c.if-not-is_open.false) (sym finished ∙ c.if-is_finished.true)
    (c.in_ok-ends.ensures.ends ls ∙ ap (λ (t : Bytes). ended (shown_progress ls c.args.p.now) (Complete (value.Text t))) c.empty.ensures)

pub step_on-requires-clause-is_open : goal.step_on-requires-clause-is_open
step_on-requires-clause-is_open c = sym c.is_open.ensures ∙ c.if-not-is_open.false

pub step_on-requires-clause-going : goal.step_on-requires-clause-going
step_on-requires-clause-going c =
    let finished = c.is_finished.ensures ∙ ap (λ (cs : List Cell). is_done (rest_at c.args.table.now.lists.items cs)) c.deref.ensures.value in
    sym finished ∙ c.if-is_finished.false

pub returns-then-is_finished-clause-whole : goal.returns-then-is_finished-clause-whole
returns-then-is_finished-clause-whole c = c.in_ok-ends.ensures.whole c.args.table.now.lists.items
