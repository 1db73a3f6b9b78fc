use Rattle.std.proofs.Common.{◌≡◌, ◌∙◌, ℕ, List, Option, Some, ap, refl, subst, sym, true}
use Rattle.std.specs.Prelude.{is_some}
use Rattle.flow_base.specs.Syntax.{Bytes}
use Rattle.flow_run.specs.Waiting.{IsFirst, NoneOf, going_on, late_in, on_activity}
use Rattle.flow_base.specs.declared.event.Cause.TheVariants.{ActivityFailed}
use Rattle.flow_run.specs.Whole.{shown_standing}
use Rattle.flow_run.specs.declared.cell.Cell.{Cell}
use Rattle.flow_run.specs.declared.cell.Doing.TheVariants as doing
use Rattle.flow_model.specs.Deliver.{replaced, when_failed}
use Rattle.flow_run.proofs.Delivering.{activity_waits, failed_becomes, no_failure}
use Rattle.flow_run.proofs.Going.{can_go, goes_on, it_waits, none_goes, not_started, on_err, started_on}
use Rattle.flow_run.proofs.deliver.fail.Goals as goal

pub gone_on-requires-clause-there : goal.gone_on-requires-clause-there
gone_on-requires-clause-there c =
    let first = subst (λ (cs : List Cell). IsFirst (on_activity c.args.n) cs c.in-Some.i) c.deref.ensures.value c.in-Some.ensures in
    first.inside

pub gone_on-requires-clause-waits : goal.gone_on-requires-clause-waits
gone_on-requires-clause-waits c = λ d is.
    let n = c.args.n in
    let text = c.args.text.now in
    let first = subst (λ (cs : List Cell). IsFirst (on_activity n) cs c.in-Some.i) c.deref.ensures.value c.in-Some.ensures in
    it_waits (when_failed n text) refl (on_activity n) (no_failure n text) (activity_waits n) c.args.run.now.cells.items c.in-Some.i d first is

pub returns-in_ok-p-in-Some-clause-started : goal.returns-in_ok-p-in-Some-clause-started
returns-in_ok-p-in-Some-clause-started c =
    let n = c.args.n in
    let text = c.args.text.now in
    let run = c.args.run.now in
    let ls = c.args.table.now.lists.items in
    let q = c.index.result.now in
    let other = c.in_ok-copy-in-Some.field-0 in
    let late : late_in q.doing ≡ c.late-list.result = sym c.late-list.ensures in
    let copy : text ≡ other = sym c.in_ok-copy-in-Some.ensures in
    let first = subst (λ (cs : List Cell). IsFirst (on_activity n) cs c.in-Some.i) c.deref.ensures.value c.in-Some.ensures in
    started_on run ls c.in_ok-p-in-Some.p (replaced (when_failed n text) (shown_standing run).rest) c.requires.is_open c.in_ok-p-in-Some.ensures.store
    (goes_on (when_failed n text) refl (on_activity n) (no_failure n text) (activity_waits n) run c.args.table.now c.in-Some.i q c.late-list.result (doing.Raised ActivityFailed other) c.in_ok-p-in-Some.p c.requires.table c.requires.whole c.requires.is_open first c.index.ensures
    (λ h. failed_becomes n text ls q.doing h ∙ ap (λ (o : Option ℕ). Some (going_on ls o (doing.Raised ActivityFailed text))) late ∙ ap (λ (said : Bytes). Some (going_on ls c.late-list.result (doing.Raised ActivityFailed said))) copy) (c.in_ok-p-in-Some.ensures.shows q c.index.ensures))

pub returns-in_err-copy-in-Some-clause-err : goal.returns-in_err-copy-in-Some-clause-err
returns-in_err-copy-in-Some-clause-err c =
    let n = c.args.n in
    let text = c.args.text.now in
    let run = c.args.run.now in
    let q = c.index.result.now in
    let first = subst (λ (cs : List Cell). IsFirst (on_activity n) cs c.in-Some.i) c.deref.ensures.value c.in-Some.ensures in
    on_err c.from_residual.result (is_some (replaced (when_failed n text) (shown_standing run).rest) ≡ true)
    (can_go (when_failed n text) refl (on_activity n) (no_failure n text) (activity_waits n) run c.in-Some.i q (going_on run.table.lists.items (late_in q.doing) (doing.Raised ActivityFailed text)) c.requires.whole first c.index.ensures (λ h. failed_becomes n text run.table.lists.items q.doing h))

pub returns-in_err-p-in-Some-clause-err : goal.returns-in_err-p-in-Some-clause-err
returns-in_err-p-in-Some-clause-err c =
    let n = c.args.n in
    let text = c.args.text.now in
    let run = c.args.run.now in
    let q = c.index.result.now in
    let first = subst (λ (cs : List Cell). IsFirst (on_activity n) cs c.in-Some.i) c.deref.ensures.value c.in-Some.ensures in
    on_err c.from_residual-in_err-p-in-Some.result (is_some (replaced (when_failed n text) (shown_standing run).rest) ≡ true)
    (can_go (when_failed n text) refl (on_activity n) (no_failure n text) (activity_waits n) run c.in-Some.i q (going_on run.table.lists.items (late_in q.doing) (doing.Raised ActivityFailed text)) c.requires.whole first c.index.ensures (λ h. failed_becomes n text run.table.lists.items q.doing h))

pub returns-in-None-clause-started : goal.returns-in-None-clause-started
returns-in-None-clause-started c =
    let n = c.args.n in
    let text = c.args.text.now in
    let run = c.args.run.now in
    let none = subst (NoneOf (on_activity n)) c.deref.ensures.value c.in-None.ensures in
    not_started (shown_standing run) (replaced (when_failed n text) (shown_standing run).rest) (none_goes (when_failed n text) refl (on_activity n) (no_failure n text) (activity_waits n) run c.requires.whole none)
