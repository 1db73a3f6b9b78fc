use Rattle.std.proofs.Common.{◌≡◌, ◌∙◌, ℕ, List, Option, Some, ap, refl, subst, sym, true}
use Rattle.std.specs.Prelude.{is_some}
use Rattle.flow_run.specs.Waiting.{IsFirst, NoneOf, going_on, late_in, on_timer}
use Rattle.flow_run.specs.declared.cell.Cell.{Cell}
use Rattle.flow_run.specs.declared.cell.Doing.TheVariants as doing
use Rattle.flow_model.specs.Deliver.{replaced, when_fired}
use Rattle.flow_run.specs.Whole.{shown_standing}
use Rattle.flow_run.proofs.Delivering.{fired_becomes, no_timer, timer_waits}
use Rattle.flow_run.proofs.Going.{can_go, goes_on, it_waits, none_goes, not_started, on_err, started_on}
use Rattle.flow_run.proofs.deliver.fire.Goals as goal

pub gone_on-requires-clause-there : goal.gone_on-requires-clause-there
gone_on-requires-clause-there c =
    let first = subst (λ (cs : List Cell). IsFirst (on_timer c.args.n) cs c.in-Some.i) c.deref.ensures.value c.in-Some.ensures in
    first.inside

pub gone_on-requires-clause-waits : goal.gone_on-requires-clause-waits
gone_on-requires-clause-waits c = λ d is.
    let n = c.args.n in
    let first = subst (λ (cs : List Cell). IsFirst (on_timer n) cs c.in-Some.i) c.deref.ensures.value c.in-Some.ensures in
    it_waits (when_fired n) refl (on_timer n) (no_timer n) (timer_waits n) c.args.run.now.cells.items c.in-Some.i d first is

pub returns-in_ok-p-in-Some-clause-started : goal.returns-in_ok-p-in-Some-clause-started
returns-in_ok-p-in-Some-clause-started c =
    let n = c.args.n in
    let run = c.args.run.now in
    let ls = c.args.table.now.lists.items in
    let q = c.index.result.now in
    let first = subst (λ (cs : List Cell). IsFirst (on_timer n) cs c.in-Some.i) c.deref.ensures.value c.in-Some.ensures in
    started_on run ls c.in_ok-p-in-Some.p (replaced (when_fired n) (shown_standing run).rest) c.requires.is_open c.in_ok-p-in-Some.ensures.store
    (goes_on (when_fired n) refl (on_timer n) (no_timer n) (timer_waits n) run c.args.table.now c.in-Some.i q c.late-list.result doing.Over c.in_ok-p-in-Some.p c.requires.table c.requires.whole c.requires.is_open first c.index.ensures
    (λ h. fired_becomes n ls q.doing h ∙ ap (λ (o : Option ℕ). Some (going_on ls o doing.Over)) (sym c.late-list.ensures)) (c.in_ok-p-in-Some.ensures.shows q c.index.ensures))

pub returns-in_err-p-in-Some-clause-err : goal.returns-in_err-p-in-Some-clause-err
returns-in_err-p-in-Some-clause-err c =
    let n = c.args.n in
    let run = c.args.run.now in
    let q = c.index.result.now in
    let first = subst (λ (cs : List Cell). IsFirst (on_timer n) cs c.in-Some.i) c.deref.ensures.value c.in-Some.ensures in
    on_err c.from_residual.result (is_some (replaced (when_fired n) (shown_standing run).rest) ≡ true)
    (can_go (when_fired n) refl (on_timer n) (no_timer n) (timer_waits n) run c.in-Some.i q (going_on run.table.lists.items (late_in q.doing) doing.Over) c.requires.whole first c.index.ensures (λ h. fired_becomes n run.table.lists.items q.doing h))

pub returns-in-None-clause-started : goal.returns-in-None-clause-started
returns-in-None-clause-started c =
    let n = c.args.n in
    let run = c.args.run.now in
    let none = subst (NoneOf (on_timer n)) c.deref.ensures.value c.in-None.ensures in
    not_started (shown_standing run) (replaced (when_fired n) (shown_standing run).rest) (none_goes (when_fired n) refl (on_timer n) (no_timer n) (timer_waits n) run c.requires.whole none)
