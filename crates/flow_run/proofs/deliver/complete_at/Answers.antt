use Rattle.std.proofs.Common.{◌≡◌, ◌∙◌, None, ap, arith, refl, sym, true}
use Rattle.std.specs.Prelude.{is_some}
use Rattle.flow_base.specs.Syntax.{Bytes}
use Rattle.flow_base.specs.declared.value.Kind.{Kind}
use Rattle.flow_base.specs.declared.value.Value.{Value}
use Rattle.flow_values.specs.Slots.{slot_of}
use Rattle.flow_model.specs.Rest.{Done}
use Rattle.flow_model.specs.Values.{with_variable}
use Rattle.flow_model.specs.Deliver.{completed, target_of, when_completed}
use Rattle.flow_run.specs.Waiting.{on_activity}
use Rattle.flow_run.specs.Whole.{shown_standing}
use Rattle.flow_run.specs.declared.cell.Doing.TheVariants as doing
use Rattle.flow_run.proofs.Delivering.{activity_waits, completed_becomes, no_activity}
use Rattle.flow_run.proofs.Going.{can_complete, can_go, completes, completes_not, goes_on, it_waits, its_target, on_err}
use Rattle.flow_run.proofs.deliver.complete_at.Goals as goal

pub index-requires : goal.index-requires
index-requires c = omega (arith, c.requires.first.inside, c.args.run.now.cells.ok.0)

pub gone_on-requires-clause-there : goal.gone_on-requires-clause-there
gone_on-requires-clause-there c = c.requires.first.inside

pub gone_on-requires-clause-waits : goal.gone_on-requires-clause-waits
gone_on-requires-clause-waits c = λ d is.
    it_waits (when_completed c.args.n) refl (on_activity c.args.n) (no_activity c.args.n) (activity_waits c.args.n) c.args.run.now.cells.items c.args.i d c.requires.first is

pub returns-then-not-has_kind-clause-started : goal.returns-then-not-has_kind-clause-started
returns-then-not-has_kind-clause-started c =
    let run = c.args.run.now in
    let target = its_target run c.args.n c.args.i c.index.result.now (c.in-Some.into.now, c.in-Some.kind) c.requires.whole c.requires.first c.index.ensures c.in-Some.ensures in
    completes_not (shown_standing run) c.args.n c.args.v.now (c.in-Some.into.now, c.in-Some.kind) (target_of c.args.n (shown_standing run).rest) target (sym c.has_kind.ensures ∙ c.if-not-has_kind.true)

pub returns-in_err-p-in-Some-clause-err : goal.returns-in_err-p-in-Some-clause-err
returns-in_err-p-in-Some-clause-err c =
    let run = c.args.run.now in
    let n = c.args.n in
    let q = c.index.result.now in
    let target = its_target run n c.args.i q (c.in-Some.into.now, c.in-Some.kind) c.requires.whole c.requires.first c.index.ensures c.in-Some.ensures in
    on_err c.from_residual.result (is_some (completed (shown_standing run) n c.args.v.now (target_of n (shown_standing run).rest)) ≡ true)
    (can_complete run n c.args.v.now (c.in-Some.into.now, c.in-Some.kind) target (sym c.has_kind.ensures ∙ c.if-not-has_kind.false)
    (can_go (when_completed n) refl (on_activity n) (no_activity n) (activity_waits n) run c.args.i q Done c.requires.whole c.requires.first c.index.ensures (λ h. completed_becomes n run.table.lists.items q.doing h)))

pub returns-in_err-copy-in-Some-clause-err : goal.returns-in_err-copy-in-Some-clause-err
returns-in_err-copy-in-Some-clause-err c =
    let run = c.args.run.now in
    let n = c.args.n in
    let q = c.index.result.now in
    let target = its_target run n c.args.i q (c.in-Some.into.now, c.in-Some.kind) c.requires.whole c.requires.first c.index.ensures c.in-Some.ensures in
    on_err c.from_residual-in_err-copy-in-Some.result (is_some (completed (shown_standing run) n c.args.v.now (target_of n (shown_standing run).rest)) ≡ true)
    (can_complete run n c.args.v.now (c.in-Some.into.now, c.in-Some.kind) target (sym c.has_kind.ensures ∙ c.if-not-has_kind.false)
    (can_go (when_completed n) refl (on_activity n) (no_activity n) (activity_waits n) run c.args.i q Done c.requires.whole c.requires.first c.index.ensures (λ h. completed_becomes n run.table.lists.items q.doing h)))

pub returns-in_err-set-in-Some-clause-err : goal.returns-in_err-set-in-Some-clause-err
returns-in_err-set-in-Some-clause-err c =
    let run = c.args.run.now in
    let n = c.args.n in
    let q = c.index.result.now in
    let target = its_target run n c.args.i q (c.in-Some.into.now, c.in-Some.kind) c.requires.whole c.requires.first c.index.ensures c.in-Some.ensures in
    on_err c.from_residual-in_err-set-in-Some.result (is_some (completed (shown_standing run) n c.args.v.now (target_of n (shown_standing run).rest)) ≡ true)
    (can_complete run n c.args.v.now (c.in-Some.into.now, c.in-Some.kind) target (sym c.has_kind.ensures ∙ c.if-not-has_kind.false)
    (can_go (when_completed n) refl (on_activity n) (no_activity n) (activity_waits n) run c.args.i q Done c.requires.whole c.requires.first c.index.ensures (λ h. completed_becomes n run.table.lists.items q.doing h)))

pub returns-in_ok-set-in-Some-clause-started : goal.returns-in_ok-set-in-Some-clause-started
returns-in_ok-set-in-Some-clause-started c =
    let run = c.args.run.now in
    let n = c.args.n in
    let q = c.index.result.now in
    let ls = c.args.table.now.lists.items in
    let p = c.in_ok-p-in-Some in
    let x : Bytes × Kind = (c.in-Some.into.now, c.in-Some.kind) in
    let target = its_target run n c.args.i q x c.requires.whole c.requires.first c.index.ensures c.in-Some.ensures in
    let set : slot_of c.set.new.self ≡ with_variable (slot_of p.p.store.variables) x.0 c.args.v.now =
    c.in_ok-set-in-Some.ensures ∙ ap (λ (v : Value). with_variable (slot_of p.p.store.variables) x.0 v) c.in_ok-copy-in-Some.ensures in
    completes run ls n c.args.v.now x p.p c.set.new.self c.requires.is_open target (sym c.has_kind.ensures ∙ c.if-not-has_kind.false)
    (goes_on (when_completed n) refl (on_activity n) (no_activity n) (activity_waits n) run c.args.table.now c.args.i q None doing.Over p.p c.requires.table c.requires.whole c.requires.is_open c.requires.first c.index.ensures (λ h. completed_becomes n ls q.doing h) (p.ensures.shows q c.index.ensures))
    p.ensures.store set
