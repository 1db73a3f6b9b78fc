use Rattle.std.proofs.Common.{◌≡◌, ◌∙◌, ◌++◌, ◌∷◌, [], inr, refl, sym, ap, append_assoc, append-nil, List, true, false}
use Rattle.flow_base.specs.declared.task.Task.{Task}
use Rattle.flow_pool.specs.Ends.{taken_by}
use Rattle.flow_pool.specs.Reports.{Telling, MayCome, is_left}
use Rattle.flow_pool.proofs.Telling.{goes_on, does_as, left_same}
use Rattle.flow_pool.proofs.worker.worker.Goals as goal

pub tasks-init : goal.tasks-init
tasks-init g c = (tt, tt, (λ t a m. m), (λ name. refl), refl, refl, refl, ([], [], sym (append-nil _), sym (append-nil _), refl))

pub tasks-preserved : goal.tasks-preserved
tasks-preserved g c =
    let inv = c.tasks.invariant in
    let (ts, log, taken, told, went) = inv.7 in
    let one = c.if-deal.ensures.does in
    let task = c.in-Some-take.task in
    let tells = g.C.Clock.tells c.args.clock.now in
    let may = MayCome g.A.Activity.named g.A.Activity.gives c.args.activities.items in
    let then = MayCome g.A.Activity.named g.A.Activity.gives c.tasks.activities.items in
    let left = is_left (g.U.Unknown.leaves c.args.unknown) g.A.Activity.named c.args.activities.items in
    let now = is_left (g.U.Unknown.leaves c.tasks.unknown) g.A.Activity.named c.tasks.activities.items task in
    let same : now ≡ left task = ap (λ b. is_left b g.A.Activity.named c.tasks.activities.items task) inv.4 ∙ left_same (g.U.Unknown.leaves c.args.unknown) g.A.Activity.named c.tasks.activities.items c.args.activities.items task inv.3 in (
      tt,
      tt,
      (λ t a m. inv.2 t a (c.deal.ensures.keeps t a m)),
      (λ name. c.deal.ensures.named name ∙ inv.3 name),
      c.deal.ensures.same ∙ inv.4,
      c.take.ensures.same.0 ∙ inv.5,
      c.take.ensures.same.1 ∙ inv.6,
      (
        ts ++ task ∷ [],
        log ++ one.0,
        c.in-Some-take.ensures.taken ∙ ap (λ (l : List Task). l ++ task ∷ []) taken ∙ append_assoc (taken_by c.args.receiver) ts (task ∷ []),
        one.1 ∙ ap (λ (l : List Telling). l ++ one.0) told ∙ append_assoc (g.S.Reports.told c.args.reports) log one.0,
        goes_on tells may left ts log task one.0 went (does_as tells then may task now (left task) one.0 false same inv.2 one.2),
      ),
    )

pub returns-then-deal-clause-works : goal.returns-then-deal-clause-works
returns-then-deal-clause-works g c =
    let inv = c.tasks.invariant in
    let (ts, log, taken, told, went) = inv.7 in
    let one = c.if-deal.ensures.does in
    let task = c.in-Some-take.task in
    let tells = g.C.Clock.tells c.args.clock.now in
    let may = MayCome g.A.Activity.named g.A.Activity.gives c.args.activities.items in
    let then = MayCome g.A.Activity.named g.A.Activity.gives c.tasks.activities.items in
    let left = is_left (g.U.Unknown.leaves c.args.unknown) g.A.Activity.named c.args.activities.items in
    let now = is_left (g.U.Unknown.leaves c.tasks.unknown) g.A.Activity.named c.tasks.activities.items task in
    let same : now ≡ left task = ap (λ b. is_left b g.A.Activity.named c.tasks.activities.items task) inv.4 ∙ left_same (g.U.Unknown.leaves c.args.unknown) g.A.Activity.named c.tasks.activities.items c.args.activities.items task inv.3 in (
      ts ++ task ∷ [],
      log ++ one.0,
      c.in-Some-take.ensures.taken ∙ ap (λ (l : List Task). l ++ task ∷ []) taken ∙ append_assoc (taken_by c.args.receiver) ts (task ∷ []),
      one.1 ∙ ap (λ (l : List Telling). l ++ one.0) told ∙ append_assoc (g.S.Reports.told c.args.reports) log one.0,
      inr (ts, task, log, one.0, refl, refl, went, does_as tells then may task now (left task) one.0 true same inv.2 one.2),
    )
