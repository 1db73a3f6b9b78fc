use Rattle.std.proofs.Common.{sym, subst, inl}
use Rattle.std.specs.Prelude.{◌⊎◌}
use Rattle.std.proofs.lemmas.Result.{err_from_is_err_and}
use Rattle.flow_model.specs.Checked.{shown_checked}
use Rattle.flow_model.specs.Apply.{Rules, Outcome, event_limit, rules_of, fired}
use Rattle.flow_machine.specs.ByHead.{StuckFiredAt, fired_at, history_at, recorded_at}
use Rattle.flow_machine.specs.Deciding.{Decides}
use Rattle.flow_machine.specs.Fitting.{HasUnfit}
use Rattle.flow_machine.specs.Stuck.{CantRecord, StuckFired}
use Rattle.flow_machine.proofs.ByHeads.{fired_is, fired_stuck}
use Rattle.flow_machine.proofs.Causes.{caused_by, other_side}
use Rattle.flow_machine.proofs.Sticking.{other_sides}
use Rattle.flow_machine.proofs.Taking.{decided_adds, goes_cant, goes_decides, goes_fit, goes_going, goes_unfit}
use Rattle.flow_machine.proofs.tick.fire.Goals as goal

pub returns-clause-adds : goal.returns-clause-adds
returns-clause-adds g c = λ sure fit.
    let m = g.P.Programs.meaning in
    let u : Rules = rules_of m in
    let book = g.V.View.book in
    let old = book c.args.view.now in
    let now = book c.fired.new.view in
    let new = book c.go_on.new.view in
    let o : Outcome = fired_at u old c.args.at c.args.due in
    let p : Outcome = fired u old c.args.at c.args.due in
    let going = c.in_ok-going.going in
    let made = c.in_ok-reply.made.items in
    let goes = c.in_ok-going.ensures.goes (c.go_on.ensures.kept.sure sure) in
    let decided = c.in_ok-reply.ensures.decides sure m (goes_going m old now going o goes) (goes_fit m old now going o goes c.args.seats.now fit) in
    let here : Decides old new c.in_ok-reply.reply made p = subst (Decides old new c.in_ok-reply.reply made) (sym (fired_is u old c.args.at c.args.due)) (goes_decides m old now going o goes new c.in_ok-reply.reply made decided) in
    decided_adds old new c.in_ok-reply.reply made c.args.changes.now.items c.list_behind.new.changes.items p here c.in_ok-list_behind.ensures

pub returns-clause-fit : goal.returns-clause-fit
returns-clause-fit g c = λ sure fit.
    let m = g.P.Programs.meaning in
    let u : Rules = rules_of m in
    let book = g.V.View.book in
    let old = book c.args.view.now in
    let now = book c.fired.new.view in
    let o : Outcome = fired_at u old c.args.at c.args.due in
    let going = c.in_ok-going.going in
    let goes = c.in_ok-going.ensures.goes (c.go_on.ensures.kept.sure sure) in
    c.in_ok-reply.ensures.fit sure m (goes_going m old now going o goes) (goes_fit m old now going o goes c.args.seats.now fit)

pub returns-in_err-going-clause-cause : goal.returns-in_err-going-clause-cause
returns-in_err-going-clause-cause g c = λ a follows now sure fit.
    let m = g.P.Programs.meaning in
    let u : Rules = rules_of m in
    let old = g.V.View.book c.args.view.now in
    let Refuses : Type 0 = g.V.View.refuses a c.fired.new.view in
    let At : Type 0 = StuckFiredAt m old c.args.due in
    let Stuck : Type 0 = StuckFired m old c.args.due in
    let Unfit : Type 0 = HasUnfit g.V.View.unfit old (fired u old c.args.at c.args.due).changes in
    let r = err_from_is_err_and c.from_residual.result c.from_residual.ensures.1 in
    rw (r.1, r.2) (caused_by c.in_err-going.field-0.0 (Refuses ⊎ At) (Refuses ⊎ (Stuck ⊎ Unfit)) (other_side Refuses At (Stuck ⊎ Unfit) (λ h. inl (fired_stuck m old c.args.due h))) (c.in_err-going.ensures.called.cause a follows now sure))

pub returns-in_err-reply-clause-cause : goal.returns-in_err-reply-clause-cause
returns-in_err-reply-clause-cause g c = λ a follows true_now sure fit.
    let m = g.P.Programs.meaning in
    let u : Rules = rules_of m in
    let book = g.V.View.book in
    let old = book c.args.view.now in
    let now = book c.fired.new.view in
    let o : Outcome = fired_at u old c.args.at c.args.due in
    let p : Outcome = fired u old c.args.at c.args.due in
    let going = c.in_ok-going.going in
    let here = c.in_ok-going.ensures.called.goes_on (c.go_on.ensures.kept.was_true true_now) sure in
    let goes = c.in_ok-going.ensures.goes here in
    let Refuses : Type 0 = g.V.View.refuses a c.go_on.new.view in
    let Cant : Type 0 = CantRecord (shown_checked going.program.value) (history_at now.runs going.number) going.input in
    let Over : Type 0 = HasUnfit g.V.View.unfit now (recorded_at event_limit (shown_checked going.program.value) going.head (history_at now.runs going.number) going.number going.at going.input).changes in
    let Stuck : Type 0 = StuckFired m old c.args.due in
    let Unfit : Type 0 = HasUnfit g.V.View.unfit old p.changes in
    let stuck : Cant → Stuck = λ h. fired_stuck m old c.args.due (c.in_ok-going.ensures.stuck here (goes_cant m old now going o goes h)) in
    let unfit : Over → Unfit = λ h. subst (λ (q : Outcome). HasUnfit g.V.View.unfit old q.changes) (sym (fired_is u old c.args.at c.args.due)) (goes_unfit m old now going o goes g.V.View.unfit h) in
    let r = err_from_is_err_and c.from_residual-in_err-reply.result c.from_residual-in_err-reply.ensures.1 in
    rw (r.1, r.2) (caused_by c.in_err-reply.field-0.0 (Refuses ⊎ (Cant ⊎ Over)) (Refuses ⊎ (Stuck ⊎ Unfit)) (other_sides Refuses Cant Stuck Over Unfit stuck unfit)
    (c.in_err-reply.ensures.cause a (c.fired.ensures.called.follows a follows) true_now here m (goes_going m old now going o goes) (goes_fit m old now going o goes c.args.seats.now fit)))
