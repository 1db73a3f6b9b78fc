use Rattle.std.proofs.Common.{rules, ◌≡◌, suc, ◌-◌, arith, None}
use Rattle.std.specs.Prelude.{◌⊎◌}
use Rattle.std.proofs.lemmas.Result.{err_from_is_err_and}
use Rattle.flow_model.specs.Apply.{Rules, rules_of, fired, firings}
use Rattle.flow_machine.specs.Fitting.{HasUnfit}
use Rattle.flow_machine.specs.Stuck.{StuckFired, StuckFirings}
use Rattle.flow_machine.proofs.Causes.{caused_by}
use Rattle.flow_machine.proofs.Sticking.{other_sides}
use Rattle.flow_machine.proofs.Taking.{fit_over}
use Rattle.flow_machine.proofs.TicksDecide.{none_left, none_fires, one_fires, stuck_first, stuck_later, unfit_first, unfit_later}
use Rattle.flow_machine.proofs.Seating.{alike_on}
use Rattle.flow_machine.proofs.tick.+fire_due.Goals as goal

pub returns-then-left-eq0-clause-fires : goal.returns-then-left-eq0-clause-fires
returns-then-left-eq0-clause-fires g t c = λ sure fit.
    none_left (rules_of g.P.Programs.meaning) c.args.at c.args.left (g.V.View.book c.args.view.now) c.args.changes.now.items c.if-left-eq0.true

pub returns-in_default-clause-fires : goal.returns-in_default-clause-fires
returns-in_default-clause-fires g t c = λ sure fit.
    let some : c.args.left ≡ suc (c.args.left - 1) = omega (arith, c.if-left-eq0.false) in
    let none : c.in_ok-due.field-0 ≡ None = search rules in
    none_fires (rules_of g.P.Programs.meaning) c.args.at c.args.left (c.args.left - 1) (g.V.View.book c.args.view.now) some (g.V.View.book c.least_due.new.self) c.in_ok-due.field-0 c.args.changes.now.items
    (c.in_ok-due.ensures.reads sure) none

pub returns-clause-fires : goal.returns-clause-fires
returns-clause-fires g t c = λ sure fit.
    let book = g.V.View.book in
    let some : c.args.left ≡ suc (c.args.left - 1) = omega (arith, c.if-left-eq0.false) in
    let after_one = c.fire_due.ensures.kept.sure sure in
    let seen = c.in_ok-due.ensures.reads (c.fire.ensures.kept.sure after_one) in
    let here = fit_over g.P.Programs.meaning (book c.args.view.now) (book c.least_due.new.self) c.args.seats.now seen.0 fit in
    one_fires (rules_of g.P.Programs.meaning) c.args.at c.args.left (c.args.left - 1) (book c.args.view.now) some (book c.least_due.new.self) c.in_ok-due.field-0 c.in-Some.due
    seen c.in-Some.is (book c.fire.new.view) (book c.fire_due.new.view) c.args.changes.now.items c.fire.new.changes.items
    c.fire_due.new.changes.items c.in_ok-more.more (c.in_ok-fire.ensures.adds after_one here) (c.in_ok-more.ensures.fires sure (c.in_ok-fire.ensures.fit after_one here))

pub returns-in_default-clause-fit : goal.returns-in_default-clause-fit
returns-in_default-clause-fit g t c = λ sure fit.
    let book = g.V.View.book in
    fit_over g.P.Programs.meaning (book c.args.view.now) (book c.least_due.new.self) c.args.seats.now (c.in_ok-due.ensures.reads sure).0 fit

pub returns-clause-fit : goal.returns-clause-fit
returns-clause-fit g t c = λ sure fit.
    let book = g.V.View.book in
    let after_one = c.fire_due.ensures.kept.sure sure in
    let seen = c.in_ok-due.ensures.reads (c.fire.ensures.kept.sure after_one) in
    let here = fit_over g.P.Programs.meaning (book c.args.view.now) (book c.least_due.new.self) c.args.seats.now seen.0 fit in
    c.in_ok-more.ensures.fit sure (c.in_ok-fire.ensures.fit after_one here)

pub returns-in_err-fire-clause-cause : goal.returns-in_err-fire-clause-cause
returns-in_err-fire-clause-cause g t c = λ a follows now first fit.
    let u : Rules = rules_of g.P.Programs.meaning in
    let book = g.V.View.book in
    let old = book c.args.view.now in
    let here = book c.least_due.new.self in
    let at = c.args.at in
    let left = c.args.left in
    let some : left ≡ suc (left - 1) = omega (arith, c.if-left-eq0.false) in
    let sure = c.in_ok-due.ensures.goes_on (c.fire.ensures.kept.was_true now) first in
    let seen = c.in_ok-due.ensures.reads sure in
    let over = fit_over g.P.Programs.meaning old here c.args.seats.now seen.0 fit in
    let Refuses : Type 0 = g.V.View.refuses a c.fire.new.view in
    let Stuck : Type 0 = StuckFired g.P.Programs.meaning here c.in-Some.due in
    let Unfit : Type 0 = HasUnfit g.V.View.unfit here (fired u here at c.in-Some.due).changes in
    let StuckWithin : Type 0 = StuckFirings u at left old in
    let UnfitWithin : Type 0 = HasUnfit g.V.View.unfit old (firings u at left old).changes in
    let stuck : Stuck → StuckWithin = stuck_first u at left (left - 1) old some here c.in_ok-due.field-0 c.in-Some.due seen c.in-Some.is in
    let unfit : Unfit → UnfitWithin = unfit_first u at left (left - 1) old some here c.in_ok-due.field-0 c.in-Some.due seen c.in-Some.is g.V.View.unfit in
    let p = err_from_is_err_and c.from_residual-in_err-fire.result c.from_residual-in_err-fire.ensures.1 in
    rw (p.1, p.2) (caused_by c.in_err-fire.field-0.0 (Refuses ⊎ (Stuck ⊎ Unfit)) (Refuses ⊎ (StuckWithin ⊎ UnfitWithin)) (other_sides Refuses Stuck StuckWithin Unfit UnfitWithin stuck unfit)
    (c.in_err-fire.ensures.cause a (c.least_due.ensures.follows a follows) now sure over))

pub returns-in_err-more-clause-cause : goal.returns-in_err-more-clause-cause
returns-in_err-more-clause-cause g t c = λ a follows now first fit.
    let u : Rules = rules_of g.P.Programs.meaning in
    let book = g.V.View.book in
    let old = book c.args.view.now in
    let here = book c.least_due.new.self in
    let next = book c.fire.new.view in
    let at = c.args.at in
    let left = c.args.left in
    let some : left ≡ suc (left - 1) = omega (arith, c.if-left-eq0.false) in
    let was_true = c.fire_due.ensures.kept.was_true now in
    let sure = c.in_ok-due.ensures.goes_on (c.fire.ensures.kept.was_true was_true) first in
    let seen = c.in_ok-due.ensures.reads sure in
    let later = c.in_ok-fire.ensures.kept.goes_on was_true sure in
    let over = fit_over g.P.Programs.meaning old here c.args.seats.now seen.0 fit in
    let led = (c.in_ok-fire.ensures.adds later over).book_is in
    let Refuses : Type 0 = g.V.View.refuses a c.fire_due.new.view in
    let Stuck : Type 0 = StuckFirings u at (left - 1) next in
    let Unfit : Type 0 = HasUnfit g.V.View.unfit next (firings u at (left - 1) next).changes in
    let StuckWithin : Type 0 = StuckFirings u at left old in
    let UnfitWithin : Type 0 = HasUnfit g.V.View.unfit old (firings u at left old).changes in
    let stuck : Stuck → StuckWithin = stuck_later u at left (left - 1) old some here c.in_ok-due.field-0 c.in-Some.due seen c.in-Some.is next led in
    let unfit : Unfit → UnfitWithin = unfit_later u at left (left - 1) old some here c.in_ok-due.field-0 c.in-Some.due seen c.in-Some.is g.V.View.unfit next led in
    let p = err_from_is_err_and c.from_residual-in_err-more.result c.from_residual-in_err-more.ensures.1 in
    rw (p.1, p.2) (caused_by c.in_err-more.field-0.0 (Refuses ⊎ (Stuck ⊎ Unfit)) (Refuses ⊎ (StuckWithin ⊎ UnfitWithin)) (other_sides Refuses Stuck StuckWithin Unfit UnfitWithin stuck unfit)
    (c.in_err-more.ensures.cause a (c.fire.ensures.kept.follows a (c.least_due.ensures.follows a follows)) now later (c.in_ok-fire.ensures.fit later over)))

pub returns-in_err-more-clause-alike : goal.returns-in_err-more-clause-alike
returns-in_err-more-clause-alike g t c = alike_on c.args.seats.now c.fire.new.seats c.fire_due.new.seats c.fire.ensures.alike c.fire_due.ensures.alike

pub returns-clause-alike : goal.returns-clause-alike
returns-clause-alike g t c = alike_on c.args.seats.now c.fire.new.seats c.fire_due.new.seats c.fire.ensures.alike c.fire_due.ensures.alike
