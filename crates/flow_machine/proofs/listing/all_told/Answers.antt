use Rattle.std.proofs.Common.{rules, ◌≡◌, ◌+◌, [], ◌∷◌, ◌++◌, drop, refl, sym, ap, ◌∙◌, subst, inl, inr}
use Rattle.std.specs.Prelude.{◌⊎◌}
use Rattle.std.proofs.lemmas.List.{drop_all}
use Rattle.std.proofs.lemmas.Result.{err_from_is_err_and}
use Rattle.flow_model.specs.Book.{Book}
use Rattle.flow_machine.specs.Listed.{StuckAt, StuckIn, told_at, told_in}
use Rattle.flow_machine.specs.Seated.{FitSeats}
use Rattle.flow_machine.proofs.Causes.{caused_by, other_side}
use Rattle.flow_machine.proofs.OpenRuns.{all_done, cut_at, fit_less, put_more}
use Rattle.flow_machine.proofs.Seating.{alike_on}
use Rattle.flow_machine.proofs.listing.all_told.Goals as goal

pub loop-number-preserved : goal.loop-number-preserved
loop-number-preserved g c =
    let m = g.P.Programs.meaning in
    let old = g.V.View.book c.args.view.now in
    let at = g.V.View.book c.loop-number.view in
    let numbers = c.args.numbers.now in
    let i = c.loop-number.number-index in
    let number = c.number-item.result in
    let rest = drop (i + 1) numbers in
    let cut = cut_at numbers i number c.loop-number-test.true c.number-item.is in
    let was = c.loop-number.invariant in
    let before = c.loop-number.list.items in
    let run = c.in_ok-run.run' in
    let pushed : c.push.new.self.items ≡ before ++ run ∷ [] = search rules in
    let sure_at = c.told.ensures.called.sure in
    record {
      same = λ sure. c.in_ok-run.ensures.same sure ∙ was.same (sure_at sure);
      told = λ sure fit.
          let same = was.same (sure_at sure) in
          let less = fit_less m old c.args.seats.now c.loop-number.seats fit was.alike was.ahead in
          let here : FitSeats m at c.loop-number.seats = subst (λ (b : Book). FitSeats m b c.loop-number.seats) (sym same) less in
          let one : told_at m old number ≡ run ∷ [] = subst (λ (b : Book). told_at m b number ≡ run ∷ []) same (c.in_ok-run.ensures.told sure here) in
          put_more (told_in m old) (told_at m old) (λ x xs. refl) (told_in m old numbers) (drop i numbers) number rest before c.push.new.self.items cut (was.told (sure_at sure) fit)
          (pushed ∙ ap (λ l. before ++ l) (sym one));
      stuck = λ h. was.stuck (subst (StuckIn m old) (sym cut) (inr h));
      ahead = c.told.ensures.ahead ∙ was.ahead;
      alike = alike_on c.args.seats.now c.loop-number.seats c.told.new.seats was.alike c.told.ensures.alike;
      goes_on = λ now first. c.in_ok-run.ensures.called.goes_on now (was.goes_on (c.told.ensures.called.was_true now) first);
      sure = λ sure. was.sure (sure_at sure);
      was_true = λ now. was.was_true (c.told.ensures.called.was_true now);
      follows = λ a follows. c.told.ensures.called.follows a (was.follows a follows);
    }

pub returns-clause-told : goal.returns-clause-told
returns-clause-told g c = λ sure fit.
    let m = g.P.Programs.meaning in
    let old = g.V.View.book c.args.view.now in
    let numbers = c.args.numbers.now in
    let i = c.loop-number.number-index in
    let listed : c.from_vec.result ≡ c.loop-number.list.items = search rules in
    listed ∙ all_done (told_in m old) refl (told_in m old numbers) numbers i c.loop-number.list.items (drop_all i numbers c.loop-number-test.false) (c.loop-number.invariant.told sure fit)

pub returns-in_err-run-clause-cause : goal.returns-in_err-run-clause-cause
returns-in_err-run-clause-cause g c = λ a follows now first.
    let m = g.P.Programs.meaning in
    let old = g.V.View.book c.args.view.now in
    let at = g.V.View.book c.loop-number.view in
    let numbers = c.args.numbers.now in
    let i = c.loop-number.number-index in
    let number = c.number-item.result in
    let was = c.loop-number.invariant in
    let cut = cut_at numbers i number c.loop-number-test.true c.number-item.is in
    let sure = was.goes_on (c.told.ensures.called.was_true now) first in
    let Refuses : Type 0 = g.V.View.refuses a c.told.new.view in
    let Stuck : Type 0 = StuckAt m at number in
    let StuckWithin : Type 0 = StuckIn m old numbers in
    let stuck : Stuck → StuckWithin = λ h. was.stuck (subst (StuckIn m old) (sym cut) (inl (subst (λ (b : Book). StuckAt m b number) (was.same sure) h))) in
    let p = err_from_is_err_and c.from_residual.result c.from_residual.ensures.1 in
    rw (p.1, p.2) (caused_by c.in_err-run.field-0.0 (Refuses ⊎ Stuck) (Refuses ⊎ StuckWithin) (other_side Refuses Stuck StuckWithin stuck) (c.in_err-run.ensures.called.cause a (was.follows a follows) now sure))

pub returns-in_err-run-clause-alike : goal.returns-in_err-run-clause-alike
returns-in_err-run-clause-alike g c = alike_on c.args.seats.now c.loop-number.seats c.told.new.seats c.loop-number.invariant.alike c.told.ensures.alike

pub returns-in_err-push-clause-alike : goal.returns-in_err-push-clause-alike
returns-in_err-push-clause-alike g c = alike_on c.args.seats.now c.loop-number.seats c.told.new.seats c.loop-number.invariant.alike c.told.ensures.alike
