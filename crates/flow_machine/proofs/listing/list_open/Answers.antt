use Rattle.std.proofs.Common.{rules, ◌≡◌, ℕ, ◌+◌, List, take, sym, ap, subst}
use Rattle.std.specs.Prelude.{◌⊎◌, slice_get}
use Rattle.std.proofs.lemmas.Result.{err_from_is_err_and}
use Rattle.flow_base.specs.declared.book.Change.{Change}
use Rattle.flow_base.specs.declared.command.Reply.TheVariants as reply
use Rattle.flow_model.specs.Apply.{list_open}
use Rattle.flow_machine.specs.Deciding.{Decides}
use Rattle.flow_machine.specs.Listed.{StuckIn}
use Rattle.flow_machine.specs.Stuck.{StuckOpen}
use Rattle.flow_machine.proofs.Causes.{caused_by, other_side}
use Rattle.flow_machine.proofs.OpenRuns.{list_decides, list_stuck}
use Rattle.flow_machine.proofs.Taking.{fit_over}
use Rattle.flow_machine.proofs.listing.list_open.Goals as goal

pub returns-clause-decides : goal.returns-clause-decides
returns-clause-decides g c = λ sure fit.
    let m = g.P.Programs.meaning in
    let old = g.V.View.book c.args.view.now in
    let at = g.V.View.book c.open_runs.new.self in
    let new = g.V.View.book c.all_told.new.view in
    let from = c.args.from in
    let most = c.args.most in
    let numbers = c.in_ok-numbers.numbers.items in
    let cut = c.deref-2.result.now in
    let next = c.number_at-next.result in
    let runs = c.in_ok-runs.runs in
    let seen = c.in_ok-numbers.ensures.reads (c.all_told.ensures.kept.sure sure) in
    let up = ap (λ (n : ℕ). n + 1) c.get-count.ensures.value in
    let first : cut ≡ take most numbers = search rules in
    let behind : next ≡ slice_get numbers most = search rules in
    let told = c.in_ok-runs.ensures.told sure (fit_over m old at c.args.seats.now seen.0 fit) in
    subst (λ (cs : List Change). Decides old new (reply.Open runs next) cs (list_open m old from most)) (sym c.new.ensures.items)
    (list_decides m old at from most (c.get-count.result + 1) numbers cut up seen first new next runs behind told (c.in_ok-runs.ensures.same sure))

pub returns-in_err-runs-clause-cause : goal.returns-in_err-runs-clause-cause
returns-in_err-runs-clause-cause g c = λ a follows now first.
    let m = g.P.Programs.meaning in
    let old = g.V.View.book c.args.view.now in
    let at = g.V.View.book c.open_runs.new.self in
    let from = c.args.from in
    let most = c.args.most in
    let numbers = c.in_ok-numbers.numbers.items in
    let cut = c.deref-2.result.now in
    let sure = c.in_ok-numbers.ensures.goes_on (c.all_told.ensures.kept.was_true now) first in
    let seen = c.in_ok-numbers.ensures.reads sure in
    let up = ap (λ (n : ℕ). n + 1) c.get-count.ensures.value in
    let few : cut ≡ take most numbers = search rules in
    let Refuses : Type 0 = g.V.View.refuses a c.all_told.new.view in
    let Stuck : Type 0 = StuckIn m at cut in
    let Listed : Type 0 = StuckOpen m old from most in
    let stuck : Stuck → Listed = list_stuck m old at from most (c.get-count.result + 1) numbers cut up seen few in
    let e = err_from_is_err_and c.from_residual-in_err-runs.result c.from_residual-in_err-runs.ensures.1 in
    rw (e.1, e.2) (caused_by c.in_err-runs.field-0.0 (Refuses ⊎ Stuck) (Refuses ⊎ Listed) (other_side Refuses Stuck Listed stuck) (c.in_err-runs.ensures.cause a (c.open_runs.ensures.follows a follows) now sure))
