use Rattle.std.proofs.Common.{rules, arith, ◌≡◌, [], ◌∷◌, ◌++◌, ◌+◌, suc, length, drop, drop-cons, sym, ap, ◌∙◌}
use Rattle.std.specs.Prelude.{◌⊎◌}
use Rattle.std.proofs.lemmas.Result.{err_from_is_err_and}
use Rattle.flow_model.specs.Apply.{after, outcome, replies}
use Rattle.flow_machine.specs.Stuck.{IsStuck, IsStuckWithin}
use Rattle.flow_machine.specs.Fitting.{HasUnfit, IsUnfitWithin}
use Rattle.flow_machine.proofs.Causes.{caused_by}
use Rattle.flow_machine.proofs.OneMoreCommand.{led_on, stuck_on, told_on, unfit_on}
use Rattle.flow_rows.proofs.Recalls.{one_longer}
use Rattle.flow_machine.proofs.Sticking.{other_sides, stuck_here, unfit_here}
use Rattle.flow_commit.specs.Boards.{since_changes}
use Rattle.flow_commit.specs.Keeping.{rules as the_rules, commands_of}
use Rattle.flow_commit.proofs.Looking.{were_decided}
use Rattle.flow_commit.proofs.Shut.{shut_decided}
use Rattle.flow_machine.proofs.Seating.{alike_on}
use Rattle.flow_commit.proofs.deciding.decide_batch.Goals as goal

pub returns-in_err-reply-clause-cause : goal.returns-in_err-reply-clause-cause
returns-in_err-reply-clause-cause g c = λ a follows now first fits.
    let book = g.V.View.book in
    let ts = c.args.batch.now in
    let cs = commands_of ts in
    let i = c.loop-taken.taken-index in
    let at = c.loop-taken.view in
    let new = c.decide.new.view in
    let taken = c.taken-item.result in
    let rest = commands_of (drop (suc i) ts) in
    let cut : commands_of (drop i ts) ≡ taken.command ∷ rest = ap commands_of (drop-cons ts i taken c.loop-taken-test.true ∙ ap (λ x. x ∷ drop (suc i) ts) (sym c.taken-item.is)) in
    let sure = c.loop-taken.invariant.goes_on (c.decide.ensures.kept.was_true now) first in
    let Refuses : Type 0 = g.V.View.refuses a new in
    let Stuck : Type 0 = IsStuck the_rules (book at) taken.command in
    let Unfit : Type 0 = HasUnfit g.V.View.unfit (book at) (outcome the_rules (book at) taken.command).changes in
    let StuckWithin : Type 0 = IsStuckWithin the_rules (book c.args.view.now) cs in
    let UnfitWithin : Type 0 = IsUnfitWithin g.V.View.unfit the_rules (book c.args.view.now) cs in
    let stuck : Stuck → StuckWithin = λ h. c.loop-taken.invariant.stuck sure fits (stuck_here the_rules (book at) (commands_of (drop i ts)) taken.command rest cut h) in
    let unfit : Unfit → UnfitWithin = λ h. c.loop-taken.invariant.unfit sure fits (unfit_here g.V.View.unfit the_rules (book at) (commands_of (drop i ts)) taken.command rest cut h) in
    let p = err_from_is_err_and c.from_residual.result c.from_residual.ensures.1 in
    rw (p.1, p.2) (caused_by c.in_err-reply.field-0.0 (Refuses ⊎ (Stuck ⊎ Unfit)) (Refuses ⊎ (StuckWithin ⊎ UnfitWithin)) (other_sides Refuses Stuck StuckWithin Unfit UnfitWithin stuck unfit)
    (c.in_err-reply.ensures.cause a (c.loop-taken.invariant.follows a follows) now sure (c.loop-taken.invariant.fit sure fits)))

pub returns-in_err-push-clause-alike : goal.returns-in_err-push-clause-alike
returns-in_err-push-clause-alike g c = alike_on c.args.seats.now c.loop-taken.seats c.decide.new.seats c.loop-taken.invariant.alike c.decide.ensures.alike

pub returns-in_err-reply-clause-alike : goal.returns-in_err-reply-clause-alike
returns-in_err-reply-clause-alike g c = alike_on c.args.seats.now c.loop-taken.seats c.decide.new.seats c.loop-taken.invariant.alike c.decide.ensures.alike

pub returns-in_err-add_shut-clause-alike : goal.returns-in_err-add_shut-clause-alike
returns-in_err-add_shut-clause-alike g c = alike_on c.args.seats.now c.loop-taken.seats c.decide.new.seats c.loop-taken.invariant.alike c.decide.ensures.alike

pub loop-taken-preserved : goal.loop-taken-preserved
loop-taken-preserved g c =
    let book = g.V.View.book in
    let ts = c.args.batch.now in
    let i = c.loop-taken.taken-index in
    let old = book c.args.view.now in
    let at = book c.loop-taken.view in
    let new = book c.decide.new.view in
    let taken = c.taken-item.result in
    let left = commands_of (drop i ts) in
    let rest = commands_of (drop (i + 1) ts) in
    let more : suc i ≡ i + 1 = omega arith in
    let cut_ts : drop i ts ≡ taken ∷ drop (i + 1) ts = drop-cons ts i taken c.loop-taken-test.true ∙ ap (λ x. x ∷ drop (suc i) ts) (sym c.taken-item.is) ∙ ap (λ n. taken ∷ drop n ts) more in
    let cut : left ≡ taken.command ∷ rest = ap commands_of cut_ts in
    let reply = c.in_ok-reply.reply in
    let changes = c.in_ok-reply.changes.items in
    let before = c.loop-taken.replies.items in
    let pushed : c.push.new.self.items ≡ before ++ reply ∷ [] = search rules in
    let many : length c.push.new.self.items ≡ length before + 1 = ap length pushed ∙ one_longer before reply in
    let shorter : length (drop i ts) ≡ suc (length (drop (i + 1) ts)) = ap length cut_ts in
    let was = c.loop-taken.invariant in
    let counted = was.counted in
    let sure_at = c.decide.ensures.kept.sure in
    record {
      told = λ sure fit. told_on the_rules at new left taken.command rest cut reply changes (c.in_ok-reply.ensures.decides sure (was.fit (sure_at sure) fit)) (replies the_rules old (commands_of ts)) before c.push.new.self.items pushed (was.told (sure_at sure) fit);
      rest = λ sure fit. led_on the_rules at new left taken.command rest cut reply changes (c.in_ok-reply.ensures.decides sure (was.fit (sure_at sure) fit)) (after the_rules old (commands_of ts)) (was.rest (sure_at sure) fit);
      fit = λ sure fit. c.in_ok-reply.ensures.fit sure (was.fit (sure_at sure) fit);
      since = λ sure fit posted were.
          let decides = c.in_ok-reply.ensures.decides sure (was.fit (sure_at sure) fit) in
          let next : c.since_changes.result ≡ since_changes c.loop-taken.since changes = search rules in
          were_decided posted at new reply changes (outcome the_rules at taken.command) c.loop-taken.since c.since_changes.result decides next (was.since (sure_at sure) fit posted were);
      shut = λ sure fit has.
          let decides = c.in_ok-reply.ensures.decides sure (was.fit (sure_at sure) fit) in
          shut_decided the_rules c.loop-taken.closed.items c.add_shut.new.list.items at new reply changes taken.command decides (search rules) (was.shut (sure_at sure) fit has);
      alike = alike_on c.args.seats.now c.loop-taken.seats c.decide.new.seats was.alike c.decide.ensures.alike;
      counted = omega (arith, many, shorter, counted);
      stuck = λ sure fit h. was.stuck (sure_at sure) fit (stuck_on the_rules at new left taken.command rest cut reply changes (c.in_ok-reply.ensures.decides sure (was.fit (sure_at sure) fit)) h);
      unfit = λ sure fit h. was.unfit (sure_at sure) fit (unfit_on the_rules at new left taken.command rest cut reply changes (c.in_ok-reply.ensures.decides sure (was.fit (sure_at sure) fit)) g.V.View.unfit h);
      goes_on = λ now first. c.in_ok-reply.ensures.kept.goes_on now (was.goes_on (c.decide.ensures.kept.was_true now) first);
      sure = λ sure. was.sure (sure_at sure);
      was_true = λ now. was.was_true (c.decide.ensures.kept.was_true now);
      follows = λ a follows. c.decide.ensures.kept.follows a (was.follows a follows);
    }
