use Rattle.std.specs.Prelude.{◌<◌, ◌≤◌}
use Rattle.flow_maps.proofs.Names.{Some, subst, sym, ap, ◌∙◌, true≢false}
use Rattle.flow_maps.proofs.Slots.{none_in, none_due, later_due, first_due}
use Rattle.flow_maps.proofs.time_slots.first_due.Goals as goal

pub returns-in_default : goal.returns-in_default
returns-in_default c b h = none_due c.args.timers.now b c.args.at h (none_in c.args.timers.now (λ more. true≢false (sym (c.in_default.ensures.variant.1 more))))

pub returns-then-get-slot : goal.returns-then-get-slot
returns-then-get-slot c b h =
    later_due c.args.timers.now b c.args.at h c.in-Some.slot.now c.in-Some.ensures.least (subst (λ n. n < c.in-Some.slot.now.0) c.get.ensures.value c.if-get-slot.true)

pub returns-in-Some-due_of : goal.returns-in-Some-due_of
returns-in-Some-due_of c b h =
    ap Some c.in-Some-due_of.ensures ∙ first_due c.args.timers.now b c.args.at h c.in-Some.slot.now c.in-Some.ensures.least c.in-Some.ensures.member (subst (λ n. c.in-Some.slot.now.0 ≤ n) c.get.ensures.value c.if-get-slot.false)
