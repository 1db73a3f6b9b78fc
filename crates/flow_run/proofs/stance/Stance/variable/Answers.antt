use Rattle.std.proofs.Common.{◌≡◌, Option, None, Some, subst, sym}
use Rattle.std.specs.Prelude.{MatchOption}
use Rattle.flow_values.specs.Slots.{slot_of}
use Rattle.flow_run.specs.Position.{config_of, shown_begun}
use Rattle.flow_run.specs.declared.standing.Standing.{Standing}
use Rattle.flow_run.proofs.stance.Stance.variable.Goals as goal

pub returns-in-Some : goal.returns-in-Some
unfolding config_of
returns-in-Some c =
    subst (λ (o : Option Standing). MatchOption c.find.result ((shown_begun o).variables c.args.name.now ≡ None) (λ v. (shown_begun o).variables c.args.name.now ≡ Some v.now)) (sym c.in-Some.is)
    (subst (λ (r : Standing). MatchOption c.find.result (slot_of r.variables c.args.name.now ≡ None) (λ v. slot_of r.variables c.args.name.now ≡ Some v.now)) c.get.ensures.same c.find.ensures)
