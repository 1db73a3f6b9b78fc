use Rattle.std.proofs.Common.{◌≡◌, ◌∷◌, ◌++◌, ◌∙◌, [], ap, refl, rules}
use Rattle.flow_base.specs.declared.event.State.TheVariants.{Open}
use Rattle.flow_base.specs.Effects.{state_by}
use Rattle.flow_model.specs.Turn.{state_after_command}
use Rattle.flow_run.specs.Position.{shown_progress}
use Rattle.flow_run.specs.Whole.{is_unbegun}
use Rattle.flow_run.proofs.Copied.{whole_none}
use Rattle.flow_run.proofs.Turning.{begun_after, ended_is}
use Rattle.flow_run.proofs.turn.ends.Goals as goal

pub returns-clause-ends : goal.returns-clause-ends
returns-clause-ends c =
    let p = c.args.p.now in
    let none : c.new.result.items ≡ [] = search rules in
    let asked : c.push.new.self.items ≡ p.asked.items ++ c.args.c ∷ [] = search rules in
    let state : c.leaves-p.result ≡ state_after_command c.args.c = c.leaves-p.ensures ∙ ap (state_by Open) c.effect_of_command.ensures in
    λ ls. ended_is ls c.new.result.items p.store c.push.new.self.items c.leaves-p.result (shown_progress ls p) c.args.c none refl asked state

pub returns-clause-whole : goal.returns-clause-whole
returns-clause-whole c =
    let none : c.new.result.items ≡ [] = search rules in
    let state : c.leaves-p.result ≡ state_after_command c.args.c = c.leaves-p.ensures ∙ ap (state_by Open) c.effect_of_command.ensures in
    λ ls. whole_none ls c.new.result.items c.leaves-p.result none (ap is_unbegun state ∙ begun_after c.args.c)
