use Rattle.flow_base.specs.Shown.{shown_program}
use Rattle.flow_run.specs.Shown.{shown_answers}
use Rattle.flow_plain.specs.Shown.{plain_configuration}
use Rattle.flow_model.proofs.Positions.{turn_computed}
use Rattle.flow_plain.proofs.plain.plain_turn.Goals as goal

pub returns-in-Ok-Some-clause-computed : goal.returns-in-Ok-Some-clause-computed
returns-in-Ok-Some-clause-computed c =
    turn_computed (shown_program c.args.program.now) (shown_answers c.args.answers) (plain_configuration c.args.run.now) c.args.at c.args.input.now c.in-Ok-Some.commands.items (plain_configuration c.in-Ok-Some.next) (rw c.in-Ok-Some.field-0-is at c.in-Ok-Some.ensures.turn)
