use Rattle.std.proofs.Common.{sym, ap, map, List}
use Rattle.flow_base.specs.Syntax.{activities_of}
use Rattle.flow_base.specs.Shown.{shown_program, shown_declaration}
use Rattle.flow_base.specs.declared.syntax.Declaration.{Declaration}
use Rattle.flow_run.specs.Shown.{shown_answers}
use Rattle.flow_plain.specs.Shown.{plain_configuration, shown_progress}
use Rattle.flow_plain.proofs.Turns.{turn_is, frame_is}
use Rattle.flow_plain.proofs.turn.made.Goals as goal

pub returns-in_ok-q-in-Some-clause-turn : goal.returns-in_ok-q-in-Some-clause-turn
returns-in_ok-q-in-Some-clause-turn c =
    let same = frame_is (shown_program c.args.program.now) (shown_answers c.args.answers) (plain_configuration c.args.run.now) c.args.at c.args.input.now (activities_of (map shown_declaration c.deref.result.now)) c.is_started.result (ap (λ (ds : List Declaration). activities_of (map shown_declaration ds)) c.deref.ensures.value) c.is_started.ensures in
    turn_is (shown_program c.args.program.now) (shown_answers c.args.answers) (plain_configuration c.args.run.now) c.args.at c.args.input.now
    (shown_progress c.in-Some.p) (shown_progress c.in_ok-q-in-Some.q) _ _ _ same
    (sym (rw c.in-Some.is at c.in_ok-deliver.ensures)) c.in_ok-q-in-Some.ensures c.left_by.ensures.commands c.left_by.ensures.run
