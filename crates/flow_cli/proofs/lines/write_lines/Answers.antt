use Rattle.std.proofs.Common.{ap, ◌∙◌}
use Rattle.flow_lines.specs.Ends.{is_output}
use Rattle.flow_cli.proofs.LinesWritten.{one_more_line, part_of_line}
use Rattle.flow_cli.proofs.lines.write_lines.Goals as goal

pub loop-thing-preserved : goal.loop-thing-preserved
loop-thing-preserved g c =
    (one_more_line g.T.HasLine.text _ _ _ c.args.things.now c.loop-thing.thing-index c.thing-item.result c.loop-thing-test.true c.thing-item.is c.loop-thing.invariant.0 c.in-Ok.ensures.all, c.in-Ok.ensures.output ∙ c.loop-thing.invariant.1)

pub returns-in-Err-clause-beginning : goal.returns-in-Err-clause-beginning
returns-in-Err-clause-beginning g c =
    part_of_line g.T.HasLine.text c.in-Err.fault _ _ _ c.args.things.now c.loop-thing.thing-index c.thing-item.result c.loop-thing-test.true c.thing-item.is c.loop-thing.invariant.0 c.in-Err.ensures.stopped

pub returns-in-Err-clause-output : goal.returns-in-Err-clause-output
returns-in-Err-clause-output g c = c.in-Err.ensures.output ∙ ap (λ b. is_output c.in-Err.fault b) c.loop-thing.invariant.1
