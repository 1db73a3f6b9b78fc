use Rattle.std.proofs.Common.{rules, ap, ◌∙◌}
use Rattle.std.specs.Vec.Iter.{into_iter_items}
use Rattle.flow_lines.specs.Answering.{lines_told}
use Rattle.flow_lines.specs.Ends.{is_output}
use Rattle.flow_lines.proofs.Batches.{telling_more, telling_stops}
use Rattle.flow_lines.proofs.drive.write_answers.Goals as goal

pub loop-is_command-preserved : goal.loop-is_command-preserved
loop-is_command-preserved g c =
    let next = c.in-Some.ensures.steps in
    let told = ap (λ ms. lines_told c.args.code ms (into_iter_items c.loop-is_command.left)) next.0 ∙ c.line_told.ensures (into_iter_items c.next.new.self) in
    (telling_more _ _ _ c.line_told.result _ _ _ _ _ told c.loop-is_command.invariant.0 c.in-Ok.ensures.all (search rules), c.in-Ok.ensures.output ∙ c.loop-is_command.invariant.1)

pub returns-in-Err-clause-stopped : goal.returns-in-Err-clause-stopped
returns-in-Err-clause-stopped g c =
    let next = c.in-Some.ensures.steps in
    let told = ap (λ ms. lines_told c.args.code ms (into_iter_items c.loop-is_command.left)) next.0 ∙ c.line_told.ensures (into_iter_items c.next.new.self) in
    telling_stops c.in-Err.fault _ _ _ c.line_told.result _ _ _ _ told c.loop-is_command.invariant.0 c.in-Err.ensures.stopped

pub returns-in-Err-clause-output : goal.returns-in-Err-clause-output
returns-in-Err-clause-output g c = c.in-Err.ensures.output ∙ ap (λ b. is_output c.in-Err.fault b) c.loop-is_command.invariant.1
