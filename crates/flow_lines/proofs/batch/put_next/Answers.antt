use Rattle.flow_lines.proofs.Batches.{ended_left, ends_next, one_gathered, one_more_command}
use Rattle.flow_lines.proofs.batch.put_next.Goals as goal

pub returns-in-Ok-clause-gathered : goal.returns-in-Ok-clause-gathered
returns-in-Ok-clause-gathered g c =
    let first = rw c.in-Ok-Some.field-0-is at c.in-Ok-Some.ensures.line in
    one_gathered _ _ _ _ _ _ _ c.as_slice.result.now first c.as_slice.ensures.value c.in-Ok.ensures.commands c.in-Ok.ensures.marks

pub returns-in-Ok-clause-more : goal.returns-in-Ok-clause-more
returns-in-Ok-clause-more g c = one_more_command _ _ c.as_slice.result.now c.in-Ok.ensures.commands

pub returns-in-Ok-clause-last : goal.returns-in-Ok-clause-last
returns-in-Ok-clause-last g c = ends_next _ _ _ _ c.as_slice.result.now c.in-Ok.ensures.commands c.in-Ok.ensures.marks
