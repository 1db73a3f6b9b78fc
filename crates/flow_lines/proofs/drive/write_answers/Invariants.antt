-- The answers to the lines before were written, and no write has failed since.
use Rattle.std.proofs.Common.{◌≡◌}
use Rattle.std.specs.Vec.Iter.{into_iter_items}
use Rattle.flow_lines.specs.Answering.{lines_told}
use Rattle.flow_lines.proofs.Batches.{Telling}
use Rattle.flow_lines.proofs.drive.write_answers.Given as goal

abbrev pub invariant-loop-is_command : goal.invariant-loop-is_command
invariant-loop-is_command g l =
    Telling (lines_told l.fn.code l.fn.marks.items l.fn.replies.items) (lines_told l.code (into_iter_items l.is_command-iterator) (into_iter_items l.left))
    (g.O.Output.contents l.fn.output) (g.O.Output.contents l.output) l.status
    × (g.O.Output.failed l.output ≡ g.O.Output.failed l.fn.output)
