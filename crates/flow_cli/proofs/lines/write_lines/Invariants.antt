-- The things before this one were written, and no write has failed since.
use Rattle.std.proofs.Common.{◌≡◌, take}
use Rattle.std.specs.Io.KnownBytes.{Appends}
use Rattle.flow_cli.specs.Lines.{lines_written}
use Rattle.flow_cli.proofs.lines.write_lines.Given as goal

abbrev pub invariant-loop-thing : goal.invariant-loop-thing
invariant-loop-thing g l =
    Appends (g.O.Output.contents l.fn.output) (g.O.Output.contents l.output) (lines_written g.T.HasLine.text (take l.thing-index l.things))
    × (g.O.Output.failed l.output ≡ g.O.Output.failed l.fn.output)
