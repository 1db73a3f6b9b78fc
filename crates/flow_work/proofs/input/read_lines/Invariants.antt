use Rattle.std.proofs.Common.{◌≡◌, ◌++◌, List}
use Rattle.std.specs.List.{AllByRecursion}
use Rattle.flow_work.specs.declared.input.InputMessage.{InputMessage}
use Rattle.flow_work.specs.Inputs.{IsALine, Reads}
use Rattle.flow_work.proofs.input.read_lines.Given as goal

abbrev pub invariant-lines : goal.invariant-lines
invariant-lines g l =
    (goal.iterator-lines g).can_next l.iterator' × (goal.iterator-lines g).is_finite l.iterator'
    × ((lines : List InputMessage) × AllByRecursion IsALine lines × Reads (g.I.Read.remaining l.initial.reader) lines (g.I.Read.remaining l.reader) × (g.T.Taking.taken l.taking ≡ g.T.Taking.taken l.initial.taking ++ lines))
