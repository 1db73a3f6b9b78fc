-- Lines were put to the batch behind its first.
use Rattle.std.proofs.Common.{◌≡◌, ◌≤◌, ◌+◌, ◌∷◌, [], true, length}
use Rattle.flow_lines.specs.Answering.{EndsFull, Gathered}
use Rattle.flow_lines.specs.Ends.{Gives}
use Rattle.flow_lines.proofs.batch.gather.Given as goal

abbrev pub invariant-loop : goal.invariant-loop
invariant-loop g l = record {
  gathered : Gathered (l.fn.first ∷ []) l.begun.commands.items (true ∷ []) l.begun.marks.items (g.I.LineSource.left l.fn.input) (g.I.LineSource.left l.input);
  some : 1 ≤ length l.begun.commands.items;
  few : length l.begun.commands.items ≤ l.most;
  ends : EndsFull l.most l.begun.commands.items l.begun.marks.items;
  counted : length l.begun.marks.items ≡ l.counter + 1;
  given : Gives 0 (g.I.LineSource.given l.fn.input) (g.I.LineSource.given l.input);
  failed : g.I.LineSource.failed l.input ≡ g.I.LineSource.failed l.fn.input;
}
