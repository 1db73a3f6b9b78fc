use Rattle.std.proofs.Common.{◌≡◌, IfSome}
use Rattle.flow_lines.specs.Answering.{Answered, HasFew, IsFull, OfBatch, SomeAnswered, StatusWithin}
use Rattle.flow_lines.specs.Counting.{IsCounted}
use Rattle.flow_lines.specs.Ends.{Gives}
use Rattle.flow_model.specs.Answers.{StopsSince}
use Rattle.flow_lines.proofs.drive.drive_lines.Given as goal

abbrev pub invariant-loop : goal.invariant-loop
invariant-loop g l = record {
  answered : g.E.Answering.is_sure l.engine → IfSome (g.I.LineSource.left l.fn.input) (λ bytes. Answered g.E.Answering.rules (OfBatch l.most (g.E.Answering.gives_up l.fn.engine l.engine)) (IsCounted g.E.Answering l.fn.engine l.engine) (IsFull l.most) (g.E.Answering.book l.fn.engine) (g.E.Answering.book l.engine) bytes (g.I.LineSource.left l.input) (g.O.Output.contents l.fn.output) (g.O.Output.contents l.output) l.status);
  lines : g.E.Answering.is_sure l.engine → SomeAnswered g.E.Answering.rules (OfBatch l.most (g.E.Answering.gives_up l.fn.engine l.engine)) (IsCounted g.E.Answering l.fn.engine l.engine) (HasFew l.most) (g.E.Answering.book l.fn.engine) (g.E.Answering.book l.engine) l.counter (g.O.Output.contents l.fn.output) (g.O.Output.contents l.output) l.status;
  within : StatusWithin (OfBatch l.most (g.E.Answering.gives_up l.fn.engine l.engine)) l.status;
  given : Gives l.counter (g.I.LineSource.given l.fn.input) (g.I.LineSource.given l.input);
  input : g.I.LineSource.failed l.input ≡ g.I.LineSource.failed l.fn.input;
  output : g.O.Output.failed l.output ≡ g.O.Output.failed l.fn.output;
  since : StopsSince g.E.Answering.stops l.fn.engine l.engine;
  sure : g.E.Answering.is_sure l.engine → g.E.Answering.is_sure l.fn.engine;
  follows : (a : g.row.E.Denot) → g.E.Answering.follows a l.fn.engine → g.E.Answering.follows a l.engine;
}
