-- The pages before this one were written, and the book is as it was.
use Rattle.std.proofs.Common.{◌≡◌}
use Rattle.flow_model.specs.Answers.{StopsSince}
use Rattle.flow_cli.proofs.Listings.{HasListed}
use Rattle.flow_cli.proofs.listing.tell_open.Given as goal

abbrev pub invariant-loop : goal.invariant-loop
invariant-loop g l = record {
  listed : g.E.Answering.is_sure l.engine → (g.E.Answering.book l.engine ≡ g.E.Answering.book l.fn.engine)
      × HasListed g.E.Answering.rules (g.E.Answering.book l.fn.engine) l.from l.counter (g.O.Output.contents l.fn.output) (g.O.Output.contents l.output);
  output : g.O.Output.failed l.output ≡ g.O.Output.failed l.fn.output;
  since : StopsSince g.E.Answering.stops l.fn.engine l.engine;
  sure : g.E.Answering.is_sure l.engine → g.E.Answering.is_sure l.fn.engine;
  follows : (a : g.row.E.Denot) → g.E.Answering.follows a l.fn.engine → g.E.Answering.follows a l.engine;
}
