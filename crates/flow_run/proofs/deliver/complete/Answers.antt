use Rattle.std.proofs.Common.{subst}
use Rattle.flow_model.specs.Deliver.{target_of}
use Rattle.flow_run.specs.Waiting.{NoneOf, on_activity}
use Rattle.flow_run.specs.Whole.{shown_standing}
use Rattle.flow_run.proofs.Delivering.{no_target}
use Rattle.flow_run.proofs.Going.{no_completion}
use Rattle.flow_run.proofs.deliver.complete.Goals as goal

pub returns-in-None-clause-started : goal.returns-in-None-clause-started
returns-in-None-clause-started c =
    let run = c.args.run.now in
    let none = subst (NoneOf (on_activity c.args.n)) c.deref.ensures.value c.in-None.ensures in
    no_completion (shown_standing run) c.args.n c.args.v.now (target_of c.args.n (shown_standing run).rest) (no_target c.args.n run.table.lists.items run.cells.items none c.requires.whole.one)
