use Rattle.flow_base.specs.Shown.{shown_braced}
use Rattle.flow_run.specs.Shown.{shown_setting}
use Rattle.flow_plain.specs.Shown.{shown_store}
use Rattle.flow_plain.proofs.Deprecated.{deprecate_begins}
use Rattle.flow_plain.proofs.blocks.deprecate.Goals as goal

pub returns-clause-step : goal.returns-clause-step
returns-clause-step c =
    deprecate_begins (shown_setting c.args.s.now) (shown_store c.args.t.now) c.args.id.now (shown_braced c.in_ok-none.none) _ c.in_ok-none.ensures c.in_ok-moved.ensures.step
