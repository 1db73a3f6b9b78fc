use Rattle.flow_base.specs.Shown.{shown_stmt}
use Rattle.flow_syntax.proofs.Printing.{none_shown}
use Rattle.flow_syntax.proofs.print_statement.has_none.Goals as goal

pub returns : goal.returns
returns c = none_shown shown_stmt c.args.list.now
