use Rattle.flow_lines.proofs.Commands.{found, only, exactly}
use Rattle.flow_lines.proofs.command.command_of.Goals as goal

pub returns-clause-exact : goal.returns-clause-exact
returns-clause-exact c = exactly c.read_line.result c.args.line.now c.read_line.ensures.ok c.read_line.ensures.unfit

pub returns-clause-found : goal.returns-clause-found
returns-clause-found c = found c.read_line.result c.args.line.now c.read_line.ensures.ok

pub returns-clause-only : goal.returns-clause-only
returns-clause-only c x fits utf8 reads = only c.read_line.result c.args.line.now c.read_line.ensures.ok c.read_line.ensures.unfit x fits utf8 reads
