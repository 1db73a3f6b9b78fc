use Rattle.flow_lines.proofs.Asks.{exactly_asked}
use Rattle.flow_lines.proofs.ask.asked_of.Goals as goal

pub returns : goal.returns
returns c = record { exact = exactly_asked c.read_line.result c.args.line.now c.read_line.ensures.ok c.read_line.ensures.unfit }
