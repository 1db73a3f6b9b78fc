use Rattle.flow_model.specs.Lexeme.{lexemes}
use Rattle.flow_syntax.proofs.Faults.{fault_before_bad}
use Rattle.flow_syntax.proofs.parse.fault_before.Goals as goal

pub returns-in-None : goal.returns-in-None
returns-in-None c = fault_before_bad (lexemes c.args.tokens.now) c.args.at c.first_fault.result c.in-None.ensures c.first_fault.ensures
