use Rattle.flow_model.specs.Lexeme.{lexemes}
use Rattle.flow_syntax.proofs.Faults.{read_first, fault_first}
use Rattle.flow_syntax.proofs.parse.first_fault.Goals as goal
use Rattle.flow_syntax.proofs.parse.first_fault.Goals.{in-Ok, in-Err}

pub returns : goal.returns
returns c =
    elim c.match-program.branch [
      | in-Ok w ↦ rw w.result-is (read_first (lexemes c.args.tokens.now) _ c.args.behind w.in-Ok.ensures.ok)
      | in-Err w ↦ rw w.result-is (fault_first (lexemes c.args.tokens.now) c.args.behind _ w.fault_of.ensures)
    ]
