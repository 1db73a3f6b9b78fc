use Rattle.flow_base.specs.Shown.{shown_program}
use Rattle.flow_model.specs.Lexeme.{lexemes}
use Rattle.flow_syntax.proofs.Faults.{cut_passes, memory_alone, fault_without_cut}
use Rattle.flow_syntax.proofs.Unique.{one_program}
use Rattle.flow_syntax.proofs.parse.parse_tokens.Goals as goal

pub returns-in-Some-clause-only : goal.returns-in-Some-clause-only
returns-in-Some-clause-only c = λ p r w. absurd (cut_passes (lexemes c.args.tokens.now) c.in-Some.at c.in-Some.left c.in-Some.ensures w)

pub returns-in-Ok-clause-only : goal.returns-in-Ok-clause-only
returns-in-Ok-clause-only c = λ p r w. one_program (lexemes c.args.tokens.now) (shown_program c.in-Ok.program) p c.in-Ok.ensures.ok r

pub returns-in-Err-clause-only : goal.returns-in-Err-clause-only
returns-in-Err-clause-only c = λ p r w. memory_alone (lexemes c.args.tokens.now) p _ _ r c.fault_of.ensures

pub returns-in-Err-clause-err : goal.returns-in-Err-clause-err
returns-in-Err-clause-err c = fault_without_cut (lexemes c.args.tokens.now) c.args.end _ c.in_default.ensures c.fault_of.ensures
