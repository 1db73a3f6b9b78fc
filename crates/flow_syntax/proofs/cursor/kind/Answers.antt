use Rattle.flow_model.specs.Lexeme.{lexemes}
use Rattle.flow_syntax.proofs.ParsedPrograms.{int_read, text_read}
use Rattle.flow_syntax.proofs.cursor.kind.Goals as goal

pub returns-in-Int-clause-ok : goal.returns-in-Int-clause-ok
returns-in-Int-clause-ok c = int_read c.in-Some.at c.in-Some.found (lexemes c.args.tokens.now) (lexemes c.in-Some.rest.now) c.in-Some.ensures.found c.in-Int.is

pub returns-in-Text-clause-ok : goal.returns-in-Text-clause-ok
returns-in-Text-clause-ok c = text_read c.in-Some.at c.in-Some.found (lexemes c.args.tokens.now) (lexemes c.in-Some.rest.now) c.in-Some.ensures.found c.in-Text.is
