use Rattle.std.proofs.Common.{map}
use Rattle.flow_base.specs.Shown.{shown_expr}
use Rattle.flow_model.specs.Lexeme.{lexemes}
use Rattle.flow_syntax.proofs.ParsedPrograms.{continue_parsed}
use Rattle.flow_syntax.proofs.ParsedShown.{shown_continue}
use Rattle.flow_syntax.proofs.statement.continue_statement.Goals as goal

pub returns-clause-ok : goal.returns-clause-ok
returns-clause-ok c = rw (shown_continue c.args.at c.in_ok-list.list) (continue_parsed c.args.at c.in_ok-after_as.field-0-0 c.in_ok-after_new.field-0-0 c.in_ok-after_open.field-0-0 c.in_ok-end.field-0-0 (lexemes c.args.tokens.now) (lexemes c.in_ok-after_as.after_as.now) (lexemes c.in_ok-after_new.after_new.now) (lexemes c.in_ok-after_open.after_open.now) (lexemes c.in_ok-list.after.now) (lexemes c.in_ok-end.end.now) (map shown_expr c.in_ok-list.list.items) c.in_ok-after_as.ensures.ok c.in_ok-after_new.ensures.ok c.in_ok-after_open.ensures.ok c.in_ok-list.ensures.ok c.in_ok-end.ensures.ok)
