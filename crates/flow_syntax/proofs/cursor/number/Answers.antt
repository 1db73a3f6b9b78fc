use Rattle.std.proofs.Common.{◌≡◌, ◌∙◌, ap, rules, w64, to_z, of_z}
use Rattle.flow_model.specs.Lexeme.{lexeme, lexemes}
use Rattle.flow_model.specs.Grammar.{whole}
use Rattle.flow_syntax.proofs.ParsedPrograms.{number_read}
use Rattle.flow_syntax.proofs.cursor.number.Goals as goal

pub returns-in-Int-clause-ok : goal.returns-in-Int-clause-ok
returns-in-Int-clause-ok c =
    let same : to_z w64 (of_z w64 c.in-Int.number) ≡ c.in-Int.number = search rules in
    number_read (lexeme c.in-Some.first.now) c.in-Int.number c.whole.result (lexemes c.args.tokens.now) (lexemes c.in-Some.rest.now) c.in-Some.ensures.found c.in-Int.is (c.whole.ensures ∙ ap whole same)
