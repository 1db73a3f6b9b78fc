use Rattle.std.proofs.Common.{rules, ◌≤◌, length, Some, None}
use Rattle.std.proofs.lemmas.Result.{IfErr-weaker}
use Rattle.flow_model.specs.Lexeme.{lexemes}
use Rattle.flow_model.specs.Tokens.{TokensOf}
use Rattle.flow_syntax.specs.Faults.{IsFault, IsParseFault}
use Rattle.flow_syntax.proofs.ParsedTexts.{fault_of_whole, program_of_tokens, no_program_before}
use Rattle.flow_syntax.proofs.parse.parse.Goals as goal

pub returns-in-None-clause-err : goal.returns-in-None-clause-err
returns-in-None-clause-err c =
    let short : length c.args.text.now ≤ 65536 = search rules in
    let read : TokensOf c.args.text.now c.deref.result.now None = search rules in
    IfErr-weaker c.parse_tokens.result (λ e. IsFault (lexemes c.deref.result.now) (length c.args.text.now) e) (λ e. IsParseFault c.args.text.now e) (λ e h. fault_of_whole c.args.text.now c.deref.result.now e short read h) (search rules)

pub returns-in-None-clause-only : goal.returns-in-None-clause-only
returns-in-None-clause-only c = λ p h.
    let tokens : TokensOf c.args.text.now c.deref.result.now None = search rules in
    let read = program_of_tokens c.args.text.now c.deref.result.now p tokens h in
    c.parse_tokens.ensures.only p read.0 read.1

pub returns-clause-only : goal.returns-clause-only
returns-clause-only c = λ p h.
    let tokens : TokensOf c.args.text.now c.deref-in-Some.result.now (Some c.in-Some.at) = search rules in
    absurd (no_program_before c.args.text.now c.deref-in-Some.result.now c.in-Some.at p tokens h)
