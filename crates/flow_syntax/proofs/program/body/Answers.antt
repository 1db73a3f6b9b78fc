use Rattle.std.proofs.Common.{◌∙◌, ◌∷◌, map, arith}
use Rattle.std.proofs.lemmas.List.{map_push}
use Rattle.std.proofs.lemmas.Result.{err_from_is_err_and}
use Rattle.flow_base.specs.Shown.{shown_block, shown_declaration}
use Rattle.flow_model.specs.Lexeme.{lexemes}
use Rattle.flow_syntax.specs.Machine as m
use Rattle.flow_syntax.proofs.Parsed.{stops_in}
use Rattle.flow_syntax.proofs.ParsedPrograms.{body_more, body_is, body_ends}
use Rattle.flow_syntax.proofs.program.body.Goals as goal

pub loop-declarations-preserved : goal.loop-declarations-preserved
loop-declarations-preserved c =
    let d = rw c.in-Some.is at c.in_ok-found.ensures.ok in
    let shorter = rw c.in-Some.is at c.in_ok-found.ensures.shorter in
    record {
      shorter = omega (arith, shorter, c.loop-declarations.invariant.shorter);
      whole = rw (c.in_ok-push.ensures.items, map_push shown_declaration c.loop-declarations.declarations.items c.in-Some.found) (body_more (lexemes c.args.tokens.now) (lexemes c.loop-declarations.rest.now) (lexemes c.in-Some.next.now) (map shown_declaration c.loop-declarations.declarations.items) (shown_declaration c.in-Some.found) c.loop-declarations.invariant.whole d.0);
      machine = λ owed. c.loop-declarations.invariant.machine owed ∙ d.1 owed ∙ d.0.3 (m.body ∷ owed);
    }

pub returns-in_err-list-clause-err : goal.returns-in_err-list-clause-err
returns-in_err-list-clause-err c =
    let none = rw c.in_default.is at c.in_ok-found.ensures.ok in
    let p = err_from_is_err_and c.from_residual-in_err-list.result c.from_residual-in_err-list.ensures.1 in
    rw (p.1, p.2) (stops_in m.body m.statements (lexemes c.args.tokens.now) (lexemes c.loop-declarations.rest.now) (λ owed. owed) (λ owed. c.loop-declarations.invariant.machine owed ∙ body_is owed (lexemes c.loop-declarations.rest.now) none.0 none.1) c.in_err-list.field-0.0 c.in_err-list.ensures.err)

pub returns-clause-ok : goal.returns-clause-ok
returns-clause-ok c =
    let none = rw c.in_default.is at c.in_ok-found.ensures.ok in
    body_ends (lexemes c.args.tokens.now) (lexemes c.loop-declarations.rest.now) (lexemes c.in_ok-list.end.now) (map shown_declaration c.loop-declarations.declarations.items) (shown_block c.in_ok-list.list.value.items) c.in_ok-list.at c.loop-declarations.invariant.whole c.loop-declarations.invariant.machine none.0 none.1 c.in_ok-list.ensures.ok
