use Rattle.std.proofs.Common.{◌∙◌, ◌∷◌, ap, arith}
use Rattle.std.proofs.lemmas.Result.{err_from_is_err_and}
use Rattle.flow_base.specs.declared.token.Mark.TheVariants as mark
use Rattle.flow_model.specs.Lexeme.{lexemes}
use Rattle.flow_syntax.specs.Machine.{fault}
use Rattle.flow_syntax.specs.Machine as m
use Rattle.flow_syntax.proofs.Parsed.{stops_in}
use Rattle.flow_syntax.proofs.ParsedPrograms.{types_is, types_begin, types_more, no_types, types_close, more_types_is}
use Rattle.flow_syntax.proofs.program.types.Goals as goal

pub returns-in-Some-clause-ok : goal.returns-in-Some-clause-ok
returns-in-Some-clause-ok c = rw c.new-list.ensures.items (no_types c.in-Some.field-0-0 (lexemes c.args.tokens.now) (lexemes c.in-Some.end.now) c.in-Some.ensures.found)

pub returns-in_err-first-clause-err : goal.returns-in_err-first-clause-err
returns-in_err-first-clause-err c =
    let p = err_from_is_err_and c.from_residual.result c.from_residual.ensures.1 in
    rw (p.1, p.2) (stops_in m.types m.type_ (lexemes c.args.tokens.now) (lexemes c.args.tokens.now) (λ owed. m.more_types ∷ owed) (λ owed. types_is owed (lexemes c.args.tokens.now) c.in_default.ensures.found) c.in_err-first.field-0.0 c.in_err-first.ensures.err)

pub loop-after-init : goal.loop-after-init
loop-after-init c =
    record {
      shorter = c.in_ok-first.ensures.shorter;
      whole = rw (c.in_ok-push.ensures.items, c.new-list.ensures.items) (types_begin (lexemes c.args.tokens.now) (lexemes c.in_ok-first.rest.now) c.in_ok-first.first c.in_ok-first.ensures.ok);
      machine = λ owed. types_is owed (lexemes c.args.tokens.now) c.in_default.ensures.found ∙ c.in_ok-first.ensures.ok.3 (m.more_types ∷ owed);
    }

pub loop-after-preserved : goal.loop-after-preserved
loop-after-preserved c =
    record {
      shorter = omega (arith, c.in_ok-found.ensures.shorter, c.loop-after.invariant.shorter, c.in-Some-eat.ensures.shorter);
      whole = rw (c.in_ok-push-2.ensures.items) (types_more (lexemes c.args.tokens.now) (lexemes c.loop-after.rest.now) (lexemes c.in-Some-eat.after.now) (lexemes c.in_ok-found.next.now) c.in-Some-eat.field-0-0 c.loop-after.list.items c.in_ok-found.found c.loop-after.invariant.whole c.in-Some-eat.ensures.found c.in_ok-found.ensures.ok);
      machine = λ owed. c.loop-after.invariant.machine owed ∙ ap (fault (m.more_types ∷ owed)) c.in-Some-eat.ensures.found ∙ c.in_ok-found.ensures.ok.3 (m.more_types ∷ owed);
    }

pub returns-in_err-end-clause-err : goal.returns-in_err-end-clause-err
returns-in_err-end-clause-err c =
    let p = err_from_is_err_and c.from_residual-in_err-end.result c.from_residual-in_err-end.ensures.1 in
    rw (p.1, p.2) (stops_in m.types (m.sign mark.Close) (lexemes c.args.tokens.now) (lexemes c.loop-after.rest.now) (λ owed. owed) (λ owed. c.loop-after.invariant.machine owed ∙ more_types_is owed (lexemes c.loop-after.rest.now) c.in_default-eat.ensures.found) c.in_err-end.field-0.0 c.in_err-end.ensures.err)

pub returns-clause-ok : goal.returns-clause-ok
returns-clause-ok c = types_close c.in_ok-end.field-0-0 (lexemes c.args.tokens.now) (lexemes c.loop-after.rest.now) (lexemes c.in_ok-end.end.now) c.loop-after.list.items c.loop-after.invariant.whole c.loop-after.invariant.machine c.in_ok-end.ensures.ok
