use Rattle.std.proofs.Common.{inl, subst}
use Rattle.flow_cli.specs.Telling.{Tells}
use Rattle.flow.specs.Telling.{tells_verdict}
use Rattle.flow.proofs.texts.check.Goals as goal

pub returns : goal.returns
returns g c = inl (record {
  text = c.in_ok-text.text;
  read = c.in_ok-text.ensures.read;
  did = record {
    told = c.tell_verdict.result;
    did = subst (λ t. Tells g.O.Output g.P.Output (tells_verdict t) c.args.output.now c.tell_verdict.new.output c.args.errors.now c.tell_verdict.new.errors c.tell_verdict.result) c.as_str.ensures.value c.tell_verdict.ensures;
    is = c.early.ensures;
  };
})
