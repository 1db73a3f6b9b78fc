use Rattle.std.proofs.Common.{inl, inr, rules, subst, string_bytes}
use Rattle.flow_cli.specs.Telling.{Tells}
use Rattle.flow.specs.Telling.{tells_safety}
use Rattle.flow.proofs.texts.safe.Goals as goal

pub returns-in_err-new : goal.returns-in_err-new
returns-in_err-new g c = inl (record { text = c.in_ok-old.old; read = c.in_ok-old.ensures.read; did = inr (search rules) })

pub returns : goal.returns
returns g c =
    let told = subst (λ t. Tells g.O.Output g.P.Output (tells_safety t c.as_str-2.result.now) c.args.output.now c.tell_safety.new.output c.args.errors.now c.tell_safety.new.errors c.tell_safety.result) c.as_str.ensures.value c.tell_safety.ensures.tells in
    inl (record {
      text = c.in_ok-old.old;
      read = c.in_ok-old.ensures.read;
      did = inl (record {
        text = c.in_ok-new.new;
        read = c.in_ok-new.ensures.read;
        did = record {
          told = c.tell_safety.result;
          did = subst (λ t. Tells g.O.Output g.P.Output (tells_safety (string_bytes c.in_ok-old.old) t) c.args.output.now c.tell_safety.new.output c.args.errors.now c.tell_safety.new.errors c.tell_safety.result) c.as_str-2.ensures.value told;
          is = c.early.ensures;
        };
      });
    })
