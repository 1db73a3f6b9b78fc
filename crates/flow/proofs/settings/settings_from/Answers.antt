use Rattle.std.proofs.Common.{inl, inr, ap, ◌∙◌}
use Rattle.flow_cli.specs.Reasons.{early_of}
use Rattle.flow.proofs.Causes.{bare_settings}
use Rattle.flow.proofs.settings.settings_from.Goals as goal

pub returns-in-Ok-clause-set : goal.returns-in-Ok-clause-set
returns-in-Ok-clause-set g c = record { found = c.text.result; read = c.text.ensures; gives = c.in-Ok.ensures.given }

pub returns-in-Err-BadSettings-clause-unset : goal.returns-in-Err-BadSettings-clause-unset
returns-in-Err-BadSettings-clause-unset g c = record {
  found = c.text.result;
  read = c.text.ensures;
  why = inr (c.in-Err-BadSettings.ensures.bad c.in-Err-BadSettings.field-0-is, c.no_settings.ensures);
}

pub returns-in-Err-clause-unset : goal.returns-in-Err-clause-unset
returns-in-Err-clause-unset g c = record {
  found = c.text.result;
  read = c.text.ensures;
  why = elim c.in-Err.ensures.among [
    | inl h ↦ inl (c.from.ensures ∙ ap early_of h)
    | inr h ↦ inr (c.in-Err.ensures.bad h, bare_settings c.args.file.now c.from.result (c.from.ensures ∙ ap early_of h))
  ];
}
