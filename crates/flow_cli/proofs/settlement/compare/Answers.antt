use Rattle.std.proofs.Common.{ap, ◌∙◌}
use Rattle.flow_model.specs.Checked.{shown_checked}
use Rattle.flow_cli.specs.declared.settlement.Settlement.TheVariants as settlement
use Rattle.flow_cli.proofs.Settlements.{settled_told, differs_told}
use Rattle.flow_cli.proofs.settlement.compare.Goals as goal

pub returns-in-Ok-clause-settlement : goal.returns-in-Ok-clause-settlement
returns-in-Ok-clause-settlement c =
    ap settlement.Settles (c.from_vec.ensures ∙ c.in-Ok.ensures.ids) ∙ settled_told (shown_checked c.args.old.now) (shown_checked c.args.new.now) c.in-Ok.ensures.same

pub returns-in-Err-Differs-clause-settlement : goal.returns-in-Err-Differs-clause-settlement
returns-in-Err-Differs-clause-settlement c =
    let says = rw c.in-Err-Differs.field-0-is at c.in-Err-Differs.ensures.refused in
    differs_told (shown_checked c.args.old.now) (shown_checked c.args.new.now) c.in-Err-Differs.difference says.0 says.1.0
