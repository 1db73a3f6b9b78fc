use Rattle.std.proofs.Common.{pos, ap, ◌∙◌}
use Rattle.flow_base.specs.declared.fault.Table.TheVariants as table
use Rattle.flow_rows.specs.Damages.{first_of, unless}
use Rattle.flow_rows.proofs.runs.run_damage.Goals as goal

pub returns : goal.returns
returns c = λ before has. c.damage_unless.ensures ∙ ap (λ b. first_of (unless b table.Run (pos c.args.n) (pos 0))) (c.run_fits-fits.ensures before has)
