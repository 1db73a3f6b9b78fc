use Rattle.sqlite.specs.Kind.TheVariants.{Integer}
use Rattle.flow_tables.proofs.Misreading.{column_misread}
use Rattle.flow_tables.proofs.rows.number_at.Goals as goal

pub returns-in-Err-clause-cause : goal.returns-in-Err-clause-cause
returns-in-Err-clause-cause c kinds is = (c.args.at, Integer, is, column_misread c.args.row.now c.args.at Integer c.in-Err.error c.from.result c.from.ensures c.in-Err.ensures.named c.in-Err.ensures.kind)
