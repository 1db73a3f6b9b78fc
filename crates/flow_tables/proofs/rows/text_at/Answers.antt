use Rattle.sqlite.specs.Kind.TheVariants.{Text}
use Rattle.flow_tables.proofs.Misreading.{column_misread}
use Rattle.flow_tables.proofs.rows.text_at.Goals as goal

pub returns-clause-cause : goal.returns-clause-cause
returns-clause-cause c kinds is = (c.args.at, Text, is, column_misread c.args.row.now c.args.at Text c.in-Err.error c.from-in-Err.result c.from-in-Err.ensures c.in-Err.ensures.named c.in-Err.ensures.kind)
