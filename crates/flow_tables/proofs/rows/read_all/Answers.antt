use Rattle.std.proofs.Common.{sym}
use Rattle.std.proofs.lemmas.Result.{err_from_is_err_and}
use Rattle.flow_tables.specs.Reads.{AreMisread}
use Rattle.flow_tables.proofs.Misreading.{misread_at}
use Rattle.flow_tables.proofs.rows.read_all.Goals as goal

pub returns-in_err-value-clause-cause : goal.returns-in_err-value-clause-cause
returns-in_err-value-clause-cause g c =
    let kinds = g.T.Said.kinds in
    let rows = c.args.rows.now in
    let f = c.in_err-value.field-0.0 in
    let p = err_from_is_err_and c.from_residual.result c.from_residual.ensures.1 in
    let why : AreMisread kinds rows f = misread_at kinds rows c.loop-row.row-index c.row-item.result f c.loop-row-test.true (sym c.row-item.is) c.in_err-value.ensures.cause in
    rw (p.1, p.2) why
