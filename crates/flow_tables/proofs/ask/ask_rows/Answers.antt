use Rattle.flow_tables.proofs.Names.{subst, sym}
use Rattle.flow_sql.specs.Layout.{read_sql}
use Rattle.flow_tables.specs.Reads.{IsReadFault}
use Rattle.flow_tables.proofs.Stopping.{fault_told}
use Rattle.std.proofs.lemmas.Result.{IfOk-weaker}
use Rattle.flow_tables.proofs.ask.ask_rows.Goals as goal

pub returns-in-Err-clause-cause : goal.returns-in-Err-clause-cause
returns-in-Err-clause-cause g c clean =
    let asks = g.Q.Question.asks c.args.question.now in
    subst (IsReadFault g.Q.Item.Said.kinds (read_sql asks.read) asks.params _ _) (sym c.from.ensures) (fault_told g.Q.Item.Said.kinds (read_sql asks.read) asks.params _ _ c.in-Err.error (c.in-Err.ensures.err clean))

pub returns-in-Ok-clause-shown : goal.returns-in-Ok-clause-shown
returns-in-Ok-clause-shown g c = IfOk-weaker c.read_all.result _ _ (λ v is. (c.as_slice.result.now, is)) c.read_all.ensures.value
