use Rattle.sqlite.specs.Held.{state}
use Rattle.flow_tables.proofs.Questioned.{asked}
use Rattle.flow_tables.proofs.ask.ask_said.Goals as goal

pub returns-clause-asked : goal.returns-clause-asked
returns-clause-asked g c =
    asked (g.Q.Question.asks c.args.question.now) g.Q.Item.Said.said g.Q.Item.Said.kinds c.ask_rows.ensures.so (state g.S.Store c.args.conn.now) (state g.S.Store c.ask_rows.new.conn) (λ v. v.items) c.ask_rows.result
    c.ask_rows.ensures.said c.ask_rows.ensures.cause c.ask_rows.ensures.survives
