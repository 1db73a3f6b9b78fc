use Rattle.flow_tables.proofs.Names.{state, tables_in, inl, inr}
use Rattle.flow_rows.proofs.Behind.{runs_short}
use Rattle.flow_base.specs.declared.book.Change.TheVariants.{SetText}
use Rattle.flow_tables.proofs.Wholes.{text_or_past, unwelcome}
use Rattle.flow_tables.proofs.Causes.{all_because}
use Rattle.flow_tables.proofs.run_changes.set_text.Goals as goal

pub returns-clause-cause : goal.returns-clause-cause
returns-clause-cause g c b tells typed holds clean =
    let t = tables_in (state g.S.Store c.args.conn.now).now in
    elim (text_or_past t b c.args.text tells typed) [
      | inl has ↦ all_because c.alter.result (c.alter.ensures.cause holds (runs_short t b tells, has) clean) (λ w. inl w) (λ none. absurd none)
      | inr past ↦ unwelcome _ b (SetText c.args.run c.args.text) c.alter.result past
    ]
