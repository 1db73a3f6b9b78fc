use Rattle.flow_rows.specs.Rows.{is_event_of}
use Rattle.flow_sql.specs.Stored.{IsUtf8Text, IsUtf8Run, IsUtf8Event}
use Rattle.flow_tables.proofs.Names.{AllByRecursion, all-filter, subst}
use Rattle.flow_tables.proofs.utf8.rows_are_utf8.Goals as goal

pub returns : goal.returns
returns c = record {
  texts = subst (AllByRecursion IsUtf8Text) c.as_slice.ensures c.all_are_utf8.ensures;
  runs = subst (AllByRecursion IsUtf8Run) c.as_slice-2.ensures c.all_are_utf8-2.ensures;
  events = λ run. all-filter IsUtf8Event (is_event_of run) _ (subst (AllByRecursion IsUtf8Event) c.as_slice-3.ensures c.all_are_utf8-3.ensures);
}
