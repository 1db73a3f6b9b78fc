use Rattle.std.specs.Prelude.{◌≡◌}
use Rattle.flow_sql.specs.Stored.{AreUtf8}
use Rattle.flow_tables.proofs.Names.{Tells, shown_book, state, false, refl, subst, ◌∙◌, sym, ap, inl, inr}
use Rattle.flow_tables.specs.Going.{TellsRows}
use Rattle.flow_tables.specs.Unread.{Knows}
use Rattle.flow_model.specs.Checked.{is_program_by}
use Rattle.flow_rows.specs.Rows.{Two}
use Rattle.flow_rows.proofs.WholeBooks.{stands_so, tells_so}
use Rattle.flow_tables.specs.Asking.{StopsAsk}
use Rattle.flow_tables.specs.Reads.{IsRowsFault}
use Rattle.flow_tables.specs.Opening.{opening_fault, HasCause}
use Rattle.flow_tables.proofs.Opened.{caused}
use Rattle.flow_tables.proofs.Stopping.{rows_told}
use Rattle.flow_tables.proofs.open.look_through.Goals as goal

pub returns-in-Ok-Ok-clause-reads : goal.returns-in-Ok-Ok-clause-reads
returns-in-Ok-Ok-clause-reads g c clean was =
    let p = is_program_by g.T.Texts.meaning in
    let it = c.in-Ok-Ok.ensures.read in
    let w = c.told_book.new.told in
    let told = subst (TellsRows g.L.Listener.heard p it.rows w.maps w.listener) c.in-Ok-Ok.field-0-is it.told in
    let read = it.asked.reads false was clean in
    (read.0, subst (λ t. Tells t (shown_book c.in-Ok-Ok.book)) read.1.0 (tells_so p Two it.rows (shown_book c.in-Ok-Ok.book) it.ours told.0 told.1.0), subst AreUtf8 read.1.0 it.utf8)

pub returns-in-Ok-Ok-clause-stands : goal.returns-in-Ok-Ok-clause-stands
returns-in-Ok-Ok-clause-stands g c =
    let p = is_program_by g.T.Texts.meaning in
    let it = c.in-Ok-Ok.ensures.read in
    let w = c.told_book.new.told in
    let told = subst (TellsRows g.L.Listener.heard p it.rows w.maps w.listener) c.in-Ok-Ok.field-0-is it.told in
    let its = stands_so p Two it.rows (shown_book c.in-Ok-Ok.book) it.ours told.0 told.1.0 in
    record { texts = its.texts; runs = its.runs; same = refl }

pub returns-in-Ok-Ok-clause-knows : goal.returns-in-Ok-Ok-clause-knows
returns-in-Ok-Ok-clause-knows g c =
    let p = is_program_by g.T.Texts.meaning in
    let it = c.in-Ok-Ok.ensures.read in
    let w = c.told_book.new.told in
    (subst (TellsRows g.L.Listener.heard p it.rows w.maps w.listener) c.in-Ok-Ok.field-0-is it.told).1.1

pub returns-in-Ok-Err-clause-told : goal.returns-in-Ok-Err-clause-told
returns-in-Ok-Err-clause-told g c =
    let p = is_program_by g.T.Texts.meaning in
    let it = c.in-Ok-Err.ensures.read in
    let w = c.told_book.new.told in
    let first = subst (TellsRows g.L.Listener.heard p it.rows w.maps w.listener) c.in-Ok-Err.field-0-is it.told in
    inr (it.rows, (c.in-Ok-Err.found, refl, first), λ clean was. (it.asked.reads false was clean).1)

pub returns-in-Err-Refused-clause-cause : goal.returns-in-Err-Refused-clause-cause
returns-in-Err-Refused-clause-cause g c clean =
    let it = subst (IsRowsFault g.S.Store) c.in-Err-Refused.field-0-is (c.in-Err-Refused.ensures.asked.cause clean) in
    let told = c.opening_fault.ensures ∙ ap opening_fault c.in-Err-Refused.error-is in
    subst (HasCause g.S.Store) (sym told) (caused g.S.Store c.in-Err-Refused.error (it.0, it.1, _, inr (inr (inl (it.2, it.3, it.4, refl, it.5)))))

pub returns-in-Err-Refused-clause-why : goal.returns-in-Err-Refused-clause-why
returns-in-Err-Refused-clause-why g c clean was rest =
    let over = was (c.in-Err-Refused.ensures.asked.clean clean) in
    let stops = subst (StopsAsk false (state g.S.Store c.args.conn.now) (state g.S.Store c.told_book.new.conn)) c.in-Err-Refused.field-0-is (c.in-Err-Refused.ensures.asked.stops false was clean) in
    let told = c.opening_fault.ensures ∙ ap opening_fault c.in-Err-Refused.error-is in
    rows_told g.S.Store c.args.conn.now c.told_book.new.conn c.opening_fault.result c.in-Err-Refused.error told over (rest.1 over.is_open) stops
