-- The row that an event has, and that it is read again.
use Rattle.std.proofs.Common.{◌≡◌, ℕ, ℤ, pos, List, Option, Some, Ok, ap, ◌∙◌, subst}
use Rattle.flow_base.specs.declared.event.Event.{Event}
use Rattle.flow_events.specs.Body.{text_of}
use Rattle.flow_events.specs.Kinds.{kind_number, kind_of}
use Rattle.flow_events.specs.Row.{row_in, IsRowOf}
use Rattle.flow_events.specs.declared.spelling.Spelling.TheVariants.{Beside}
use Rattle.flow_rows.specs.declared.rows.EventRow.{EventRow}
use Rattle.flow_rows.specs.Rows.{event_row}
use Rattle.flow_rows.specs.Told.{IsReadable}

abbrev cells : ℤ → ℤ → ℤ → ℤ → List ℕ → EventRow
cells run id kind at body = record { run = run; id = id; kind = kind; at = Some at; body = body }

pub row_made : (run : ℤ) (e : Event) (kind at : ℤ) (text : List ℕ) → IsRowOf e kind at text → cells run (pos e.id) kind at text ≡ event_row run e
row_made run e kind at text h =
    ap (λ z. cells run (pos e.id) z at text) h.1.of_kind
    ∙ ap (λ z. cells run (pos e.id) (pos (kind_number (kind_of e.what))) z text) h.0
    ∙ ap (cells run (pos e.id) (pos (kind_number (kind_of e.what))) (pos e.at)) h.1.spelled_so

pub row_reads : (e : Event) (kind at : ℤ) (text : List ℕ) → IsRowOf e kind at text → row_in e.id kind at text ≡ Ok e → IsReadable e
row_reads e kind at text h reads =
    subst (λ z. row_in e.id z (pos e.at) (text_of (Beside e.at) e) ≡ Ok e) h.1.of_kind
    (subst (λ z. row_in e.id kind z (text_of (Beside e.at) e) ≡ Ok e) h.0 (subst (λ t. row_in e.id kind at t ≡ Ok e) h.1.spelled_so reads))
