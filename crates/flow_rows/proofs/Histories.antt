-- Events that aren't damaged are the rows of the history that they tell.
use Rattle.std.proofs.Common.{◌≡◌, ℕ, ◌+◌, ℤ, pos, List, [], ◌∷◌, ◌++◌, map, Bool, true, false, Option, Some, None, Result, Ok, Err, refl, sym, ap, ◌∙◌, subst}
use Rattle.std.specs.List.{AllByRecursion}
use Rattle.std.specs.Ordering.{int_eq}
use Rattle.std.proofs.lemmas.Bool.Decides.{Decides-int_eq}
use Rattle.flow_base.specs.Syntax.{Bytes}
use Rattle.flow_base.specs.declared.event.Event.{Event}
use Rattle.flow_events.specs.Body.{text_of}
use Rattle.flow_events.specs.Kinds.{kind_number, kind_of}
use Rattle.flow_events.specs.Row.{row_in, row_1_in}
use Rattle.flow_events.specs.declared.row.RowFault.{RowFault}
use Rattle.flow_events.specs.declared.spelling.Spelling.TheVariants.{Inside, Beside}
use Rattle.flow_events.proofs.Laws.{row_found}
use Rattle.flow_events.proofs.Rows.{IsRead, found}
use Rattle.flow_rows.specs.declared.rows.EventRow.{EventRow}
use Rattle.flow_base.specs.declared.fault.Table.TheVariants as table
use Rattle.flow_rows.specs.Rows.{Format, One, Two, events_of, event_row_in, past_event_row, event_row, spelled_with, spelled_at, read_in, IsRowIn, AreRowsIn}
use Rattle.flow_rows.specs.Damages.{damaged, kind_fits, damages_of_read, damages_of_event, damages_from, read_event, history_from}
use Rattle.flow_rows.specs.Standing.{AreEvents}
use Rattle.flow_rows.proofs.BookTexts.{front_none, rest_none, holds}

named_one : (run : ℤ) (r : EventRow) (rs : List EventRow) (b : Bool) → int_eq r.run run ≡ b → AllByRecursion (λ r. r.run ≡ run) (events_of rs run)
    → AllByRecursion (λ r. r.run ≡ run) (events_of (r ∷ rs) run)
named_one run r rs true is more = rw is ((Decides-int_eq r.run run).0 is, more)
named_one run r rs false is more = rw is more

-- the rows of a run name it
pub named : (run : ℤ) (rs : List EventRow) → AllByRecursion (λ r. r.run ≡ run) (events_of rs run)
named run [] = tt
named run (r ∷ rs) = named_one run r rs (int_eq r.run run) refl (named run rs)

-- what a row at its place says, where it isn't damaged
pub record IsEvent (run : ℤ) (i : ℕ) (r : EventRow) : Type 0 where
  pub event : Event
  pub numbered : r.id ≡ pos i
  pub reads : spelled_at i r ≡ Ok event
  pub kind : kind_fits i r.kind ≡ true

is_read : (run : ℤ) (i : ℕ) (r : EventRow) (o : Result Event RowFault) → spelled_at i r ≡ o → damages_of_read run i r.kind o ≡ [] → r.id ≡ pos i → IsEvent run i r
is_read run i r (Ok e) reads h there = record { event = e; numbered = there; reads = reads; kind = holds (kind_fits i r.kind) table.Event run (pos i) h }
is_read run i r (Err f) reads h there = absurd (let same = h in cc)

of_read : (run : ℤ) (i : ℕ) (r : EventRow) → int_eq r.id (pos i) ≡ true → damages_of_event run i r ≡ damages_of_read run i r.kind (spelled_at i r)
of_read run i r there = rw there refl

not_there : (run : ℤ) (i : ℕ) (r : EventRow) → int_eq r.id (pos i) ≡ false → damages_of_event run i r ≡ damaged table.Event run (pos i) None
not_there run i r other = rw other refl

none_missing : (run : ℤ) (i : ℕ) → damaged table.Event run (pos i) None ≡ [] → ⊥
none_missing run i h = let same = h in cc

event_at : (run : ℤ) (i : ℕ) (r : EventRow) (b : Bool) → int_eq r.id (pos i) ≡ b → damages_of_event run i r ≡ [] → IsEvent run i r
event_at run i r true is h = is_read run i r (spelled_at i r) refl (sym (of_read run i r is) ∙ h) ((Decides-int_eq r.id (pos i)).0 is)
event_at run i r false is h = absurd (none_missing run i (sym (not_there run i r is) ∙ h))

pub is_event : (run : ℤ) (i : ℕ) (r : EventRow) → damages_of_event run i r ≡ [] → IsEvent run i r
is_event run i r h = event_at run i r (int_eq r.id (pos i)) refl h

-- the kind of a row that reads is its event's, in whichever format
kind_with : (i : ℕ) (kind : ℤ) (a : Option ℤ) (body : Bytes) (e : Event) → spelled_with i kind a body ≡ Ok e → kind ≡ pos (kind_number (kind_of e.what))
kind_with i kind None body e says = (row_found Inside i kind body e says).row.of_kind
kind_with i kind (Some at) body e says = let it : IsRead i kind at body e = found (Ok e) i kind at body says in it.row.1.of_kind

pub kind_read : (i : ℕ) (r : EventRow) (e : Event) → spelled_at i r ≡ Ok e → r.kind ≡ pos (kind_number (kind_of e.what))
kind_read i r e says = kind_with i r.kind r.at r.body e says

-- and its number is that of its place
number_with : (i : ℕ) (kind : ℤ) (a : Option ℤ) (body : Bytes) (e : Event) → spelled_with i kind a body ≡ Ok e → e.id ≡ i
number_with i kind None body e says = (row_found Inside i kind body e says).numbered
number_with i kind (Some at) body e says = let it : IsRead i kind at body e = found (Ok e) i kind at body says in it.numbered

pub read_number : (i : ℕ) (r : EventRow) (e : Event) → spelled_at i r ≡ Ok e → e.id ≡ i
read_number i r e says = number_with i r.kind r.at r.body e says

---- In a format

-- of rows in a format those of a run are
in_format_one : (f : Format) (run : ℤ) (r : EventRow) (rs : List EventRow) (b : Bool) → int_eq r.run run ≡ b → IsRowIn f r → AreRowsIn f (events_of rs run)
    → AreRowsIn f (events_of (r ∷ rs) run)
in_format_one f run r rs true is here more = rw is (here, more)
in_format_one f run r rs false is here more = rw is more

pub in_format : (f : Format) (run : ℤ) (rs : List EventRow) → AreRowsIn f rs → AreRowsIn f (events_of rs run)
in_format f run [] all = tt
in_format f run (r ∷ rs) all = in_format_one f run r rs (int_eq r.run run) refl all.0 (in_format f run rs all.1)

abbrev event_cells : ℤ → ℤ → ℤ → Option ℤ → Bytes → EventRow
event_cells run id kind at body = record { run = run; id = id; kind = kind; at = at; body = body }

-- a row is the one that its event has in its format, and is read as it
record IsOwn (f : Format) (run : ℤ) (i : ℕ) (r : EventRow) (e : Event) : Type 0 where
  numbered : e.id ≡ i
  of_kind : r.kind ≡ pos (kind_number (kind_of e.what))
  row : event_row_in f run e ≡ r
  reads : read_in f i e ≡ Ok e

own : (f : Format) (run : ℤ) (i : ℕ) (r : EventRow) (e : Event) → r.run ≡ run → r.id ≡ pos i → IsRowIn f r → spelled_at i r ≡ Ok e → IsOwn f run i r e
own One run i r e named there bare reads =
    let says : row_1_in i r.kind r.body ≡ Ok e = subst (λ a. spelled_with i r.kind a r.body ≡ Ok e) bare reads in
    let it = row_found Inside i r.kind r.body e says in
    record {
      numbered = it.numbered;
      of_kind = it.row.of_kind;
      row =
          ap (λ n. event_cells run (pos n) (pos (kind_number (kind_of e.what))) None (text_of Inside e)) it.numbered
          ∙ ap (λ z. event_cells run z (pos (kind_number (kind_of e.what))) None (text_of Inside e)) (sym there)
          ∙ ap (λ z. event_cells run r.id z None (text_of Inside e)) (sym it.row.of_kind)
          ∙ ap (λ a. event_cells run r.id r.kind a (text_of Inside e)) (sym bare)
          ∙ ap (λ t. event_cells run r.id r.kind r.at t) (sym it.row.spelled_so)
          ∙ ap (λ z. event_cells z r.id r.kind r.at r.body) (sym named);
      reads = subst (λ z. row_1_in i z (text_of Inside e) ≡ Ok e) it.row.of_kind (subst (λ t. row_1_in i r.kind t ≡ Ok e) it.row.spelled_so says);
    }
own Two run i r e named there (n, beside) reads =
    let says : row_in i r.kind n r.body ≡ Ok e = subst (λ a. spelled_with i r.kind a r.body ≡ Ok e) beside reads in
    let it : IsRead i r.kind n r.body e = found (Ok e) i r.kind n r.body says in
    record {
      numbered = it.numbered;
      of_kind = it.row.1.of_kind;
      row =
          ap (λ m. event_cells run (pos m) (pos (kind_number (kind_of e.what))) (Some (pos e.at)) (text_of (Beside e.at) e)) it.numbered
          ∙ ap (λ z. event_cells run z (pos (kind_number (kind_of e.what))) (Some (pos e.at)) (text_of (Beside e.at) e)) (sym there)
          ∙ ap (λ z. event_cells run r.id z (Some (pos e.at)) (text_of (Beside e.at) e)) (sym it.row.1.of_kind)
          ∙ ap (λ z. event_cells run r.id r.kind (Some z) (text_of (Beside e.at) e)) (sym it.row.0)
          ∙ ap (λ a. event_cells run r.id r.kind a (text_of (Beside e.at) e)) (sym beside)
          ∙ ap (λ t. event_cells run r.id r.kind r.at t) (sym it.row.1.spelled_so)
          ∙ ap (λ z. event_cells z r.id r.kind r.at r.body) (sym named);
      reads =
          subst (λ z. row_in i z (pos e.at) (text_of (Beside e.at) e) ≡ Ok e) it.row.1.of_kind
          (subst (λ z. row_in i r.kind z (text_of (Beside e.at) e) ≡ Ok e) it.row.0 (subst (λ t. row_in i r.kind n t ≡ Ok e) it.row.1.spelled_so says));
    }

-- the rows that events have
pub rows_are : (f : Format) (run : ℤ) (i : ℕ) (rs : List EventRow) → AreRowsIn f rs → AllByRecursion (λ r. r.run ≡ run) rs → damages_from run i rs ≡ []
    → map (event_row_in f run) (history_from i rs) ≡ rs
rows_are f run i [] formed names h = refl
rows_are f run i (r ∷ rs) formed names h =
    let v = is_event run i r (front_none _ (damages_from run (i + 1) rs) h) in
    ap (λ o. map (event_row_in f run) (read_event o ++ history_from (i + 1) rs)) v.reads
    ∙ ap (λ x. x ∷ map (event_row_in f run) (history_from (i + 1) rs)) (own f run i r v.event names.0 v.numbered formed.0 v.reads).row
    ∙ ap (λ xs. r ∷ xs) (rows_are f run (i + 1) rs formed.1 names.1 (rest_none (damages_of_event run i r) _ h))

pub events_are : (f : Format) (run : ℤ) (i : ℕ) (rs : List EventRow) → AreRowsIn f rs → damages_from run i rs ≡ [] → AreEvents f i (history_from i rs)
events_are f run i [] formed h = tt
events_are f run i (r ∷ rs) formed h =
    let v = is_event run i r (front_none _ (damages_from run (i + 1) rs) h) in
    let it = own f r.run i r v.event refl v.numbered formed.0 v.reads in
    subst (λ o. AreEvents f i (read_event o ++ history_from (i + 1) rs)) (sym v.reads) (
      it.numbered,
      subst (λ z. kind_fits i z ≡ true) it.of_kind v.kind,
      it.reads,
      events_are f run (i + 1) rs formed.1 (rest_none (damages_of_event run i r) _ h),
    )
