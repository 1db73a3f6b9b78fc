-- Runs that aren't damaged are those of a book.
use Rattle.std.proofs.Common.{◌≡◌, ◌≢◌, ℕ, suc, ◌+◌, ℤ, pos, List, [], ◌∷◌, ◌++◌, length, Bool, true, false, not, ◌&&◌, ◌||◌, nat_eq, Option, Some, None, bytes_eq, refl, sym, ap, ◌∙◌, subst, arith}
use Rattle.std.specs.Prelude.{nat_le, int_le}
use Rattle.std.specs.List.{AllByRecursion, list_any}
use Rattle.std.specs.Ordering.{int_eq}
use Rattle.std.proofs.lemmas.Bool.{leb-true, eqb-true}
use Rattle.std.proofs.lemmas.Bool.Decides.{Decides-int_eq}
use Rattle.std.proofs.lemmas.Slice.Eq.{bytes_eq-Decides}
use Rattle.flow_base.specs.Syntax.{Bytes}
use Rattle.flow_base.specs.declared.event.Event.{Event}
use Rattle.flow_base.specs.declared.book.Run.{Run}
use Rattle.flow_model.specs.Configuration.{is_open}
use Rattle.flow_model.specs.Open.{state_of}
use Rattle.flow_rows.specs.declared.rows.EventRow.{EventRow}
use Rattle.flow_rows.specs.declared.rows.RunRow.{RunRow}
use Rattle.flow_rows.specs.declared.rows.OutboxRow.{OutboxRow}
use Rattle.flow_base.specs.declared.fault.Table.TheVariants as table
use Rattle.flow_rows.specs.Rows.{Format, AreRowsIn, events_of, tasks_of, request_text, open_number, run_row, run_rows, activities_left}
use Rattle.flow_rows.specs.Damages.{unless, closes, flow_fits, has_request, request_is_new, request_fits, is_open_of, flow_is_free, mark_fits, cells_fit, run_fits, damages_of_runs, is_begun, damages_from, damages_of_history, damages_of_events, read_event, history_from, history_of, histories, differs, task_difference, damages_of_outbox}
use Rattle.flow_rows.specs.Standing.{IsRequest, IsKept, AreApart, AreKept}
use Rattle.flow_rows.specs.Told.{whole, request_of, run_told}
use Rattle.flow_rows.proofs.BookTexts.{front_none, rest_none, holds, both_left, both_right}
use Rattle.flow_rows.proofs.Histories.{is_event, events_are, in_format}
use Rattle.flow_rows.proofs.Openness.{is_open_where}
use Rattle.flow_rows.proofs.LeftOpen.{in_range, tasks_named, tasks_are}

-- the run that a row and the rows of its number tell
abbrev pub book_run : List EventRow → List OutboxRow → ℕ → RunRow → Run
book_run events outbox n r = run_told (events_of events (pos n)) (tasks_of outbox (pos n)) r

abbrev pub book_runs : List EventRow → List OutboxRow → ℕ → List RunRow → List Run
book_runs events outbox n [] = []
book_runs events outbox n (r ∷ rs) = book_run events outbox n r ∷ book_runs events outbox (n + 1) rs

request_same : (q : Bytes) → request_text (request_of q) ≡ q
request_same [] = refl
request_same (c ∷ cs) = refl

-- the cells of a run that keeps the rules
pub record HasCells (count : ℕ) (before : List RunRow) (n : ℕ) (r : RunRow) : Type 0 where
  pub numbered : r.num ≡ pos n
  pub flow : flow_fits r.flow ≡ true
  pub request : request_fits before r.req ≡ true
  pub least : int_le (pos 1) r.textnum ≡ true
  pub most : int_le r.textnum (pos count) ≡ true

pub has_cells : (count : ℕ) (before : List RunRow) (n : ℕ) (r : RunRow) → cells_fit count before n r ≡ true → HasCells count before n r
has_cells count before n r h =
    let four = both_left (int_eq r.num (pos n) && flow_fits r.flow && request_fits before r.req && int_le (pos 1) r.textnum) (int_le r.textnum (pos count)) h in
    let three = both_left (int_eq r.num (pos n) && flow_fits r.flow && request_fits before r.req) (int_le (pos 1) r.textnum) four in
    let two = both_left (int_eq r.num (pos n) && flow_fits r.flow) (request_fits before r.req) three in
    record {
      numbered = (Decides-int_eq r.num (pos n)).0 (both_left (int_eq r.num (pos n)) (flow_fits r.flow) two);
      flow = both_right (int_eq r.num (pos n)) (flow_fits r.flow) two;
      request = both_right (int_eq r.num (pos n) && flow_fits r.flow) (request_fits before r.req) three;
      least = both_right (int_eq r.num (pos n) && flow_fits r.flow && request_fits before r.req) (int_le (pos 1) r.textnum) four;
      most = both_right (int_eq r.num (pos n) && flow_fits r.flow && request_fits before r.req && int_le (pos 1) r.textnum) (int_le r.textnum (pos count)) h;
    }

-- a history that isn't damaged
record IsHistory (events : List EventRow) (n : ℕ) : Type 0 where
  begun : is_begun (events_of events (pos n)) ≡ true
  undamaged : damages_from (pos n) 1 (events_of events (pos n)) ≡ []

is_history : (events : List EventRow) (n : ℕ) → damages_of_history (pos n) (events_of events (pos n)) ≡ [] → IsHistory events n
is_history events n h =
    record {
      begun = holds (is_begun (events_of events (pos n))) table.Event (pos n) (pos 1) (front_none _ (damages_from (pos n) 1 (events_of events (pos n))) h);
      undamaged = rest_none (unless (is_begun (events_of events (pos n))) table.Event (pos n) (pos 1)) _ h;
    }

isnt_empty : (e : Event) (es : List Event) → (e ∷ []) ++ es ≢ []
isnt_empty e es h = let same = h in cc

history_begins : (run : ℤ) (rs : List EventRow) → is_begun rs ≡ true → damages_from run 1 rs ≡ [] → history_from 1 rs ≢ []
history_begins run [] begun none h = absurd (let same = begun in cc)
history_begins run (r ∷ rs) begun none h =
    let v = is_event run 1 r (front_none _ (damages_from run 2 rs) none) in
    isnt_empty v.event (history_from 2 rs) (sym (ap (λ o. read_event o ++ history_from 2 rs) v.reads) ∙ h)

abbrev run_cells : ℤ → Bytes → Bytes → ℤ → ℤ → RunRow
run_cells num flow req textnum isopen = record { num = num; flow = flow; req = req; textnum = textnum; isopen = isopen }

row_same : (count : ℕ) (events : List EventRow) (outbox : List OutboxRow) (before : List RunRow) (n : ℕ) (r : RunRow) → HasCells count before n r
    → mark_fits events (pos n) r.isopen ≡ true → IsHistory events n → run_row n (book_run events outbox n r) ≡ r
row_same count events outbox before n r cells mark h =
    let opened = is_open_where (pos n) (events_of events (pos n)) h.begun h.undamaged in
    let marked : r.isopen ≡ open_number (not (list_any closes (events_of events (pos n)))) = (Decides-int_eq r.isopen _).0 mark in
    ap (λ z. run_cells z r.flow (request_text (request_of r.req)) (pos (whole r.textnum)) (open_number (is_open (state_of (history_of events (pos n)))))) (sym cells.numbered)
    ∙ ap (λ q. run_cells r.num r.flow q (pos (whole r.textnum)) (open_number (is_open (state_of (history_of events (pos n)))))) (request_same r.req)
    ∙ ap (λ z. run_cells r.num r.flow r.req z (open_number (is_open (state_of (history_of events (pos n)))))) (in_range 1 count r.textnum cells.least cells.most).0
    ∙ ap (λ z. run_cells r.num r.flow r.req r.textnum z) (ap open_number opened ∙ sym marked)

request_kept : (before : List RunRow) (q : Bytes) → request_fits before q ≡ true → IsRequest (request_of q)
request_kept before [] h = tt
request_kept before (c ∷ cs) h = (omega arith, leb-true (length (c ∷ cs)) 64 (both_left (nat_le (length (c ∷ cs)) 64) (request_is_new before (c ∷ cs)) h))

pub no_difference : (run : ℤ) (o : Option ℤ) → differs table.Outbox run o ≡ [] → o ≡ None
no_difference run None h = refl
no_difference run (Some id) h = absurd (let same = h in cc)

run_kept : (f : Format) (count : ℕ) (events : List EventRow) (outbox : List OutboxRow) (before : List RunRow) (n : ℕ) (r : RunRow) → HasCells count before n r → IsHistory events n → AreRowsIn f events
    → task_difference (history_of events (pos n)) (tasks_of outbox (pos n)) (activities_left (history_of events (pos n))) ≡ None → IsKept f count (book_run events outbox n r)
run_kept f count events outbox before n r cells h formed tasks =
    record {
      flow = (leb-true 1 (length r.flow) (both_left (nat_le 1 (length r.flow)) (nat_le (length r.flow) 64) cells.flow), leb-true (length r.flow) 64 (both_right (nat_le 1 (length r.flow)) (nat_le (length r.flow) 64) cells.flow));
      request = request_kept before r.req cells.request;
      text = (in_range 1 count r.textnum cells.least cells.most).1;
      begun = history_begins (pos n) (events_of events (pos n)) h.begun h.undamaged;
      events = events_are f (pos n) 1 (events_of events (pos n)) (in_format f (pos n) events formed) h.undamaged;
      tasks = (tasks_are (history_of events (pos n)) (pos n) (tasks_of outbox (pos n)) (activities_left (history_of events (pos n))) (tasks_named (pos n) outbox) tasks).1;
    }

---- Runs that don't clash

either_left : (a b : Bool) → (a || b) ≡ false → a ≡ false
either_left true b h = absurd (let same = h in cc)
either_left false b h = refl

either_right : (a b : Bool) → (a || b) ≡ false → b ≡ false
either_right true b h = absurd (let same = h in cc)
either_right false b h = h

clash : (b : Bool) → b ≡ true → b ≡ false → ⊥
clash true is h = let same = h in cc
clash false h other = let same = h in cc

apart_one : (r b : Run) (k : ℕ) → ((q : Bytes) → r.request ≡ Some q → has_request q (run_row k b) ≡ false)
    → (is_open (state_of r.history) ≡ true → is_open_of r.flow (run_row k b) ≡ false) → AreApart b r
apart_one r b k request flow =
    record {
      request = λ q eb er. clash (bytes_eq (request_text b.request) q) ((bytes_eq-Decides (request_text b.request) q).1 (ap request_text eb)) (request q er);
      flow = λ same ob or. clash (is_open_of r.flow (run_row k b)) (taken same ob) (flow or);
    }
  where
    taken : b.flow ≡ r.flow → is_open (state_of b.history) ≡ true → is_open_of r.flow (run_row k b) ≡ true
    taken same ob = rw ob ((bytes_eq-Decides b.flow r.flow).1 same)

apart_all : (r : Run) (k : ℕ) (bs : List Run) → ((q : Bytes) → r.request ≡ Some q → list_any (has_request q) (run_rows k bs) ≡ false)
    → (is_open (state_of r.history) ≡ true → list_any (is_open_of r.flow) (run_rows k bs) ≡ false) → AllByRecursion (λ b. AreApart b r) bs
apart_all r k [] request flow = tt
apart_all r k (b ∷ bs) request flow = (
  apart_one r b k
      (λ q is. either_left (has_request q (run_row k b)) (list_any (has_request q) (run_rows (k + 1) bs)) (request q is))
      (λ is. either_left (is_open_of r.flow (run_row k b)) (list_any (is_open_of r.flow) (run_rows (k + 1) bs)) (flow is)),
  apart_all r (k + 1) bs
      (λ q is. either_right (has_request q (run_row k b)) (list_any (has_request q) (run_rows (k + 1) bs)) (request q is))
      (λ is. either_right (is_open_of r.flow (run_row k b)) (list_any (is_open_of r.flow) (run_rows (k + 1) bs)) (flow is)),
)

not_is : (b : Bool) → not b ≡ true → b ≡ false
not_is true h = absurd (let same = h in cc)
not_is false h = refl

not_zero : (n : ℕ) (b : Bool) → nat_eq (suc n) 0 ≡ b → nat_eq (suc n) 0 ≡ false
not_zero n true is = absurd (let e = eqb-true (suc n) 0 is in omega (arith, e))
not_zero n false is = is

some_length : (n : ℕ) (b : Bool) → (nat_eq (suc n) 0 || b) ≡ true → b ≡ true
some_length n b h = rw (not_zero n (nat_eq (suc n) 0) refl) at h

new_request : (before : List RunRow) (p q : Bytes) → request_fits before p ≡ true → request_of p ≡ Some q → list_any (has_request q) before ≡ false
new_request before [] q fits is = absurd (let same = is in cc)
new_request before (c ∷ cs) q fits is =
    let one : c ∷ cs ≡ q = ap request_text is in
    let fresh = both_right (nat_le (length (c ∷ cs)) 64) (request_is_new before (c ∷ cs)) fits in
    subst (λ x. list_any (has_request x) before ≡ false) one (not_is (list_any (has_request (c ∷ cs)) before) (some_length (length cs) (not (list_any (has_request (c ∷ cs)) before)) fresh))

free_flow : (before : List RunRow) (r : RunRow) → flow_is_free before r ≡ true → r.isopen ≡ pos 1 → list_any (is_open_of r.flow) before ≡ false
free_flow before r fits is = not_is (list_any (is_open_of r.flow) before) (rw is at fits)

---- All runs

pub more_rows : (k : ℕ) (bs : List Run) (b : Run) → run_rows k (bs ++ b ∷ []) ≡ run_rows k bs ++ run_row (k + length bs) b ∷ []
more_rows k [] b = ap (λ n. run_row n b ∷ []) (omega arith)
more_rows k (c ∷ cs) b = ap (λ rs. run_row k c ∷ rs) (more_rows (k + 1) cs b ∙ ap (λ n. run_rows (k + 1) cs ++ run_row n b ∷ []) (omega arith))

pub runs_are : (f : Format) (count : ℕ) (events : List EventRow) (outbox : List OutboxRow) (bs : List Run) (n : ℕ) (rs : List RunRow) → n ≡ 1 + length bs → AreRowsIn f events
    → damages_of_runs count events (run_rows 1 bs) n rs ≡ [] → damages_of_events events n rs ≡ [] → damages_of_outbox outbox n (histories events n rs) ≡ []
    → (run_rows n (book_runs events outbox n rs) ≡ rs) × AreKept f count bs (book_runs events outbox n rs)
runs_are f count events outbox bs n [] next formed runs es os = (refl, tt)
runs_are f count events outbox bs n (r ∷ rs) next formed runs es os =
    let fits = holds (run_fits count events (run_rows 1 bs) n r) table.Run (pos n) (pos 0) (front_none _ (damages_of_runs count events (run_rows 1 bs ++ r ∷ []) (n + 1) rs) runs) in
    let two = both_left (cells_fit count (run_rows 1 bs) n r && mark_fits events (pos n) r.isopen) (flow_is_free (run_rows 1 bs) r) fits in
    let free = both_right (cells_fit count (run_rows 1 bs) n r && mark_fits events (pos n) r.isopen) (flow_is_free (run_rows 1 bs) r) fits in
    let cells = has_cells count (run_rows 1 bs) n r (both_left (cells_fit count (run_rows 1 bs) n r) (mark_fits events (pos n) r.isopen) two) in
    let mark = both_right (cells_fit count (run_rows 1 bs) n r) (mark_fits events (pos n) r.isopen) two in
    let h = is_history events n (front_none _ (damages_of_events events (n + 1) rs) es) in
    let tasks = no_difference (pos n) _ (front_none _ (damages_of_outbox outbox (n + 1) (histories events (n + 1) rs)) os) in
    let run = book_run events outbox n r in
    let same = row_same count events outbox (run_rows 1 bs) n r cells mark h in
    let rows : run_rows 1 bs ++ r ∷ [] ≡ run_rows 1 (bs ++ run ∷ []) =
    ap (λ x. run_rows 1 bs ++ x ∷ []) (sym same) ∙ ap (λ m. run_rows 1 bs ++ run_row m run ∷ []) next ∙ sym (more_rows 1 bs run) in
    let later = rest_none (unless (run_fits count events (run_rows 1 bs) n r) table.Run (pos n) (pos 0)) _ runs in
    let more = runs_are f count events outbox (bs ++ run ∷ []) (n + 1) rs (omega (arith, next, one_longer bs run)) formed
    (subst (λ before. damages_of_runs count events before (n + 1) rs ≡ []) rows later)
    (rest_none (damages_of_history (pos n) (events_of events (pos n))) _ es) (rest_none (differs table.Outbox (pos n) _) _ os) in (
      ap (λ x. x ∷ run_rows (n + 1) (book_runs events outbox (n + 1) rs)) same ∙ ap (λ xs. r ∷ xs) more.0,
      (
        run_kept f count events outbox (run_rows 1 bs) n r cells h formed tasks,
        apart_all run 1 bs (λ q is. new_request (run_rows 1 bs) r.req q cells.request is) (λ is. free_flow (run_rows 1 bs) r free (sym (ap (λ (x : RunRow). x.isopen) same) ∙ ap open_number is)),
        more.1,
      ),
    )
  where
    one_longer : (xs : List Run) (x : Run) → length (xs ++ x ∷ []) ≡ length xs + 1
    one_longer [] x = refl
    one_longer (y ∷ ys) x = let more = one_longer ys x in omega (arith, more)
