-- What tables that tell a book have, against what comes next: each row is of a number below the next one.
use Rattle.std.specs.Prelude.{◌≡◌, ◌≤◌, ◌<◌, ◌+◌, ◌-◌, ◌^◌, ◌∷◌, ◌||◌, ℕ, zero, suc, ℤ, pos, negsuc, List, [], length, map, Bool, true, false, Option, Some, None, IsTrue, int_lt, bytes_eq, slice_get, if◌then◌else◌}
use Rattle.std.specs.List.{AllByRecursion, list_any}
use Rattle.std.specs.Ordering.{int_eq}
use Rattle.std.proofs.Common.{refl, sym, ap, ◌∙◌, subst, inl, inr, arith, true≢false}
use Rattle.std.proofs.lemmas.Bool.{lt-ltb, or_parts, cases_Bool}
use Rattle.std.proofs.lemmas.Slice.Eq.{bytes_eq-Decides}
use Rattle.std.proofs.lemmas.Bool.Decides.{Decides-int_eq}
use Rattle.flow_base.specs.Syntax.{Bytes}
use Rattle.flow_base.specs.declared.event.Event.{Event}
use Rattle.flow_base.specs.declared.book.OpenActivity.{OpenActivity}
use Rattle.flow_base.specs.declared.book.Timer.{Timer}
use Rattle.flow_base.specs.declared.book.Run.{Run}
use Rattle.flow_model.specs.Book.{Book, nth}
use Rattle.flow_model.specs.Configuration.{is_open}
use Rattle.flow_model.specs.Open.{open_timers, state_of}
use Rattle.flow_rows.specs.declared.rows.TextRow.{TextRow}
use Rattle.flow_rows.specs.declared.rows.RunRow.{RunRow}
use Rattle.flow_rows.specs.declared.rows.EventRow.{EventRow}
use Rattle.flow_rows.specs.declared.rows.TimerRow.{TimerRow}
use Rattle.flow_rows.specs.declared.rows.OutboxRow.{OutboxRow}
use Rattle.flow_rows.specs.Rows.{Two, Tables, text_rows, run_rows, event_row, timer_row, task_row, of_run}
use Rattle.flow_rows.specs.Told.{AreRead, AreTasksWithin, IsTold, Tells}
use Rattle.flow_rows.proofs.BookTables.{nth_is}
use Rattle.flow_rows.proofs.Undamaged.{event_rows_of, timer_rows_of, task_rows_of}
use Rattle.flow_rows.proofs.Telling.{AreTimersWithin, timers_within}
use Rattle.flow_rows.proofs.Finds.{event_rows_read, task_rows_read, run_is_told}
use Rattle.flow_rows.proofs.Recalled.{request_short}

-- a number up to the last is below the next
below : (a last : ℕ) → a ≤ last → int_lt (pos a) (pos (last + 1)) ≡ true
below a last h = lt-ltb a (last + 1) (omega (arith, h))

or_later : (a b : Bool) → b ≡ true → (a || b) ≡ true
or_later true b h = refl
or_later false b h = h

---- The rows of a run

abbrev EventsBelow : ℕ → List EventRow → Type 0
EventsBelow next rows = AllByRecursion (λ (x : EventRow). int_lt x.id (pos next) ≡ true) rows

abbrev TimersBelow : ℕ → List TimerRow → Type 0
TimersBelow next rows = AllByRecursion (λ (x : TimerRow). int_lt x.id (pos next) ≡ true) rows

abbrev TasksBelow : ℕ → List OutboxRow → Type 0
TasksBelow next rows = AllByRecursion (λ (x : OutboxRow). int_lt x.id (pos next) ≡ true) rows

event_rows_below : (run : ℤ) (i last : ℕ) (es : List Event) → AreRead i es → i + length es ≤ last + 1 → EventsBelow (last + 1) (map (event_row run) es)
event_rows_below run i last [] are fits = tt
event_rows_below run i last (e ∷ es) are fits =
    (below e.id last (let id = are.0 in omega (arith, id, fits)), event_rows_below run (i + 1) last es are.2 (omega (arith, fits)))

timer_rows_below : (run : ℤ) (last : ℕ) (ts : List Timer) → AreTimersWithin last ts → TimersBelow (last + 1) (map (timer_row run) ts)
timer_rows_below run last [] all = tt
timer_rows_below run last (x ∷ xs) all = (below x.id last all.0, timer_rows_below run last xs all.1)

task_rows_below : (run : ℤ) (last : ℕ) (ts : List OpenActivity) → AreTasksWithin last ts → TasksBelow (last + 1) (map (task_row run) ts)
task_rows_below run last [] all = tt
task_rows_below run last (x ∷ xs) all = (below x.event last all.0, task_rows_below run last xs all.1)

-- The number of an event that comes next is above those of all events of its run.
pub events_below : (t : Tables) (b : Book) (n : ℕ) (r : Run) → Tells t b → nth b.runs n ≡ Some r
    → AllByRecursion (λ (e : EventRow). int_lt e.id (pos (length r.history + 1)) ≡ true) (t.events (pos n))
events_below t b n r h there =
    subst (EventsBelow (length r.history + 1)) (sym (event_rows_read t b n r h there))
    (event_rows_below (pos n) 1 (length r.history) r.history (run_is_told b n r h.runs there).events (omega arith))

timer_rows_read : (t : Tables) (b : Book) (n : ℕ) (r : Run) → Tells t b → nth b.runs n ≡ Some r → t.timers (pos n) ≡ timer_rows_of (pos n) r
timer_rows_read t b n r h there = ap (λ (u : Tables). u.timers (pos n)) h.same ∙ ap (λ o. of_run o (timer_rows_of (pos n))) there

-- a closed run has none open
left_within : (v : Bool) (last : ℕ) (ts : List Timer) → AreTimersWithin last ts → AreTimersWithin last (if v then ts else [])
left_within true last ts all = all
left_within false last ts all = tt

-- A timer has the number of the event that started it, so each is of an event that the run has.
pub timers_below : (t : Tables) (b : Book) (n : ℕ) (r : Run) → Tells t b → nth b.runs n ≡ Some r
    → AllByRecursion (λ (x : TimerRow). int_lt x.id (pos (length r.history + 1)) ≡ true) (t.timers (pos n))
timers_below t b n r h there =
    let told = run_is_told b n r h.runs there in
    let all = timers_within Two (length r.history) 1 [] r.history told.events (omega arith) tt in
    subst (TimersBelow (length r.history + 1)) (sym (timer_rows_read t b n r h there))
    (timer_rows_below (pos n) (length r.history) _ (left_within (is_open (state_of r.history)) (length r.history) (open_timers r.history) all))

-- So has an open activity.
pub tasks_below : (t : Tables) (b : Book) (n : ℕ) (r : Run) → Tells t b → nth b.runs n ≡ Some r
    → AllByRecursion (λ (x : OutboxRow). int_lt x.id (pos (length r.history + 1)) ≡ true) (t.outbox (pos n))
tasks_below t b n r h there =
    subst (TasksBelow (length r.history + 1)) (sym (task_rows_read t b n r h there))
    (task_rows_below (pos n) (length r.history) r.tasks (run_is_told b n r h.runs there).tasks)

-- A run that the book doesn't have, has no rows.
pub no_rows_yet : (t : Tables) (b : Book) (n : ℕ) → Tells t b → nth b.runs n ≡ None → (t.events (pos n) ≡ []) × (t.timers (pos n) ≡ []) × (t.outbox (pos n) ≡ [])
no_rows_yet t b n h none = (
  ap (λ (u : Tables). u.events (pos n)) h.same ∙ ap (λ o. of_run o (event_rows_of (pos n))) none,
  ap (λ (u : Tables). u.timers (pos n)) h.same ∙ ap (λ o. of_run o (timer_rows_of (pos n))) none,
  ap (λ (u : Tables). u.outbox (pos n)) h.same ∙ ap (λ o. of_run o (task_rows_of (pos n))) none,
)

---- Runs

abbrev HasRun : ℕ → List RunRow → Type 0
HasRun n rows = IsTrue (list_any (λ (x : RunRow). int_eq x.num (pos n)) rows)

run_row_there : (m : ℕ) (rs : List Run) (k n : ℕ) (r : Run) → slice_get rs k ≡ Some r → n ≡ m + k → HasRun n (run_rows m rs)
run_row_there m [] k n r there at = absurd (let clash = there in cc)
run_row_there m (x ∷ xs) zero n r there at = let here : m ≡ n = omega (arith, at) in rw ((Decides-int_eq (pos m) (pos n)).1 (ap pos here)) refl
run_row_there m (x ∷ xs) (suc k) n r there at = or_later (int_eq (pos m) (pos n)) _ (run_row_there (m + 1) xs k n r there (omega (arith, at)))

-- The row of a run that the book has is there.
pub run_there : (t : Tables) (b : Book) (n : ℕ) (r : Run) → Tells t b → nth b.runs n ≡ Some r → IsTrue (list_any (λ (x : RunRow). int_eq x.num (pos n)) t.runs)
run_there t b zero r h there = absurd (let clash = there in cc)
run_there t b (suc k) r h there =
    subst (HasRun (suc k)) (sym (ap (λ (u : Tables). u.runs) h.same)) (run_row_there 1 b.runs k (suc k) r (sym (nth_is b.runs k) ∙ there) (omega arith))

abbrev AreShort : List RunRow → Type 0
AreShort rows = AllByRecursion (λ (x : RunRow). length x.flow + length x.req ≤ 10 ^ 8) rows

run_rows_short : (m : ℕ) (rs : List Run) → AllByRecursion IsTold rs → AreShort (run_rows m rs)
run_rows_short m [] all = tt
run_rows_short m (x ∷ xs) all =
    let types = all.0.types in
    let flow = types.flow in
    let request = request_short x.request types.request in
    (omega (arith, flow.1, request), run_rows_short (m + 1) xs all.1)

-- The texts of a run's row are keys, of at most 64 bytes each.
pub runs_short : (t : Tables) (b : Book) → Tells t b → AllByRecursion (λ (x : RunRow). length x.flow + length x.req ≤ 10 ^ 8) t.runs
runs_short t b h = subst AreShort (sym (ap (λ (u : Tables). u.runs) h.same)) (run_rows_short 1 b.runs h.runs)

---- Texts

abbrev HasText : ℕ → List TextRow → Type 0
HasText n rows = IsTrue (list_any (λ (x : TextRow). int_eq x.num (pos n)) rows)

text_row_there : (m : ℕ) (ts : List Bytes) (k n : ℕ) → k < length ts → n ≡ m + k → HasText n (text_rows m ts)
text_row_there m [] k n few at = absurd (omega (arith, few))
text_row_there m (x ∷ xs) zero n few at = let here : m ≡ n = omega (arith, at) in rw ((Decides-int_eq (pos m) (pos n)).1 (ap pos here)) refl
text_row_there m (x ∷ xs) (suc k) n few at = or_later (int_eq (pos m) (pos n)) _ (text_row_there (m + 1) xs k n (omega (arith, few)) (omega (arith, at)))

-- The row of a text that the book has is there.
pub text_there : (t : Tables) (b : Book) (n : ℕ) → Tells t b → 1 ≤ n → n ≤ length b.texts → IsTrue (list_any (λ (x : TextRow). int_eq x.num (pos n)) t.texts)
text_there t b n h some fits =
    subst (HasText n) (sym (ap (λ (u : Tables). u.texts) h.same)) (text_row_there 1 b.texts (n - 1) n (omega (arith, some, fits)) (omega (arith, some)))

abbrev HasNot : Bytes → List TextRow → Type 0
HasNot body rows = AllByRecursion (λ (x : TextRow). bytes_eq x.body body ≡ false) rows

other_way : (x y : Bytes) → bytes_eq x y ≡ false → bytes_eq y x ≡ false
other_way x y apart = elim (cases_Bool (bytes_eq y x)) [
  | inl same ↦ absurd (true≢false (sym ((bytes_eq-Decides x y).1 (sym ((bytes_eq-Decides y x).0 same))) ∙ apart))
  | inr apart_too ↦ apart_too
]

text_rows_apart : (body : Bytes) (m : ℕ) (ts : List Bytes) → list_any (bytes_eq body) ts ≡ false → HasNot body (text_rows m ts)
text_rows_apart body m [] none = tt
text_rows_apart body m (x ∷ xs) none =
    let parts = or_parts (bytes_eq body x) (list_any (bytes_eq body) xs) none in
    (other_way body x parts.0, text_rows_apart body (m + 1) xs parts.1)

-- Where no text of the book is this one, no row has it as its body.
pub texts_apart : (t : Tables) (b : Book) (body : Bytes) → Tells t b → list_any (bytes_eq body) b.texts ≡ false → AllByRecursion (λ (x : TextRow). bytes_eq x.body body ≡ false) t.texts
texts_apart t b body h none = subst (HasNot body) (sym (ap (λ (u : Tables). u.texts) h.same)) (text_rows_apart body 1 b.texts none)
