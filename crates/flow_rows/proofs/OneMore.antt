-- One event more of a run, in its rows.
use Rattle.std.proofs.Common.{◌≡◌, ◌≢◌, ℕ, suc, ◌+◌, ◌≤◌, ℤ, pos, List, [], ◌∷◌, ◌++◌, map, filter, length, Bool, true, false, not, nat_eq, if◌then◌else◌, Some, refl, sym, ap, ◌∙◌, subst, arith}
use Rattle.std.specs.Prelude.{int_lt}
use Rattle.std.specs.List.{AllByRecursion}
use Rattle.std.specs.Ordering.{int_eq}
use Rattle.std.proofs.lemmas.Bool.{ltb-true, eqb-true, eq-eqb}
use Rattle.std.proofs.lemmas.Bool.Decides.{Decides-int_eq}
use Rattle.flow_base.specs.declared.event.Cmd.TheVariants.{Schedule, StartTimer, CancelTimer, RecordMarker, Complete, Fail, ContinueAsNew}
use Rattle.flow_base.specs.declared.event.Input.TheVariants.{Started, Signaled, ActivityCompleted, ActivityFailed, TimerFired, Terminated}
use Rattle.flow_base.specs.declared.event.What.{What}
use Rattle.flow_base.specs.declared.event.What.TheVariants.{Came, Asked}
use Rattle.flow_base.specs.declared.event.Event.{Event}
use Rattle.flow_base.specs.declared.event.State.{State}
use Rattle.flow_base.specs.declared.event.State.TheVariants as state
use Rattle.flow_base.specs.declared.book.OpenActivity.{OpenActivity}
use Rattle.flow_base.specs.declared.book.Timer.{Timer}
use Rattle.flow_base.specs.declared.book.Run.{Run}
use Rattle.flow_model.specs.Book.{Book, with_events}
use Rattle.flow_model.specs.Configuration.{is_open}
use Rattle.flow_model.specs.Open as left_open
use Rattle.flow_model.specs.Open.{without, tasks_after_one, timers_after_one, timers_after, open_timers, state_after_one, state_after, state_of}
use Rattle.flow_rows.specs.declared.rows.RunRow.{RunRow}
use Rattle.flow_rows.specs.declared.rows.TimerRow.{TimerRow}
use Rattle.flow_rows.specs.declared.rows.OutboxRow.{OutboxRow}
use Rattle.flow_rows.specs.Rows.{Tables, rows_of, text_rows, request_text, open_number, run_row, run_rows, event_row, timer_row, task_row, timers_left, run_at, of_run}
use Rattle.flow_rows.specs.Changes.{put_by, event_id, timer_id, task_id, at_run, with_event, with_timer, is_other_timer, is_other_task, marked_row}
use Rattle.flow_rows.specs.Told.{whole, first_task, after_event, opened_what, AreRead, AreTasksWithin, StartsNone}
use Rattle.flow_rows.proofs.Undamaged.{event_rows_of, timer_rows_of, task_rows_of}
use Rattle.flow_rows.proofs.Telling.{AreTimersWithin, told_event}

---- A row comes behind the others

not_less : (a b : ℕ) → b ≤ a → int_lt (pos a) (pos b) ≡ false
not_less a b most = by_case (int_lt (pos a) (pos b)) refl
  where
    by_case : (v : Bool) → int_lt (pos a) (pos b) ≡ v → int_lt (pos a) (pos b) ≡ false
    by_case true is = absurd (let less = ltb-true a b is in omega (arith, less, most))
    by_case false is = is

pub put_last : {A B : Type 0} (key : A → ℤ) (row : B → A) (x : B) (xs : List B) → AllByRecursion (λ y. int_lt (key (row x)) (key (row y)) ≡ false) xs
    → put_by key (row x) (map row xs) ≡ map row (xs ++ x ∷ [])
put_last key row x [] behind = refl
put_last key row x (y ∷ ys) behind = rw behind.0 (ap (λ l. row y ∷ l) (put_last key row x ys behind.1))

pub events_behind : (i last : ℕ) (es : List Event) → AreRead i es → i + length es ≤ suc last → AllByRecursion (λ (e : Event). int_lt (pos last) (pos e.id) ≡ false) es
events_behind i last [] are fits = tt
events_behind i last (e ∷ es) are fits =
    (not_less last e.id (let id = are.0 in omega (arith, id, fits)), events_behind (i + 1) last es are.2 (omega (arith, fits)))

timers_behind : (last : ℕ) (ts : List Timer) → AreTimersWithin last ts → AllByRecursion (λ (t : Timer). int_lt (pos last) (pos t.id) ≡ false) ts
timers_behind last [] all = tt
timers_behind last (t ∷ ts) all = (not_less last t.id all.0, timers_behind last ts all.1)

tasks_behind : (last : ℕ) (ts : List OpenActivity) → AreTasksWithin last ts → AllByRecursion (λ (t : OpenActivity). int_lt (pos last) (pos t.event) ≡ false) ts
tasks_behind last [] all = tt
tasks_behind last (t ∷ ts) all = (not_less last t.event all.0, tasks_behind last ts all.1)

---- Rows go

one_out : {A B : Type 0} (row : B → A) (p : B → Bool) (q : A → Bool) (x : B) (xs : List B) (b : Bool) → p x ≡ b → q (row x) ≡ p x
    → filter q (map row xs) ≡ map row (filter p xs) → filter q (map row (x ∷ xs)) ≡ map row (filter p (x ∷ xs))
one_out row p q x xs true is same more = rw is (rw (same ∙ is) (ap (λ l. row x ∷ l) more))
one_out row p q x xs false is same more = rw is (rw (same ∙ is) more)

all_out : {A B : Type 0} (row : B → A) (p : B → Bool) (q : A → Bool) (xs : List B) → ((x : B) → q (row x) ≡ p x) → filter q (map row xs) ≡ map row (filter p xs)
all_out row p q [] same = refl
all_out row p q (x ∷ xs) same = one_out row p q x xs (p x) refl (same x) (all_out row p q xs same)

abbrev other_timer : ℕ → Timer → Bool
other_timer n t = not (nat_eq t.id n)

abbrev other_task : ℕ → OpenActivity → Bool
other_task n t = not (nat_eq t.event n)

both_alike : (v w : Bool) → (v ≡ true → w ≡ true) → (w ≡ true → v ≡ true) → v ≡ w
both_alike true true there back = refl
both_alike true false there back = sym (there refl)
both_alike false true there back = back refl
both_alike false false there back = refl

pub same_test : (a b : ℕ) → int_eq (pos a) (pos b) ≡ nat_eq a b
same_test a b =
    both_alike (int_eq (pos a) (pos b)) (nat_eq a b) (λ is. eq-eqb a b (ap whole ((Decides-int_eq (pos a) (pos b)).0 is)))
    (λ is. (Decides-int_eq (pos a) (pos b)).1 (ap pos (eqb-true a b is)))

tasks_out : (run : ℤ) (n : ℕ) (ts : List OpenActivity) → filter (is_other_task (pos n)) (map (task_row run) ts) ≡ map (task_row run) (without n ts)
tasks_out run n ts = all_out (task_row run) (other_task n) (is_other_task (pos n)) ts (λ t. ap not (same_test t.event n))

timers_out : (run : ℤ) (n : ℕ) (ts : List Timer) → filter (is_other_timer (pos n)) (map (timer_row run) ts) ≡ map (timer_row run) (left_open.without_timer n ts)
timers_out run n ts = all_out (timer_row run) (other_timer n) (is_other_timer (pos n)) ts (λ t. ap not (same_test t.id n))

---- What a history with one event more leaves open

state_behind : (s : State) (es : List Event) (e : Event) → state_after s (es ++ e ∷ []) ≡ state_after_one (state_after s es) e
state_behind s [] e = refl
state_behind s (x ∷ xs) e = state_behind (state_after_one s x) xs e

timers_behind_one : (ts : List Timer) (es : List Event) (e : Event) → timers_after ts (es ++ e ∷ []) ≡ timers_after_one (timers_after ts es) e
timers_behind_one ts [] e = refl
timers_behind_one ts (x ∷ xs) e = timers_behind_one (timers_after_one ts x) xs e

opened_one : (s : State) (id at : ℕ) (w : What) → is_open (state_after_one s (told_event id at w)) ≡ opened_what (is_open s) w
opened_one s id at (Came (Started vs)) = refl
opened_one s id at (Came (Signaled a r v)) = refl
opened_one s id at (Came (ActivityCompleted n v)) = refl
opened_one s id at (Came (ActivityFailed n x)) = refl
opened_one s id at (Came (TimerFired n)) = refl
opened_one s id at (Came (Terminated x)) = refl
opened_one s id at (Asked (Schedule a vs n m k)) = refl
opened_one s id at (Asked (StartTimer due)) = refl
opened_one s id at (Asked (CancelTimer n)) = refl
opened_one s id at (Asked (RecordMarker p)) = refl
opened_one s id at (Asked (Complete v)) = refl
opened_one s id at (Asked (Fail c x)) = refl
opened_one s id at (Asked (ContinueAsNew vs)) = refl

pub opened_next : (h : List Event) (e : Event) → is_open (state_of (h ++ e ∷ [])) ≡ opened_what (is_open (state_of h)) e.what
opened_next h e = ap is_open (state_behind state.Unbegun h e) ∙ opened_one (state_of h) e.id e.at e.what

abbrev left_where : Bool → List Timer → List Timer
left_where v ts = if v then ts else []

left_next : (h : List Event) (e : Event) → timers_left (h ++ e ∷ []) ≡ left_where (opened_what (is_open (state_of h)) e.what) (timers_after_one (open_timers h) e)
left_next h e = ap (λ v. left_where v (open_timers (h ++ e ∷ []))) (opened_next h e) ∙ ap (left_where (opened_what (is_open (state_of h)) e.what)) (timers_behind_one [] h e)

---- Books that differ in one run

pub record Replaces (b b' : Book) (n : ℕ) (r r' : Run) : Type 0 where
  pub texts : b.texts ≡ b'.texts
  pub here : run_at b (pos n) ≡ Some r
  pub now : run_at b' (pos n) ≡ Some r'
  pub others : (z : ℤ) → int_eq z (pos n) ≡ false → run_at b z ≡ run_at b' z
  pub kept : run_row n r ≡ run_row n r' → run_rows 1 b.runs ≡ run_rows 1 b'.runs
  pub marked : (mark : ℤ) → marked_row (pos n) mark (run_row n r) ≡ run_row n r' → map (marked_row (pos n) mark) (run_rows 1 b.runs) ≡ run_rows 1 b'.runs

pub changed_rows : {A : Type 0} (b b' : Book) (n : ℕ) (r r' : Run) → Replaces b b' n r r' → (g : ℤ → Run → List A) (f : List A → List A) → f (g (pos n) r) ≡ g (pos n) r'
    → (z : ℤ) → at_run (pos n) f (λ y. of_run (run_at b y) (g y)) z ≡ of_run (run_at b' z) (g z)
changed_rows b b' n r r' h g f is z = by_case (int_eq z (pos n)) refl
  where
    at_number : f (of_run (run_at b (pos n)) (g (pos n))) ≡ of_run (run_at b' (pos n)) (g (pos n))
    at_number = ap (λ o. f (of_run o (g (pos n)))) h.here ∙ is ∙ sym (ap (λ o. of_run o (g (pos n))) h.now)

    by_case : (v : Bool) → int_eq z (pos n) ≡ v → at_run (pos n) f (λ y. of_run (run_at b y) (g y)) z ≡ of_run (run_at b' z) (g z)
    by_case true same = rw same (subst (λ y. f (of_run (run_at b y) (g y)) ≡ of_run (run_at b' y) (g y)) (sym ((Decides-int_eq z (pos n)).0 same)) at_number)
    by_case false other = rw other (ap (λ o. of_run o (g z)) (h.others z other))

pub kept_rows : {A : Type 0} (b b' : Book) (n : ℕ) (r r' : Run) → Replaces b b' n r r' → (g : ℤ → Run → List A) → g (pos n) r ≡ g (pos n) r'
    → (z : ℤ) → of_run (run_at b z) (g z) ≡ of_run (run_at b' z) (g z)
kept_rows b b' n r r' h g is z = by_case (int_eq z (pos n)) refl
  where
    at_number : of_run (run_at b (pos n)) (g (pos n)) ≡ of_run (run_at b' (pos n)) (g (pos n))
    at_number = ap (λ o. of_run o (g (pos n))) h.here ∙ is ∙ sym (ap (λ o. of_run o (g (pos n))) h.now)

    by_case : (v : Bool) → int_eq z (pos n) ≡ v → of_run (run_at b z) (g z) ≡ of_run (run_at b' z) (g z)
    by_case true same = subst (λ y. of_run (run_at b y) (g y) ≡ of_run (run_at b' y) (g y)) (sym ((Decides-int_eq z (pos n)).0 same)) at_number
    by_case false other = ap (λ o. of_run o (g z)) (h.others z other)

pub same_tables : (t u : Tables) → t.texts ≡ u.texts → t.runs ≡ u.runs → ((z : ℤ) → t.events z ≡ u.events z) → ((z : ℤ) → t.timers z ≡ u.timers z)
    → ((z : ℤ) → t.outbox z ≡ u.outbox z) → t ≡ u
same_tables t u texts runs events timers outbox =
    λ i. record { texts = texts i; runs = runs i; events = λ z. events z i; timers = λ z. timers z i; outbox = λ z. outbox z i }

---- What one event changes

abbrev cells : ℕ → Run → ℤ → RunRow
cells n r mark = record { num = pos n; flow = r.flow; req = request_text r.request; textnum = pos r.text; isopen = mark }

same_number : (z : ℤ) → int_eq z z ≡ true
same_number z = (Decides-int_eq z z).1 refl

is_marked : (n : ℕ) (r : Run) (e : Event) (mark : ℤ) → open_number (opened_what (is_open (state_of r.history)) e.what) ≡ mark
    → marked_row (pos n) mark (run_row n r) ≡ run_row n (with_events (e ∷ []) r)
is_marked n r e mark is = rw (same_number (pos n)) (ap (cells n r) (sym is ∙ ap open_number (sym (opened_next r.history e))))

is_kept : (n : ℕ) (r : Run) (e : Event) → opened_what (is_open (state_of r.history)) e.what ≡ is_open (state_of r.history)
    → run_row n r ≡ run_row n (with_events (e ∷ []) r)
is_kept n r e is = ap (λ v. cells n r (open_number v)) (sym is ∙ sym (opened_next r.history e))

-- an event that may come next
pub record ComesNext (r : Run) (id : ℕ) (w : What) : Type 0 where
  pub events : AllByRecursion (λ (e : Event). int_lt (pos id) (pos e.id) ≡ false) r.history
  pub timers : AreTimersWithin id (open_timers r.history)
  pub tasks : AreTasksWithin id r.tasks
  pub starts : r.history ≢ [] → StartsNone w

begins_first : (h : List Event) → (h ≢ [] → ⊥) → h ≡ []
begins_first [] none = refl
begins_first (e ∷ es) none = absurd (none (λ same. let clash = same in cc))

timers_of_new : (h : List Event) → h ≡ [] → timers_left h ≡ left_where true (open_timers h)
timers_of_new [] same = refl
timers_of_new (e ∷ es) same = absurd (let clash = same in cc)

timer_goes : (run : ℤ) (n : ℕ) (v : Bool) (ts : List Timer)
    → filter (is_other_timer (pos n)) (map (timer_row run) (left_where v ts)) ≡ map (timer_row run) (left_where v (left_open.without_timer n ts))
timer_goes run n true ts = timers_out run n ts
timer_goes run n false ts = refl

module _ (b b' : Book) (n : ℕ) (r : Run) where
  texts_kept : (r' : Run) → Replaces b b' n r r' → text_rows 1 b.texts ≡ text_rows 1 b'.texts
  texts_kept r' h = ap (text_rows 1) h.texts

  event_comes : (e : Event) → Replaces b b' n r (with_events (e ∷ []) r) → AllByRecursion (λ (x : Event). int_lt (pos e.id) (pos x.id) ≡ false) r.history
      → (z : ℤ) → at_run (pos n) (put_by event_id (event_row (pos n) e)) (rows_of b).events z ≡ (rows_of b').events z
  event_comes e h behind =
      changed_rows b b' n r (with_events (e ∷ []) r) h event_rows_of (put_by event_id (event_row (pos n) e))
      (put_last event_id (event_row (pos n)) e r.history behind)

  timers_kept : (e : Event) → Replaces b b' n r (with_events (e ∷ []) r) → timers_left r.history ≡ left_where (opened_what (is_open (state_of r.history)) e.what) (timers_after_one (open_timers r.history) e)
      → (z : ℤ) → (rows_of b).timers z ≡ (rows_of b').timers z
  timers_kept e h same = kept_rows b b' n r (with_events (e ∷ []) r) h timer_rows_of (ap (map (timer_row (pos n))) (same ∙ sym (left_next r.history e)))

  timers_change : (e : Event) → Replaces b b' n r (with_events (e ∷ []) r) → (f : List TimerRow → List TimerRow)
      → f (map (timer_row (pos n)) (timers_left r.history)) ≡ map (timer_row (pos n)) (left_where (opened_what (is_open (state_of r.history)) e.what) (timers_after_one (open_timers r.history) e))
      → (z : ℤ) → at_run (pos n) f (rows_of b).timers z ≡ (rows_of b').timers z
  timers_change e h f same =
      changed_rows b b' n r (with_events (e ∷ []) r) h timer_rows_of f (same ∙ ap (map (timer_row (pos n))) (sym (left_next r.history e)))

  tasks_kept : (e : Event) → Replaces b b' n r (with_events (e ∷ []) r) → r.tasks ≡ tasks_after_one r.tasks e → (z : ℤ) → (rows_of b).outbox z ≡ (rows_of b').outbox z
  tasks_kept e h same = kept_rows b b' n r (with_events (e ∷ []) r) h task_rows_of (ap (map (task_row (pos n))) same)

  tasks_change : (e : Event) → Replaces b b' n r (with_events (e ∷ []) r) → (f : List OutboxRow → List OutboxRow)
      → f (map (task_row (pos n)) r.tasks) ≡ map (task_row (pos n)) (tasks_after_one r.tasks e) → (z : ℤ) → at_run (pos n) f (rows_of b).outbox z ≡ (rows_of b').outbox z
  tasks_change e h f same = changed_rows b b' n r (with_events (e ∷ []) r) h task_rows_of f same

  timer_comes : (id at due : ℕ) (v : Bool) → is_open (state_of r.history) ≡ v → Replaces b b' n r (with_events (told_event id at (Asked (StartTimer due)) ∷ []) r)
      → ComesNext r id (Asked (StartTimer due))
      → (if v then with_timer (timer_row (pos n) (record { id = id; due = due })) (with_event (event_row (pos n) (told_event id at (Asked (StartTimer due)))) (rows_of b))
      else with_event (event_row (pos n) (told_event id at (Asked (StartTimer due)))) (rows_of b)) ≡ rows_of b'
  timer_comes id at due true is h next =
      let e = told_event id at (Asked (StartTimer due)) in
      same_tables _ _ (texts_kept _ h) (h.kept (is_kept n r e refl)) (event_comes e h next.events)
      (timers_change e h (put_by timer_id (timer_row (pos n) (record { id = id; due = due })))
      (ap (λ x. put_by timer_id (timer_row (pos n) (record { id = id; due = due })) (map (timer_row (pos n)) (left_where x (open_timers r.history)))) is
      ∙ put_last timer_id (timer_row (pos n)) (record { id = id; due = due }) (open_timers r.history) (timers_behind id (open_timers r.history) next.timers)
      ∙ ap (λ x. map (timer_row (pos n)) (left_where x (open_timers r.history ++ record { id = id; due = due } ∷ []))) (sym is)))
      (tasks_kept e h refl)
  timer_comes id at due false is h next =
      let e = told_event id at (Asked (StartTimer due)) in
      same_tables _ _ (texts_kept _ h) (h.kept (is_kept n r e refl)) (event_comes e h next.events)
      (timers_kept e h (ap (λ x. left_where x (open_timers r.history)) is ∙ ap (λ x. left_where x (open_timers r.history ++ record { id = id; due = due } ∷ [])) (sym is)))
      (tasks_kept e h refl)

  -- The rows of a book, after one event more of a run, are those of the book after it.
  pub one_more : (id at : ℕ) (w : What) → Replaces b b' n r (with_events (told_event id at w ∷ []) r) → ComesNext r id w
      → after_event (pos n) (is_open (state_of r.history)) (told_event id at w) (rows_of b) ≡ rows_of b'
  one_more id at (Came (Started vs)) h next =
      let e = told_event id at (Came (Started vs)) in
      same_tables _ _ (texts_kept _ h) (h.marked (pos 1) (is_marked n r e (pos 1) refl)) (event_comes e h next.events)
      (timers_kept e h (timers_of_new r.history (begins_first r.history next.starts))) (tasks_kept e h refl)
  one_more id at (Came (Signaled a q v)) h next =
      let e = told_event id at (Came (Signaled a q v)) in
      same_tables _ _ (texts_kept _ h) (h.kept (is_kept n r e refl)) (event_comes e h next.events) (timers_kept e h refl) (tasks_kept e h refl)
  one_more id at (Came (ActivityCompleted k v)) h next =
      let e = told_event id at (Came (ActivityCompleted k v)) in
      same_tables _ _ (texts_kept _ h) (h.kept (is_kept n r e refl)) (event_comes e h next.events) (timers_kept e h refl)
      (tasks_change e h (filter (is_other_task (pos k))) (tasks_out (pos n) k r.tasks))
  one_more id at (Came (ActivityFailed k x)) h next =
      let e = told_event id at (Came (ActivityFailed k x)) in
      same_tables _ _ (texts_kept _ h) (h.kept (is_kept n r e refl)) (event_comes e h next.events) (timers_kept e h refl)
      (tasks_change e h (filter (is_other_task (pos k))) (tasks_out (pos n) k r.tasks))
  one_more id at (Came (TimerFired k)) h next =
      let e = told_event id at (Came (TimerFired k)) in
      same_tables _ _ (texts_kept _ h) (h.kept (is_kept n r e refl)) (event_comes e h next.events)
      (timers_change e h (filter (is_other_timer (pos k))) (timer_goes (pos n) k (is_open (state_of r.history)) (open_timers r.history))) (tasks_kept e h refl)
  one_more id at (Came (Terminated x)) h next =
      let e = told_event id at (Came (Terminated x)) in
      same_tables _ _ (texts_kept _ h) (h.marked (pos 0) (is_marked n r e (pos 0) refl)) (event_comes e h next.events)
      (timers_change e h (λ _. []) refl) (tasks_change e h (λ _. []) refl)
  one_more id at (Asked (Schedule a vs tries every gives)) h next =
      let e = told_event id at (Asked (Schedule a vs tries every gives)) in
      same_tables _ _ (texts_kept _ h) (h.kept (is_kept n r e refl)) (event_comes e h next.events) (timers_kept e h refl)
      (tasks_change e h (put_by task_id (task_row (pos n) (first_task id at))) (put_last task_id (task_row (pos n)) (first_task id at) r.tasks (tasks_behind id r.tasks next.tasks)))
  one_more id at (Asked (StartTimer due)) h next = timer_comes id at due (is_open (state_of r.history)) refl h next
  one_more id at (Asked (CancelTimer k)) h next =
      let e = told_event id at (Asked (CancelTimer k)) in
      same_tables _ _ (texts_kept _ h) (h.kept (is_kept n r e refl)) (event_comes e h next.events)
      (timers_change e h (filter (is_other_timer (pos k))) (timer_goes (pos n) k (is_open (state_of r.history)) (open_timers r.history))) (tasks_kept e h refl)
  one_more id at (Asked (RecordMarker p)) h next =
      let e = told_event id at (Asked (RecordMarker p)) in
      same_tables _ _ (texts_kept _ h) (h.kept (is_kept n r e refl)) (event_comes e h next.events) (timers_kept e h refl) (tasks_kept e h refl)
  one_more id at (Asked (Complete v)) h next =
      let e = told_event id at (Asked (Complete v)) in
      same_tables _ _ (texts_kept _ h) (h.marked (pos 0) (is_marked n r e (pos 0) refl)) (event_comes e h next.events)
      (timers_change e h (λ _. []) refl) (tasks_change e h (λ _. []) refl)
  one_more id at (Asked (Fail c x)) h next =
      let e = told_event id at (Asked (Fail c x)) in
      same_tables _ _ (texts_kept _ h) (h.marked (pos 0) (is_marked n r e (pos 0) refl)) (event_comes e h next.events)
      (timers_change e h (λ _. []) refl) (tasks_change e h (λ _. []) refl)
  one_more id at (Asked (ContinueAsNew vs)) h next =
      let e = told_event id at (Asked (ContinueAsNew vs)) in
      same_tables _ _ (texts_kept _ h) (h.marked (pos 0) (is_marked n r e (pos 0) refl)) (event_comes e h next.events)
      (timers_change e h (λ _. []) refl) (tasks_change e h (λ _. []) refl)
