-- That the statements which are made, where so much is known of the rows, leave what all of them would.
use Rattle.std.specs.Prelude.{◌≡◌, ◌∷◌, ◌+◌, if◌then◌else◌, ◌++◌}
use Rattle.std.proofs.Common.{eqb-true, eq-eqb}
use Rattle.std.specs.List.{list_any}
use Rattle.flow_tables.specs.Puts.{is_task_at}
use Rattle.flow_tables.proofs.Names.{timers_left, inl, inr, effect_of, Bytes, Run, OpenActivity, Turn, Effect, Cmd, Event, Input, Started, Came, Book, nth, is_open, state_of, traces, turn_events, is_other_task, marked, marked_row, with_event, with_run, with_timer, without_tasks, without_timers, event_row, of_run, task_row, timer_row, Tells, after_effect, after_turn, new_run, Tables, OutboxRow, RunRow, State, AllByRecursion, int_eq, Bool, List, Option, false, filter, int_lt, map, pos, true, ℕ, Changes, tables_in, OpenTasks, RowStanding, None, Some, length, ℤ, [], refl, suc, eqb as nat_eq, subst, ◌∙◌, sym, ap, arith, made_turn, true≢false, Stands, stands_what, made_event, made_events, begins, first_row, first_standing, HasOnly, ended, stands_by, tasks_gone, timers_gone, made_effect, any_standing, tasks_known, cases_Bool, Decides-int_eq, TimerRow, head_of}
use Rattle.std.proofs.lemmas.List.{map-append}
use Rattle.sqlite_catalog.proofs.ListFacts.{filter_swap}
use Rattle.std.proofs.lemmas.Option.{slice_get_past}
use Rattle.flow_base.specs.declared.effect.Effect.TheVariants as effect
use Rattle.flow_base.specs.declared.book.Timer.{Timer}
use Rattle.flow_model.specs.Open.{open_timers}
use Rattle.flow_rows.specs.Changes.{at_run, is_other_timer}
use Rattle.flow_rows.specs.Told.{opened_by, after_event, after_events}
use Rattle.flow_rows.proofs.BookTables.{nth_is}
use Rattle.flow_rows.proofs.Finds as found
use Rattle.flow_rows.proofs.Undamaged.{timer_rows_of}
use Rattle.flow_rows.proofs.Behind.{no_rows_yet}
use Rattle.flow_tables.specs.declared.known.OpenTasks.TheVariants as tasks
use Rattle.flow_tables.specs.Known.{has_some, head_standing}
use Rattle.flow_tables.proofs.Room.{apart_below}

---- What one run has

at_here : {A : Type 0} (run : ℤ) (f : List A → List A) (rows : ℤ → List A) → at_run run f rows run ≡ f (rows run)
at_here run f rows = let same : int_eq run run ≡ true = (Decides-int_eq run run).1 refl in rw same refl

-- what has no rows loses none
none_to_go : {A : Type 0} (run : ℤ) (rows : ℤ → List A) → rows run ≡ [] → (z : ℤ) → at_run run (λ _. []) rows z ≡ rows z
none_to_go run rows none z = elim (cases_Bool (int_eq z run)) [
  | inl same ↦ rw same (sym (ap rows ((Decides-int_eq z run).0 same) ∙ none))
  | inr other ↦ rw other refl
]

tasks_gone_is : (run : ℤ) (k : OpenTasks) (t : Tables) → HasOnly k (t.outbox run) → tasks_gone run k t ≡ without_tasks run t
tasks_gone_is run tasks.Gone t none = λ i. record t { outbox = λ z. sym (none_to_go run t.outbox none z) i }
tasks_gone_is run _ t only = refl

timers_gone_is : (run : ℤ) (v : Bool) (t : Tables) → (v ≡ false → t.timers run ≡ []) → timers_gone run v t ≡ without_timers run t
timers_gone_is run true t none = refl
timers_gone_is run false t none = λ i. record t { timers = λ z. sym (none_to_go run t.timers (none refl) z) i }

mark_is : (run : ℤ) (v : Bool) (t : Tables) → (v ≡ true → map (marked_row run (pos 1)) t.runs ≡ t.runs) → (if v then t else marked run (pos 1) t) ≡ marked run (pos 1) t
mark_is run true t same = λ i. record t { runs = sym (same refl) i }
mark_is run false t same = refl

-- The statements that are made leave what all of them would.
effect_is : (run : ℤ) (s : RowStanding) (id at : ℕ) (e : Effect) (t : Tables) → Stands run s t → made_effect run s id at e t ≡ after_effect run s.is_open id at e t
effect_is run s id at effect.Begins t h = mark_is run s.is_marked t h.mark
effect_is run s id at (effect.Closes x) t h =
    ap (λ u. marked run (pos 0) (timers_gone run s.has_timers u)) (tasks_gone_is run s.tasks t h.tasks)
    ∙ ap (marked run (pos 0)) (timers_gone_is run s.has_timers (without_tasks run t) h.timers)
effect_is run s id at _ t h = refl

---- What is known stays true

-- a row of another number stays
still_there : (n m : ℕ) → nat_eq n m ≡ false → (rows : List OutboxRow) → list_any (is_task_at (pos n)) rows ≡ true → list_any (is_task_at (pos n)) (filter (is_other_task (pos m)) rows) ≡ true
still_there n m apart [] there = there
still_there n m apart (x ∷ rows) there = elim (cases_Bool (int_eq x.id (pos n))) [
  | inl same ↦
      elim (cases_Bool (int_eq x.id (pos m))) [
        | inl met ↦
            let numbers : pos n ≡ pos m = sym ((Decides-int_eq x.id (pos n)).0 same) ∙ (Decides-int_eq x.id (pos m)).0 met in
            let is : n ≡ m = let e = numbers in cc in
            absurd (true≢false (sym (eq-eqb n m is) ∙ apart))
        | inr other ↦ rw other (rw same refl)
      ]
  | inr away ↦
      let rest = still_there n m apart rows (rw away at there) in
      elim (cases_Bool (int_eq x.id (pos m))) [
        | inl gone ↦ rw gone rest
        | inr stays ↦ rw stays (rw away rest)
      ]
]

ended_only : (k : OpenTasks) (m : ℕ) (rows : List OutboxRow) → HasOnly k rows → HasOnly (ended k m) (filter (is_other_task (pos m)) rows)
ended_only tasks.Gone m rows none = ap (filter (is_other_task (pos m))) none
ended_only (tasks.Single n) m rows only = elim (cases_Bool (nat_eq n m)) [
  | inl same ↦ rw same (subst (λ k. filter (is_other_task (pos k)) rows ≡ []) (eqb-true n m same) only.0)
  | inr other ↦ rw other (filter_swap (is_other_task (pos n)) (is_other_task (pos m)) rows ∙ ap (filter (is_other_task (pos m))) only.0, still_there n m other rows only.1)
]
ended_only tasks.Unsure m rows only = tt

timer_started : (run : ℤ) (s : RowStanding) (row : TimerRow) (t : Tables) (v : Bool) → Stands run s t → Stands run (record s { has_timers = true }) (if v then with_timer row t else t)
timer_started run s row t true h = record { mark = h.mark; tasks = h.tasks; timers = λ none. absurd (true≢false none) }
timer_started run s row t false h = record { mark = h.mark; tasks = h.tasks; timers = λ none. absurd (true≢false none) }

stands_on : (run : ℤ) (s : RowStanding) (id at : ℕ) (e : Effect) (t : Tables) → Stands run s t → Stands run (stands_by s e) (after_effect run s.is_open id at e t)
stands_on run s id at effect.Begins t h = record { mark = λ is. ap (map (marked_row run (pos 1))) (h.mark is); tasks = h.tasks; timers = h.timers }
stands_on run s id at effect.OpensActivity t h = record { mark = h.mark; tasks = tt; timers = h.timers }
stands_on run s id at (effect.OpensTimer due) t h = timer_started run s _ t s.is_open h
stands_on run s id at (effect.EndsActivity n) t h = record {
  mark = h.mark;
  tasks = subst (HasOnly (ended s.tasks n)) (sym (at_here run (filter (is_other_task (pos n))) t.outbox)) (ended_only s.tasks n (t.outbox run) h.tasks);
  timers = h.timers;
}
stands_on run s id at (effect.EndsTimer n) t h = record {
  mark = h.mark;
  tasks = h.tasks;
  timers = λ none. at_here run (filter (is_other_timer (pos n))) t.timers ∙ ap (filter (is_other_timer (pos n))) (h.timers none);
}
stands_on run s id at (effect.Closes x) t h = record {
  mark = λ is. absurd (true≢false (sym is));
  tasks = at_here run (λ _. []) t.outbox;
  timers = λ none. at_here run (λ _. []) t.timers;
}
stands_on run s id at effect.Nothing t h = h

opens_alike : (s : RowStanding) (e : Effect) → (stands_by s e).is_open ≡ opened_by s.is_open e
opens_alike s effect.Begins = refl
opens_alike s _ = refl

pub made_all : (run : ℤ) (es : List Event) (s : RowStanding) (t : Tables) → Stands run s t → made_events run s es t ≡ after_events run s.is_open es t
made_all run [] s t h = refl
made_all run (e ∷ es) s t h =
    -- an event's own row is none of these
    let own : Stands run s (with_event (event_row run e) t) = record { mark = h.mark; tasks = h.tasks; timers = h.timers } in
    let here : made_event run s e t ≡ after_event run s.is_open e t = effect_is run s e.id e.at (effect_of e.what) (with_event (event_row run e) t) own in
    let next = stands_on run s e.id e.at (effect_of e.what) (with_event (event_row run e) t) own in
    ap (made_events run (stands_what s e.what) es) here ∙ made_all run es (stands_what s e.what) (after_event run s.is_open e t) next
    ∙ ap (λ v. after_events run v es (after_event run s.is_open e t)) (opens_alike s (effect_of e.what))

-- so a turn that was put is the turn
pub turn_made : (old new : State) (run : ℤ) (s : RowStanding) (count : ℕ) (turn : Turn) → Stands run s (tables_in old.now) → Changes old new (made_turn run s count turn (tables_in old.now))
    → Changes old new (after_turn run s.is_open count turn (tables_in old.now))
turn_made old new run s count turn h done = subst (Changes old new) (made_all run (turn_events (count + 1) turn.at turn.input turn.commands) s (tables_in old.now) h) done

pub any_stands : (run : ℤ) (opened : Bool) (t : Tables) → Stands run (any_standing opened) t
any_stands run opened t = record { mark = λ is. absurd (true≢false (sym is)); tasks = tt; timers = λ none. absurd (true≢false none) }

---- A run that begins

marked_end : (f : RunRow → RunRow) (a b : RunRow) (xs : List RunRow) → f a ≡ f b → map f (xs ++ a ∷ []) ≡ map f (xs ++ b ∷ [])
marked_end f a b xs same = map-append f xs (a ∷ []) ∙ ap (λ y. map f xs ++ y ∷ []) same ∙ sym (map-append f xs (b ∷ []))

-- the mark that its row comes with is the one that it gets
begun_is : (n at : ℕ) (i : Input) (cs : List Cmd) (flow : Bytes) (request : Option Bytes) (text : ℕ) (t : Tables)
    → after_events (pos n) false (turn_events 1 at i cs) (with_run (first_row n flow request text (begins i)) t) ≡ after_events (pos n) false (turn_events 1 at i cs) (with_run (new_run n flow request text) t)
begun_is n at (Started vs) cs flow request text t =
    let e : Event = record { id = 1; at = at; what = Came (Started vs) } in
    let same : int_eq (pos n) (pos n) ≡ true = (Decides-int_eq (pos n) (pos n)).1 refl in
    let alike : marked_row (pos n) (pos 1) (first_row n flow request text true) ≡ marked_row (pos n) (pos 1) (new_run n flow request text) = rw same refl in
    ap (λ rows. after_events (pos n) true (traces 2 at cs) (record (with_event (event_row (pos n) e) t) { runs = rows }))
    (marked_end (marked_row (pos n) (pos 1)) (first_row n flow request text true) (new_run n flow request text) t.runs alike)
begun_is n at _ cs flow request text t = refl

marked_others : (n : ℕ) (row : RunRow) (xs : List RunRow) → AllByRecursion (λ (x : RunRow). int_lt x.num (pos n) ≡ true) xs → marked_row (pos n) (pos 1) row ≡ row
    → map (marked_row (pos n) (pos 1)) (xs ++ row ∷ []) ≡ xs ++ row ∷ []
marked_others n row [] below same = ap (λ x. x ∷ []) same
marked_others n row (x ∷ xs) below same = rw (apart_below x.num (pos n) below.0) (ap (λ l. x ∷ l) (marked_others n row xs below.1 same))

first_mark : (n : ℕ) (flow : Bytes) (request : Option Bytes) (text : ℕ) (opened : Bool) (t : Tables) → AllByRecursion (λ (x : RunRow). int_lt x.num (pos n) ≡ true) t.runs
    → opened ≡ true → map (marked_row (pos n) (pos 1)) (t.runs ++ first_row n flow request text opened ∷ []) ≡ t.runs ++ first_row n flow request text opened ∷ []
first_mark n flow request text true t below is = marked_others n (first_row n flow request text true) t.runs below (let same : int_eq (pos n) (pos n) ≡ true = (Decides-int_eq (pos n) (pos n)).1 refl in rw same refl)
first_mark n flow request text false t below is = absurd (true≢false (sym is))

pub no_run_yet : (b : Book) (n : ℕ) → n ≡ length b.runs + 1 → nth b.runs n ≡ None
no_run_yet b n next = subst (λ k. nth b.runs k ≡ None) (let it : suc (length b.runs) ≡ n = omega (arith, next) in it) (nth_is b.runs (length b.runs) ∙ slice_get_past b.runs (length b.runs) (omega arith))

-- of a run that comes nothing is there
pub first_turn_made : (t : Tables) (b : Book) (n : ℕ) (flow : Bytes) (request : Option Bytes) (text : ℕ) (turn : Turn) → Tells t b → n ≡ length b.runs + 1
    → AllByRecursion (λ (x : RunRow). int_lt x.num (pos n) ≡ true) t.runs
    → made_turn (pos n) (first_standing (begins turn.input)) 0 turn (with_run (first_row n flow request text (begins turn.input)) t) ≡ after_turn (pos n) false 0 turn (with_run (new_run n flow request text) t)
first_turn_made t b n flow request text turn tells next below =
    let none = no_rows_yet t b n tells (no_run_yet b n next) in
    made_all (pos n) (turn_events 1 turn.at turn.input turn.commands) (first_standing (begins turn.input)) (with_run (first_row n flow request text (begins turn.input)) t)
    (record { mark = first_mark n flow request text (begins turn.input) t below; tasks = none.2; timers = λ _. none.1 })
    ∙ begun_is n turn.at turn.input turn.commands flow request text t

---- What is known of a run tells this of its rows

tasks_only : (run : ℤ) (ts : List OpenActivity) → HasOnly (tasks_known ts) (map (task_row run) ts)
tasks_only run [] = refl
tasks_only run (x ∷ []) = let same : int_eq (pos x.event) (pos x.event) ≡ true = (Decides-int_eq (pos x.event) (pos x.event)).1 refl in (rw same refl, rw same refl)
tasks_only run (x ∷ y ∷ ts) = tt

no_timer_rows : (t : Tables) (b : Book) (n : ℕ) (r : Run) → Tells t b → nth b.runs n ≡ Some r → timers_left r.history ≡ [] → t.timers (pos n) ≡ []
no_timer_rows t b n r tells there none = ap (λ (u : Tables). u.timers (pos n)) tells.same ∙ ap (λ o. of_run o (timer_rows_of (pos n))) there ∙ ap (map (timer_row (pos n))) none

pub head_stands : (t : Tables) (b : Book) (n : ℕ) (r : Run) (v : Bool) → Tells t b → nth b.runs n ≡ Some r → (v ≡ false → t.timers (pos n) ≡ []) → Stands (pos n) (head_standing (head_of r) v) t
head_stands t b n r v tells there none = record {
  mark = λ is. absurd (true≢false (sym is));
  tasks = subst (HasOnly (tasks_known r.tasks)) (sym (found.task_rows_read t b n r tells there)) (tasks_only (pos n) r.tasks);
  timers = none;
}

-- a run without timers has no rows of them
none_left : (h : List Event) → open_timers h ≡ [] → timers_left h ≡ []
none_left h none = elim (cases_Bool (is_open (state_of h))) [ inl opened ↦ rw opened none | inr closed ↦ rw closed refl ]

no_timer : (ts : List Timer) → has_some ts ≡ false → ts ≡ []
no_timer [] h = refl
no_timer (t ∷ ts) h = absurd (true≢false h)

pub seat_timers : (t : Tables) (b : Book) (n : ℕ) (r : Run) (ts : List Timer) → Tells t b → nth b.runs n ≡ Some r → open_timers r.history ≡ ts → has_some ts ≡ false → t.timers (pos n) ≡ []
seat_timers t b n r ts tells there same none = no_timer_rows t b n r tells there (none_left r.history (same ∙ no_timer ts none))
