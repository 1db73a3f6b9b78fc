-- That what our tables hold can be read: a number always, and a text where it is UTF-8.
use Rattle.flow_sql.proofs.Names.{AreLaid, Schema, schema_of, ℤ}
use Rattle.flow_sql.specs.Stored.{IsUtf8Text, IsUtf8Run, IsUtf8Event}
use Rattle.flow_sql.proofs.Names.{all-map, all_from_map, cases_lt, get_or_past, suc, zero, IsUtf8, ◌≡◌, ◌∷◌, ◌<◌, all_from, all_has, has_kept, event_id, rising, events_of, EventRow, Kind, Integer, Text, Null, Row, col, overlay, IsAnswer, Output, Term, Trees, rowid, is_int, all-filter, all-permutation, all_both}
use Rattle.flow_sql.proofs.Names.{all_weaker, bytes, column, Key, Decides-int_eq, IsPermutation-sym, AllByRecursion, int_eq, IsTrue, List, filter, map, slice_get, Some, length, ℕ, [], refl, take, sym, subst, inl, inr, Layout, place_of_events, tree_of_events, AreOurs, tables_by, run_in, event_in, text_in, text_table, run_table, event_table, timer_table}
use Rattle.flow_sql.proofs.Names.{task_table, Read, rows_where, query_of, first_where, IsReadAs, AreReadAs, AreUtf8, kinds_of}
use Rattle.sqlite.specs.Query.{as_count, limited}
use Rattle.sqlite.specs.Term.{eval}
use Rattle.flow_sql.specs.Names.{Option, None}
use Rattle.flow_sql.specs.Layout.{some_where}
use Rattle.flow_sql.proofs.Numbered.{number_is}
use Rattle.flow_sql.proofs.Places.{laid, event_bare, event_there, numbered_runs, numbered_texts, run_there, task_there, text_there, timer_there}
use Rattle.flow_sql.proofs.Columns.{AreTyped, columns, numbered_at}
use Rattle.flow_sql.proofs.Reading.{meets, seen, kept_is, out}
use Rattle.flow_sql.proofs.Rising.{rising_moves}

-- a column reads as its kind where all do
pub read_at : (kinds : List Kind) (r : Row) (at : ℕ) (kind : Kind) → slice_get kinds at ≡ Some kind → AreReadAs kinds r → IsReadAs kind (column r at)
read_at [] r at kind is reads = absurd (let e = is in cc)
read_at (k ∷ ks) [] at kind is reads = absurd reads
read_at (k ∷ ks) (v ∷ vs) zero kind is reads = let same : k ≡ kind = let e = is in cc in subst (λ j. IsReadAs j v) same reads.0
read_at (k ∷ ks) (v ∷ vs) (suc at) kind is reads = read_at ks vs at kind is reads.1

-- what reads as a kind is there
pub is_there : (r : Row) (at : ℕ) (kind : Kind) → IsReadAs kind (column r at) → at < length r
is_there r at kind reads = elim (cases_lt at (length r)) [
  | inl within ↦ within
  | inr past ↦ absurd (never_null kind (subst (IsReadAs kind) (get_or_past r at Null past) reads))
]
  where
    never_null : (k : Kind) → IsReadAs k Null → ⊥
    never_null Integer h = let clash = h.1 in cc
    never_null Text h = let clash = h.1 in cc
    never_null _ h = h

---- What holds of the rows of a tree, holds of those that are shown

all_taken : (D : Row → Type 0) (rows : List Row) → AllByRecursion D rows → AllByRecursion D (take 1 rows)
all_taken D [] all = tt
all_taken D (r ∷ rows) all = (all.0, tt)

all_first : (D : Row → Type 0) (n : ℕ) (rows : List Row) → AllByRecursion D rows → AllByRecursion D (take n rows)
all_first D zero rows all = tt
all_first D (suc n) [] all = tt
all_first D (suc n) (r ∷ rows) all = (all.0, all_first D n rows all.1)

all_limited : (D : Row → Type 0) (limit : Option ℕ) (rows : List Row) → AllByRecursion D rows → AllByRecursion D (limited limit rows)
all_limited D None rows all = all
all_limited D (Some n) rows all = all_first D n rows all

module _ (db : Trees) (params : Row) (tree : ℕ) (terms project : List Term) (bare : overlay db [] tree ≡ db tree) (C D : Row → Type 0) (shows : (r : Row) → C r → D (seen params project r)) (all : AllByRecursion C (db tree)) (order : List (Term × Key)) (rows : List Row) where
  ordered_hold : (limit : Term) (a : IsAnswer (record (rows_where tree terms project order) { limit = limit }) (overlay db []) params rows) → AllByRecursion (λ (o : Output). D o.1) a.ordered
  ordered_hold limit a =
      all-permutation (λ (o : Output). D o.1) a.kept a.ordered a.same
      (subst (AllByRecursion (λ (o : Output). D o.1)) (sym (kept_is db params tree terms project bare order limit rows a))
      (all-map (λ (o : Output). D o.1) (out db params tree terms project bare order) (filter (meets params terms) (db tree)) (all_weaker C _ shows (filter (meets params terms) (db tree)) (all-filter C (meets params terms) (db tree) all))))

  pub rows_hold : IsAnswer (rows_where tree terms project order) (overlay db []) params rows → AllByRecursion D rows
  rows_hold a = subst (AllByRecursion D) (sym a.shown) (all-map D (λ (o : Output). o.1) a.ordered (ordered_hold _ a))

  first_holds : IsAnswer (first_where tree terms project order) (overlay db []) params rows → AllByRecursion D rows
  first_holds a = subst (AllByRecursion D) (sym a.shown) (all_taken D (map (λ (o : Output). o.1) a.ordered) (all-map D (λ (o : Output). o.1) a.ordered (ordered_hold _ a)))

  some_hold : IsAnswer (some_where tree terms project order) (overlay db []) params rows → AllByRecursion D rows
  some_hold a =
      subst (AllByRecursion D) (sym a.shown)
      (all_limited D (as_count (eval (col 0 1) (params ∷ []))) (map (λ (o : Output). o.1) a.ordered) (all-map D (λ (o : Output). o.1) a.ordered (ordered_hold _ a)))

---- The rows of tables that have a place of their own

abbrev pub ReadsText : Row → Type 0
ReadsText r = IsReadAs Integer (column r 0) × IsReadAs Text (column r 2)

abbrev pub ReadsRun : Row → Type 0
ReadsRun r = IsReadAs Integer (column r 0) × IsReadAs Text (column r 2) × IsReadAs Text (column r 3) × IsReadAs Integer (column r 4) × IsReadAs Integer (column r 5)

module _ (s : Schema) (db : Trees) (lies : AreLaid s db) where
  pub texts_read : slice_get s.tables 1 ≡ Some text_table → AllByRecursion IsUtf8Text (map text_in (db 2)) → AllByRecursion ReadsText (db 2)
  texts_read there utf8 =
      all_both (λ r. IsTrue (is_int (rowid r))) (λ r. IsReadAs Text (column r 2)) ReadsText (λ r int body. ((_, number_is (rowid r) int), body)) (db 2) (numbered_at s db lies 1 text_table there).1
      (all_both (AreTyped text_table) (λ r. IsUtf8 (bytes (column r 2))) (λ r. IsReadAs Text (column r 2)) (λ r h u. (_, h 1 _ refl refl refl refl, u)) (db 2) (columns s db lies 1 text_table there) (all_from_map _ text_in (db 2) utf8))

  pub runs_read : slice_get s.tables 2 ≡ Some run_table → AllByRecursion IsUtf8Run (map run_in (db 4)) → AllByRecursion ReadsRun (db 4)
  runs_read there utf8 =
      all_both (λ r. IsTrue (is_int (rowid r))) (λ r. IsReadAs Text (column r 2) × IsReadAs Text (column r 3) × IsReadAs Integer (column r 4) × IsReadAs Integer (column r 5)) ReadsRun
      (λ r int rest. ((_, number_is (rowid r) int), rest.0, rest.1, rest.2, rest.3)) (db 4) (numbered_at s db lies 2 run_table there).1
      (all_both (AreTyped run_table) (λ r. IsUtf8 (bytes (column r 2)) × IsUtf8 (bytes (column r 3))) _
      (λ r h u. ((_, h 1 _ refl refl refl refl, u.0), (_, h 2 _ refl refl refl refl, u.1), (_, h 3 _ refl refl refl refl), (_, h 4 _ refl refl refl refl))) (db 4) (columns s db lies 2 run_table there) (all_from_map _ run_in (db 4) utf8))

pub timer_reads : (params r : Row) → AreTyped timer_table r → AreReadAs (kinds_of Read.all_timers) (seen params (col 1 1 ∷ col 1 2 ∷ col 1 3 ∷ []) r)
timer_reads params r h = ((_, h 0 _ refl refl refl refl), ((_, h 1 _ refl refl refl refl), ((_, h 2 _ refl refl refl refl), tt)))

pub task_reads : (params r : Row) → AreTyped task_table r → AreReadAs (kinds_of Read.all_tasks) (seen params (col 1 1 ∷ col 1 2 ∷ col 1 3 ∷ col 1 4 ∷ []) r)
task_reads params r h = ((_, h 0 _ refl refl refl refl), ((_, h 1 _ refl refl refl refl), ((_, h 2 _ refl refl refl refl), ((_, h 3 _ refl refl refl refl), tt))))

-- bodies that are UTF-8 in the lists of their runs are so in their rows
pub bodies_read : (says : Row → EventRow) (rows : List Row) → ((run : ℤ) → AllByRecursion IsUtf8Event (rising event_id (events_of (map says rows) run))) → AllByRecursion (λ r. IsUtf8 (says r).body) rows
bodies_read says rows utf8 =
    let all = map says rows in
    all_from_map (λ (e : EventRow). IsUtf8 e.body) says rows (all_from (λ (e : EventRow). IsUtf8 e.body) all (λ e has.
    all_has (λ (x : EventRow). IsUtf8 x.body) (events_of all e.run) e
    (all-permutation (λ (x : EventRow). IsUtf8 x.body) (rising event_id (events_of all e.run)) (events_of all e.run) (IsPermutation-sym _ _ (rising_moves event_id (events_of all e.run))) (utf8 e.run))
    (has_kept (λ x. int_eq x.run e.run) all e has ((Decides-int_eq e.run e.run).1 refl))))

---- Ours

module _ (l : Layout) (db : Trees) (ours : AreOurs l db) (utf8 : AreUtf8 (tables_by l db)) where
  our_texts : AllByRecursion ReadsText (db 2)
  our_texts = texts_read (schema_of l) db (laid l db ours) (text_there l) utf8.texts

  our_runs : AllByRecursion ReadsRun (db 4)
  our_runs = runs_read (schema_of l) db (laid l db ours) (run_there l) utf8.runs

  abbrev ReadsEvent : Row → Type 0
  ReadsEvent r = IsReadAs Integer (column r 1) × IsReadAs Integer (column r 2) × IsReadAs Integer (column r 3) × IsReadAs Integer (column r 4) × IsReadAs Text (column r 5)

  events_read : AllByRecursion ReadsEvent (db (tree_of_events l))
  events_read =
      all_both (AreTyped (event_table l)) (λ r. IsUtf8 (bytes (column r 5))) ReadsEvent
      (λ r h u. ((_, h 0 _ refl refl refl refl), (_, h 1 _ refl refl refl refl), (_, h 2 _ refl refl refl refl), (_, h 3 _ refl refl refl refl), (_, h 4 _ refl refl refl refl, u))) (db (tree_of_events l)) (columns (schema_of l) db (laid l db ours) (place_of_events l) (event_table l) (event_there l)) (bodies_read event_in (db (tree_of_events l)) utf8.events)

  ---- What each read answers

  module _ (params : Row) (rows : List Row) where
    pub are_readable : (r : Read) → IsAnswer (query_of l r) (overlay db []) params rows → AllByRecursion (AreReadAs (kinds_of r)) rows
    are_readable Read.all_texts = rows_hold db params 2 _ _ refl ReadsText _ (λ r h. (h.0, (h.1, tt))) our_texts _ rows
    are_readable Read.text_body = rows_hold db params 2 _ _ refl ReadsText _ (λ r h. (h.1, tt)) our_texts _ rows
    are_readable Read.text_number = rows_hold db params 2 _ _ refl ReadsText _ (λ r h. (h.0, tt)) our_texts _ rows
    are_readable Read.last_text = first_holds db params 2 _ _ refl ReadsText _ (λ r h. (h.0, tt)) our_texts _ rows
    are_readable Read.all_runs = rows_hold db params 4 _ _ refl ReadsRun _ (λ r h. (h.0, (h.1, (h.2, (h.3, (h.4, tt)))))) our_runs _ rows
    are_readable Read.runs_until = rows_hold db params 4 _ _ refl ReadsRun _ (λ r h. (h.0, (h.1, (h.2, (h.3, (h.4, tt)))))) our_runs _ rows
    are_readable Read.runs_within = rows_hold db params 4 _ _ refl ReadsRun _ (λ r h. (h.0, (h.1, (h.2, (h.3, (h.4, tt)))))) our_runs _ rows
    are_readable Read.runs_after = rows_hold db params 4 _ _ refl ReadsRun _ (λ r h. (h.0, (h.1, (h.2, (h.3, (h.4, tt)))))) our_runs _ rows
    are_readable Read.run_row = rows_hold db params 4 _ _ refl ReadsRun _ (λ r h. (h.0, (h.1, (h.2, (h.3, (h.4, tt)))))) our_runs _ rows
    are_readable Read.last_run = first_holds db params 4 _ _ refl ReadsRun _ (λ r h. (h.0, tt)) our_runs _ rows
    are_readable Read.requested = rows_hold db params 4 _ _ refl ReadsRun _ (λ r h. (h.0, tt)) our_runs _ rows
    are_readable Read.open_run = rows_hold db params 4 _ _ refl ReadsRun _ (λ r h. (h.0, tt)) our_runs _ rows
    are_readable Read.open_numbers = some_hold db params 4 _ _ refl ReadsRun _ (λ r h. (h.0, tt)) our_runs _ rows
    are_readable Read.all_events = rows_hold db params (tree_of_events l) _ _ (event_bare l db) ReadsEvent _ (λ r h. (h.0, (h.1, (h.2, (h.3, (h.4, tt)))))) events_read _ rows
    are_readable Read.events_until = rows_hold db params (tree_of_events l) _ _ (event_bare l db) ReadsEvent _ (λ r h. (h.0, (h.1, (h.2, (h.3, (h.4, tt)))))) events_read _ rows
    are_readable Read.events_within = rows_hold db params (tree_of_events l) _ _ (event_bare l db) ReadsEvent _ (λ r h. (h.0, (h.1, (h.2, (h.3, (h.4, tt)))))) events_read _ rows
    are_readable Read.events_after = rows_hold db params (tree_of_events l) _ _ (event_bare l db) ReadsEvent _ (λ r h. (h.0, (h.1, (h.2, (h.3, (h.4, tt)))))) events_read _ rows
    are_readable Read.run_events = rows_hold db params (tree_of_events l) _ _ (event_bare l db) ReadsEvent _ (λ r h. (h.0, (h.1, (h.2, (h.3, (h.4, tt)))))) events_read _ rows
    are_readable Read.last_event = first_holds db params (tree_of_events l) _ _ (event_bare l db) ReadsEvent _ (λ r h. (h.1, tt)) events_read _ rows
    are_readable Read.event_at = rows_hold db params (tree_of_events l) _ _ (event_bare l db) ReadsEvent _ (λ r h. (h.0, (h.1, (h.2, (h.3, (h.4, tt)))))) events_read _ rows
    are_readable Read.newest_event = first_holds db params (tree_of_events l) _ _ (event_bare l db) ReadsEvent _ (λ r h. (h.0, (h.1, (h.2, (h.3, (h.4, tt)))))) events_read _ rows
    are_readable Read.all_timers = rows_hold db params 7 _ _ refl (AreTyped timer_table) _ (timer_reads params) (columns (schema_of l) db (laid l db ours) 4 timer_table (timer_there l)) _ rows
    are_readable Read.all_tasks = rows_hold db params 9 _ _ refl (AreTyped task_table) _ (task_reads params) (columns (schema_of l) db (laid l db ours) 5 task_table (task_there l)) _ rows
    are_readable Read.timers_until = rows_hold db params 7 _ _ refl (AreTyped timer_table) _ (timer_reads params) (columns (schema_of l) db (laid l db ours) 4 timer_table (timer_there l)) _ rows
    are_readable Read.timers_within = rows_hold db params 7 _ _ refl (AreTyped timer_table) _ (timer_reads params) (columns (schema_of l) db (laid l db ours) 4 timer_table (timer_there l)) _ rows
    are_readable Read.timers_after = rows_hold db params 7 _ _ refl (AreTyped timer_table) _ (timer_reads params) (columns (schema_of l) db (laid l db ours) 4 timer_table (timer_there l)) _ rows
    are_readable Read.tasks_until = rows_hold db params 9 _ _ refl (AreTyped task_table) _ (task_reads params) (columns (schema_of l) db (laid l db ours) 5 task_table (task_there l)) _ rows
    are_readable Read.tasks_within = rows_hold db params 9 _ _ refl (AreTyped task_table) _ (task_reads params) (columns (schema_of l) db (laid l db ours) 5 task_table (task_there l)) _ rows
    are_readable Read.tasks_after = rows_hold db params 9 _ _ refl (AreTyped task_table) _ (task_reads params) (columns (schema_of l) db (laid l db ours) 5 task_table (task_there l)) _ rows
    are_readable Read.run_tasks = rows_hold db params 9 _ _ refl (AreTyped task_table) _ (task_reads params) (columns (schema_of l) db (laid l db ours) 5 task_table (task_there l)) _ rows
