-- The timer that is due first by the rows, in whatever order they lie, is the one that is due first by the book.
use Rattle.std.proofs.Common.{◌≡◌, ℕ, zero, suc, ◌+◌, ◌≤◌, ◌<◌, ℤ, pos, negsuc, List, [], ◌∷◌, map, filter, Bool, true, false, ◌&&◌, ◌||◌, if◌then◌else◌, Option, Some, None, nat_eq, slice_get, refl, sym, ap, ◌∙◌, subst, inl, inr, true≢false, arith}
use Rattle.std.specs.Prelude.{◌⊎◌}
use Rattle.std.specs.List.{AllByRecursion}
use Rattle.std.specs.Cmp.Derive.{both_true}
use Rattle.std.proofs.lemmas.Bool.{cases_Bool, le-leb}
use Rattle.std.proofs.lemmas.Bool.Decides.{Decides-int_eq}
use Rattle.flow_base.specs.declared.event.Event.{Event}
use Rattle.flow_base.specs.declared.book.Due.{Due}
use Rattle.flow_base.specs.declared.book.Run.{Run}
use Rattle.flow_base.specs.declared.book.Timer.{Timer}
use Rattle.flow_model.specs.Book.{Book, least_due}
use Rattle.flow_model.proofs.DueFirst.{IsLeast, And, Has, due_at, InRuns, the_least, same_least, one_more, runs_least}
use Rattle.flow_model.specs.Configuration.{is_open}
use Rattle.flow_model.specs.Open.{open_timers, timers_left, state_of}
use Rattle.flow_rows.specs.declared.rows.TimerRow.{TimerRow}
use Rattle.flow_rows.specs.Rows.{Two, Tables, rows_of, timers_of, is_timer_of, timer_row, of_run}
use Rattle.flow_rows.specs.Told.{IsTold, Tells}
use Rattle.flow_rows.specs.Dues.{is_timer, due_of, due_in, with_due, least_of_rows}
use Rattle.flow_rows.proofs.BookTables.{nth_is}
use Rattle.flow_rows.proofs.Undamaged.{timer_rows_of}
use Rattle.flow_rows.proofs.Telling.{timers_numbered}
use Rattle.flow_rows.proofs.WholeChanges.{some_is, nothing_is, all_get}

---- What is in a list

has_all : {A : Type 0} (P : A → Type 0) (xs : List A) (x : A) → AllByRecursion P xs → Has xs x → P x
has_all P [] x all has = absurd has
has_all P (y ∷ ys) x all (inl is) = subst P (sym is) all.0
has_all P (y ∷ ys) x all (inr has) = has_all P ys x all.1 has

has_map : {A B : Type 0} (f : A → B) (xs : List A) (y : B) → Has (map f xs) y → (x : A) × Has xs x × (y ≡ f x)
has_map f [] y has = absurd has
has_map f (x ∷ xs) y (inl is) = (x, inl refl, is)
has_map f (x ∷ xs) y (inr has) = let more = has_map f xs y has in (more.0, inr more.1, more.2)

map_has : {A B : Type 0} (f : A → B) (xs : List A) (x : A) → Has xs x → Has (map f xs) (f x)
map_has f [] x has = absurd has
map_has f (y ∷ ys) x (inl is) = inl (ap f is)
map_has f (y ∷ ys) x (inr has) = inr (map_has f ys x has)

kept : {A : Type 0} (p : A → Bool) (xs : List A) (x : A) → Has xs x → p x ≡ true → Has (filter p xs) x
kept p [] x has is = absurd has
kept p (y ∷ ys) x (inl same) is = rw (ap p (sym same) ∙ is) (inl same)
kept p (y ∷ ys) x (inr has) is = elim (cases_Bool (p y)) [
  | inl stays ↦ rw stays (inr (kept p ys x has is))
  | inr goes ↦ rw goes (kept p ys x has is)
]

was_there : {A : Type 0} (p : A → Bool) (xs : List A) (x : A) → Has (filter p xs) x → Has xs x
was_there p [] x has = absurd has
was_there p (y ∷ ys) x has = elim (cases_Bool (p y)) [
  | inl stays ↦ elim (rw stays at has) [ inl is ↦ inl is | inr more ↦ inr (was_there p ys x more) ]
  | inr goes ↦ inr (was_there p ys x (rw goes at has))
]

---- The least by the rows

abbrev InRows : List TimerRow → Due → Type 0
InRows rows d = (r : TimerRow) × Has rows r × (due_in r ≡ Some d)

-- what holds of the other rows, for any dues before them
abbrev LeastOn : ℕ → List TimerRow → Type 1
LeastOn at rows = (S : Due → Type 0) (best : Option Due) → IsLeast at S best → IsLeast at (λ d. S d ⊎ InRows rows d) (least_of_rows at best rows)

row_least : (at : ℕ) (r : TimerRow) (rows : List TimerRow) (S : Due → Type 0) (best : Option Due) → IsLeast at S best → LeastOn at rows → (o : Option Due) → due_in r ≡ o
    → IsLeast at (λ d. S d ⊎ InRows (r ∷ rows) d) (least_of_rows at (with_due at best o) rows)
row_least at r rows S best h others None is = same_least at (λ d. S d ⊎ InRows rows d) _ (λ d by it. elim it [ inl it ↦ inl it | inr more ↦ inr (more.0, inr more.1, more.2) ]) (λ d by it. elim it [
  | inl it ↦ inl it
  | inr (x, inl same, tells) ↦ absurd (nothing_is d (sym is ∙ ap due_in (sym same) ∙ tells))
  | inr (x, inr has, tells) ↦ inr (x, has, tells)
]) _ (others S best h)
row_least at r rows S best h others (Some x) is = same_least at (λ d. And S x d ⊎ InRows rows d) _ (λ d by it. elim it [
  | inl (inl it) ↦ inl it
  | inl (inr same) ↦ inr (r, inl refl, is ∙ ap Some (sym same))
  | inr more ↦ inr (more.0, inr more.1, more.2)
]) (λ d by it. elim it [
  | inl it ↦ inl (inl it)
  | inr (y, inl same, tells) ↦ inl (inr (some_is d x (sym tells ∙ ap due_in same ∙ is)))
  | inr (y, inr has, tells) ↦ inr (y, has, tells)
]) _ (others (And S x) (with_due at best (Some x)) (one_more at S best x h))

rows_least : (at : ℕ) (rows : List TimerRow) → LeastOn at rows
rows_least at [] S best h = same_least at S _ (λ d by it. inl it) (λ d by it. elim it [ inl it ↦ it | inr none ↦ absurd none.1 ]) best h
rows_least at (r ∷ rows) S best h = row_least at r rows S best h (rows_least at rows) (due_in r) refl

---- Rows of a book

left_open : (h : List Event) (v : Bool) (t : Timer) → Has (if v then open_timers h else []) t → Has (open_timers h) t
left_open h true t has = has
left_open h false t has = absurd has

-- a timer of a run is of one of its events
numbered : (r : Run) (t : Timer) → IsTold r → Has (timers_left r.history) t → 1 ≤ t.id
numbered r t told has =
    has_all (λ (x : Timer). 1 ≤ x.id) (open_timers r.history) t (timers_numbered Two 1 [] r.history told.events (omega arith) tt) (left_open r.history (is_open (state_of r.history)) t has)

-- a row of the run of this number tells a timer of it
told_by_row : (b : Book) (z : ℤ) (row : TimerRow) → Has ((rows_of b).timers z) row → InRuns 1 b.runs (due_of row)
told_by_row b (negsuc n) row has = absurd has
told_by_row b (pos zero) row has = absurd has
told_by_row b (pos (suc k)) row has = by_run (slice_get b.runs k) refl (subst (λ o. Has (of_run o (timer_rows_of (pos (suc k)))) row) (nth_is b.runs k) has)
  where
    by_run : (o : Option Run) → slice_get b.runs k ≡ o → Has (of_run o (timer_rows_of (pos (suc k)))) row → InRuns 1 b.runs (due_of row)
    by_run None is has = absurd has
    by_run (Some r) is has = let it = has_map (timer_row (pos (suc k))) (timers_left r.history) row has in (k, suc k, r, is, omega arith, (it.0, it.1, ap due_of it.2))

-- and each is told by such a row
row_of_due : (b : Book) (k : ℕ) (r : Run) (t : Timer) → slice_get b.runs k ≡ Some r → Has (timers_left r.history) t → Has ((rows_of b).timers (pos (suc k))) (timer_row (pos (suc k)) t)
row_of_due b k r t there has =
    subst (λ o. Has (of_run o (timer_rows_of (pos (suc k)))) (timer_row (pos (suc k)) t)) (sym (nth_is b.runs k ∙ there)) (map_has (timer_row (pos (suc k))) (timers_left r.history) t has)

due_again : (k : ℕ) (t : Timer) → 1 ≤ t.id → t.due ≤ 1000000000000000 → due_in (timer_row (pos (suc k)) t) ≡ Some (due_at (suc k) t)
due_again k t id due =
    let fits : is_timer (timer_row (pos (suc k)) t) ≡ true = both_true (both_true (both_true (le-leb 1 (suc k) (omega arith)) (le-leb 1 t.id id)) (le-leb 0 t.due (omega arith))) (le-leb t.due 1000000000000000 due) in
    rw fits refl

told_due : (row : TimerRow) (d : Due) → due_in row ≡ Some d → due_of row ≡ d
told_due row d is = by_case (is_timer row) refl
  where
    by_case : (v : Bool) → is_timer row ≡ v → due_of row ≡ d
    by_case true fits = some_is (due_of row) d (rw fits at is)
    by_case false not_so = absurd (nothing_is d (rw not_so at is))

abbrev OfBook : Book → Due → Type 0
OfBook b d = ⊥ ⊎ InRuns 1 b.runs d

-- The timer that is due first by the rows of all timers is that of the book which the tables tell.
pub least_read : (t : Tables) (b : Book) (at : ℕ) (rows : List TimerRow) → at ≤ 1000000000000000 → Tells t b → timers_of rows ≡ t.timers → least_of_rows at None rows ≡ least_due b at
least_read t b at rows last h are =
    the_least at (OfBook b) (least_of_rows at None rows) (least_due b at) (same_least at (λ d. ⊥ ⊎ InRows rows d) (OfBook b) there back (least_of_rows at None rows) (rows_least at rows (λ d. ⊥) None (λ d none by. none)))
    (runs_least at 1 b.runs (λ d. ⊥) None (λ d none by. none))
  where
    lie : (z : ℤ) → timers_of rows z ≡ (rows_of b).timers z
    lie z = ap (λ f. f z) are ∙ ap (λ (u : Tables). u.timers z) h.same

    there : (d : Due) → d.due ≤ at → ⊥ ⊎ InRows rows d → OfBook b d
    there d by (inl none) = absurd none
    there d by (inr (row, has, is)) =
        let here : Has (timers_of rows row.run) row = kept (is_timer_of row.run) rows row has ((Decides-int_eq row.run row.run).1 refl) in
        inr (subst (InRuns 1 b.runs) (told_due row d is) (told_by_row b row.run row (subst (λ xs. Has xs row) (lie row.run) here)))

    back : (d : Due) → d.due ≤ at → OfBook b d → ⊥ ⊎ InRows rows d
    back d by (inl none) = absurd none
    back d by (inr (k, m, r, is, place, (tm, has, same))) =
        let here : m ≡ suc k = omega (arith, place) in
        let id = numbered r tm (all_get IsTold b.runs k r h.runs is) has in
        let due : tm.due ≤ 1000000000000000 = let by_due = ap (λ (x : Due). x.due) same in omega (arith, by_due, by, last) in
        let row = timer_row (pos (suc k)) tm in
        inr (row, was_there (is_timer_of (pos (suc k))) rows row (subst (λ xs. Has xs row) (sym (lie (pos (suc k)))) (row_of_due b k r tm is has)), due_again k tm id due ∙ ap (λ i. Some (due_at i tm)) (sym here) ∙ ap Some (sym same))
