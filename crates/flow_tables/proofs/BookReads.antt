-- What reads of rows tell of the book.
use Rattle.std.specs.Prelude.{◌≡◌, ◌∷◌, ◌+◌, ◌≤◌, if◌then◌else◌}
use Rattle.flow_tables.proofs.Names.{Run, Book, nth, last_number, event_row, run_row, Tells, Tables, OutboxRow, RunRow, ints, AllByRecursion, Bool, IfErr, List, Option, false, map, pos, true, ℕ, ViewFault, Err, IfOk, None, Ok, Some, option_map, ℤ, [], refl, Result, suc, zero, subst, ◌∙◌, sym, ap, arith, IsBelowOne, as_number, as_count}
use Rattle.flow_model.specs.Book.{first_from}
use Rattle.flow_rows.specs.declared.rows.EventRow.{EventRow}
use Rattle.flow_rows.specs.Recalling.{run_in}
use Rattle.flow_rows.specs.Told.{IsTold}
use Rattle.flow_rows.proofs.Recalled.{run_back}
use Rattle.flow_rows.proofs.BookTables.{nth_is}
use Rattle.flow_rows.proofs.WholeChanges.{all_get}
use Rattle.flow_rows.proofs.Finds.{event_rows_read, task_rows_read}
use Rattle.flow_tables.specs.Asking.{IsValue}

pub same_numbers : (a b : Option ℕ) → option_map pos a ≡ option_map pos b → a ≡ b
same_numbers None None e = refl
same_numbers (Some m) (Some n) e = cc
same_numbers _ _ e = absurd (cc)

pub same_counts : (a b : ℕ) → last_number a ≡ last_number b → a ≡ b
same_counts zero zero e = refl
same_counts (suc m) (suc n) e = cc
same_counts _ _ e = absurd (cc)

---- One run

no_some : {A B : Type 0} (f : A → B) (o : Option A) (y : B) → Some y ≡ option_map f o → (x : A) × (o ≡ Some x) × (y ≡ f x)
no_some f None y e = absurd (cc)
no_some f (Some x) y e = (x, refl, (cc))

no_none : {A B : Type 0} (f : A → B) (o : Option A) → None ≡ option_map f o → None ≡ o
no_none f None e = refl
no_none f (Some x) e = absurd (cc)

abbrev pub of_run : {A : Type 0} → (Option Run → A) → ℕ → Book → A
of_run value n b = value (nth b.runs n)

-- what is told where no row has the number, and where one has it
module _ {A : Type 0} (value : Option Run → A) (b : Book) (m n : ℕ) (same : m ≡ n) where
  pub no_row : None ≡ option_map (run_row m) (nth b.runs m) → value None ≡ value (nth b.runs n)
  no_row is = ap value (no_none (run_row m) (nth b.runs m) is) ∙ ap (λ k. value (nth b.runs k)) same

  pub row_there : (row : RunRow) (r : Result A ViewFault) → Some row ≡ option_map (run_row m) (nth b.runs m)
      → ((x : Run) → nth b.runs m ≡ Some x → row ≡ run_row m x → IsValue r (value (Some x))) → IsValue r (value (nth b.runs n))
  row_there row r is tells =
      let it = no_some (run_row m) (nth b.runs m) row is in
      subst (λ k. IsValue r (value (nth b.runs k))) same (subst (λ o. IsValue r (value o)) (sym it.1) (tells it.0 it.1 it.2))

pub told_at : (b : Book) (n : ℕ) (r : Run) → AllByRecursion IsTold b.runs → nth b.runs n ≡ Some r → IsTold r
told_at b zero r all at = absurd (let clash = at in cc)
told_at b (suc k) r all at = all_get IsTold b.runs k r all (sym (nth_is b.runs k) ∙ at)

-- the run that rows tell is read from them
pub run_in_rows : (t : Tables) (b : Book) (n : ℕ) (r : Run) (row : RunRow) (events : List EventRow) (tasks : List OutboxRow) → Tells t b → nth b.runs n ≡ Some r → row ≡ run_row n r
    → events ≡ t.events (pos n) → tasks ≡ t.outbox (pos n) → run_in row events tasks ≡ Some r
run_in_rows t b n r row events tasks h at is e k =
    ap (λ y. run_in y events tasks) is ∙ ap (λ y. run_in (run_row n r) y tasks) (e ∙ event_rows_read t b n r h at)
    ∙ ap (λ y. run_in (run_row n r) (map (event_row (pos n)) r.history) y) (k ∙ task_rows_read t b n r h at)
    ∙ run_back n (pos n) r (told_at b n r h.runs at)

---- No number is below 1

one_more : (v : Bool) (m k : ℕ) (o : Option ℕ) → 1 ≤ m → (o ≡ Some k → 1 ≤ k) → (if v then Some m else o) ≡ Some k → 1 ≤ k
one_more true m k o least later h = let same : m ≡ k = (cc) in subst (λ j. 1 ≤ j) same least
one_more false m k o least later h = later h

from_one : {A : Type 0} (p : A → Bool) (m k : ℕ) (xs : List A) → 1 ≤ m → first_from p m xs ≡ Some k → 1 ≤ k
from_one p m k [] least h = absurd (cc)
from_one p m k (x ∷ xs) least h = one_more (p x) m k (first_from p (m + 1) xs) least (from_one p (m + 1) k xs (omega (arith, least))) h

-- no text and no run has a number below 1
none_below : {A : Type 0} (p : A → Bool) (xs : List A) (o : Option ℕ) → first_from p 1 xs ≡ o → IsBelowOne (option_map pos o) → ⊥
none_below p xs None is h = h
none_below p xs (Some k) is h = let least = from_one p 1 k xs (omega arith) is in grind (arith, ints)

no_low_count : (n : ℕ) → IsBelowOne (last_number n) → ⊥
no_low_count zero h = h
no_low_count (suc k) h = grind (arith, ints)

---- Values of the book

pub number_value : {A : Type 0} (p : A → Bool) (xs : List A) (r : Result (Option ℕ) ViewFault) (found : Option ℤ) → IfOk r (λ o. found ≡ as_number o) → IfErr r (λ _. IsBelowOne found)
    → found ≡ option_map pos (first_from p 1 xs) → IsValue r (first_from p 1 xs)
number_value p xs (Ok x) found ok err is = same_numbers x (first_from p 1 xs) (sym ok ∙ is)
number_value p xs (Err f) found ok err is = λ same. absurd (none_below p xs (first_from p 1 xs) refl (subst IsBelowOne is err))

pub count_value : (r : Result ℕ ViewFault) (found : Option ℤ) (n : ℕ) → IfOk r (λ k. found ≡ as_count k) → IfErr r (λ _. IsBelowOne found) → found ≡ last_number n → IsValue r n
count_value (Ok x) found n ok err is = same_counts x n (sym ok ∙ is)
count_value (Err f) found n ok err is = λ same. absurd (no_low_count n (subst IsBelowOne is err))
