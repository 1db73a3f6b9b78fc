-- The numbers of the open runs, as rows of runs tell them.
use Rattle.std.proofs.Common.{◌≡◌, ℕ, zero, suc, ◌+◌, ◌≤◌, pos, List, [], ◌∷◌, map, filter, take, Bool, true, false, ◌&&◌, refl, sym, ap, ◌∙◌, arith, ⊎_elim}
use Rattle.std.specs.Prelude.{◌<◌, nat_le, nat_lt, not, if◌then◌else◌, ⊤}
use Rattle.std.proofs.lemmas.Bool.{lt-ltb, le-ltb}
use Rattle.std.proofs.lemmas.Bool.Decides.{leb_tells}
use Rattle.std.proofs.lemmas.List.{take-map}
use Rattle.flow_base.specs.declared.book.Run.{Run}
use Rattle.flow_model.specs.Configuration.{is_open}
use Rattle.flow_model.specs.Open.{state_of}
use Rattle.flow_model.specs.Book.{Book, run_number, open_from, open_runs, open_numbers}
use Rattle.flow_rows.specs.declared.rows.RunRow.{RunRow}
use Rattle.flow_rows.specs.Rows.{Tables, run_row, run_rows}
use Rattle.flow_rows.specs.Finding.{is_open_from, number_of_run}
use Rattle.flow_rows.specs.Told.{Tells}
use Rattle.flow_rows.proofs.WholeChanges.{mark_read}

not_before : (m n : ℕ) → not (nat_lt m n) ≡ nat_le n m
not_before m n =
    ⊎_elim (λ (t : (nat_le n m ≡ true) × (n ≤ m)). ap not (le-ltb m n t.1) ∙ sym t.0)
    (λ (t : (nat_le n m ≡ false) × (m < n)). ap not (lt-ltb m n t.1) ∙ sym t.0)
    (leb_tells n m)

same_test : (from n : ℕ) (r : Run) → is_open_from (pos from) (run_row n r) ≡ (nat_le from n && is_open (state_of r.history))
same_test from n r = λ i. not_before n from i && mark_read (is_open (state_of r.history)) i

one_told : (from n : ℕ) (r : Run) (rows : List RunRow) (ps : List (ℕ × Run)) (v w : Bool) → v ≡ w → map number_of_run (filter (is_open_from (pos from)) rows) ≡ map pos (map run_number ps)
    → map number_of_run (if v then run_row n r ∷ filter (is_open_from (pos from)) rows else filter (is_open_from (pos from)) rows) ≡ map pos (map run_number (if w then (n, r) ∷ ps else ps))
one_told from n r rows ps v true is more = rw is (ap (λ l. pos n ∷ l) more)
one_told from n r rows ps v false is more = rw is more

numbers_told : (from n : ℕ) (rs : List Run) → map number_of_run (filter (is_open_from (pos from)) (run_rows n rs)) ≡ map pos (map run_number (open_from from n rs))
numbers_told from n [] = refl
numbers_told from n (r ∷ rs) =
    one_told from n r (run_rows (n + 1) rs) (open_from from (n + 1) rs) (is_open_from (pos from) (run_row n r)) (nat_le from n && is_open (state_of r.history)) (same_test from n r) (numbers_told from (n + 1) rs)

-- The first so many rows from a number on that are marked as open have the numbers of the open runs.
pub open_numbers_read : (t : Tables) (b : Book) (from most : ℕ) → Tells t b → take most (map number_of_run (filter (is_open_from (pos from)) t.runs)) ≡ map pos (open_numbers b from most)
open_numbers_read t b from most h =
    ap (λ (u : Tables). take most (map number_of_run (filter (is_open_from (pos from)) u.runs))) h.same ∙ ap (take most) (numbers_told from 1 b.runs)
    ∙ take-map pos most (map run_number (open_runs b from))

---- No number of theirs is below 1

-- each is one or more
abbrev pub AreAboveNone : List ℕ → Type 0
AreAboveNone [] = ⊤
AreAboveNone (n ∷ ns) = (1 ≤ n) × AreAboveNone ns

put_above : (n : ℕ) (r : Run) (ps : List (ℕ × Run)) (v : Bool) → 1 ≤ n → AreAboveNone (map run_number ps) → AreAboveNone (map run_number (if v then (n, r) ∷ ps else ps))
put_above n r ps true least more = (least, more)
put_above n r ps false least more = more

from_above : (from n : ℕ) (rs : List Run) → 1 ≤ n → AreAboveNone (map run_number (open_from from n rs))
from_above from n [] least = tt
from_above from n (r ∷ rs) least = put_above n r (open_from from (n + 1) rs) (nat_le from n && is_open (state_of r.history)) least (from_above from (n + 1) rs (omega (arith, least)))

first_above : (most : ℕ) (ns : List ℕ) → AreAboveNone ns → AreAboveNone (take most ns)
first_above zero ns h = tt
first_above (suc most) [] h = tt
first_above (suc most) (n ∷ ns) h = (h.0, first_above most ns h.1)

pub open_above : (b : Book) (from most : ℕ) → AreAboveNone (open_numbers b from most)
open_above b from most = first_above most (map run_number (open_runs b from)) (from_above from 1 b.runs (omega arith))
