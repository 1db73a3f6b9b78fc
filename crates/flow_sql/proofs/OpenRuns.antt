-- The numbers of the runs that are marked as open, as one read tells them.
use Rattle.flow_sql.proofs.Names.{schema_of}
use Rattle.flow_sql.proofs.Names.{Row, overlay, IsAnswer, Output, Query, Term, col, lit, Trees, rowid, is_int, Int, all_both, value_cmp-Int, column, AllByRecursion, int_cmp, int_eq, int_lt, Bool, IsTrue, List, false, filter, map, pos, true, ℕ, Equal, Greater, Less, [], refl, ℤ, take, sym, ap, ◌∙◌, not, Layout, tables_by, run_table, run_in, AreOurs, number_of, number_said, Read, equal_to, query_of, Compare, Binary, is_true, Value}
use Rattle.std.specs.Prelude.{◌≡◌, ◌∷◌, ◌&&◌, cond}
use Rattle.std.specs.Ordering.{is_ge}
use Rattle.std.proofs.lemmas.List.{take-map}
use Rattle.sqlite.specs.Ops.{binary}
use Rattle.sqlite.specs.Term.{op2}
use Rattle.sqlite_sql.specs.declared.ops.CompareOp.TheVariants.{Ge}
use Rattle.flow_rows.specs.Finding.{is_open_from, number_of_run}
use Rattle.flow_sql.proofs.Numbered.{number_is}
use Rattle.flow_sql.proofs.Places.{laid, numbered_runs, run_there}
use Rattle.flow_sql.proofs.Columns.{told, test_int, AreTyped, columns}
use Rattle.flow_sql.proofs.Reading.{meets, seen, ordered_by_number}
use Rattle.flow_sql.proofs.Found.{read_of}

by_order : (v w : Bool) → is_ge (cond v Less (cond w Greater Equal)) ≡ not v
by_order true w = refl
by_order false true = refl
by_order false false = refl

from_ints : (m n : ℤ) → is_true (binary (Compare Ge Binary) (Int m) (Int n)) ≡ not (int_lt m n)
unfolding binary
from_ints m n = rw (value_cmp-Int m n) (told (is_ge (int_cmp m n)) ∙ by_order (int_lt m n) (int_lt n m))

test_from : (v : Value) (n : ℤ) → v ≡ Int (number_of v) → is_true (binary (Compare Ge Binary) v (Int n)) ≡ not (int_lt (number_of v) n)
test_from v n is = ap (λ w. is_true (binary (Compare Ge Binary) w (Int n))) is ∙ from_ints (number_of v) n

module _ (l : Layout) (db : Trees) (ours : AreOurs l db) (rows : List Row) where
  abbrev open_terms : List Term
  open_terms = op2 (Compare Ge Binary) (col 1 0) (col 0 0) ∷ equal_to (col 1 5) (lit (Int (pos 1))) ∷ []

  abbrev IsRow : Row → Type 0
  IsRow r = IsTrue (is_int (rowid r)) × AreTyped run_table r

  are_rows : AllByRecursion IsRow (db 4)
  are_rows = all_both (λ r. IsTrue (is_int (rowid r))) (AreTyped run_table) IsRow (λ r int typed. (int, typed)) (db 4) (numbered_runs l db ours).1 (columns (schema_of l) db (laid l db ours) 2 run_table (run_there l))

  pub open_numbers_are : (from : ℤ) (most : ℕ) → IsAnswer (query_of l Read.open_numbers) (overlay db []) (Int from ∷ Int (pos most) ∷ []) rows
      → map number_said rows ≡ take most (map number_of_run (filter (is_open_from from) (tables_by l db).runs))
  open_numbers_are from most a =
      let params : Row = Int from ∷ Int (pos most) ∷ [] in
      let met : List Row = filter (meets params open_terms) (db 4) in
      let shown : rows ≡ take most (map (seen params (col 1 0 ∷ [])) met) = a.shown ∙ ap (take most) (ordered_by_number db params 4 open_terms (col 1 0 ∷ []) refl (numbered_runs l db ours).0 (col 0 1) rows a) in
      ap (map number_said) shown ∙ sym (take-map number_said most (map (seen params (col 1 0 ∷ [])) met))
      ∙ ap (take most) (read_of IsRow params open_terms (col 1 0 ∷ []) number_said run_in (is_open_from from) number_of_run (db 4)
      (λ r h. rw (test_from (column r 0) from (number_is (column r 0) h.0), test_int (column r 5) (pos 1) (h.1 4 _ refl refl refl refl)) refl) (λ r. refl) are_rows)
