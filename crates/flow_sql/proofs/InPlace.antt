-- A row that goes and comes again under its run and number stands in its place.
use Rattle.flow_sql.proofs.Places.{laid}
use Rattle.flow_sql.proofs.Names.{schema_of}
use Rattle.flow_sql.proofs.Names.{in_its_place, with_task, with_task_in_place, without_task, ◌≡◌, ◌∷◌, if◌then◌else◌, all_from, all_has, some_has, put_by, task_id, Tables, OutboxRow, IsAscending, all_weaker, cases_Bool, Decides-int_eq, ints, AllByRecursion, list_any, int_eq, Bool, List, false, filter}
use Rattle.flow_sql.proofs.Names.{int_lt, map, true, [], refl, ℤ, not, sym, ap, ◌∙◌, subst, inl, inr, arith, true≢false, Database, HasTables, tables_in, task_in}
use Rattle.flow_sql.proofs.Columns.{of_tasks, keys_differ}
use Rattle.flow_sql.proofs.Rising.{apart_of_run, none_go, none_change, Lower, rising_rises, none_is}

module _ {A : Type 0} (key : A → ℤ) (x : A) where
  abbrev pub is_there : List A → Bool
  is_there ys = list_any (λ y. int_eq (key y) (key x)) ys

  abbrev replaced : A → A
  replaced y = if int_eq (key y) (key x) then x else y

  abbrev other : A → Bool
  other y = not (int_eq (key y) (key x))

  less_so : (y z : A) → Lower key y z → int_lt (key y) (key z) ≡ true
  less_so y z low = grind (arith, ints)

  put_first : (ys : List A) → AllByRecursion (λ y. int_lt (key x) (key y) ≡ true) ys → put_by key x ys ≡ x ∷ ys
  put_first [] up = refl
  put_first (y ∷ ys) up = rw up.0 refl

  -- the one that has the key lies behind what is lower
  not_first : (y : A) (ys : List A) → AllByRecursion (Lower key y) ys → is_there ys ≡ true → int_lt (key x) (key y) ≡ false
  not_first y ys up there =
      let z = some_has (λ z. int_eq (key z) (key x)) ys there in
      let its = z.2 in let less = less_so y z.0 (all_has (Lower key y) ys z.0 up z.1) in grind (arith, ints)

  pub put_in_place : (ys : List A) → IsAscending (Lower key) ys → is_there ys ≡ true → put_by key x (filter other ys) ≡ map replaced ys
  put_in_place [] up there = absurd (true≢false (sym there))
  put_in_place (y ∷ ys) up there = elim (cases_Bool (int_eq (key y) (key x))) [
    | inl same ↦
        let others = all_weaker (Lower key y) (λ z. int_eq (key z) (key x) ≡ false) (λ z low. let less = less_so y z low in grind (arith, ints)) ys up.0 in
        let higher = all_weaker (Lower key y) (λ z. int_lt (key x) (key z) ≡ true) (λ z low. let less = less_so y z low in grind (arith, ints)) ys up.0 in
        rw same (ap (put_by key x) (none_go (λ z. int_eq (key z) (key x)) ys others) ∙ put_first ys higher ∙ ap (λ l. x ∷ l) (sym (none_change (λ z. int_eq (key z) (key x)) (λ _. x) ys others)))
    | inr apart ↦ rw (apart, not_first y ys up.0 (rw apart at there)) (ap (λ l. y ∷ l) (put_in_place ys up.1 (rw apart at there)))
  ]

abbrev pub HasTask : OutboxRow → Tables → Bool
HasTask row t = is_there task_id row (t.outbox row.run)

-- A task of a run that goes and comes again stands in its place.
pub task_in_place : (d : Database) → HasTables d → (row : OutboxRow) → HasTask row (tables_in d) ≡ true → with_task row (without_task row.run row.id (tables_in d)) ≡ with_task_in_place row (tables_in d)
task_in_place d has row there =
    let here : put_by task_id row (filter (other task_id row) ((tables_in d).outbox row.run)) ≡ map (in_its_place row) ((tables_in d).outbox row.run) =
    put_in_place task_id row ((tables_in d).outbox row.run) (rising_rises task_id _ (apart_of_run (λ (x : OutboxRow). x.run) task_id row.run (map task_in (d.trees 9)) (keys_differ 5 9 task_in (λ (x : OutboxRow). x.run) task_id (schema_of has.layout) (of_tasks has.layout) d.trees (laid has.layout d.trees has.lie.ours)))) there in
    let of_run : (z : ℤ) → (with_task row (without_task row.run row.id (tables_in d))).outbox z ≡ (with_task_in_place row (tables_in d)).outbox z =
    λ z. elim (cases_Bool (int_eq z row.run)) [
      | inl same ↦ rw same (subst (λ w. put_by task_id row (filter (other task_id row) ((tables_in d).outbox w)) ≡ map (in_its_place row) ((tables_in d).outbox w)) (sym ((Decides-int_eq z row.run).0 same)) here)
      | inr apart ↦ rw apart refl
    ] in
    λ i. record (tables_in d) { outbox = λ z. of_run z i }

-- One that isn't there changes nothing.
pub no_task_in_place : (t : Tables) (row : OutboxRow) → HasTask row t ≡ false → with_task_in_place row t ≡ t
no_task_in_place t row none =
    let here : map (in_its_place row) (t.outbox row.run) ≡ t.outbox row.run =
    none_change (λ (x : OutboxRow). int_eq x.id row.id) (λ _. row) (t.outbox row.run) (all_from _ (t.outbox row.run) (none_is (λ x. int_eq x.id row.id) (t.outbox row.run) none)) in
    let of_run : (z : ℤ) → (with_task_in_place row t).outbox z ≡ t.outbox z =
    λ z. elim (cases_Bool (int_eq z row.run)) [
      | inl same ↦ rw same (subst (λ w. map (in_its_place row) (t.outbox w) ≡ t.outbox w) (sym ((Decides-int_eq z row.run).0 same)) here)
      | inr apart ↦ rw apart refl
    ] in
    λ i. record t { outbox = λ z. of_run z i }
