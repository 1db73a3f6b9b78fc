-- What is damaged of rows is what is damaged of their runs, one after another.
use Rattle.std.proofs.Common.{◌≡◌, ℕ, suc, ◌+◌, ℤ, Bool, List, [], ◌∷◌, ◌++◌, length, map, Option, Some, None, refl, sym, ap, ◌∙◌, arith}
use Rattle.std.proofs.lemmas.List.{append_assoc}
use Rattle.flow_base.specs.Syntax.{Bytes}
use Rattle.flow_base.specs.declared.fault.Damage.{Damage}
use Rattle.flow_base.specs.declared.fault.Table.TheVariants as table
use Rattle.flow_rows.specs.declared.rows.RunRow.{RunRow}
use Rattle.flow_rows.specs.declared.rows.StoreRows.{StoreRows}
use Rattle.flow_rows.specs.Rows.{events_of, tasks_of}
use Rattle.flow_rows.specs.declared.inspection.StrayDamages.{StrayDamages}
use Rattle.flow_rows.specs.Damages.{damages_behind_runs, damages_of_event_table, damages_of_events, damages_of_outbox, damages_of_outbox_table, damages_of_runs, damages_of_texts, damages_of_timer_table, damages_of_timers, event_place, first_damage, first_of, histories, is_behind, is_below, strays, task_place, timer_place}
use Rattle.flow_rows.specs.Told.{runs_told}
use Rattle.flow_rows.specs.Parts.{RunPart, each_damaged, first_between, history_damaged, or_else, outbox_damaged, part_at, parts_of, passed_to, rows_before, run_damaged, runs_damaged, timers_damaged, told_part}
use Rattle.flow_rows.specs.Inspecting.{first_passed}

---- First damages

pub first_more : (xs ys : List Damage) → first_of (xs ++ ys) ≡ or_else (first_of xs) (first_of ys)
first_more [] ys = refl
first_more (x ∷ xs) ys = refl

pub or_none : (o : Option Damage) → or_else o None ≡ o
or_none None = refl
or_none (Some d) = refl

pub neither : (a b : Option Damage) → or_else a b ≡ None → (a ≡ None) × (b ≡ None)
neither None b h = (refl, h)
neither (Some d) b h = absurd (let same = h in cc)

nothing_more : {A : Type 0} (xs : List A) → xs ++ [] ≡ xs
nothing_more [] = refl
nothing_more (x ∷ xs) = ap (λ l. x ∷ l) (nothing_more xs)

---- One run more

pub rows_more : (ps : List RunPart) (q : RunPart) → rows_before (ps ++ q ∷ []) ≡ rows_before ps ++ q.row ∷ []
rows_more [] q = refl
rows_more (p ∷ ps) q = ap (λ l. p.row ∷ l) (rows_more ps q)

module _ (damaged : ℕ → RunPart → List Damage) where
  each_more : (n : ℕ) (ps : List RunPart) (q : RunPart) → each_damaged damaged n (ps ++ q ∷ []) ≡ each_damaged damaged n ps ++ damaged (n + length ps) q
  each_more n [] q = nothing_more (damaged n q) ∙ ap (λ k. damaged k q) (let e : n ≡ n + 0 = omega arith in e)
  each_more n (p ∷ ps) q =
      ap (λ l. damaged n p ++ l) (each_more (n + 1) ps q ∙ ap (λ k. each_damaged damaged (n + 1) ps ++ damaged k q) (let e : n + 1 + length ps ≡ n + suc (length ps) = omega arith in e))
      ∙ sym (append_assoc (damaged n p) (each_damaged damaged (n + 1) ps) (damaged (n + suc (length ps)) q))

  pub table_more : (n : ℕ) (ps : List RunPart) (q : RunPart) → n ≡ length ps + 1
      → first_of (each_damaged damaged 1 (ps ++ q ∷ [])) ≡ or_else (first_of (each_damaged damaged 1 ps)) (first_of (damaged n q))
  table_more n ps q next =
      ap first_of (each_more 1 ps q)
      ∙ ap (λ k. first_of (each_damaged damaged 1 ps ++ damaged k q)) (let e : 1 + length ps ≡ n = omega (arith, next) in e)
      ∙ first_more (each_damaged damaged 1 ps) (damaged n q)

runs_more : (texts : ℕ) (before : List RunRow) (n : ℕ) (ps : List RunPart) (q : RunPart)
    → runs_damaged texts before n (ps ++ q ∷ []) ≡ runs_damaged texts before n ps ++ run_damaged texts (before ++ rows_before ps) (n + length ps) q
runs_more texts before n [] q =
    nothing_more (run_damaged texts before n q)
    ∙ ap (λ rs. run_damaged texts rs n q) (sym (nothing_more before))
    ∙ ap (λ k. run_damaged texts (before ++ []) k q) (let e : n ≡ n + 0 = omega arith in e)
runs_more texts before n (p ∷ ps) q =
    ap (λ l. run_damaged texts before n p ++ l)
    (runs_more texts (before ++ p.row ∷ []) (n + 1) ps q
    ∙ ap (λ rs. runs_damaged texts (before ++ p.row ∷ []) (n + 1) ps ++ run_damaged texts rs (n + 1 + length ps) q) (append_assoc before (p.row ∷ []) (rows_before ps))
    ∙ ap (λ k. runs_damaged texts (before ++ p.row ∷ []) (n + 1) ps ++ run_damaged texts (before ++ p.row ∷ rows_before ps) k q) (let e : n + 1 + length ps ≡ n + suc (length ps) = omega arith in e))
    ∙ sym (append_assoc (run_damaged texts before n p) (runs_damaged texts (before ++ p.row ∷ []) (n + 1) ps) (run_damaged texts (before ++ p.row ∷ rows_before ps) (n + suc (length ps)) q))

pub run_more : (texts n : ℕ) (ps : List RunPart) (q : RunPart) → n ≡ length ps + 1
    → first_of (runs_damaged texts [] 1 (ps ++ q ∷ [])) ≡ or_else (first_of (runs_damaged texts [] 1 ps)) (first_of (run_damaged texts (rows_before ps) n q))
run_more texts n ps q next =
    ap first_of (runs_more texts [] 1 ps q)
    ∙ ap (λ k. first_of (runs_damaged texts [] 1 ps ++ run_damaged texts (rows_before ps) k q)) (let e : 1 + length ps ≡ n = omega (arith, next) in e)
    ∙ first_more (runs_damaged texts [] 1 ps) (run_damaged texts (rows_before ps) n q)

---- Lists of all rows

-- the first rows of no run in lists of all rows
pub record AreStrays (rows : StoreRows) (is_stray : ℤ → Bool) (found : StrayDamages) : Type 0 where
  pub events : found.events ≡ first_of (strays table.Event is_stray (map event_place rows.events))
  pub timers : found.timers ≡ first_of (strays table.Timer is_stray (map timer_place rows.timers))
  pub outbox : found.outbox ≡ first_of (strays table.Outbox is_stray (map task_place rows.outbox))

module _ (rows : StoreRows) where
  pub parts_more : (n : ℕ) (rs : List RunRow) (r : RunRow) → parts_of rows n (rs ++ r ∷ []) ≡ parts_of rows n rs ++ part_at rows (n + length rs) r ∷ []
  parts_more n [] r = ap (λ k. part_at rows k r ∷ []) (let e : n ≡ n + 0 = omega arith in e)
  parts_more n (x ∷ rs) r =
      ap (λ l. part_at rows n x ∷ l)
      (parts_more (n + 1) rs r ∙ ap (λ k. parts_of rows (n + 1) rs ++ part_at rows k r ∷ []) (let e : n + 1 + length rs ≡ n + suc (length rs) = omega arith in e))

  pub parts_long : (n : ℕ) (rs : List RunRow) → length (parts_of rows n rs) ≡ length rs
  parts_long n [] = refl
  parts_long n (r ∷ rs) = ap suc (parts_long (n + 1) rs)

  pub parts_told : (n : ℕ) (rs : List RunRow) → map told_part (parts_of rows n rs) ≡ runs_told (events_of rows.events) (tasks_of rows.outbox) n rs
  parts_told n [] = refl
  parts_told n (r ∷ rs) = ap (λ l. told_part (part_at rows n r) ∷ l) (parts_told (n + 1) rs)

  runs_are : (texts : ℕ) (before : List RunRow) (n : ℕ) (rs : List RunRow) → runs_damaged texts before n (parts_of rows n rs) ≡ damages_of_runs texts rows.events before n rs
  runs_are texts before n [] = refl
  runs_are texts before n (r ∷ rs) = ap (λ l. run_damaged texts before n (part_at rows n r) ++ l) (runs_are texts (before ++ r ∷ []) (n + 1) rs)

  events_are : (n : ℕ) (rs : List RunRow) → each_damaged history_damaged n (parts_of rows n rs) ≡ damages_of_events rows.events n rs
  events_are n [] = refl
  events_are n (r ∷ rs) = ap (λ l. history_damaged n (part_at rows n r) ++ l) (events_are (n + 1) rs)

  timers_are : (n : ℕ) (rs : List RunRow) → each_damaged timers_damaged n (parts_of rows n rs) ≡ damages_of_timers rows.timers n (histories rows.events n rs)
  timers_are n [] = refl
  timers_are n (r ∷ rs) = ap (λ l. timers_damaged n (part_at rows n r) ++ l) (timers_are (n + 1) rs)

  outbox_are : (n : ℕ) (rs : List RunRow) → each_damaged outbox_damaged n (parts_of rows n rs) ≡ damages_of_outbox rows.outbox n (histories rows.events n rs)
  outbox_are n [] = refl
  outbox_are n (r ∷ rs) = ap (λ l. outbox_damaged n (part_at rows n r) ++ l) (outbox_are (n + 1) rs)

  -- rows of no run stand around what is damaged of the runs
  around : (below own same behind : List Damage) → own ≡ same → first_of (below ++ (same ++ behind)) ≡ first_between (first_of below) own (first_of behind)
  around below own same behind is =
      first_more below (same ++ behind) ∙ ap (or_else (first_of below)) (first_more same behind ∙ ap (λ l. or_else (first_of l) (first_of behind)) (sym is))

  -- The first damage in lists of rows.
  pub first_in_lists : (p : Bytes → Bool) (below behind : StrayDamages) → AreStrays rows is_below below → AreStrays rows (is_behind (length rows.runs)) behind
      → first_passed p (passed_to rows rows.runs) below behind ≡ first_damage p rows
  first_in_lists p below behind are_below are_behind =
      let texts = damages_of_texts p 1 rows.texts in
      let runs = damages_of_runs (length rows.texts) rows.events [] 1 rows.runs in
      let hs = histories rows.events 1 rows.runs in
      let events = around (strays table.Event is_below (map event_place rows.events)) (each_damaged history_damaged 1 (parts_of rows 1 rows.runs)) (damages_of_events rows.events 1 rows.runs)
      (strays table.Event (is_behind (length rows.runs)) (map event_place rows.events)) (events_are 1 rows.runs)
      ∙ (λ i. first_between (sym are_below.events i) (each_damaged history_damaged 1 (parts_of rows 1 rows.runs)) (sym are_behind.events i)) in
      let timers = around (strays table.Timer is_below (map timer_place rows.timers)) (each_damaged timers_damaged 1 (parts_of rows 1 rows.runs)) (damages_of_timers rows.timers 1 hs)
      (strays table.Timer (is_behind (length rows.runs)) (map timer_place rows.timers)) (timers_are 1 rows.runs)
      ∙ (λ i. first_between (sym are_below.timers i) (each_damaged timers_damaged 1 (parts_of rows 1 rows.runs)) (sym are_behind.timers i)) in
      let outbox = around (strays table.Outbox is_below (map task_place rows.outbox)) (each_damaged outbox_damaged 1 (parts_of rows 1 rows.runs)) (damages_of_outbox rows.outbox 1 hs)
      (strays table.Outbox (is_behind (length rows.runs)) (map task_place rows.outbox)) (outbox_are 1 rows.runs)
      ∙ (λ i. first_between (sym are_below.outbox i) (each_damaged outbox_damaged 1 (parts_of rows 1 rows.runs)) (sym are_behind.outbox i)) in
      let from_timers = first_more (damages_of_timer_table rows hs) (damages_of_outbox_table rows hs) ∙ (λ i. or_else (timers i) (outbox i)) in
      let from_events = first_more (damages_of_event_table rows) (damages_of_timer_table rows hs ++ damages_of_outbox_table rows hs) ∙ (λ i. or_else (events i) (from_timers i)) in
      let from_runs = first_more runs (damages_behind_runs rows) ∙ (λ i. or_else (first_of (sym (runs_are (length rows.texts) [] 1 rows.runs) i)) (from_events i)) in
      sym (first_more texts (runs ++ damages_behind_runs rows) ∙ ap (or_else (first_of texts)) from_runs)
