-- Where our tables stand in each layout, as it is read off its schema.
use Rattle.flow_sql.proofs.Names.{AllByRecursion, Database, Layout, Fresh, Moved, LieAs, Schema, Some, Table, Trees, AreNumbered, AreLaid, AreOurs, all-slice_get, ap, arith, place_of_events, event_table, tree_of_events, layout_of, meta, no_schema, overlay, refl, [], run_table, schema_of, slice_get, sym, tables_by, tables_in, task_table, text_table, timer_table, ◌∙◌, ◌≡◌, ◌≢◌, ℕ}

-- what is so in both layouts is so in each
pub in_both : (P : Layout → Type 0) → P Fresh → P Moved → (l : Layout) → P l
in_both P fresh moved Fresh = fresh
in_both P fresh moved Moved = moved

pub meta_there : (l : Layout) → slice_get (schema_of l).tables 0 ≡ Some meta
meta_there Fresh = refl
meta_there Moved = refl

pub text_there : (l : Layout) → slice_get (schema_of l).tables 1 ≡ Some text_table
text_there Fresh = refl
text_there Moved = refl

pub run_there : (l : Layout) → slice_get (schema_of l).tables 2 ≡ Some run_table
run_there Fresh = refl
run_there Moved = refl

pub event_there : (l : Layout) → slice_get (schema_of l).tables (place_of_events l) ≡ Some (event_table l)
event_there Fresh = refl
event_there Moved = refl

pub timer_there : (l : Layout) → slice_get (schema_of l).tables 4 ≡ Some timer_table
timer_there Fresh = refl
timer_there Moved = refl

pub task_there : (l : Layout) → slice_get (schema_of l).tables 5 ≡ Some task_table
task_there Fresh = refl
task_there Moved = refl

-- no other table's rows lie in the tree of events
pub event_apart : (l : Layout)
    → (0 ≢ tree_of_events l) × (2 ≢ tree_of_events l) × (4 ≢ tree_of_events l) × (7 ≢ tree_of_events l) × (9 ≢ tree_of_events l)
event_apart Fresh = (omega arith, omega arith, omega arith, omega arith, omega arith)
event_apart Moved = (omega arith, omega arith, omega arith, omega arith, omega arith)

pub event_other : (l : Layout) (tree : ℕ) → tree ≢ tree_of_events l → tree_of_events l ≢ tree
event_other l tree apart same = apart (sym same)

-- nor is it one of a query's own
pub event_bare : (l : Layout) (db : Trees) → overlay db [] (tree_of_events l) ≡ db (tree_of_events l)
event_bare Fresh db = refl
event_bare Moved db = refl

-- what is so of each table is so of each of ours
module _ (l : Layout) (P : Table → Type 0) (all : AllByRecursion P (schema_of l).tables) where
  pub at_meta : P meta
  at_meta = all-slice_get P (schema_of l).tables 0 meta (meta_there l) all

  pub at_text : P text_table
  at_text = all-slice_get P (schema_of l).tables 1 text_table (text_there l) all

  pub at_run : P run_table
  at_run = all-slice_get P (schema_of l).tables 2 run_table (run_there l) all

  pub at_event : P (event_table l)
  at_event = all-slice_get P (schema_of l).tables (place_of_events l) (event_table l) (event_there l) all

  pub at_timer : P timer_table
  at_timer = all-slice_get P (schema_of l).tables 4 timer_table (timer_there l) all

  pub at_task : P task_table
  at_task = all-slice_get P (schema_of l).tables 5 task_table (task_there l) all

module _ (l : Layout) (db : Trees) (ours : AreOurs l db) where
  pub laid : AreLaid (schema_of l) db
  laid = record { sound = ours.sound; numbered = ours.numbered }

  pub numbered_texts : AreNumbered (db 2)
  numbered_texts = at_text l (λ t. AreNumbered (db t.tree)) ours.numbered

  pub numbered_runs : AreNumbered (db 4)
  numbered_runs = at_run l (λ t. AreNumbered (db t.tree)) ours.numbered

---- The layout of a database

-- the schema tells it
pub layout_told : (l : Layout) → layout_of (schema_of l) ≡ l
layout_told Fresh = refl
layout_told Moved = refl

module _ (l : Layout) (d : Database) (lie : LieAs l d) where
  pub layout_is : layout_of d.schema ≡ l
  layout_is = ap layout_of lie.laid_out ∙ layout_told l

  -- so its tables are those that its trees hold in it
  pub tables_are : tables_in d ≡ tables_by l d.trees
  tables_are = ap (λ m. tables_by m d.trees) layout_is

-- with one schema there is one layout
pub one_layout : (l m : Layout) → schema_of l ≡ schema_of m → l ≡ m
one_layout l m same = sym (layout_told l) ∙ ap layout_of same ∙ layout_told m

-- and there are tables
pub never_none : (l : Layout) → schema_of l ≡ no_schema → ⊥
never_none Fresh none = let clash = ap (λ (s : Schema). s.tables) none in cc
never_none Moved none = let clash = ap (λ (s : Schema). s.tables) none in cc
