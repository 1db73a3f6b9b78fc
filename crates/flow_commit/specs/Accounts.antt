-- What an account tells beside its receipts: a book, and a connection as it was handed in, as plain data.
use Rattle.std.specs.Prelude.{◌≡◌, ◌⊎◌, ℕ, Bool, false, List, [], ◌∷◌, map, nat_eq, slice_index_or, if◌then◌else◌, refl}
use Rattle.std.specs.Coded.{Coded, code_by, coded×, coded_ℕ, coded_bool, coded_list}
use Rattle.flow_base.specs.contracts.book.Run as run_row
use Rattle.flow_base.specs.declared.book.Run.{Run}
use Rattle.flow_base.specs.declared.submission.Receipt.{Receipt}
use Rattle.flow_base.specs.contracts.submission.Receipt as receipt_row
use Rattle.flow_model.specs.Book.{Book, no_book}
use Rattle.flow_sql.specs.Past.{HasPast}
use Rattle.flow_tables.specs.Names.{State, HasTables, no_schema}
use Rattle.sqlite_schema.specs.declared.schema.Schema.{Schema}
use Rattle.sqlite_schema.specs.contracts.schema.Schema as schema_row
use Rattle.sqlite_trees.specs.Objects.{catalog_tree}
use Rattle.sqlite_trees.specs.View.{doubt}
use Rattle.sqlite_value.specs.Order.{Row}
use Rattle.sqlite_value.specs.contracts.row.Row as value_row

abbrev pub book_code : Coded Book
book_code = code_by (List (List ℕ) × List Run) (coded× (coded_list (coded_list coded_ℕ)) (coded_list run_row.the_row.coded)) (λ b. (b.texts, b.runs)) (λ p. record { texts = p.0; runs = p.1 }) (λ _. refl)

-- A connection as it was handed in: whether its disk was clean, the schema that the last commit had left, the list of objects, and the
-- trees of our tables.
pub record HandedIn : Type 0 where
  pub clean : Bool
  pub schema : Schema
  pub catalog : List Row
  pub rows : List (List Row)

abbrev pub handed_code : Coded HandedIn
handed_code =
    code_by (Bool × (Schema × (List Row × List (List Row)))) (coded× coded_bool (coded× schema_row.the_row.coded (coded× (coded_list value_row.the_row.coded) (coded_list (coded_list value_row.the_row.coded)))))
    (λ h. (h.clean, (h.schema, (h.catalog, h.rows)))) (λ p. record { clean = p.0; schema = p.1.0; catalog = p.1.1.0; rows = p.1.1.1 }) (λ _. refl)

-- the trees of our tables and of their keys, in each layout
abbrev pub our_trees : List ℕ
our_trees = 0 ∷ 1 ∷ 2 ∷ 3 ∷ 4 ∷ 5 ∷ 6 ∷ 7 ∷ 8 ∷ 9 ∷ 10 ∷ 11 ∷ 12 ∷ []

abbrev pub handed_in : State → HandedIn
handed_in s = record { clean = s.is_clean; schema = s.committed.schema; catalog = s.committed.trees catalog_tree; rows = map s.committed.trees our_trees }

-- The trees again. What stands in the others no clause on our tables reads.
abbrev pub trees_of : HandedIn → ℕ → List Row
trees_of h t = if nat_eq t catalog_tree then h.catalog else slice_index_or h.rows t []

-- our tables with any rows, or none, or those of the first format
abbrev pub WereOurs : HandedIn → Type 0
WereOurs h = doubt h.clean ≡ 0 → (HasTables (record { schema = h.schema; trees = trees_of h }) ⊎ (h.schema ≡ no_schema)) ⊎ HasPast (record { schema = h.schema; trees = trees_of h })

abbrev pub log_code : Coded (List Receipt)
log_code = coded_list receipt_row.the_row.coded

-- What a keeper was made over: the book that was found, and the connection as it was handed in.
pub record Based : Type 0 where
  pub found : Book
  pub opened : HandedIn

-- What a keeper has kept: what it was made over, whether the disk has told no lie so far, how many commands it has kept, and their
-- receipts.
pub record Accounted : Type 0 where
  pub base : Based
  pub clean : Bool
  pub kept : ℕ
  pub log : List Receipt

abbrev pub account_code : Coded Accounted
account_code =
    code_by (Book × (HandedIn × (Bool × (ℕ × List Receipt)))) (coded× book_code (coded× handed_code (coded× coded_bool (coded× coded_ℕ log_code))))
    (λ a. (a.base.found, (a.base.opened, (a.clean, (a.kept, a.log))))) (λ p. record { base = record { found = p.0; opened = p.1.0 }; clean = p.1.1.0; kept = p.1.1.1.0; log = p.1.1.1.1 }) (λ _. refl)

abbrev pub no_account : Accounted
no_account = record { base = record { found = no_book; opened = record { clean = false; schema = no_schema; catalog = []; rows = [] } }; clean = false; kept = 0; log = [] }
