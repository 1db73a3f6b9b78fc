-- What is kept: the positions of runs, that of the run used last first.
use Rattle.std.specs.Prelude.{◌≡◌, ◌-◌, ℕ, List, ◌∷◌, Option, Some, None, take, nat_eq, refl}
use Rattle.std.specs.Coded.{Coded, code_by, coded×, coded_ℕ, coded_list}
use Rattle.std.specs.Map.{keys_of, lookup, remove_entry}
use Rattle.std.specs.List.{IsDistinct}
use Rattle.flow_base.specs.Syntax.{Program}
use Rattle.flow_run.specs.Position.{config_of}
use Rattle.flow_run.specs.declared.stance.Stance.{Stance}
use Rattle.flow_cache.specs.contracts.positions.Entry as entry_row
use Rattle.flow_cache.specs.declared.positions.Entry.{Entry}

-- each entry with the number of its run
abbrev pub Entries : Type 0
Entries = List (ℕ × Entry)

-- the entries, and how many there may be
pub record Kept : Type 0 where
  pub entries : Entries
  pub capacity : ℕ

abbrev pub kept_code : Coded Kept
kept_code =
    code_by (Entries × ℕ) (coded× (coded_list (coded× coded_ℕ entry_row.the_row.coded)) coded_ℕ) (λ k. (k.entries, k.capacity))
    (λ p. record { entries = p.0; capacity = p.1 }) (λ _. refl)

-- the entry of a run
abbrev pub entry_of : ℕ → Entries → Option Entry
entry_of run es = lookup (nat_eq run) es

-- No run has two.
abbrev pub HasOneARun : Entries → Type 0
HasOneARun es = IsDistinct nat_eq (keys_of es)

-- The stance is that of a run with so many events, whatever its program is.
abbrev pub HasEvents : Stance → ℕ → Type 0
HasEvents s n = (p : Program) → (config_of p s).events ≡ n

-- the entry's position is of this text, with so many events
abbrev pub IsAt : Entry → ℕ → ℕ → Type 0
IsAt e text events = (e.text ≡ text) × HasEvents e.stance events

-- The run's entry is this position: of this text, with so many events.
abbrev pub IsKept : Entries → ℕ → ℕ → ℕ → Stance → Type 0
IsKept es run text events s = (entry_of run es ≡ Some (record { text = text; stance = s })) × HasEvents s events

-- the run's entry goes to the front, if it has one
abbrev pub used_by : Option Entry → ℕ → Entries → Entries
used_by None run es = es
used_by (Some e) run es = (run, e) ∷ remove_entry (nat_eq run) es

abbrev pub used : ℕ → Entries → Entries
used run es = used_by (entry_of run es) run es

-- what stays of the others beside a run's new entry: in place of its old one, or, in a full list without one, of the last
abbrev pub others_by : Option Entry → ℕ → Kept → Entries
others_by None run k = take (k.capacity - 1) k.entries
others_by (Some e) run k = remove_entry (nat_eq run) k.entries

-- without the entry of a run
abbrev pub without_entry : ℕ → Kept → Kept
without_entry run k = record { entries = remove_entry (nat_eq run) k.entries; capacity = k.capacity }

-- a position is kept in front
abbrev pub with_entry : ℕ → Entry → Kept → Kept
with_entry run e k = record { entries = (run, e) ∷ others_by (entry_of run k.entries) run k; capacity = k.capacity }
