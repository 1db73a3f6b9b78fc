-- Which tasks of a board are posted: each that wasn't posted before, once.
use Rattle.std.specs.Prelude.{◌≡◌, ◌&&◌, not, ℕ, Bool, true, false, cond, List, [], ◌∷◌, ◌++◌, filter, Option, Some, None}
use Rattle.std.specs.List.{list_any}
use Rattle.std.specs.declared.cmp.Ordering.{Ordering}
use Rattle.std.specs.Ordering.{nat_cmp, is_eq, ordering_then}
use Rattle.std.specs.BTreeSet.{BTreeSet, contains}
use Rattle.flow_base.specs.declared.task.Task.{Task}
use Rattle.flow_base.specs.Keys.{Key, key_of}

-- the order of keys: by run, event and attempt
abbrev pub key_cmp : Key → Key → Ordering
key_cmp x y = ordering_then (ordering_then (nat_cmp x.0 y.0) (nat_cmp x.1 y.1)) (nat_cmp x.2 y.2)

abbrev pub is_key : Key → Key → Bool
is_key x y = is_eq (key_cmp x y)

-- whether one of the tasks has this key
abbrev pub has_key : List Task → Key → Bool
has_key ts q = list_any (λ (t : Task). is_key (key_of t) q) ts

-- The set has the keys of these tasks, and no other.
abbrev pub HasKeys : BTreeSet Key → List Task → Type 0
HasKeys s ts = (q : Key) → contains key_cmp s q ≡ has_key ts q

-- whether a run is one of these
abbrev pub is_of : List ℕ → ℕ → Bool
is_of runs n = list_any (λ (r : ℕ). is_eq (nat_cmp r n)) runs

-- whether one of the tasks is of such a run
abbrev pub names_of : List ℕ → List Task → Bool
names_of runs ts = list_any (λ (t : Task). is_of runs t.run) ts

-- those of the tasks that are of no such run
abbrev pub apart_of : List ℕ → List Task → List Task
apart_of runs ts = filter (λ (t : Task). not (is_of runs t.run)) ts

-- The set has the keys of these tasks, but for what is of these runs, and no other.
abbrev pub HasStill : List ℕ → BTreeSet Key → List Task → Type 0
HasStill gone s ts = (q : Key) → contains key_cmp s q ≡ (has_key ts q && not (is_of gone q.0))

-- Of other runs than these the set has the keys of these tasks, and no other.
abbrev pub HasOthers : List ℕ → BTreeSet Key → List Task → Type 0
HasOthers gone s ts = (q : Key) → is_of gone q.0 ≡ false → contains key_cmp s q ≡ has_key ts q

-- the first of a run's keys; none if the set has none
abbrev pub IsFirstOf : ℕ → BTreeSet Key → Option Key → Type 0
IsFirstOf run s None = (q : Key) → q.0 ≡ run → contains key_cmp s q ≡ false
IsFirstOf run s (Some k) = (k.0 ≡ run) × (contains key_cmp s k ≡ true)

-- No two of the tasks have one key.
abbrev pub IsOnce : List Task → Type 0
IsOnce [] = Unit {0}
IsOnce (t ∷ ts) = (has_key ts (key_of t) ≡ false) × IsOnce ts

-- Behind those that are posted: these, but for those whose key is posted by then.
abbrev pub new_ones : List Task → List Task → List Task
new_ones posted [] = []
new_ones posted (t ∷ ts) = cond (has_key posted (key_of t)) (new_ones posted ts) (t ∷ new_ones (posted ++ t ∷ []) ts)

-- those that are marked
abbrev pub chosen : List Task → List Bool → List Task
chosen ts [] = []
chosen [] (m ∷ ms) = []
chosen (t ∷ ts) (m ∷ ms) = cond m (t ∷ chosen ts ms) (chosen ts ms)
