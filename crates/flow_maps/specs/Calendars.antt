-- What runs have open, each thing under a moment, in order of the moments.
use Rattle.std.specs.Prelude.{◌≡◌, ℕ, ◌+◌, ◌≤◌, ◌<◌, Bool, true, List, filter, Option, Some, None}
use Rattle.std.specs.List.{list_any}
use Rattle.std.specs.declared.cmp.Ordering.{Ordering}
use Rattle.std.specs.Ordering.{nat_cmp, is_eq, ordering_then}
use Rattle.std.specs.BTreeSet.{BTreeSet, contains}
use Rattle.std.specs.BTreeMap.Range.{range_contains}
use Rattle.std.specs.declared.ops.Bound.TheVariants.{Excluded, Included}
use Rattle.flow_base.specs.declared.book.Due.{Due}
use Rattle.flow_base.specs.declared.book.OpenActivity.{OpenActivity}
use Rattle.flow_base.specs.declared.book.Timer.{Timer}

-- a moment, a run and an event
abbrev pub Slot : Type 0
Slot = ℕ × ℕ × ℕ

abbrev pub slot_cmp : Slot → Slot → Ordering
slot_cmp x y = ordering_then (ordering_then (nat_cmp x.0 y.0) (nat_cmp x.1 y.1)) (nat_cmp x.2 y.2)

abbrev pub is_slot : Slot → Slot → Bool
is_slot x y = is_eq (slot_cmp x y)

-- a timer stands under the moment at which it is due, an activity under the one from which on it may be attempted
abbrev pub date_of_timer : Timer → ℕ × ℕ
date_of_timer t = (t.due, t.id)

abbrev pub date_of_task : OpenActivity → ℕ × ℕ
date_of_task t = (t.ready, t.event)

abbrev pub due_of : Slot → Due
due_of s = record { due = s.0; run = s.1; id = s.2 }

-- the slots from one moment to another
abbrev pub part_within : ℕ → ℕ → List Slot → List Slot
part_within first at qs = filter (range_contains slot_cmp (Included (first, 0, 0)) (Excluded (at + 1, 0, 0))) qs

-- m is the first moment after `at` under which something stands; none where nothing does
abbrev pub IsNext : ℕ → BTreeSet Slot → Option ℕ → Type 0
IsNext at s None = (q : Slot) → contains slot_cmp s q ≡ true → at < q.0 → ⊥
IsNext at s (Some m) = (at < m) × ((q : Slot) × (contains slot_cmp s q ≡ true) × (q.0 ≡ m)) × ((q : Slot) → contains slot_cmp s q ≡ true → at < q.0 → m ≤ q.0)

module _ {T : Type 0} (date : T → ℕ × ℕ) where
  abbrev pub slot : ℕ → T → Slot
  slot run t = ((date t).0, run, (date t).1)

  -- whether a slot is that of one of a run's things
  abbrev pub has_slot : ℕ → List T → Slot → Bool
  has_slot run ts q = list_any (λ (t : T). is_slot (slot run t) q) ts

  -- These are the slots of what runs have.
  abbrev pub HasSlots : BTreeSet Slot → (ℕ → List T) → Type 0
  HasSlots s f = (q : Slot) → contains slot_cmp s q ≡ has_slot q.1 (f q.1) q
