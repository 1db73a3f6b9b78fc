-- The entries of runs in the words of the kit's cache.
use Rattle.std.proofs.Common.{◌≡◌, ◌-◌, ◌∷◌, [], List, ℕ, suc, arith, Bool, true, false, Option, Some, None, Contains, IsSome, take, refl, sym, ap, ◌∙◌, subst, inl, inr, nat_eq, cond}
use Rattle.std.specs.Option.{option_map, option_map_or}
use Rattle.std.specs.Prelude.{◌⊎◌}
use Rattle.std.specs.Map.{lookup, lookup_entry, remove_entry}
use Rattle.std.proofs.lemmas.Bool.{eqb-true}
use Rattle.lru.specs.LruCache.{LruCache, lru_cache, promoted, put_entries}
use Rattle.lru.proofs.CallerLemmas.{Contains-lookup, Contains-remove_entry, Contains-take}
use Rattle.lru.proofs.Splits.{Contains-cons}
use Rattle.flow_base.specs.Syntax.{Program, End}
use Rattle.flow_run.specs.declared.stance.Stance.{Stance}
use Rattle.flow_cache.specs.declared.positions.Entry.{Entry}
use Rattle.flow_cache.specs.Entries.{Entries, Kept, HasEvents, IsAt, IsKept, entry_of, used, used_by, others_by, with_entry, without_entry}
use Rattle.flow_cache.specs.Laws.{Rule, AllHave, FoundHasIt, UsedHaveIt, KeptHaveIt}

-- what the kit's cache keeps
abbrev pub kept_of : LruCache ℕ Entry → Kept
kept_of c = record { entries = c.entries; capacity = c.cap }

-- an entry with the number of its run
abbrev pub numbered : ℕ → Option Entry → Option (ℕ × Entry)
numbered run o = option_map (λ e. (run, e)) o

numbered_by : (run : ℕ) (e : ℕ × Entry) (es : Entries) (is : Bool) → nat_eq run e.0 ≡ is → lookup_entry (nat_eq run) es ≡ numbered run (entry_of run es) → cond is (Some e) (lookup_entry (nat_eq run) es) ≡ numbered run (cond is (Some e.1) (entry_of run es))
numbered_by run e es true is below = ap (λ n. Some (n, e.1)) (sym (eqb-true run e.0 is))
numbered_by run e es false is below = below

-- what is found under a run's number is the run's entry
pub numbered_entry : (run : ℕ) (es : Entries) → lookup_entry (nat_eq run) es ≡ numbered run (entry_of run es)
numbered_entry run [] = refl
numbered_entry run (e ∷ es) = numbered_by run e es (nat_eq run e.0) refl (numbered_entry run es)

used_as : (run : ℕ) (es : Entries) (o : Option Entry) → option_map_or (λ e. e ∷ remove_entry (nat_eq run) es) (numbered run o) es ≡ used_by o run es
used_as run es None = refl
used_as run es (Some e) = refl

pub used_is_promoted : (run : ℕ) (es : Entries) → promoted (nat_eq run) es ≡ used run es
used_is_promoted run es = rw (numbered_entry run es) (used_as run es (entry_of run es))

kept_as : (run : ℕ) (e : Entry) (c : LruCache ℕ Entry) (o : Option Entry) → option_map_or (λ f. (f.0, e) ∷ remove_entry (nat_eq run) c.entries) (numbered run o) ((run, e) ∷ take (c.cap - 1) c.entries) ≡ (run, e) ∷ others_by o run (record { entries = c.entries; capacity = c.cap })
kept_as run e c None = refl
kept_as run e c (Some f) = refl

pub kept_is_put : (run : ℕ) (e : Entry) (c : LruCache ℕ Entry) → put_entries nat_eq c run e ≡ (with_entry run e (record { entries = c.entries; capacity = c.cap })).entries
kept_is_put run e c = rw (numbered_entry run c.entries) (kept_as run e c (entry_of run c.entries))

-- the kit's words of a key, ours of a run

pub ends_as_used : (run key : ℕ) → key ≡ run → (c n : LruCache ℕ Entry) → n ≡ lru_cache (promoted (nat_eq key) c.entries) c.cap → kept_of n ≡ record { entries = used run c.entries; capacity = c.cap }
ends_as_used run key is c n becomes = rw (becomes, is, used_is_promoted run c.entries) refl

pub ends_as_kept : (run key : ℕ) → key ≡ run → (e : Entry) (c n : LruCache ℕ Entry) → n ≡ lru_cache (put_entries nat_eq c key e) c.cap → kept_of n ≡ with_entry run e (kept_of c)
ends_as_kept run key is e c n becomes = rw (becomes, is, kept_is_put run e c) refl

pub ends_as_without : (run key : ℕ) → key ≡ run → (c n : LruCache ℕ Entry) → n ≡ lru_cache (remove_entry (nat_eq key) c.entries) c.cap → kept_of n ≡ without_entry run (kept_of c)
ends_as_without run key is c n becomes = rw (becomes, is) refl

pub entry_at : (run key : ℕ) → key ≡ run → (es : Entries) (o : Option Entry) → o ≡ lookup (nat_eq key) es → entry_of run es ≡ o
entry_at run key is es o found = rw is at (sym found)

pub there_at : (run key : ℕ) → key ≡ run → (es : Entries) → IsSome (entry_of run es) → IsSome (lookup (nat_eq key) es)
there_at run key is es there = rw is there

---- Stances

no_program : Program
no_program = record { at = 0; name = []; parameters = []; parameters_end = 0; declarations = []; body = End; body_end = 0 }

-- a stance has one number of events
pub one_count : (s : Stance) (n m : ℕ) → HasEvents s n → HasEvents s m → n ≡ m
one_count s n m a b = sym (a no_program) ∙ b no_program

-- the entry that was read is the one that is asked for
pub kept_at : (es : Entries) (run text events : ℕ) (e : Entry) → entry_of run es ≡ Some e → IsAt e text events → IsKept es run text events e.stance
kept_at es run text events e is at = (is ∙ ap (λ n. Some (record { text = n; stance = e.stance })) at.0, at.1)

-- or it isn't, and then none is
same_Some : {e f : Entry} → Some e ≡ Some f → e ≡ f
same_Some is = cc

pub not_kept_at : (es : Entries) (run text events : ℕ) (e : Entry) → entry_of run es ≡ Some e → (IsAt e text events → ⊥) → (s : Stance) → IsKept es run text events s → ⊥
not_kept_at es run text events e is never s kept =
    let same : e ≡ record { text = text; stance = s } = same_Some (sym is ∙ kept.0) in
    never (ap (λ (x : Entry). x.text) same, subst (λ (x : Entry). HasEvents x.stance events) (sym same) kept.1)

pub none_kept : (es : Entries) (run text events : ℕ) → entry_of run es ≡ None → (s : Stance) → IsKept es run text events s → ⊥
none_kept es run text events is s kept = let here = sym is ∙ kept.0 in cc

---- The law

pub found_has_it : (P : Rule) → FoundHasIt P
found_has_it P es run text events s all is =
    let at = Contains-lookup (nat_eq run) es (record { text = text; stance = s }) is.0 in
    subst (λ n. P n (record { text = text; stance = s })) (sym (eqb-true run at.0 at.2)) (all at.0 (record { text = text; stance = s }) at.1)

-- where those of one list stand in another
same_have : (P : Rule) (es fs : Entries) → AllHave P es → ((e : ℕ × Entry) → Contains fs e → Contains es e) → AllHave P fs
same_have P es fs all within run e c = all run e (within (run, e) c)

-- one more in front
one_more_has : (P : Rule) (run : ℕ) (e : Entry) (es : Entries) → P run e → AllHave P es → AllHave P ((run, e) ∷ es)
one_more_has P run e es one all n f c = elim (Contains-cons (run, e) es (n, f) c) [
  | inl same ↦ subst (λ (x : ℕ × Entry). P x.0 x.1) same one
  | inr below ↦ all n f below
]

used_have : (P : Rule) (run : ℕ) (es : Entries) (o : Option Entry) → entry_of run es ≡ o → AllHave P es → AllHave P (used_by o run es)
used_have P run es None is all = all
used_have P run es (Some e) is all =
    let at = Contains-lookup (nat_eq run) es e is in
    one_more_has P run e (remove_entry (nat_eq run) es) (subst (λ n. P n e) (sym (eqb-true run at.0 at.2)) (all at.0 e at.1)) (same_have P es (remove_entry (nat_eq run) es) all (Contains-remove_entry (nat_eq run) es))

pub used_have_it : (P : Rule) → UsedHaveIt P
used_have_it P run es all = used_have P run es (entry_of run es) refl all

---- Where one was used, the others are still there

none_there : {A : Type 0} (x : A) → Contains [] x → ⊥
none_there x c = let within = c.1 in absurd (omega (arith, within))

in_front : {A : Type 0} (x : A) (xs : List A) → Contains (x ∷ xs) x
in_front x xs = (0, omega arith, refl)

behind_it : {A : Type 0} (x y : A) (xs : List A) → Contains xs x → Contains (y ∷ xs) x
behind_it x y xs c = let within = c.1 in (suc c.0, omega (arith, within), c.2)

-- an entry is the one that was found, or one of those that are left without it
left_without : (run : ℕ) (x : Entry) (e : ℕ × Entry) (es : Entries) → entry_of run es ≡ Some x → Contains es e → (e ≡ (run, x)) ⊎ Contains (remove_entry (nat_eq run) es) e
left_without run x e [] is c = absurd (none_there e c)
left_without run x e (f ∷ es) is c = by (nat_eq run f.0) refl is (Contains-cons f es e c) (left_without run x e es)
  where
    later : (e ≡ (run, x)) ⊎ Contains (remove_entry (nat_eq run) es) e → (e ≡ (run, x)) ⊎ Contains (f ∷ remove_entry (nat_eq run) es) e
    later (inl same) = inl same
    later (inr there) = inr (behind_it e f (remove_entry (nat_eq run) es) there)

    by : (v : Bool) → nat_eq run f.0 ≡ v → cond v (Some f.1) (entry_of run es) ≡ Some x → (f ≡ e) ⊎ Contains es e
        → (entry_of run es ≡ Some x → Contains es e → (e ≡ (run, x)) ⊎ Contains (remove_entry (nat_eq run) es) e) → (e ≡ (run, x)) ⊎ Contains (cond v es (f ∷ remove_entry (nat_eq run) es)) e
    by true own at (inl same) rest = let number = eqb-true run f.0 own in let entry = same_Some at in inl (sym same ∙ (λ i. (sym number i, entry i)))
    by true own at (inr below) rest = inr below
    by false other at (inl same) rest = inr (subst (λ (y : ℕ × Entry). Contains (f ∷ remove_entry (nat_eq run) es) y) same (in_front f (remove_entry (nat_eq run) es)))
    by false other at (inr below) rest = later (rest at below)

used_keep : (run : ℕ) (es : Entries) (o : Option Entry) → entry_of run es ≡ o → (e : ℕ × Entry) → Contains es e → Contains (used_by o run es) e
used_keep run es None is e c = c
used_keep run es (Some x) is e c = elim (left_without run x e es is c) [
  | inl same ↦ subst (λ (y : ℕ × Entry). Contains ((run, x) ∷ remove_entry (nat_eq run) es) y) (sym same) (in_front (run, x) (remove_entry (nat_eq run) es))
  | inr there ↦ behind_it e (run, x) (remove_entry (nat_eq run) es) there
]

pub used_keeps : (run : ℕ) (es : Entries) (e : ℕ × Entry) → Contains es e → Contains (used run es) e
used_keeps run es e c = used_keep run es (entry_of run es) refl e c

---- What is kept

others_have : (P : Rule) (run : ℕ) (k : Kept) (o : Option Entry) → AllHave P k.entries → AllHave P (others_by o run k)
others_have P run k None all = same_have P k.entries (take (k.capacity - 1) k.entries) all (Contains-take (k.capacity - 1) k.entries)
others_have P run k (Some e) all = same_have P k.entries (remove_entry (nat_eq run) k.entries) all (Contains-remove_entry (nat_eq run) k.entries)

pub kept_have_it : (P : Rule) → KeptHaveIt P
kept_have_it P run e k all one = one_more_has P run e (others_by (entry_of run k.entries) run k) one (others_have P run k (entry_of run k.entries) all)

-- where a run's entry is let go, what is left was there
pub without_within : (run : ℕ) (k : Kept) (e : ℕ × Entry) → Contains (without_entry run k).entries e → Contains k.entries e
without_within run k = Contains-remove_entry (nat_eq run) k.entries
