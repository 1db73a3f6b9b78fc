-- Where an input can be delivered.
use Rattle.std.proofs.Common.{◌≡◌, ℕ, refl, sym, ap, ◌∙◌, Option, Some, None, Bool, true, false, is_some}
use Rattle.std.specs.Prelude.{if◌then◌else◌, nat_eq}
use Rattle.std.proofs.lemmas.Bool.{true≢false}
use Rattle.std.proofs.lemmas.Option.{none-some}
use Rattle.flow_base.specs.Syntax.{Bytes}
use Rattle.flow_base.specs.declared.value.Value.{Value}
use Rattle.flow_base.specs.declared.value.Kind.{Kind}
use Rattle.flow_base.specs.declared.event.Cause.TheVariants.{ActivityFailed}
use Rattle.flow_model.specs.Rest.{Rest, Done, OnActivity, OnTimer, OnSignal, OnSignalFor, Raised, Then, Beside, rest_of, rest_else}
use Rattle.flow_model.specs.Configuration.{Configuration, is_open}
use Rattle.flow_model.specs.Deliver.{Progress, or_rest, map_rest, replaced, has_kind, target_of, awaited_kind, when_completed, when_failed, when_fired, start_from, with_rest, completed}

---- Waits

-- What is waited for, in a run that waits on activities, on timers, or on both.
pub record Sort (A : Type 0) : Type 0 where
  pub call : Option (Kind → A)  -- a call, by the type of what its activity gives
  pub timer : Option A

-- each activity, for the type of what it gives
abbrev pub calls : Sort Kind
calls = record { call = Some (λ k. k); timer = None }

-- each timer
abbrev pub timers : Sort (Unit {0})
timers = record { call = None; timer = Some tt }

abbrev pub called : {A : Type 0} → Option (Kind → A) → Kind → Option A
called None k = None
called (Some f) k = Some (f k)

-- what a leaf waits for on an event
abbrev pub wait_at : {A : Type 0} → Sort A → ℕ → Rest → Option A
wait_at s n (OnActivity m x k o) = if nat_eq m n then called s.call k else None
wait_at s n (OnTimer m) = if nat_eq m n then s.timer else None
wait_at s n (OnSignalFor x g m b) = if nat_eq m n then s.timer else None
wait_at s n r = None

-- the leftmost leaf that the function knows, by what it gives
abbrev pub leaf_of : {A : Type 0} → (Rest → Option A) → Rest → Option A
leaf_of f (Then r b) = leaf_of f r
leaf_of f (Beside a b) = elim (leaf_of f a) [ None ↦ leaf_of f b | Some x ↦ Some x ]
leaf_of f Done = f Done
leaf_of f (OnActivity n x k o) = f (OnActivity n x k o)
leaf_of f (OnTimer n) = f (OnTimer n)
leaf_of f (OnSignal x s) = f (OnSignal x s)
leaf_of f (OnSignalFor x s n b) = f (OnSignalFor x s n b)
leaf_of f (Raised c t) = f (Raised c t)

-- what a rest waits for on an event
abbrev pub wait_of : {A : Type 0} → Sort A → ℕ → Rest → Option A
wait_of s n r = leaf_of (wait_at s n) r

-- where both ways give none
pub none_if : {A : Type 0} (b : Bool) → ◌≡◌ {A = Option A} None (if b then None else None)
none_if true = refl
none_if false = refl

kind_beside : (s t : Option (Bytes × Kind)) (o p : Option Kind) → awaited_kind s ≡ o → awaited_kind t ≡ p
    → awaited_kind (elim s [ None ↦ t | Some x ↦ Some x ]) ≡ elim o [ None ↦ p | Some k ↦ Some k ]
kind_beside None t None p h k = k
kind_beside None t (Some j) p h k = absurd (none-some j h)
kind_beside (Some x) t None p h k = absurd (none-some x.1 (sym h))
kind_beside (Some x) t (Some j) p h k = h

kind_if : (b : Bool) (x : Bytes) (k : Kind) → awaited_kind (if b then Some (x, k) else None) ≡ (if b then Some k else None)
kind_if true x k = refl
kind_if false x k = refl

-- the wait on an activity, but for its variable
pub awaits_kind : (n : ℕ) (r : Rest) → awaited_kind (target_of n r) ≡ wait_of calls n r
awaits_kind n Done = refl
awaits_kind n (OnActivity m x k o) = kind_if (nat_eq m n) x k
awaits_kind n (OnTimer m) = none_if (nat_eq m n)
awaits_kind n (OnSignal x s) = refl
awaits_kind n (OnSignalFor x s m b) = none_if (nat_eq m n)
awaits_kind n (Raised c t) = refl
awaits_kind n (Then r b) = awaits_kind n r
awaits_kind n (Beside a b) = kind_beside (target_of n a) (target_of n b) (wait_of calls n a) (wait_of calls n b) (awaits_kind n a) (awaits_kind n b)

---- What ends a wait

some_map : (f : Rest → Rest) (o : Option Rest) → is_some (map_rest f o) ≡ is_some o
some_map f None = refl
some_map f (Some r) = refl

some_beside : {A : Type 0} (f g : Rest → Rest) (o p : Option Rest) (s t : Option A) → is_some o ≡ is_some s → is_some p ≡ is_some t
    → is_some (or_rest (map_rest f o) (map_rest g p)) ≡ is_some (elim s [ None ↦ t | Some x ↦ Some x ])
some_beside f g None p None t h k = some_map g p ∙ k
some_beside f g None p (Some x) t h k = absurd (true≢false (sym h))
some_beside f g (Some r) p None t h k = absurd (true≢false h)
some_beside f g (Some r) p (Some x) t h k = refl

some_if : {A : Type 0} (b : Bool) (r : Rest) (x : A) → is_some (if b then Some r else None) ≡ is_some (if b then Some x else None)
some_if true r x = refl
some_if false r x = refl

-- A leaf is replaced where one is known, if that holds of each leaf.
replaces : {A : Type 0} (f : Rest → Option Rest) (g : Rest → Option A) → ((r : Rest) → is_some (f r) ≡ is_some (g r)) → (r : Rest) → is_some (replaced f r) ≡ is_some (leaf_of g r)
replaces f g h (Then r b) = some_map _ (replaced f r) ∙ replaces f g h r
replaces f g h (Beside a b) = some_beside _ _ (replaced f a) (replaced f b) (leaf_of g a) (leaf_of g b) (replaces f g h a) (replaces f g h b)
replaces f g h Done = h Done
replaces f g h (OnActivity n x k o) = h (OnActivity n x k o)
replaces f g h (OnTimer n) = h (OnTimer n)
replaces f g h (OnSignal x s) = h (OnSignal x s)
replaces f g h (OnSignalFor x s n b) = h (OnSignalFor x s n b)
replaces f g h (Raised c t) = h (Raised c t)

some_kind : (o : Option (Bytes × Kind)) → is_some (awaited_kind o) ≡ is_some o
some_kind None = refl
some_kind (Some x) = refl

-- an activity can complete where a wait is on it
completes_leaf : (n : ℕ) (r : Rest) → is_some (when_completed n r) ≡ is_some (wait_at calls n r)
completes_leaf n Done = refl
completes_leaf n (OnActivity m x k o) = some_if (nat_eq m n) Done k
completes_leaf n (OnTimer m) = ap is_some (none_if (nat_eq m n))
completes_leaf n (OnSignal x s) = refl
completes_leaf n (OnSignalFor x s m b) = ap is_some (none_if (nat_eq m n))
completes_leaf n (Raised c t) = refl
completes_leaf n (Then r b) = refl
completes_leaf n (Beside a b) = refl

pub completes : (n : ℕ) (r : Rest) → is_some (replaced (when_completed n) r) ≡ is_some (target_of n r)
completes n r = replaces (when_completed n) (wait_at calls n) (completes_leaf n) r ∙ ap is_some (sym (awaits_kind n r)) ∙ some_kind (target_of n r)

-- and fail
fails_leaf : (n : ℕ) (text : Bytes) (r : Rest) → is_some (when_failed n text r) ≡ is_some (wait_at calls n r)
fails_leaf n text Done = refl
fails_leaf n text (OnActivity m x k o) = some_if (nat_eq m n) (rest_else o (Raised ActivityFailed text)) k
fails_leaf n text (OnTimer m) = ap is_some (none_if (nat_eq m n))
fails_leaf n text (OnSignal x s) = refl
fails_leaf n text (OnSignalFor x s m b) = ap is_some (none_if (nat_eq m n))
fails_leaf n text (Raised c t) = refl
fails_leaf n text (Then r b) = refl
fails_leaf n text (Beside a b) = refl

pub fails : (n : ℕ) (text : Bytes) (r : Rest) → is_some (replaced (when_failed n text) r) ≡ is_some (target_of n r)
fails n text r = replaces (when_failed n text) (wait_at calls n) (fails_leaf n text) r ∙ ap is_some (sym (awaits_kind n r)) ∙ some_kind (target_of n r)

-- and a timer fire
fires_leaf : (n : ℕ) (r : Rest) → is_some (when_fired n r) ≡ is_some (wait_at timers n r)
fires_leaf n Done = refl
fires_leaf n (OnActivity m x k o) = ap is_some (none_if (nat_eq m n))
fires_leaf n (OnTimer m) = some_if (nat_eq m n) Done tt
fires_leaf n (OnSignal x s) = refl
fires_leaf n (OnSignalFor x s m b) = some_if (nat_eq m n) (rest_of b) tt
fires_leaf n (Raised c t) = refl
fires_leaf n (Then r b) = refl
fires_leaf n (Beside a b) = refl

pub fires : (n : ℕ) (r : Rest) → is_some (replaced (when_fired n) r) ≡ is_some (wait_of timers n r)
fires n r = replaces (when_fired n) (wait_at timers n) (fires_leaf n) r

some_started : (k : Configuration) (o : Option Rest) → is_some (with_rest k o) ≡ is_some o
some_started k None = refl
some_started k (Some r) = refl

abbrev fits : Value → Option Kind → Bool
fits v None = false
fits v (Some k) = has_kind k v

some_then : (b : Bool) (p : Progress) → is_some (if b then Some p else None) ≡ b
some_then true p = refl
some_then false p = refl

some_completed : (k : Configuration) (n : ℕ) (v : Value) (o : Option (Bytes × Kind)) → is_some (replaced (when_completed n) k.rest) ≡ is_some o → is_some (completed k n v o) ≡ fits v (awaited_kind o)
some_completed k n v None h = refl
some_completed k n v (Some x) h =
    elim (replaced (when_completed n) k.rest) as (λ q. is_some q ≡ true → is_some (if has_kind x.1 v then elim q [ None ↦ None | Some r ↦ Some (start_from k r (Rattle.flow_model.specs.Values.with_variable k.variables x.0 v)) ] else None) ≡ has_kind x.1 v) [
      | None ↦ λ e. absurd (true≢false (sym e))
      | Some r ↦ λ e. some_then (has_kind x.1 v) _
    ] h

-- a value can be delivered where the wait on its activity wants its type
pub takes_value : (k : Configuration) (n : ℕ) (v : Value) (kind : Kind) → is_open k.state ≡ true → awaited_kind (target_of n k.rest) ≡ Some kind
    → is_some (if is_open k.state then completed k n v (target_of n k.rest) else None) ≡ has_kind kind v
takes_value k n v kind is e = rw is (some_completed k n v (target_of n k.rest) (completes n k.rest) ∙ ap (fits v) e)

pub takes_failure : (k : Configuration) (n : ℕ) (text : Bytes) → is_open k.state ≡ true
    → is_some (if is_open k.state then with_rest k (replaced (when_failed n text) k.rest) else None) ≡ is_some (awaited_kind (target_of n k.rest))
takes_failure k n text is = rw is (some_started k (replaced (when_failed n text) k.rest) ∙ fails n text k.rest ∙ sym (some_kind (target_of n k.rest)))

-- a timer can fire where a wait is on it
pub takes_firing : (k : Configuration) (n : ℕ) → is_open k.state ≡ true
    → is_some (if is_open k.state then with_rest k (replaced (when_fired n) k.rest) else None) ≡ is_some (wait_of timers n k.rest)
takes_firing k n is = rw is (some_started k (replaced (when_fired n) k.rest) ∙ fires n k.rest)
