-- What a rest waits for, and what it becomes once a wait is over, are those of its normal form.
use Rattle.std.proofs.Common.{◌≡◌, ℕ, List, [], ◌∷◌, ◌++◌, length, refl, sym, ap, ◌∙◌, arith, Option, Some, None, Bool, true, false, ⊎_elim}
use Rattle.std.specs.Prelude.{nat_eq, if◌then◌else◌, ◌&&◌}
use Rattle.std.proofs.lemmas.Bool.{true≢false}
use Rattle.std.proofs.lemmas.List.{length-append}
use Rattle.flow_base.specs.Syntax.{Bytes, Block, End, Next, Otherwise, NoElse, Else}
use Rattle.flow_base.specs.declared.value.Kind.{Kind}
use Rattle.flow_base.specs.declared.event.Cause.{Cause}
use Rattle.flow_base.specs.declared.event.Cause.TheVariants as C
use Rattle.flow_model.specs.Rest.{Rest, Done, OnActivity, OnTimer, OnSignal, OnSignalFor, Raised, Then, Beside, rest_of, rest_else, is_done, open_waits}
use Rattle.flow_model.specs.Deliver.{replaced, map_rest, or_rest, target_of, when_completed, when_failed, when_fired}
use Rattle.flow_patch.specs.Wrap.{joined, Patching, changed, changed_otherwise}
use Rattle.flow_run.specs.Shown.{waits_of}
use Rattle.flow_run.specs.declared.waits.OpenWait.{OpenWait}
use Rattle.flow_run.specs.declared.waits.OpenWait.TheVariants as wait
use Rattle.flow_patch.proofs.Normal.{cases, both, behind, beside, flat, norm, behind_twice, flat_norm}

done_waits : (r : Rest) → is_done r ≡ true → waits_of r ≡ []
done_waits Done e = refl
done_waits (OnActivity n x k o) e = absurd (true≢false (sym e))
done_waits (OnTimer n) e = absurd (true≢false (sym e))
done_waits (OnSignal x n) e = absurd (true≢false (sym e))
done_waits (OnSignalFor x m n b) e = absurd (true≢false (sym e))
done_waits (Raised c v) e = absurd (true≢false (sym e))
done_waits (Then r End) e = done_waits r (both (is_done r) true e).0
done_waits (Then r (Next u b)) e = absurd (true≢false (sym (both (is_done r) false e).1))
done_waits (Beside a b) e =
    let x = both (is_done a) (is_done b) e in rw (done_waits a x.0, done_waits b x.1)

pub waits_behind : (y : Rest) (c : Block) → waits_of (behind y c) ≡ waits_of y
waits_behind y End = refl
waits_behind Done (Next s d) = refl
waits_behind (OnActivity n x k o) (Next s d) = refl
waits_behind (OnTimer n) (Next s d) = refl
waits_behind (OnSignal x n) (Next s d) = refl
waits_behind (OnSignalFor x m n b) (Next s d) = refl
waits_behind (Raised w v) (Next s d) = refl
waits_behind (Beside a b) (Next s d) = refl
waits_behind (Then q e) (Next s d) = refl

pub waits_beside : (x y : Rest) → waits_of (beside x y) ≡ waits_of x ++ waits_of y
waits_beside x y =
    ⊎_elim (λ (e : (is_done x && is_done y) ≡ true).
    let d = both (is_done x) (is_done y) e in rw (e, done_waits x d.0, done_waits y d.1))
    (λ (e : (is_done x && is_done y) ≡ false). rw e) (cases (is_done x && is_done y))

pub waits_norm : (f : Patching) (r : Rest) → waits_of (norm f r) ≡ waits_of r
waits_norm f (Then r b) = waits_behind (norm f r) (changed f b) ∙ waits_norm f r
waits_norm f (Beside a b) = waits_beside (norm f a) (norm f b) ∙ ap (λ w. w ++ waits_of (norm f b)) (waits_norm f a) ∙ ap (λ w. waits_of a ++ w) (waits_norm f b)
waits_norm f Done = refl
waits_norm f (OnActivity n x k o) = refl
waits_norm f (OnTimer n) = refl
waits_norm f (OnSignal x s) = refl
waits_norm f (OnSignalFor x s n b) = refl
waits_norm f (Raised c t) = refl

pub count_waits : (r : Rest) → open_waits r ≡ length (waits_of r)
count_waits (Then r b) = count_waits r
count_waits (Beside a b) = omega (arith, count_waits a, count_waits b, length-append (waits_of a) (waits_of b))
count_waits Done = refl
count_waits (OnActivity n x k o) = refl
count_waits (OnTimer n) = refl
count_waits (OnSignal x s) = refl
count_waits (OnSignalFor x s n b) = refl
count_waits (Raised c t) = refl

abbrev pub or_target : Option (Bytes × Kind) → Option (Bytes × Kind) → Option (Bytes × Kind)
or_target o p = elim o [ None ↦ p | Some x ↦ Some x ]

abbrev pub target_in : ℕ → List OpenWait → Option (Bytes × Kind)
target_in n [] = None
target_in n (wait.Activity m x k ∷ ws) = if nat_eq m n then Some (x, k) else target_in n ws
target_in n (wait.Timer m ∷ ws) = target_in n ws
target_in n (wait.Signal x s ∷ ws) = target_in n ws
target_in n (wait.SignalFor x s m ∷ ws) = target_in n ws

target_joined : (n : ℕ) (v w : List OpenWait) → target_in n (v ++ w) ≡ or_target (target_in n v) (target_in n w)
target_joined n [] w = refl
target_joined n (wait.Activity m x k ∷ v) w =
    ⊎_elim (λ (e : nat_eq m n ≡ true). rw e) (λ (e : nat_eq m n ≡ false). rw e (target_joined n v w)) (cases (nat_eq m n))
target_joined n (wait.Timer m ∷ v) w = target_joined n v w
target_joined n (wait.Signal x s ∷ v) w = target_joined n v w
target_joined n (wait.SignalFor x s m ∷ v) w = target_joined n v w

pub target_is : (n : ℕ) (r : Rest) → target_of n r ≡ target_in n (waits_of r)
target_is n (Then r b) = target_is n r
target_is n (Beside a b) =
    ap (λ o. or_target o (target_of n b)) (target_is n a) ∙ ap (or_target (target_in n (waits_of a))) (target_is n b)
    ∙ sym (target_joined n (waits_of a) (waits_of b))
target_is n Done = refl
target_is n (OnActivity m x k o) = refl
target_is n (OnTimer m) = refl
target_is n (OnSignal x s) = refl
target_is n (OnSignalFor x s m b) = refl
target_is n (Raised c t) = refl

-- a wait that is over
abbrev pub OverTo : (Rest → Rest → Type 0) → Option Rest → Option Rest → Type 0
OverTo R None None = Unit {0}
OverTo R (Some q) (Some x) = R q x
OverTo R None (Some x) = ⊥
OverTo R (Some q) None = ⊥

pub over_then : (R S U : Rest → Rest → Type 0) → ((x y z : Rest) → R x y → S y z → U x z) → (o p q : Option Rest) → OverTo R o p → OverTo S p q → OverTo U o q
over_then R S U h None None None a b = tt
over_then R S U h (Some x) (Some y) (Some z) a b = h x y z a b
over_then R S U h None (Some y) q a b = absurd a
over_then R S U h (Some x) None q a b = absurd a
over_then R S U h None None (Some z) a b = absurd b
over_then R S U h (Some x) (Some y) None a b = absurd b

pub over_map : (R S : Rest → Rest → Type 0) (f g : Rest → Rest) → ((q x : Rest) → R q x → S (f q) (g x)) → (o p : Option Rest) → OverTo R o p → OverTo S (map_rest f o) (map_rest g p)
over_map R S f g h None None a = tt
over_map R S f g h (Some q) (Some x) a = h q x a
over_map R S f g h None (Some x) a = absurd a
over_map R S f g h (Some q) None a = absurd a

pub over_or : (R : Rest → Rest → Type 0) (o p k l : Option Rest) → OverTo R o p → OverTo R k l → OverTo R (or_rest o k) (or_rest p l)
over_or R None None k l a b = b
over_or R (Some q) (Some x) k l a b = a
over_or R None (Some x) k l a b = absurd a
over_or R (Some q) None k l a b = absurd a

over_self : (R : Rest → Rest → Type 0) (f g : Rest → Rest) → ((x : Rest) → R (f x) (g x)) → (o : Option Rest) → OverTo R (map_rest f o) (map_rest g o)
over_self R f g h None = tt
over_self R f g h (Some x) = h x

over_within : (R : Rest → Rest → Type 0) (f : Rest → Rest) → ((x : Rest) → R (f x) x) → (o : Option Rest) → OverTo R (map_rest f o) o
over_within R f h None = tt
over_within R f h (Some x) = h x

over_twice : (R : Rest → Rest → Type 0) (f g h : Rest → Rest) → ((x : Rest) → R (f (g x)) (h x)) → (o : Option Rest) → OverTo R (map_rest f (map_rest g o)) (map_rest h o)
over_twice R f g h e None = tt
over_twice R f g h e (Some x) = e x

over_same : (R : Rest → Rest → Type 0) → ((x : Rest) → R x x) → (o : Option Rest) → OverTo R o o
over_same R h None = tt
over_same R h (Some x) = h x

abbrev pub ToNormal : Patching → Rest → Rest → Type 0
ToNormal f q x = norm f q ≡ flat x

abbrev pub ToFlat : Rest → Rest → Type 0
ToFlat q x = flat q ≡ flat x

-- what a delivery puts in place of a leaf
pub record Leaves (f : Patching) (g : Rest → Option Rest) : Type 0 where
  pub at_done : g Done ≡ None
  pub at_activity : (n : ℕ) (x : Bytes) (k : Kind) (o : Otherwise) → OverTo (ToNormal f) (g (OnActivity n x k o)) (g (OnActivity n x k (changed_otherwise f o)))
  pub at_timer : (n : ℕ) → OverTo (ToNormal f) (g (OnTimer n)) (g (OnTimer n))
  pub at_signal : (x n : Bytes) → OverTo (ToNormal f) (g (OnSignal x n)) (g (OnSignal x n))
  pub at_signal_for : (x s : Bytes) (n : ℕ) (b : Block) → OverTo (ToNormal f) (g (OnSignalFor x s n b)) (g (OnSignalFor x s n (changed f b)))
  pub at_raised : (c : Cause) (t : Bytes) → OverTo (ToNormal f) (g (Raised c t)) (g (Raised c t))

done_replaced : (g : Rest → Option Rest) → g Done ≡ None → (r : Rest) → is_done r ≡ true → replaced g r ≡ None
done_replaced g h Done e = h
done_replaced g h (OnActivity n x k o) e = absurd (true≢false (sym e))
done_replaced g h (OnTimer n) e = absurd (true≢false (sym e))
done_replaced g h (OnSignal x n) e = absurd (true≢false (sym e))
done_replaced g h (OnSignalFor x m n b) e = absurd (true≢false (sym e))
done_replaced g h (Raised c v) e = absurd (true≢false (sym e))
done_replaced g h (Then r End) e = rw (done_replaced g h r (both (is_done r) true e).0)
done_replaced g h (Then r (Next u b)) e = absurd (true≢false (sym (both (is_done r) false e).1))
done_replaced g h (Beside a b) e =
    let x = both (is_done a) (is_done b) e in rw (done_replaced g h a x.0, done_replaced g h b x.1)

pub replaced_behind : (g : Rest → Option Rest) (y : Rest) (c : Block) → OverTo ToFlat (map_rest (λ x. Then x c) (replaced g y)) (replaced g (behind y c))
replaced_behind g y End = over_within ToFlat (λ x. Then x End) (λ x. refl) (replaced g y)
replaced_behind g Done (Next s d) = over_same ToFlat (λ x. refl) (map_rest (λ x. Then x (Next s d)) (g Done))
replaced_behind g (OnActivity n x k o) (Next s d) = over_same ToFlat (λ x. refl) (map_rest (λ x. Then x (Next s d)) (g (OnActivity n x k o)))
replaced_behind g (OnTimer n) (Next s d) = over_same ToFlat (λ x. refl) (map_rest (λ x. Then x (Next s d)) (g (OnTimer n)))
replaced_behind g (OnSignal x n) (Next s d) = over_same ToFlat (λ x. refl) (map_rest (λ x. Then x (Next s d)) (g (OnSignal x n)))
replaced_behind g (OnSignalFor x m n b) (Next s d) = over_same ToFlat (λ x. refl) (map_rest (λ x. Then x (Next s d)) (g (OnSignalFor x m n b)))
replaced_behind g (Raised w v) (Next s d) = over_same ToFlat (λ x. refl) (map_rest (λ x. Then x (Next s d)) (g (Raised w v)))
replaced_behind g (Beside a b) (Next s d) = over_same ToFlat (λ x. refl) (map_rest (λ x. Then x (Next s d)) (replaced g (Beside a b)))
replaced_behind g (Then q e) (Next s d) =
    over_twice ToFlat (λ x. Then x (Next s d)) (λ x. Then x e) (λ x. Then x (joined e (Next s d))) (λ x. behind_twice (flat x) e (Next s d)) (replaced g q)

pub replaced_beside : (g : Rest → Option Rest) → g Done ≡ None → (x y : Rest) → OverTo ToFlat (replaced g (Beside x y)) (replaced g (beside x y))
replaced_beside g h x y =
    ⊎_elim (λ (e : (is_done x && is_done y) ≡ true).
    let d = both (is_done x) (is_done y) e in rw (e, done_replaced g h x d.0, done_replaced g h y d.1, h) tt)
    (λ (e : (is_done x && is_done y) ≡ false). rw e (over_same ToFlat (λ z. refl) (replaced g (Beside x y)))) (cases (is_done x && is_done y))

pub replaced_norm : (f : Patching) (g : Rest → Option Rest) → Leaves f g → (r : Rest) → OverTo (ToNormal f) (replaced g r) (replaced g (norm f r))
replaced_norm f g l Done = rw (l.at_done) tt
replaced_norm f g l (OnActivity n x k o) = l.at_activity n x k o
replaced_norm f g l (OnTimer n) = l.at_timer n
replaced_norm f g l (OnSignal x s) = l.at_signal x s
replaced_norm f g l (OnSignalFor x s n b) = l.at_signal_for x s n b
replaced_norm f g l (Raised c t) = l.at_raised c t
replaced_norm f g l (Then r b) =
    over_then (ToNormal f) ToFlat (ToNormal f) (λ x y z a c. a ∙ c) (map_rest (λ q. Then q b) (replaced g r)) (map_rest (λ x. Then x (changed f b)) (replaced g (norm f r))) (replaced g (behind (norm f r) (changed f b)))
    (over_map (ToNormal f) (ToNormal f) (λ q. Then q b) (λ x. Then x (changed f b)) (λ q x h. ap (λ z. behind z (changed f b)) h) (replaced g r) (replaced g (norm f r)) (replaced_norm f g l r))
    (replaced_behind g (norm f r) (changed f b))
replaced_norm f g l (Beside a b) =
    over_then (ToNormal f) ToFlat (ToNormal f) (λ x y z e c. e ∙ c) (replaced g (Beside a b)) (replaced g (Beside (norm f a) (norm f b))) (replaced g (beside (norm f a) (norm f b)))
    (over_or (ToNormal f) (map_rest (λ q. Beside q b) (replaced g a)) (map_rest (λ q. Beside q (norm f b)) (replaced g (norm f a))) (map_rest (λ q. Beside a q) (replaced g b)) (map_rest (λ q. Beside (norm f a) q) (replaced g (norm f b)))
    (over_map (ToNormal f) (ToNormal f) (λ q. Beside q b) (λ q. Beside q (norm f b)) (λ q x h. ap (λ z. beside z (norm f b)) h ∙ ap (beside (flat x)) (sym (flat_norm f b))) (replaced g a) (replaced g (norm f a)) (replaced_norm f g l a))
    (over_map (ToNormal f) (ToNormal f) (λ q. Beside a q) (λ q. Beside (norm f a) q) (λ q x h. ap (beside (norm f a)) h ∙ ap (λ z. beside z (flat x)) (sym (flat_norm f a))) (replaced g b) (replaced g (norm f b)) (replaced_norm f g l b)))
    (replaced_beside g l.at_done (norm f a) (norm f b))

pub over_if : (R : Rest → Rest → Type 0) (b : Bool) (q x : Rest) → R q x → OverTo R (if b then Some q else None) (if b then Some x else None)
over_if R true q x h = h
over_if R false q x h = tt

else_norm : (f : Patching) (o : Otherwise) (c : Cause) (t : Bytes) → norm f (rest_else o (Raised c t)) ≡ flat (rest_else (changed_otherwise f o) (Raised c t))
else_norm f NoElse c t = refl
else_norm f (Else b end) c t = refl

pub leaves_completed : (f : Patching) (n : ℕ) → Leaves f (when_completed n)
leaves_completed f n =
    record {
      at_done = refl;
      at_activity = λ m x k o. over_if (ToNormal f) (nat_eq m n) Done Done refl;
      at_timer = λ m. tt;
      at_signal = λ x s. tt;
      at_signal_for = λ x s m b. tt;
      at_raised = λ c t. tt;
    }

pub leaves_failed : (f : Patching) (n : ℕ) (text : Bytes) → Leaves f (when_failed n text)
leaves_failed f n text =
    record {
      at_done = refl;
      at_activity = λ m x k o. over_if (ToNormal f) (nat_eq m n) (rest_else o (Raised C.ActivityFailed text)) (rest_else (changed_otherwise f o) (Raised C.ActivityFailed text)) (else_norm f o C.ActivityFailed text);
      at_timer = λ m. tt;
      at_signal = λ x s. tt;
      at_signal_for = λ x s m b. tt;
      at_raised = λ c t. tt;
    }

pub leaves_fired : (f : Patching) (n : ℕ) → Leaves f (when_fired n)
leaves_fired f n =
    record {
      at_done = refl;
      at_activity = λ m x k o. tt;
      at_timer = λ m. over_if (ToNormal f) (nat_eq m n) Done Done refl;
      at_signal = λ x s. tt;
      at_signal_for = λ x s m b. over_if (ToNormal f) (nat_eq m n) (rest_of b) (rest_of (changed f b)) refl;
      at_raised = λ c t. tt;
    }
