-- Whether a task was posted, as a set in order of keys tells it.
use Rattle.std.proofs.Common.{◌≡◌, ℕ, Bool, true, false, ◌&&◌, List, nat_eq, refl, sym, ap, ◌∙◌, subst, true≢false}
use Rattle.std.specs.List.{list_any}
use Rattle.std.specs.Ordering.{nat_cmp, is_eq, ordering_then}
use Rattle.std.proofs.Common.{Ordering, Less, Equal, Greater}
use Rattle.std.proofs.lemmas.Bool.{eqb-true, eq-eqb}
use Rattle.std.proofs.lemmas.Cmp.{ranked, nat_cmp_total, tied_itself}
use Rattle.flow_base.specs.Keys.{Key}
use Rattle.flow_commit.specs.Boards.{is_key, is_posted}

both_are : (o p : Ordering) → is_eq (ordering_then o p) ≡ (is_eq o && is_eq p)
both_are Less p = refl
both_are Equal p = refl
both_are Greater p = refl

same_bool : (v w : Bool) → (v ≡ true → w ≡ true) → (w ≡ true → v ≡ true) → v ≡ w
same_bool true w there back = sym (there refl)
same_bool false true there back = back refl
same_bool false false there back = refl

equal_is : (x y : ℕ) (o : Ordering) → o ≡ nat_cmp x y → is_eq o ≡ true → x ≡ y
equal_is x y Less is h = absurd (true≢false (sym h))
equal_is x y Equal is h = ranked x y Equal is
equal_is x y Greater is h = absurd (true≢false (sym h))

is_number : (x y : ℕ) → is_eq (nat_cmp x y) ≡ nat_eq x y
is_number x y =
    same_bool (is_eq (nat_cmp x y)) (nat_eq x y) (λ h. eq-eqb x y (equal_is x y (nat_cmp x y) refl h))
    (λ h. subst (λ z. is_eq (nat_cmp x z) ≡ true) (eqb-true x y h) (ap is_eq (tied_itself nat_cmp_total x)))

same_key : (q p : Key) → is_eq (ordering_then (ordering_then (nat_cmp q.0 p.0) (nat_cmp q.1 p.1)) (nat_cmp q.2 p.2)) ≡ is_key q p
same_key q p =
    both_are (ordering_then (nat_cmp q.0 p.0) (nat_cmp q.1 p.1)) (nat_cmp q.2 p.2) ∙ ap (λ v. v && is_eq (nat_cmp q.2 p.2)) (both_are (nat_cmp q.0 p.0) (nat_cmp q.1 p.1))
    ∙ (λ i. (is_number q.0 p.0 i && is_number q.1 p.1 i) && is_number q.2 p.2 i)

-- a set has a key where one of its keys is that one
pub set_has : (q : Key) (ks : List Key) → list_any (λ p. is_eq (ordering_then (ordering_then (nat_cmp q.0 p.0) (nat_cmp q.1 p.1)) (nat_cmp q.2 p.2))) ks ≡ is_posted ks q
set_has q ks = λ i. list_any (λ p. same_key q p i) ks
