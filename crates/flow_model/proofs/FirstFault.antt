-- The computed first fault is the first fault, and there is none exactly where the program is well formed.
use Rattle.std.proofs.Common.{◌≡◌, ℕ, ◌<◌, ◌≤◌, Bool, true, false, List, [], ◌∷◌, ◌++◌, length, slice_index_or, zero, suc, Contains, Option, Some, None, ◌⊎◌, inl, inr, refl, sym, subst, nat_eq, nat_lt, ◌≢◌, cond, arith}
use Rattle.std.proofs.lemmas.Bool.{ltb-true}
use Rattle.std.proofs.lemmas.Bool.Decides.{eqb_tells, nat_tests}
use Rattle.flow_base.specs.Codes.{code_number}
use Rattle.flow_base.specs.declared.command.TextFault.{TextFault}
use Rattle.flow_base.specs.Syntax.{Program}
use Rattle.flow_model.specs.WellFormed.{faults, WellFormed, IsNoLater, IsFirstFault, is_earlier, earlier, earliest, first_fault}

-- more faults behind others
pub earliest-append : (o : Option TextFault) (a b : List TextFault) → earliest o (a ++ b) ≡ earliest (earliest o a) b
earliest-append o [] b = refl
earliest-append o (f ∷ a) b = earliest-append (earlier o f) a b

none_in : {x : TextFault} → Contains [] x → ⊥
none_in h = omega (arith, h.1)

in_more : (k : ℕ) (f x : TextFault) (fs : List TextFault) → k < length (f ∷ fs) → slice_index_or (f ∷ fs) k x ≡ x → (f ≡ x) ⊎ Contains fs x
in_more zero f x fs l e = inl e
in_more (suc k) f x fs l e = inr (k, omega arith, e)

in_either : (f x : TextFault) (fs : List TextFault) → Contains (f ∷ fs) x → (f ≡ x) ⊎ Contains fs x
in_either f x fs h = in_more h.0 f x fs h.1 h.2

at_head : (f : TextFault) (fs : List TextFault) → Contains (f ∷ fs) f
at_head f fs = (0, omega arith, refl)

behind_head : (f x : TextFault) (fs : List TextFault) → Contains fs x → Contains (f ∷ fs) x
behind_head f x fs h = (suc h.0, omega (arith, h.1), h.2)

no_later_then : (a b c : TextFault) → IsNoLater a b → IsNoLater b c → IsNoLater a c
no_later_then a b c (inl p) (inl q) = inl (omega arith)
no_later_then a b c (inl p) (inr q) = inl (omega arith)
no_later_then a b c (inr p) (inl q) = inl (omega arith)
no_later_then a b c (inr p) (inr q) = inr (omega arith, omega arith)

no_later_itself : (a : TextFault) → IsNoLater a a
no_later_itself a = inr (refl, omega arith)

earlier_by : (m n j k : ℕ) → cond (nat_eq m n) (nat_lt j k) (nat_lt m n) ≡ true → (m < n) ⊎ ((m ≡ n) × (j ≤ k))
earlier_by m n j k h =
    elim (eqb_tells m n) [
      | inl e ↦ let l : j < k = ltb-true j k (rw e.0 at h) in inr (e.1, omega arith)
      | inr e ↦ inl (ltb-true m n (rw e.0 at h))
    ]

later_by : (m n j k : ℕ) → cond (nat_eq m n) (nat_lt j k) (nat_lt m n) ≡ false → (n < m) ⊎ ((n ≡ m) × (k ≤ j))
later_by m n j k h =
    elim (eqb_tells m n) [
      | inl e ↦ let l : nat_lt j k ≡ false = rw e.0 at h in inr (sym e.1, grind (arith, nat_tests))
      | inr e ↦ let l : nat_lt m n ≡ false = rw e.0 at h in let k : m ≢ n = e.1 in inl (grind (arith, nat_tests))
    ]

by_place : (a b : TextFault) → is_earlier a b ≡ true → IsNoLater a b
by_place a b h = earlier_by a.at b.at (code_number a.code) (code_number b.code) h

by_place_not : (a b : TextFault) → is_earlier a b ≡ false → IsNoLater b a
by_place_not a b h = later_by a.at b.at (code_number a.code) (code_number b.code) h

-- the earliest of a fault and more: it is one of them, and none of them stands before it
pub record IsEarliest (g : TextFault) (fs : List TextFault) (r : TextFault) : Type 0 where
  pub among : (g ≡ r) ⊎ Contains fs r
  pub first : IsNoLater r g
  pub least : (x : TextFault) → Contains fs x → IsNoLater r x

one_more_by : (b : Bool) (g f r : TextFault) (fs : List TextFault) → is_earlier f g ≡ b → earliest (cond b (Some f) (Some g)) fs ≡ Some r
    → ((h : TextFault) → earliest (Some h) fs ≡ Some r → IsEarliest h fs r) → IsEarliest g (f ∷ fs) r
one_more_by true g f r fs e h rest =
    let i = rest f h in
    record {
      among = elim i.among [ inl q ↦ inr (subst (λ (x : TextFault). Contains (f ∷ fs) x) q (at_head f fs)) | inr q ↦ inr (behind_head f r fs q) ];
      first = no_later_then r f g i.first (by_place f g e);
      least = λ x q. elim (in_either f x fs q) [ inl k ↦ subst (λ (y : TextFault). IsNoLater r y) k i.first | inr k ↦ i.least x k ];
    }
one_more_by false g f r fs e h rest =
    let i = rest g h in
    record {
      among = elim i.among [ inl q ↦ inl q | inr q ↦ inr (behind_head f r fs q) ];
      first = i.first;
      least = λ x q. elim (in_either f x fs q) [ inl k ↦ subst (λ (y : TextFault). IsNoLater r y) k (no_later_then r g f i.first (by_place_not f g e)) | inr k ↦ i.least x k ];
    }

some_is : {x y : TextFault} → Some x ≡ Some y → x ≡ y
some_is h = cc

pub earliest_is : (g r : TextFault) (fs : List TextFault) → earliest (Some g) fs ≡ Some r → IsEarliest g fs r
earliest_is g r [] h =
    record { among = inl (some_is h); first = subst (λ (y : TextFault). IsNoLater y g) (some_is h) (no_later_itself g); least = λ x q. absurd (none_in q) }
earliest_is g r (f ∷ fs) h = one_more_by (is_earlier f g) g f r fs refl h (λ k e. earliest_is k r fs e)

still_some : (b : Bool) (g f : TextFault) (fs : List TextFault) → ((h : TextFault) → earliest (Some h) fs ≡ None → ⊥) → earliest (cond b (Some f) (Some g)) fs ≡ None → ⊥
still_some true g f fs rest h = rest f h
still_some false g f fs rest h = rest g h

pub never_none : (g : TextFault) (fs : List TextFault) → earliest (Some g) fs ≡ None → ⊥
never_none g [] h = absurd (cc)
never_none g (f ∷ fs) h = still_some (is_earlier f g) g f fs (λ k e. never_none k fs e) h

none_of : (fs : List TextFault) (x : TextFault) → earliest None fs ≡ None → Contains fs x → ⊥
none_of [] x h q = none_in q
none_of (f ∷ fs) x h q = never_none f fs h

first_of : (fs : List TextFault) (r : TextFault) → earliest None fs ≡ Some r → Contains fs r × ((x : TextFault) → Contains fs x → IsNoLater r x)
first_of [] r h = absurd (cc)
first_of (f ∷ fs) r h =
    let i = earliest_is f r fs h in (
      elim i.among [ inl q ↦ subst (λ (x : TextFault). Contains (f ∷ fs) x) q (at_head f fs) | inr q ↦ behind_head f r fs q ],
      λ x q. elim (in_either f x fs q) [ inl k ↦ subst (λ (y : TextFault). IsNoLater r y) k i.first | inr k ↦ i.least x k ],
    )

-- no fault: the program keeps every rule
pub well_formed : (p : Program) → first_fault p ≡ None → WellFormed p
well_formed p h code at q = none_of (faults p) (record { code = code; at = at }) h q

pub first_is : (p : Program) (f : TextFault) → first_fault p ≡ Some f → IsFirstFault p f
first_is p f h =
    let i = first_of (faults p) f h in
    (i.0, λ code at q. i.1 (record { code = code; at = at }) q)

no_first : (p : Program) (o : Option TextFault) → first_fault p ≡ o → WellFormed p → o ≡ None
no_first p None h w = refl
no_first p (Some f) h w = absurd (w f.code f.at (first_is p f h).0)

-- and the other way round
pub first_none : (p : Program) → WellFormed p → first_fault p ≡ None
first_none p w = no_first p (first_fault p) refl w
