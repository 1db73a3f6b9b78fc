-- What is kept, gone through from the first on.
use Rattle.std.proofs.Common.{◌≡◌, ◌<◌, ◌≤◌, ℕ, suc, ◌+◌, ◌-◌, Bool, true, false, true≢false, cond, ltb, bytes_eq, List, [], ◌∷◌, ◌++◌, length, take, drop, get_or, Some, refl, sym, ap, ◌∙◌, arith, drop-cons, lt-ltb}
use Rattle.std.proofs.Math.Seq.{take-suc}
use Rattle.std.proofs.lemmas.List.{append_assoc, append-nil, drop_all}
use Rattle.std.proofs.lemmas.Bool.{ltb-false, le-ltb}
use Rattle.std.proofs.lemmas.Option.{slice_get_read}
use Rattle.std.proofs.lemmas.Slice.Eq.{bytes_eq-Decides}
use Rattle.flow_base.specs.Syntax.{Bytes}
use Rattle.flow_programs.specs.Keeping.{IsPlace, fitting, is_kept, total, weight, without}

next : (i : ℕ) → suc i ≡ i + 1
next i = omega arith

module _ (ts : List Bytes) (i : ℕ) (t : Bytes) (within : i < length ts) (is : t ≡ get_or ts i t) where
  pub cut : drop i ts ≡ t ∷ drop (i + 1) ts
  cut = drop-cons ts i t within ∙ ap (λ x. x ∷ drop (suc i) ts) (sym is) ∙ ap (λ n. t ∷ drop n ts) (next i)

  pub one_more : (rest : List Bytes) → take (i + 1) ts ++ rest ≡ take i ts ++ (t ∷ rest)
  one_more rest =
      ap (λ n. take n ts ++ rest) (sym (next i)) ∙ ap (λ x. x ++ rest) (take-suc ts i t within ∙ ap (λ x. take i ts ++ (x ∷ [])) (sym is)) ∙ append_assoc (take i ts) (t ∷ []) rest

  module _ (text : Bytes) where
    pub kept_on : bytes_eq t text ≡ false → is_kept text (drop i ts) ≡ is_kept text ts → is_kept text (drop (i + 1) ts) ≡ is_kept text ts
    unfolding is_kept
    kept_on other so_far = sym (ap (is_kept text) cut ∙ ap (λ b. cond b true (is_kept text (drop (i + 1) ts))) other) ∙ so_far

    pub others_on : bytes_eq t text ≡ false → take i ts ++ without text (drop i ts) ≡ without text ts → take (i + 1) ts ++ without text (drop (i + 1) ts) ≡ without text ts
    unfolding without
    others_on other so_far =
        let here : without text (drop i ts) ≡ t ∷ without text (drop (i + 1) ts) = ap (without text) cut ∙ ap (λ b. cond b (drop (i + 1) ts) (t ∷ without text (drop (i + 1) ts))) other in
        one_more (without text (drop (i + 1) ts)) ∙ ap (λ x. take i ts ++ x) (sym here) ∙ so_far

    pub found : bytes_eq t text ≡ true → t ≡ text → is_kept text (drop i ts) ≡ is_kept text ts → take i ts ++ without text (drop i ts) ≡ without text ts → IsPlace text ts i
    unfolding is_kept without
    found this same kept others = record {
      there = sym kept ∙ ap (is_kept text) cut ∙ ap (λ b. cond b true (is_kept text (drop (i + 1) ts))) this;
      within = within;
      at = slice_get_read ts (length ts) i t refl within is ∙ ap Some same;
      others = ap (λ n. take i ts ++ drop n ts) (next i) ∙ ap (λ x. take i ts ++ x) (sym (ap (without text) cut ∙ ap (λ b. cond b (drop (i + 1) ts) (t ∷ without text (drop (i + 1) ts))) this)) ∙ others;
    }

  module _ (room left : ℕ) (so_far : take i ts ++ fitting left (drop i ts) ≡ fitting room ts) where
    pub fits_no_more : left < weight t → take i ts ≡ fitting room ts
    unfolding fitting
    fits_no_more big =
        let none : fitting left (drop i ts) ≡ [] = ap (fitting left) cut ∙ ap (λ b. cond b [] (t ∷ fitting (left - weight t) (drop (i + 1) ts))) (lt-ltb left (weight t) big) in
        sym (append-nil (take i ts)) ∙ ap (λ x. take i ts ++ x) (sym none) ∙ so_far

    pub fits_on : weight t ≤ left → take (i + 1) ts ++ fitting (left - weight t) (drop (i + 1) ts) ≡ fitting room ts
    unfolding fitting
    fits_on small =
        let here : fitting left (drop i ts) ≡ t ∷ fitting (left - weight t) (drop (i + 1) ts) = ap (fitting left) cut ∙ ap (λ b. cond b [] (t ∷ fitting (left - weight t) (drop (i + 1) ts))) (le-ltb left (weight t) small) in
        one_more (fitting (left - weight t) (drop (i + 1) ts)) ∙ ap (λ x. take i ts ++ x) (sym here) ∙ so_far

---- Behind the last

pub none_kept : (text : Bytes) (ts : List Bytes) (i : ℕ) → length ts ≤ i → is_kept text (drop i ts) ≡ is_kept text ts → is_kept text ts ≡ false
unfolding is_kept
none_kept text ts i past kept = sym kept ∙ ap (is_kept text) (drop_all i ts past)

pub all_fit : (room left : ℕ) (ts : List Bytes) (i : ℕ) → length ts ≤ i → i ≡ length ts → take i ts ++ fitting left (drop i ts) ≡ fitting room ts → take (length ts) ts ≡ fitting room ts
unfolding fitting
all_fit room left ts i past at so_far = ap (λ n. take n ts) (sym at) ∙ sym (append-nil (take i ts)) ∙ ap (λ x. take i ts ++ fitting left x) (sym (drop_all i ts past)) ∙ so_far

---- What they count for

fitting_by : (room : ℕ) (t : Bytes) (ts : List Bytes) → total (fitting (room - weight t) ts) ≤ room - weight t → (v : Bool) → v ≡ ltb room (weight t) → total (cond v [] (t ∷ fitting (room - weight t) ts)) ≤ room
unfolding total
fitting_by room t ts rest true is = omega arith
fitting_by room t ts rest false is = let small = ltb-false room (weight t) (sym is) in omega (arith, small, rest)

-- what fits is within the room
pub fitting_within : (room : ℕ) (ts : List Bytes) → total (fitting room ts) ≤ room
unfolding total fitting
fitting_within room [] = omega arith
fitting_within room (t ∷ ts) = fitting_by room t ts (fitting_within (room - weight t) ts) (ltb room (weight t)) refl

forward_by : (text t : Bytes) (ts : List Bytes) → (is_kept text ts ≡ true → total (text ∷ without text ts) ≡ total ts) → (v : Bool) → v ≡ bytes_eq t text → cond v true (is_kept text ts) ≡ true → total (text ∷ cond v ts (t ∷ without text ts)) ≡ total (t ∷ ts)
unfolding total
forward_by text t ts rest true is there = ap (λ x. weight x + total ts) (sym ((bytes_eq-Decides t text).0 (sym is)))
forward_by text t ts rest false is there = let later = rest there in omega (arith, later)

-- to bring one forward changes nothing of what they count for
pub total_forward : (text : Bytes) (ts : List Bytes) → is_kept text ts ≡ true → total (text ∷ without text ts) ≡ total ts
unfolding is_kept without
total_forward text [] none = absurd (true≢false (sym none))
total_forward text (t ∷ ts) kept = forward_by text t ts (total_forward text ts) (bytes_eq t text) refl kept

pub none_counts : total [] ≤ 1048576
unfolding total
none_counts = omega arith

-- what is kept beside a text leaves room for it
pub kept_within : (text : Bytes) (ts : List Bytes) (limit : ℕ) → weight text ≤ limit → total (text ∷ fitting (limit - weight text) ts) ≤ limit
unfolding total
kept_within text ts limit small = let rest = fitting_within (limit - weight text) ts in omega (arith, small, rest)
