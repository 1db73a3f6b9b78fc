-- Names in maps: what a change leaves, and that two names as one are these two.
use Rattle.std.specs.Prelude.{◌≡◌, ◌∷◌, ◌++◌}
use Rattle.flow_maps.proofs.Names.{ℕ, Bool, true, false, cond, length, take, drop, Option, bytes_eq, refl, sym, ap, ◌∙◌, BTreeMap, UpdatesBy, slice_cmp, update, nat_cmp, take-append_seam, drop-append_seam, is_eq-slice_cmp, bytes_eq-Decides, Bytes, at_name, is_name, both}

-- what is had by names, once it is w by one of them
pub by_name : {W : Type 0} (f g : Bytes → W) (k : Bytes) (w : W) → ((q : Bytes) → g q ≡ cond (is_name k q) w (f q)) → (q : Bytes) → g q ≡ cond (bytes_eq k q) w (f q)
by_name f g k w h q = h q ∙ ap (λ b. cond b w (f q)) (is_eq-slice_cmp k q)

pub map_updates_name : {X : Type 0} (m n : BTreeMap Bytes X) (k : Bytes) (w : Option X) → UpdatesBy (slice_cmp nat_cmp) (slice_cmp nat_cmp k) m n w → (q : Bytes) → at_name n q ≡ update bytes_eq (at_name m) k w q
map_updates_name m n k w h = by_name (at_name m) (at_name n) k w h.0

---- Two names as one

first_of : (m n : ℕ) (xs ys : Bytes) → m ∷ xs ≡ n ∷ ys → m ≡ n
first_of m n xs ys h = let same = h in cc

rest_of : (m n : ℕ) (xs ys : Bytes) → m ∷ xs ≡ n ∷ ys → xs ≡ ys
rest_of m n xs ys h = let same = h in cc

same_flow : (a c b d : Bytes) → both a b ≡ both c d → a ≡ c
same_flow a c b d h =
    sym (take-append_seam a b) ∙ ap (take (length a)) (rest_of (length a) (length c) (a ++ b) (c ++ d) h)
    ∙ ap (λ (n : ℕ). take n (c ++ d)) (first_of (length a) (length c) (a ++ b) (c ++ d) h) ∙ take-append_seam c d

same_request : (a c b d : Bytes) → both a b ≡ both c d → b ≡ d
same_request a c b d h =
    sym (drop-append_seam a b) ∙ ap (drop (length a)) (rest_of (length a) (length c) (a ++ b) (c ++ d) h)
    ∙ ap (λ (n : ℕ). drop n (c ++ d)) (first_of (length a) (length c) (a ++ b) (c ++ d) h) ∙ drop-append_seam c d

clash : (b : Bool) → b ≡ true → b ≡ false → ⊥
clash true t f = let e = f in cc
clash false t f = let e = t in cc

none_same : (v : Bool) → (v ≡ true → ⊥) → v ≡ false
none_same true h = absurd (h refl)
none_same false h = refl

-- the same names are the same as one
pub both_own : (a b : Bytes) → bytes_eq (both a b) (both a b) ≡ true
both_own a b = (bytes_eq-Decides (both a b) (both a b)).1 refl

-- those of another flow, or of another request, aren't
pub both_flow : (a c b d : Bytes) → bytes_eq a c ≡ false → bytes_eq (both a b) (both c d) ≡ false
both_flow a c b d other = none_same (bytes_eq (both a b) (both c d)) (λ is. clash (bytes_eq a c) ((bytes_eq-Decides a c).1 (same_flow a c b d ((bytes_eq-Decides (both a b) (both c d)).0 is))) other)

pub both_request : (a c b d : Bytes) → bytes_eq b d ≡ false → bytes_eq (both a b) (both c d) ≡ false
both_request a c b d other = none_same (bytes_eq (both a b) (both c d)) (λ is. clash (bytes_eq b d) ((bytes_eq-Decides b d).1 (same_request a c b d ((bytes_eq-Decides (both a b) (both c d)).0 is))) other)
