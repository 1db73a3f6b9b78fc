-- Whom answers wake.
use Rattle.std.proofs.Common.{◌≡◌, ◌%◌, ◌<◌, ◌+◌, ℕ, zero, suc, Bool, true, false, List, [], ◌∷◌, length, All, take, get_or, slice_set, refl, sym, ◌∙◌, arith}
use Rattle.std.proofs.lemmas.List.{length-set}
use Rattle.std.proofs.lemmas.List.Elements.{All-more, All-weaker}
use Rattle.std.proofs.lemmas.Grind.{get_or-set_at}
use Rattle.std.proofs.lemmas.Nat.{mod_below}
use Rattle.flow_hub.specs.Waking.{Wakes}

-- who is woken stays so
stays : (ts : List Bool) (i j : ℕ) → get_or ts j false ≡ true → get_or (slice_set ts i true) j false ≡ true
stays [] i j h = h
stays (t ∷ ts) zero zero h = refl
stays (t ∷ ts) zero (suc j) h = h
stays (t ∷ ts) (suc i) zero h = h
stays (t ∷ ts) (suc i) (suc j) h = stays ts i j h

-- and one more is
pub wakes_more : {A : Type 0} (of : A → ℕ) (xs : List A) (i place : ℕ) (d : A) (told : List Bool) → i < length xs → place ≡ of (get_or xs i d) % 128
    → (length told ≡ 128) × All (λ x. Wakes told (of x)) (take i xs) → (length (slice_set told place true) ≡ 128) × All (λ x. Wakes (slice_set told place true) (of x)) (take (i + 1) xs)
wakes_more of xs i place d told inside at h =
    let after = slice_set told place true in
    let small = mod_below (of (get_or xs i d)) 128 (omega arith) in (
      length-set told place true ∙ h.0,
      All-more (λ x. Wakes after (of x)) xs i d inside
          (All-weaker (λ x. Wakes told (of x)) (λ x. Wakes after (of x)) (λ x woken. stays told place (of x % 128) woken) (take i xs) h.1)
          (get_or-set_at told place (of (get_or xs i d) % 128) true false (sym at) (omega (arith, at, small, h.0))),
    )
