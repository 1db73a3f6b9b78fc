-- What a binary search finds where numbers rise.
use Rattle.std.proofs.Common.{◌≡◌, ◌≢◌, ℕ, zero, suc, ◌<◌, ◌≤◌, List, [], ◌∷◌, length, get_or, map, Less, Greater, Result, Ok, Err, IfSome, IfNone, sym, ⊎_elim, arith}
use Rattle.std.specs.List.{AllWithin}
use Rattle.std.specs.Prelude.{All}
use Rattle.std.specs.List.Sorted.{IsSearchInRange, IsBinarySearchResult, IsNonDecreasingBy, IsPartitionPoint}
use Rattle.std.specs.Ordering.{nat_cmp, ordering_index}
use Rattle.std.specs.Result.{result_ok}
use Rattle.std.proofs.lemmas.Bool.{cases_lt}
use Rattle.std.proofs.lemmas.Bool.Decides.{nat_tests}
use Rattle.std.proofs.lemmas.Cmp.{ranked}
use Rattle.std.proofs.lemmas.List.Elements.{All-from_all_within}
use Rattle.flow_hub.specs.Asks.{Rises}

rises_above : {A : Type 0} (f : A → ℕ) (a c : ℕ) (xs : List A) → Rises a (map f xs) c → (j : ℕ) (d : A) → j < length xs → a ≤ f (get_or xs j d)
rises_above f a c [] r j d small = absurd (omega (arith, small))
rises_above f a c (x ∷ xs) r zero d small = r.0
rises_above f a c (x ∷ xs) r (suc j) d small =
    let least = r.0 in
    let rest = rises_above f (suc (f x)) c xs r.1 j d (omega (arith, small)) in
    omega (arith, least, rest)

-- numbers that rise are in their order
pub in_order : {A : Type 0} (f : A → ℕ) (a c : ℕ) (xs : List A) → Rises a (map f xs) c → IsNonDecreasingBy f xs
in_order f a c [] r i j d le small = absurd (omega (arith, small))
in_order f a c (x ∷ xs) r zero zero d le small = omega arith
in_order f a c (x ∷ xs) r zero (suc j) d le small = let rest = rises_above f (suc (f x)) c xs r.1 j d (omega (arith, small)) in omega (arith, rest)
in_order f a c (x ∷ xs) r (suc i) zero d le small = absurd (omega (arith, le))
in_order f a c (x ∷ xs) r (suc i) (suc j) d le small = in_order f (suc (f x)) c xs r.1 i j d (omega (arith, le)) (omega (arith, small))

pub found_at : {A : Type 0} (f : A → ℕ) (xs : List A) (t : ℕ) (r : Result ℕ ℕ) → IsSearchInRange r (length xs) → IsBinarySearchResult (λ y. nat_cmp (f y) t) xs r
    → IfSome (result_ok r) (λ k. (k < length xs) × ((d : A) → f (get_or xs k d) ≡ t))
found_at f xs t (Ok k) inside is = (inside, λ d. ranked _ t _ (sym (is d)))
found_at f xs t (Err k) inside is = tt

rise : {A : Type 0} (f : A → ℕ) (xs : List A) (t : ℕ) → IsNonDecreasingBy f xs → IsNonDecreasingBy (λ y. ordering_index (nat_cmp (f y) t)) xs
rise f xs t up i j d le small = let next = up i j d le small in grind (arith, nat_tests, next)

apart : {A : Type 0} (f : A → ℕ) (xs : List A) (t k : ℕ) → IsPartitionPoint (λ y. nat_cmp (f y) t ≡ Less) (λ y. nat_cmp (f y) t ≡ Greater) xs k → AllWithin (λ y. f y ≢ t) xs 0 (length xs)
apart f xs t k parts j d low high same =
    ⊎_elim
    (λ (before : j < k). let less : f (get_or xs j d) < t = ranked _ t _ (sym (parts.0 j d low before)) in omega (arith, less, same))
    (λ (behind : k ≤ j). let more : t < f (get_or xs j d) = ranked _ t _ (sym (parts.1 j d behind high)) in omega (arith, more, same))
    (cases_lt j k)

pub none_at : {A : Type 0} (f : A → ℕ) (xs : List A) (t : ℕ) (r : Result ℕ ℕ) → IsNonDecreasingBy f xs → IsBinarySearchResult (λ y. nat_cmp (f y) t) xs r → IfNone (result_ok r) (All (λ y. f y ≢ t) xs)
none_at f xs t (Ok k) up is = tt
none_at f xs t (Err k) up is = All-from_all_within (λ y. f y ≢ t) xs (apart f xs t k (is (rise f xs t up)))
