-- What is fetched is one ticket fewer.
use Rattle.std.proofs.Common.{◌≡◌, ◌<◌, ◌+◌, ℕ, zero, suc, List, [], ◌∷◌, length, Some, slice_get, ap, subst, arith}
use Rattle.std.specs.Prelude.{Err}
use Rattle.std.proofs.lemmas.List.Edits.{length-remove}
use Rattle.flow_queues.specs.declared.refused.Refused.{Refused}
use Rattle.flow_hub.specs.Halls.{Hall, HandsOut}
use Rattle.flow_hub.specs.Submitting.{IsFetched}

inside : (xs : List ℕ) (k x : ℕ) → slice_get xs k ≡ Some x → k < length xs
inside [] k x e = absurd (cc)
inside (y ∷ xs) zero x e = omega arith
inside (y ∷ xs) (suc k) x e = let rest = inside xs k x e in omega (arith, rest)

pub fetched_fewer : (xs ys : List ℕ) (t : ℕ) → IsFetched xs ys t → length ys + 1 ≡ length xs
fetched_fewer xs ys t f =
    let same = ap length f.rest in
    let fewer = length-remove xs f.at (inside xs f.at t f.is) in
    omega (arith, same, fewer)

-- where there was no receipt, nothing had changed
pub handed_since : (old mid new : Hall) (r : Refused) → mid ≡ old → HandsOut mid new (Err r) → HandsOut old new (Err r)
handed_since old mid new r same h = subst (λ (x : Hall). HandsOut x new (Err r)) same h
