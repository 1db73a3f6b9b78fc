-- A search through a list, one element after the other.
use Rattle.std.proofs.Common.{◌≡◌, ℕ, zero, suc, ◌<◌, List, [], ◌∷◌, Bool, true, false, cond, Some, length, get_or, drop, ap, arith}
use Rattle.std.specs.List.{find}

pub find_here : {A : Type 0} (p : A → Bool) (xs : List A) (i : ℕ) (d : A) → i < length xs → p (get_or xs i d) ≡ true → find p (drop i xs) ≡ Some (get_or xs i d)
find_here p [] i d inside h = absurd (omega arith)
find_here p (x ∷ xs) zero d inside h = ap (λ b. cond b (Some x) (find p xs)) h
find_here p (x ∷ xs) (suc i) d inside h = find_here p xs i d (omega arith) h

pub find_later : {A : Type 0} (p : A → Bool) (xs : List A) (i : ℕ) (d : A) → i < length xs → p (get_or xs i d) ≡ false → find p (drop i xs) ≡ find p (drop (suc i) xs)
find_later p [] i d inside h = absurd (omega arith)
find_later p (x ∷ xs) zero d inside h = ap (λ b. cond b (Some x) (find p xs)) h
find_later p (x ∷ xs) (suc i) d inside h = find_later p xs i d (omega arith) h
