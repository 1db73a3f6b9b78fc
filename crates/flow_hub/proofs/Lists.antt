-- Tickets in order, and places in a history that grows.
use Rattle.std.proofs.Common.{◌≡◌, ℕ, zero, suc, ◌+◌, ◌-◌, ◌≤◌, List, [], ◌∷◌, ◌++◌, length, map, take, drop, Some, slice_get, refl, ap, sym, ◌∙◌, subst, arith, length-append, append_assoc, le_trans}
use mathlib.Core.List.{IsPrefix}
use Rattle.std.specs.Prelude.{All}
use Rattle.std.proofs.lemmas.List.Elements.{All-nil, All-cons}
use Rattle.flow_base.specs.declared.submission.Receipt.{Receipt}
use Rattle.flow_base.specs.declared.submission.Taken.{Taken}
use Rattle.flow_commit.specs.Keeping.{count_from, place_of}
use Rattle.flow_commit.specs.Committing.{taken_of}
use Rattle.flow_hub.specs.Asks.{Rises, tickets_in, tickets_of, takens_of, Stands}

pub map-both : {A B : Type 0} (f : A → B) (xs ys : List A) → map f (xs ++ ys) ≡ map f xs ++ map f ys
map-both f [] ys = refl
map-both f (x ∷ xs) ys = ap (λ l. f x ∷ l) (map-both f xs ys)

pub length-mapped : {A B : Type 0} (f : A → B) (xs : List A) → length (map f xs) ≡ length xs
length-mapped f [] = refl
length-mapped f (x ∷ xs) = ap suc (length-mapped f xs)

pub from_same : (a b n : ℕ) → a ≡ b → count_from a n ≡ count_from b n
from_same a b n e = ap (λ k. count_from k n) e

pub long_same : (a n m : ℕ) → n ≡ m → count_from a n ≡ count_from a m
long_same a n m e = ap (count_from a) e

pub count_from-next : (first n : ℕ) → count_from first (suc n) ≡ count_from first n ++ (first + n) ∷ []
count_from-next first zero = let e : first ≡ first + 0 = omega arith in ap (λ k. k ∷ []) e
count_from-next first (suc n) =
    let e : suc first + n ≡ first + suc n = omega arith in
    ap (λ ts. first ∷ ts) (count_from-next (suc first) n ∙ ap (λ k. count_from (suc first) n ++ k ∷ []) e)

-- the numbers of the first part, and of the second
pub count_split : {A : Type 0} (f : A → ℕ) (xs ys : List A) (first m : ℕ) → map f (xs ++ ys) ≡ count_from first (length xs + m)
    → (map f xs ≡ count_from first (length xs)) × (map f ys ≡ count_from (first + length xs) m)
count_split f [] ys first m p = (refl, p ∙ long_same first (0 + m) m (omega arith) ∙ from_same first (first + 0) m (omega arith))
count_split f (x ∷ xs) ys first m p =
    let long : suc (length xs) + m ≡ suc (length xs + m) = omega arith in
    let tail : map f (xs ++ ys) ≡ count_from (suc first) (length xs + m) = cc (p ∙ long_same first (suc (length xs) + m) (suc (length xs + m)) long) in
    let head : f x ≡ first = cc (p ∙ long_same first (suc (length xs) + m) (suc (length xs + m)) long) in
    let rest = count_split f xs ys (suc first) m tail in
    (cc (head, rest.0), rest.1 ∙ from_same (suc first + length xs) (first + suc (length xs)) m (omega arith))

pub rises_count : (first n : ℕ) → Rises first (count_from first n) (first + n)
rises_count first zero = omega arith
rises_count first (suc n) = (omega arith, subst (λ h. Rises (suc first) (count_from (suc first) n) h) (omega arith) (rises_count (suc first) n))

pub rises_lower : (a b c : ℕ) (ys : List ℕ) → a ≤ b → Rises b ys c → Rises a ys c
rises_lower a b c [] le r = le_trans le r
rises_lower a b c (y ∷ ys) le r = (le_trans le r.0, r.1)

pub rises-append : (a b c : ℕ) (xs ys : List ℕ) → Rises a xs b → Rises b ys c → Rises a (xs ++ ys) c
rises-append a b c [] ys p q = rises_lower a b c ys p q
rises-append a b c (x ∷ xs) ys p q = (p.0, rises-append (suc x) b c xs ys p.1 q)

pub rises_higher : (a b c : ℕ) (xs : List ℕ) → b ≤ c → Rises a xs b → Rises a xs c
rises_higher a b c [] le r = le_trans r le
rises_higher a b c (x ∷ xs) le r = (r.0, rises_higher (suc x) b c xs le r.1)

-- where the next ones come behind those that rise
pub rises_on : {A : Type 0} (f : A → ℕ) (xs ys : List A) (first n now : ℕ) → Rises 0 (map f xs) first → map f ys ≡ count_from first n → first + n ≡ now → Rises 0 (map f (xs ++ ys)) now
rises_on f xs ys first n now r next is =
    let behind : Rises first (map f ys) (first + n) = subst (λ ts. Rises first ts (first + n)) (sym next) (rises_count first n) in
    let all : Rises 0 (map f xs ++ map f ys) (first + n) = rises-append 0 first (first + n) (map f xs) (map f ys) r behind in
    subst (λ m. Rises 0 (map f (xs ++ ys)) m) is (subst (λ ts. Rises 0 ts (first + n)) (sym (map-both f xs ys)) all)

left_out : {A : Type 0} (f : A → ℕ) (a c : ℕ) (xs : List A) (k : ℕ) → Rises a (map f xs) c → Rises a (map f (take k xs ++ drop (suc k) xs)) c
left_out f a c [] zero r = r
left_out f a c [] (suc k) r = r
left_out f a c (x ∷ xs) zero r = let least = r.0 in rises_lower a (suc (f x)) c (map f xs) (omega (arith, least)) r.1
left_out f a c (x ∷ xs) (suc k) r = (r.0, left_out f (suc (f x)) c xs k r.1)

-- where one of them is left out
pub rises_without : {A : Type 0} (f : A → ℕ) (a c : ℕ) (xs ys : List A) (k : ℕ) → ys ≡ take k xs ++ drop (k + 1) xs → Rises a (map f xs) c → Rises a (map f ys) c
rises_without f a c xs ys k e r =
    let next : k + 1 ≡ suc k = omega arith in
    subst (λ l. Rises a (map f l) c) (sym (e ∙ ap (λ n. take k xs ++ drop n xs) next)) (left_out f a c xs k r)

pub tickets_same : (rs : List Receipt) → tickets_of rs ≡ tickets_in (takens_of rs)
tickets_same [] = refl
tickets_same (r ∷ rs) = ap (λ ts. r.ticket ∷ ts) (tickets_same rs)

pub get_front : {A : Type 0} (xs ys : List A) (k : ℕ) (x : A) → slice_get xs k ≡ Some x → slice_get (xs ++ ys) k ≡ Some x
get_front [] ys k x e = absurd (cc)
get_front (y ∷ xs) ys zero x e = e
get_front (y ∷ xs) ys (suc k) x e = get_front xs ys k x e

pub get_next : {A : Type 0} (xs ys : List A) (x : A) → slice_get (xs ++ x ∷ ys) (length xs) ≡ Some x
get_next [] ys x = refl
get_next (y ∷ xs) ys x = get_next xs ys x

pub stands_on : (h more : List Receipt) (r : Receipt) → Stands h r → Stands (h ++ more) r
stands_on h more r s = (s.0, get_front h more (r.place - 1) r s.1)

-- receipts with the next places stand in the history that they lengthen
pub stand_next : (rs : List Receipt) (h : List Receipt) → map place_of rs ≡ count_from (length h + 1) (length rs) → All (Stands (h ++ rs)) rs
stand_next [] h p = All-nil (Stands (h ++ []))
stand_next (r ∷ rs) h p =
    let place : r.place ≡ length h + 1 = cc p in
    let grown : length (h ++ r ∷ []) ≡ length h + 1 = length-append h (r ∷ []) in
    let tail : map place_of rs ≡ count_from (suc (length h + 1)) (length rs) = cc p in
    let rest : map place_of rs ≡ count_from (length (h ++ r ∷ []) + 1) (length rs) = tail ∙ from_same (suc (length h + 1)) (length (h ++ r ∷ []) + 1) (length rs) (omega (arith, grown)) in
    let same : (h ++ r ∷ []) ++ rs ≡ h ++ r ∷ rs = append_assoc h (r ∷ []) rs in
    let here : r.place - 1 ≡ length h = omega (arith, place) in
    All-cons (Stands (h ++ r ∷ rs)) r rs
    (omega (arith, place), subst (λ k. slice_get (h ++ r ∷ rs) k ≡ Some r) (sym here) (get_next h rs r))
    (subst (λ l. All (Stands l) rs) same (stand_next rs (h ++ r ∷ []) rest))

-- what stood at the ticket stands there still
pub same_ask : (xs ys : List Taken) (k : ℕ) (x : Taken) (r : Receipt) → IsPrefix xs ys → slice_get xs k ≡ Some x → r.ticket ≡ k → slice_get ys r.ticket ≡ Some (taken_of r) → x ≡ taken_of r
same_ask xs ys k x r p at is there =
    let here : slice_get ys k ≡ Some x = subst (λ l. slice_get l k ≡ Some x) p.1 (get_front xs p.0 k x at) in
    let again : slice_get ys k ≡ Some (taken_of r) = subst (λ n. slice_get ys n ≡ Some (taken_of r)) is there in
    cc (here, again)

pub no_length : {A : Type 0} (xs : List A) → length xs ≡ 0 → xs ≡ []
no_length [] e = refl
no_length (x ∷ xs) e = absurd (omega (arith, e))
