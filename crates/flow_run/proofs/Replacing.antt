-- A leaf of a task that an input replaces, and the waits of all tasks.
use Rattle.std.proofs.Common.{◌≡◌, ℕ, zero, suc, ◌+◌, List, [], ◌∷◌, ◌++◌, append_assoc, drop, refl, sym, ap, ◌∙◌, arith, Option, Some, None}
use Rattle.flow_base.specs.Syntax.{Bytes, Block}
use Rattle.flow_base.specs.declared.value.Kind.{Kind}
use Rattle.flow_model.specs.Rest.{Rest, Done, OnActivity, OnTimer, OnSignal, OnSignalFor, Raised, Then, Beside, open_waits}
use Rattle.flow_model.specs.Deliver.{or_rest, map_rest, replaced, target_of}
use Rattle.flow_run.specs.Marks.{within, Mark, One, Many, besides, put, onto, or_rests, with_tail, map_rests}
use Rattle.flow_run.specs.Shown.{waits_of}
use Rattle.flow_run.specs.declared.waits.OpenWait.{OpenWait}

-- the first of the rests that has a leaf which the function takes
abbrev pub replaces : (Rest → Option Rest) → List Rest → Option (List Rest)
replaces f [] = None
replaces f (r ∷ rs) = or_rests (with_tail rs (replaced f r)) (map_rests (λ qs. r ∷ qs) (replaces f rs))

map_twice : (g h : Rest → Rest) (o : Option Rest) → map_rest g (map_rest h o) ≡ map_rest (λ q. g (h q)) o
map_twice g h None = refl
map_twice g h (Some r) = refl

map_same : (o : Option Rest) → map_rest (λ q. q) o ≡ o
map_same None = refl
map_same (Some r) = refl

maps_twice : (g h : List Rest → List Rest) (o : Option (List Rest)) → map_rests g (map_rests h o) ≡ map_rests (λ q. g (h q)) o
maps_twice g h None = refl
maps_twice g h (Some r) = refl

pub within_replaces : (f : Rest → Option Rest) (bs : List Block) (r : Rest) → replaced f (within bs r) ≡ map_rest (within bs) (replaced f r)
within_replaces f [] r = sym (map_same (replaced f r))
within_replaces f (b ∷ bs) r = ap (map_rest (λ q. Then q b)) (within_replaces f bs r) ∙ map_twice (λ q. Then q b) (within bs) (replaced f r)

one_of : (f : Rest → Option Rest) (g : Rest → Rest) (r b : Rest) (rs ds : List Rest) (h : List Rest → List Rest) (m n : Option Rest) (k : Option (List Rest))
    → ((q : Rest) → h (q ∷ rs) ≡ g (Beside q b) ∷ ds)
    → or_rests (with_tail ds (map_rest g (map_rest (λ q. Beside r q) n))) (map_rests (λ qs. g (Beside r b) ∷ qs) (replaces f ds)) ≡ map_rests (λ qs. h (r ∷ qs)) k
    → or_rests (with_tail ds (map_rest g (or_rest (map_rest (λ q. Beside q b) m) (map_rest (λ q. Beside r q) n)))) (map_rests (λ qs. g (Beside r b) ∷ qs) (replaces f ds)) ≡ map_rests h (or_rests (with_tail rs m) (map_rests (λ qs. r ∷ qs) k))
one_of f g r b rs ds h None n k same later = later ∙ sym (maps_twice h (λ qs. r ∷ qs) k)
one_of f g r b rs ds h (Some q) n k same later = ap Some (sym (same q))

besides_replaces : (f : Rest → Option Rest) → f Done ≡ None → (n : ℕ) (rs : List Rest) (g : Rest → Rest) → or_rests (with_tail (drop n rs) (map_rest g (replaced f (besides n rs)))) (map_rests (λ qs. g (besides n rs) ∷ qs) (replaces f (drop n rs))) ≡ map_rests (λ qs. g (besides n qs) ∷ drop n qs) (replaces f rs)
besides_replaces f e zero rs g = rw e
besides_replaces f e (suc n) [] g = rw e
besides_replaces f e (suc n) (r ∷ rs) g =
    one_of f g r (besides n rs) rs (drop n rs) (λ qs. g (besides (suc n) qs) ∷ drop (suc n) qs) (replaced f r) (replaced f (besides n rs)) (replaces f rs) (λ q. refl)
    (ap (λ m. or_rests (with_tail (drop n rs) m) (map_rests (λ qs. g (Beside r (besides n rs)) ∷ qs) (replaces f (drop n rs)))) (map_twice g (λ q. Beside r q) (replaced f (besides n rs)))
    ∙ besides_replaces f e n rs (λ q. g (Beside r q)))

-- a join has no leaf of its own
pub join_replaces : (f : Rest → Option Rest) → f Done ≡ None → (bs : List Block) (n k : ℕ) (rs : List Rest) → replaces f (put (Many bs n k) rs) ≡ map_rests (put (Many bs n k)) (replaces f rs)
join_replaces f e bs n k rs =
    ap (λ m. or_rests (with_tail (drop n rs) m) (map_rests (λ qs. within bs (besides n rs) ∷ qs) (replaces f (drop n rs)))) (within_replaces f bs (besides n rs))
    ∙ besides_replaces f e n rs (within bs)

pub task_replaces_none : (f : Rest → Option Rest) (r : Rest) (rs : List Rest) → replaced f r ≡ None → replaces f (r ∷ rs) ≡ map_rests (put (One r)) (replaces f rs)
task_replaces_none f r rs e = rw e

-- all waits, from the left
abbrev pub all_waits : List Rest → List OpenWait
all_waits [] = []
all_waits (r ∷ rs) = waits_of r ++ all_waits rs

pub within_waits : (bs : List Block) (r : Rest) → waits_of (within bs r) ≡ waits_of r
within_waits [] r = refl
within_waits (b ∷ bs) r = within_waits bs r

besides_waits : (n : ℕ) (rs : List Rest) → waits_of (besides n rs) ++ all_waits (drop n rs) ≡ all_waits rs
besides_waits zero rs = refl
besides_waits (suc n) [] = refl
besides_waits (suc n) (r ∷ rs) = append_assoc (waits_of r) (waits_of (besides n rs)) (all_waits (drop n rs)) ∙ ap (λ ws. waits_of r ++ ws) (besides_waits n rs)

pub join_waits : (bs : List Block) (n k : ℕ) (rs : List Rest) → all_waits (put (Many bs n k) rs) ≡ all_waits rs
join_waits bs n k rs = ap (λ ws. ws ++ all_waits (drop n rs)) (within_waits bs (besides n rs)) ∙ besides_waits n rs

-- how many waits are open
abbrev pub all_open : List Rest → ℕ
all_open [] = 0
all_open (r ∷ rs) = open_waits r + all_open rs

pub within_opens : (bs : List Block) (r : Rest) → open_waits (within bs r) ≡ open_waits r
within_opens [] r = refl
within_opens (b ∷ bs) r = within_opens bs r

besides_opens : (n : ℕ) (rs : List Rest) → open_waits (besides n rs) + all_open (drop n rs) ≡ all_open rs
besides_opens zero rs = omega arith
besides_opens (suc n) [] = omega arith
besides_opens (suc n) (r ∷ rs) = omega (arith, besides_opens n rs)

pub join_opens : (bs : List Block) (n k : ℕ) (rs : List Rest) → all_open (put (Many bs n k) rs) ≡ all_open rs
join_opens bs n k rs = ap (λ w. w + all_open (drop n rs)) (within_opens bs (besides n rs)) ∙ besides_opens n rs
