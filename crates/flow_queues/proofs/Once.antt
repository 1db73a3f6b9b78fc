-- What is posted is posted once.
use Rattle.std.proofs.Common.{◌≡◌, ◌||◌, ℕ, Bool, true, false, cond, List, [], ◌∷◌, ◌++◌, refl, sym, ap, ◌∙◌, subst, append_assoc, true≢false}
use Rattle.std.proofs.lemmas.List.{append-nil}
use Rattle.std.proofs.Common.{Ordering, Less, Equal, Greater}
use Rattle.std.specs.Ordering.{nat_cmp, is_eq, ordering_then}
use Rattle.std.proofs.lemmas.Cmp.{ranked, nat_cmp_total, tied_itself}
use Rattle.flow_base.specs.declared.task.Task.{Task}
use Rattle.flow_base.specs.Keys.{Key, key_of}
use Rattle.flow_queues.specs.Posting.{is_key, has_key, IsOnce, new_ones}

pub off : {A : Type 0} → false ≡ true → A
off e = absurd (true≢false (sym e))

or_false : (a : Bool) → (a || false) ≡ a
or_false true = refl
or_false false = refl

or_assoc : (a b c : Bool) → ((a || b) || c) ≡ (a || (b || c))
or_assoc true b c = refl
or_assoc false b c = refl

---- Keys

equal_is : (x y : ℕ) (o : Ordering) → o ≡ nat_cmp x y → is_eq o ≡ true → x ≡ y
equal_is x y Less is h = off h
equal_is x y Equal is h = ranked x y Equal is
equal_is x y Greater is h = off h

number_is : (x y : ℕ) → is_eq (nat_cmp x y) ≡ true → x ≡ y
number_is x y h = equal_is x y (nat_cmp x y) refl h

both_eq : (o p : Ordering) → is_eq (ordering_then o p) ≡ true → (is_eq o ≡ true) × (is_eq p ≡ true)
both_eq Less p h = off h
both_eq Equal p h = (refl, h)
both_eq Greater p h = off h

pub key_is : (p q : Key) → is_key p q ≡ true → p ≡ q
key_is p q h =
    let outer = both_eq (ordering_then (nat_cmp p.0 q.0) (nat_cmp p.1 q.1)) (nat_cmp p.2 q.2) h in
    let inner = both_eq (nat_cmp p.0 q.0) (nat_cmp p.1 q.1) outer.0 in
    let run = number_is p.0 q.0 inner.0 in
    let event = number_is p.1 q.1 inner.1 in
    let attempt = number_is p.2 q.2 outer.1 in
    λ i. (run i, event i, attempt i)

pub key_itself : (p : Key) → is_key p p ≡ true
key_itself p = rw (tied_itself nat_cmp_total p.0, tied_itself nat_cmp_total p.1, tied_itself nat_cmp_total p.2) refl

-- as p isn't q, q isn't p
key_turned : (p q : Key) → is_key p q ≡ false → is_key q p ≡ false
key_turned p q h = by (is_key q p) refl
  where
    by : (b : Bool) → is_key q p ≡ b → b ≡ false
    by true e = off (sym h ∙ (ap (λ x. is_key p x) (key_is q p e) ∙ key_itself p))
    by false e = refl

-- the keys of two lists
pub has_both : (xs ys : List Task) (q : Key) → has_key (xs ++ ys) q ≡ (has_key xs q || has_key ys q)
has_both [] ys q = refl
has_both (x ∷ xs) ys q = ap (λ b. is_key (key_of x) q || b) (has_both xs ys q) ∙ sym (or_assoc (is_key (key_of x) q) (has_key xs q) (has_key ys q))

pub has_last : (xs : List Task) (x : Task) (q : Key) → has_key (xs ++ x ∷ []) q ≡ (has_key xs q || is_key (key_of x) q)
has_last xs x q = has_both xs (x ∷ []) q ∙ ap (λ b. has_key xs q || b) (or_false (is_key (key_of x) q))

-- one that isn't there comes behind
once_more : (xs : List Task) (x : Task) → IsOnce xs → has_key xs (key_of x) ≡ false → IsOnce (xs ++ x ∷ [])
once_more [] x o n = (refl, tt)
once_more (y ∷ ys) x o n =
    let apart = or_none (is_key (key_of y) (key_of x)) (has_key ys (key_of x)) n in
    (has_last ys x (key_of y) ∙ neither (has_key ys (key_of y)) (is_key (key_of x) (key_of y)) o.0 (key_turned (key_of y) (key_of x) apart.0), once_more ys x o.1 apart.1)
  where
    or_none : (a b : Bool) → (a || b) ≡ false → (a ≡ false) × (b ≡ false)
    or_none true b e = absurd (true≢false e)
    or_none false b e = (refl, e)

    neither : (a b : Bool) → a ≡ false → b ≡ false → (a || b) ≡ false
    neither a b e f = ap (λ c. c || b) e ∙ f

pub still_once : (posted ts : List Task) → IsOnce posted → IsOnce (posted ++ new_ones posted ts)
still_once posted [] o = subst IsOnce (sym (append-nil posted)) o
still_once posted (t ∷ ts) o = by (has_key posted (key_of t)) refl (still_once posted ts o) (λ apart. still_once (posted ++ t ∷ []) ts (once_more posted t o apart))
  where
    by : (b : Bool) → has_key posted (key_of t) ≡ b → IsOnce (posted ++ new_ones posted ts) → (has_key posted (key_of t) ≡ false → IsOnce ((posted ++ t ∷ []) ++ new_ones (posted ++ t ∷ []) ts))
        → IsOnce (posted ++ cond b (new_ones posted ts) (t ∷ new_ones (posted ++ t ∷ []) ts))
    by true e there apart = there
    by false e there apart = subst IsOnce (append_assoc posted (t ∷ []) (new_ones (posted ++ t ∷ []) ts)) (apart e)
