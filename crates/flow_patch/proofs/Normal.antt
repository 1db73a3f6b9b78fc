-- A rest and its normal form: places gone, each patch changed, sequences in one piece. Each step of the one is a step of the
-- other, or one that a patch takes aside.
use Rattle.std.proofs.Common.{◌≡◌, ℕ, refl, sym, ap, ◌∙◌, subst, List, [], ◌∷◌, map, Option, Some, None, Result, Ok, Err, Bool, true, false, ⊎_elim, inl, inr}
use Rattle.std.specs.Prelude.{if◌then◌else◌, nat_lt, ◌⊎◌, ◌&&◌}
use Rattle.std.proofs.lemmas.Bool.{true≢false}
use Rattle.flow_base.specs.Syntax.{Bytes, Expression, Number, Literal, Variable, Now, Apply, Combine, Statement, Let, Assign, Call, WaitSignal, WaitSignalFor, Sleep, If, While, Parallel, Patch, Deprecate, Return, FailWith, Continue, Block, End, Next, Branches, NoBranch, Branch}
use Rattle.flow_base.specs.Bare.{bare_expression, bare_retry}
use Rattle.flow_base.specs.declared.value.Value.{Value}
use Rattle.flow_base.specs.declared.event.Cause.{Cause}
use Rattle.flow_model.specs.Values.{Variables, value, values, due, due_in, number_of, is_true, applied, combined, decided_by, or_else, ◌>>=◌}
use Rattle.flow_model.specs.Rest.{Rest, Done, OnActivity, OnTimer, OnSignal, OnSignalFor, Raised, Then, Beside, rest_of, branches_of, is_done}
use Rattle.flow_model.specs.Step.{Store, Setting, Move, Stays, Goes, Asks, Ends, on_value, on_signal, oldest, wait_limit, test_limit, picked, begin, around, followed_by, or_move, move}
use Rattle.flow_patch.specs.Wrap.{joined, Patching, placed, changed, changed_otherwise, changed_branches}

pub cases : (b : Bool) → (b ≡ true) ⊎ (b ≡ false)
cases true = inl refl
cases false = inr refl

pub both : (a b : Bool) → (a && b) ≡ true → (a ≡ true) × (b ≡ true)
both true true e = (refl, refl)
both true false e = absurd (true≢false (sym e))
both false b e = absurd (true≢false (sym e))

-- places never decide a value
pub bare_value : (vars : Variables) (at : ℕ) (e : Expression) → value vars at (bare_expression e) ≡ value vars at e
bare_value vars at (Number place z) = refl
bare_value vars at (Literal place t) = refl
bare_value vars at (Variable place x) = refl
bare_value vars at (Now place) = refl
bare_value vars at (Apply place op e) = ap (λ r. r >>= applied op) (bare_value vars at e)
bare_value vars at (Combine op e f) =
    ap (λ r. r >>= (λ a. or_else (decided_by op a) (value vars at (bare_expression f) >>= combined op a))) (bare_value vars at e)
    ∙ ap (λ r. value vars at e >>= (λ a. or_else (decided_by op a) (r >>= combined op a))) (bare_value vars at f)

pub bare_values : (vars : Variables) (at : ℕ) (es : List Expression) → values vars at (map bare_expression es) ≡ values vars at es
bare_values vars at [] = refl
bare_values vars at (e ∷ es) =
    ap (λ r. r >>= (λ v. values vars at (map bare_expression es) >>= (λ vs. Ok (v ∷ vs)))) (bare_value vars at e)
    ∙ ap (λ r. value vars at e >>= (λ v. r >>= (λ vs. Ok (v ∷ vs)))) (bare_values vars at es)

pub bare_due : (vars : Variables) (at : ℕ) (e : Expression) → due vars at (bare_expression e) ≡ due vars at e
bare_due vars at e = ap (λ r. r >>= (λ v. due_in at (number_of v))) (bare_value vars at e)

joined_end : (b : Block) → joined b End ≡ b
joined_end End = refl
joined_end (Next s b) = ap (Next s) (joined_end b)

joined_assoc : (a b c : Block) → joined (joined a b) c ≡ joined a (joined b c)
joined_assoc End b c = refl
joined_assoc (Next s a) b c = ap (Next s) (joined_assoc a b c)

-- a block behind a rest
abbrev pub behind : Rest → Block → Rest
behind r End = r
behind (Then q c) (Next s b) = Then q (joined c (Next s b))
behind r (Next s b) = Then r (Next s b)

abbrev pub beside : Rest → Rest → Rest
beside a b = if is_done a && is_done b then Done else Beside a b

-- with sequences in one piece
abbrev pub flat : Rest → Rest
flat (Then r b) = behind (flat r) b
flat (Beside a b) = beside (flat a) (flat b)
flat Done = Done
flat (OnActivity n x k o) = OnActivity n x k o
flat (OnTimer n) = OnTimer n
flat (OnSignal x s) = OnSignal x s
flat (OnSignalFor x s n b) = OnSignalFor x s n b
flat (Raised c t) = Raised c t

-- the same, without places and with each patch changed
abbrev pub norm : Patching → Rest → Rest
norm g (Then r b) = behind (norm g r) (changed g b)
norm g (Beside a b) = beside (norm g a) (norm g b)
norm g Done = Done
norm g (OnActivity n x k o) = OnActivity n x k (changed_otherwise g o)
norm g (OnTimer n) = OnTimer n
norm g (OnSignal x s) = OnSignal x s
norm g (OnSignalFor x s n b) = OnSignalFor x s n (changed g b)
norm g (Raised c t) = Raised c t

pub behind_twice : (y : Rest) (c d : Block) → behind (behind y c) d ≡ behind y (joined c d)
behind_twice y c End = ap (behind y) (sym (joined_end c))
behind_twice y End (Next s d) = refl
behind_twice (Then q e) (Next r c) (Next s d) = ap (Then q) (joined_assoc e (Next r c) (Next s d))
behind_twice Done (Next r c) (Next s d) = refl
behind_twice (OnActivity n x k o) (Next r c) (Next s d) = refl
behind_twice (OnTimer n) (Next r c) (Next s d) = refl
behind_twice (OnSignal x n) (Next r c) (Next s d) = refl
behind_twice (OnSignalFor x m n b) (Next r c) (Next s d) = refl
behind_twice (Raised w v) (Next r c) (Next s d) = refl
behind_twice (Beside a b) (Next r c) (Next s d) = refl

pub flat_behind : (x : Rest) (c : Block) → flat (behind x c) ≡ behind (flat x) c
flat_behind x End = refl
flat_behind (Then q e) (Next s d) = sym (behind_twice (flat q) e (Next s d))
flat_behind Done (Next s d) = refl
flat_behind (OnActivity n x k o) (Next s d) = refl
flat_behind (OnTimer n) (Next s d) = refl
flat_behind (OnSignal x n) (Next s d) = refl
flat_behind (OnSignalFor x m n b) (Next s d) = refl
flat_behind (Raised w v) (Next s d) = refl
flat_behind (Beside a b) (Next s d) = refl

pub flat_beside : (x y : Rest) → flat x ≡ x → flat y ≡ y → flat (beside x y) ≡ beside x y
flat_beside x y a b =
    ⊎_elim (λ (e : (is_done x && is_done y) ≡ true). rw e)
    (λ (e : (is_done x && is_done y) ≡ false). rw e (ap (λ z. beside z (flat y)) a ∙ ap (beside x) b ∙ rw e)) (cases (is_done x && is_done y))

pub flat_norm : (g : Patching) (r : Rest) → flat (norm g r) ≡ norm g r
flat_norm g (Then r b) = flat_behind (norm g r) (changed g b) ∙ ap (λ x. behind x (changed g b)) (flat_norm g r)
flat_norm g (Beside a b) = flat_beside (norm g a) (norm g b) (flat_norm g a) (flat_norm g b)
flat_norm g Done = refl
flat_norm g (OnActivity n x k o) = refl
flat_norm g (OnTimer n) = refl
flat_norm g (OnSignal x s) = refl
flat_norm g (OnSignalFor x s n b) = refl
flat_norm g (Raised c t) = refl

pub norm_followed : (g : Patching) (b : Block) (q : Rest) → norm g (followed_by b q) ≡ behind (norm g q) (changed g b)
norm_followed g End q = refl
norm_followed g (Next s b) q = refl

pub flat_followed : (b : Block) (q : Rest) → flat (followed_by b q) ≡ behind (flat q) b
flat_followed End q = refl
flat_followed (Next s b) q = refl

pub done_norm : (g : Patching) (r : Rest) → is_done r ≡ true → norm g r ≡ Done
done_norm g Done e = refl
done_norm g (OnActivity n x k o) e = absurd (true≢false (sym e))
done_norm g (OnTimer n) e = absurd (true≢false (sym e))
done_norm g (OnSignal x s) e = absurd (true≢false (sym e))
done_norm g (OnSignalFor x s n b) e = absurd (true≢false (sym e))
done_norm g (Raised c t) e = absurd (true≢false (sym e))
done_norm g (Then r End) e = done_norm g r (both (is_done r) true e).0
done_norm g (Then r (Next s b)) e = absurd (true≢false (sym (both (is_done r) false e).1))
done_norm g (Beside a b) e =
    let x = both (is_done a) (is_done b) e in rw (done_norm g a x.0, done_norm g b x.1)

pub done_stays : (s : Setting) (t : Store) (r : Rest) → is_done r ≡ true → move s t r ≡ Stays
done_stays s t Done e = refl
done_stays s t (OnActivity n x k o) e = refl
done_stays s t (OnTimer n) e = refl
done_stays s t (OnSignal x n) e = absurd (true≢false (sym e))
done_stays s t (OnSignalFor x m n b) e = absurd (true≢false (sym e))
done_stays s t (Raised c v) e = absurd (true≢false (sym e))
done_stays s t (Then r End) e = rw (both (is_done r) true e).0
done_stays s t (Then r (Next u b)) e = absurd (true≢false (sym (both (is_done r) false e).1))
done_stays s t (Beside a b) e =
    let x = both (is_done a) (is_done b) e in rw (done_stays s t a x.0, done_stays s t b x.1)

-- two moves that do the same, up to relations on rests and stores
abbrev pub Alike : (Rest → Rest → Type 0) → (Store → Store → Type 0) → Move → Move → Type 0
Alike R T Stays Stays = Unit {0}
Alike R T (Goes q t) (Goes x u) = R q x × T t u
Alike R T (Asks q t c) (Asks x u d) = R q x × T t u × (c ≡ d)
Alike R T (Ends c) (Ends d) = c ≡ d
Alike R T m n = ⊥

pub around_alike : (R S : Rest → Rest → Type 0) (T : Store → Store → Type 0) (f g : Rest → Rest) → ((q x : Rest) → R q x → S (f q) (g x)) → (m n : Move) → Alike R T m n → Alike S T (around f m) (around g n)
around_alike R S T f g h Stays Stays a = tt
around_alike R S T f g h (Goes q t) (Goes x u) a = (h q x a.0, a.1)
around_alike R S T f g h (Asks q t c) (Asks x u d) a = (h q x a.0, a.1, a.2)
around_alike R S T f g h (Ends c) (Ends d) a = a
around_alike R S T f g h m n a = absurd a

pub or_alike : (R : Rest → Rest → Type 0) (T : Store → Store → Type 0) (m n k l : Move) → Alike R T m n → Alike R T k l → Alike R T (or_move m k) (or_move n l)
or_alike R T Stays Stays k l a b = b
or_alike R T (Goes q t) (Goes x u) k l a b = a
or_alike R T (Asks q t c) (Asks x u d) k l a b = a
or_alike R T (Ends c) (Ends d) k l a b = a
or_alike R T m n k l a b = absurd a

pub value_alike : {A : Type 0} (R : Rest → Rest → Type 0) (T : Store → Store → Type 0) (r : Result A Cause) (f g : A → Move) → ((v : A) → Alike R T (f v) (g v)) → Alike R T (on_value r f) (on_value r g)
value_alike R T (Ok v) f g h = h v
value_alike R T (Err c) f g h = refl

pub signal_alike : (R : Rest → Rest → Type 0) (T : Store → Store → Type 0) (o : Option Value) (f g : Value → Move) (m n : Move) → ((v : Value) → Alike R T (f v) (g v)) → Alike R T m n → Alike R T (on_signal o f m) (on_signal o g n)
signal_alike R T None f g m n h a = a
signal_alike R T (Some v) f g m n h a = h v

pub if_alike : (R : Rest → Rest → Type 0) (T : Store → Store → Type 0) (b : Bool) (m n k l : Move) → Alike R T m n → Alike R T k l → Alike R T (if b then m else k) (if b then n else l)
if_alike R T true m n k l a c = a
if_alike R T false m n k l a c = c

pub alike_same : (R : Rest → Rest → Type 0) (f g : Rest → Rest) → ((x : Rest) → R (f x) (g x)) → (m : Move) → Alike R (λ (t u : Store). t ≡ u) (around f m) (around g m)
alike_same R f g h Stays = tt
alike_same R f g h (Goes q t) = (h q, refl)
alike_same R f g h (Asks q t c) = (h q, refl, refl)
alike_same R f g h (Ends c) = refl

alike_within : (R : Rest → Rest → Type 0) (f : Rest → Rest) → ((x : Rest) → R (f x) x) → (m : Move) → Alike R (λ (t u : Store). t ≡ u) (around f m) m
alike_within R f h Stays = tt
alike_within R f h (Goes q t) = (h q, refl)
alike_within R f h (Asks q t c) = (h q, refl, refl)
alike_within R f h (Ends c) = refl

alike_twice : (R : Rest → Rest → Type 0) (f g h : Rest → Rest) → ((x : Rest) → R (f (g x)) (h x)) → (m : Move) → Alike R (λ (t u : Store). t ≡ u) (around f (around g m)) (around h m)
alike_twice R f g h e Stays = tt
alike_twice R f g h e (Goes q t) = (e q, refl)
alike_twice R f g h e (Asks q t c) = (e q, refl, refl)
alike_twice R f g h e (Ends c) = refl

abbrev pub SameStore : Store → Store → Type 0
SameStore t u = t ≡ u

-- the first ends, in normal form, where the second ends
abbrev pub NormTo : Patching → Rest → Rest → Type 0
NormTo g q x = norm g q ≡ flat x

abbrev pub FlatTo : Rest → Rest → Type 0
FlatTo q x = flat q ≡ flat x

alike_then : (g : Patching) (m n k : Move) → Alike (NormTo g) SameStore m n → Alike FlatTo SameStore n k → Alike (NormTo g) SameStore m k
alike_then g Stays Stays Stays a b = tt
alike_then g (Goes q t) (Goes x u) (Goes z v) a b = (a.0 ∙ b.0, a.1 ∙ b.1)
alike_then g (Asks q t c) (Asks x u d) (Asks z v e) a b = (a.0 ∙ b.0, a.1 ∙ b.1, a.2 ∙ b.2)
alike_then g (Ends c) (Ends d) (Ends e) a b = a ∙ b
alike_then g Stays Stays (Goes z v) a b = absurd b
alike_then g Stays Stays (Asks z v e) a b = absurd b
alike_then g Stays Stays (Ends e) a b = absurd b
alike_then g (Goes q t) (Goes x u) Stays a b = absurd b
alike_then g (Goes q t) (Goes x u) (Asks z v e) a b = absurd b
alike_then g (Goes q t) (Goes x u) (Ends e) a b = absurd b
alike_then g (Asks q t c) (Asks x u d) Stays a b = absurd b
alike_then g (Asks q t c) (Asks x u d) (Goes z v) a b = absurd b
alike_then g (Asks q t c) (Asks x u d) (Ends e) a b = absurd b
alike_then g (Ends c) (Ends d) Stays a b = absurd b
alike_then g (Ends c) (Ends d) (Goes z v) a b = absurd b
alike_then g (Ends c) (Ends d) (Asks z v e) a b = absurd b
alike_then g m n k a b = absurd a

-- A move that a patch takes aside, to a store as told. Where it is kept, the rest has y for its normal form.
pub record Aside (g : Patching) (K : Type 0) (P : Store → Type 0) (y : Rest) (m : Move) : Type 0 where
  pub rest : Rest
  pub store : Store
  pub goes : m ≡ Goes rest store
  pub kept : K → norm g rest ≡ y
  pub passed : P store

abbrev pub Steps : Patching → Type 0 → (Store → Type 0) → Setting → Store → Rest → Type 0
Steps g K P s t r =
    Aside g K P (norm g r) (move s t r)
    ⊎ ((is_done r ≡ is_done (norm g r)) × Alike (NormTo g) SameStore (move s t r) (move s t (norm g r)))

-- a statement that is passed, with nothing like it in the changed list
pub record Skips (g : Patching) (K : Type 0) (P : Store → Type 0) (s : Setting) (t : Store) (st : Statement) : Type 0 where
  pub rest : Rest
  pub store : Store
  pub goes : begin s t st ≡ Goes rest store
  pub spliced : K → (k : Block) → behind (norm g rest) k ≡ behind Done (placed g st k)
  pub passed : P store

-- a statement that does what another does at the head of the changed list
pub record Begins (g : Patching) (s : Setting) (t : Store) (st : Statement) : Type 0 where
  pub statement : Statement
  pub tail : Block → Block
  pub stands : (k : Block) → placed g st k ≡ Next statement (tail k)
  pub same : (b : Block) → Alike (NormTo g) SameStore (around (followed_by b) (begin s t st)) (around (followed_by (tail (changed g b))) (begin s t statement))

-- what is to be known of the patches, so that all steps are known
pub record Patches (g : Patching) (K : Type 0) (P : Store → Type 0) (s : Setting) (t : Store) : Type 0 where
  pub patch : (at id_at : ℕ) (id : Bytes) (a : Block) (a_end : ℕ) (b : Block) (b_end : ℕ)
      → Skips g K P s t (Patch at id_at id a a_end b b_end) ⊎ Begins g s t (Patch at id_at id a a_end b b_end)
  pub deprecate : (at id_at : ℕ) (id : Bytes) → Skips g K P s t (Deprecate at id_at id) ⊎ Begins g s t (Deprecate at id_at id)

branches_alike : (g : Patching) (bs : Branches) → norm g (branches_of bs) ≡ flat (branches_of (changed_branches g bs))
branches_alike g NoBranch = refl
branches_alike g (Branch at b end bs) = ap (beside (behind Done (changed g b))) (branches_alike g bs)

pub picked_alike : (g : Patching) (b : Bool) (x y : Block) → norm g (picked b x y) ≡ flat (picked b (changed g x) (changed g y))
picked_alike g true x y = refl
picked_alike g false x y = refl

turns_alike : (g : Patching) (b : Bool) (at : ℕ) (e : Expression) (x : Block) (end : ℕ) → norm g (if b then Then (rest_of x) (Next (While at e x end) End) else Done) ≡ flat (if b then Then (rest_of (changed g x)) (Next (While 0 (bare_expression e) (changed g x) 0) End) else Done)
turns_alike g true at e x end = refl
turns_alike g false at e x end = refl

-- the statement's own form begins alike, and nothing becomes of what follows it
pub plainly : (g : Patching) (K : Type 0) (P : Store → Type 0) (s : Setting) (t : Store) (st st' : Statement) → ((k : Block) → placed g st k ≡ Next st' k) → Alike (NormTo g) SameStore (begin s t st) (begin s t st') → Skips g K P s t st ⊎ Begins g s t st
plainly g K P s t st st' h a =
    inr (record {
      statement = st';
      tail = λ k. k;
      stands = h;
      same = λ b. around_alike (NormTo g) (NormTo g) SameStore (followed_by b) (followed_by (changed g b))
          (λ x y e. norm_followed g b x ∙ ap (λ z. behind z (changed g b)) e ∙ sym (flat_followed (changed g b) y)) (begin s t st) (begin s t st') a;
    })

begins : (g : Patching) (K : Type 0) (P : Store → Type 0) (s : Setting) (t : Store) → Patches g K P s t → (st : Statement) → Skips g K P s t st ⊎ Begins g s t st
begins g K P s t q (Let at name_at x e) =
    plainly g K P s t (Let at name_at x e) (Let 0 0 x (bare_expression e)) (λ k. refl)
    (rw (bare_value t.variables s.at e) (value_alike (NormTo g) SameStore (value t.variables s.at e) _ _ (λ v. (refl, refl))))
begins g K P s t q (Assign at x e) =
    plainly g K P s t (Assign at x e) (Assign 0 x (bare_expression e)) (λ k. refl)
    (rw (bare_value t.variables s.at e) (value_alike (NormTo g) SameStore (value t.variables s.at e) _ _ (λ v. (refl, refl))))
begins g K P s t q (Call at x activity_at a es r o) =
    plainly g K P s t (Call at x activity_at a es r o) (Call 0 x 0 a (map bare_expression es) (bare_retry r) (changed_otherwise g o)) (λ k. refl)
    (rw (bare_values t.variables s.at es) (value_alike (NormTo g) SameStore (values t.variables s.at es) _ _ (λ vs. if_alike (NormTo g) SameStore (nat_lt s.waits wait_limit) _ _ _ _ (refl, refl, refl) refl)))
begins g K P s t q (WaitSignal at x signal_at n) =
    plainly g K P s t (WaitSignal at x signal_at n) (WaitSignal 0 x 0 n) (λ k. refl)
    (signal_alike (NormTo g) SameStore (oldest n t.buffer) _ _ _ _ (λ v. (refl, refl)) (if_alike (NormTo g) SameStore (nat_lt s.waits wait_limit) _ _ _ _ (refl, refl) refl))
begins g K P s t q (WaitSignalFor at x signal_at n e b end) =
    plainly g K P s t (WaitSignalFor at x signal_at n e b end) (WaitSignalFor 0 x 0 n (bare_expression e) (changed g b) 0) (λ k. refl)
    (rw (bare_due t.variables s.at e) (signal_alike (NormTo g) SameStore (oldest n t.buffer) _ _ _ _ (λ v. (refl, refl))
    (value_alike (NormTo g) SameStore (due t.variables s.at e) _ _ (λ d. if_alike (NormTo g) SameStore (nat_lt s.waits wait_limit) _ _ _ _ (refl, refl, refl) refl))))
begins g K P s t q (Sleep at e) =
    plainly g K P s t (Sleep at e) (Sleep 0 (bare_expression e)) (λ k. refl)
    (rw (bare_due t.variables s.at e) (value_alike (NormTo g) SameStore (due t.variables s.at e) _ _ (λ d. if_alike (NormTo g) SameStore (nat_lt s.waits wait_limit) _ _ _ _ (refl, refl, refl) refl)))
begins g K P s t q (If at e a a_end b b_end) =
    plainly g K P s t (If at e a a_end b b_end) (If 0 (bare_expression e) (changed g a) 0 (changed g b) 0) (λ k. refl)
    (rw (bare_value t.variables s.at e) (value_alike (NormTo g) SameStore (value t.variables s.at e) _ _ (λ v. (picked_alike g (is_true v) a b, refl))))
begins g K P s t q (While at e b end) =
    plainly g K P s t (While at e b end) (While 0 (bare_expression e) (changed g b) 0) (λ k. refl)
    (rw (bare_value t.variables s.at e) (if_alike (NormTo g) SameStore (nat_lt t.tests test_limit) _ _ _ _
    (value_alike (NormTo g) SameStore (value t.variables s.at e) _ _ (λ v. (turns_alike g (is_true v) at e b end, refl))) refl))
begins g K P s t q (Parallel at bs end) =
    plainly g K P s t (Parallel at bs end) (Parallel 0 (changed_branches g bs) 0) (λ k. refl) ((branches_alike g bs, refl))
begins g K P s t q (Patch at id_at id a a_end b b_end) = q.patch at id_at id a a_end b b_end
begins g K P s t q (Deprecate at id_at id) = q.deprecate at id_at id
begins g K P s t q (Return at e) =
    plainly g K P s t (Return at e) (Return 0 (bare_expression e)) (λ k. refl)
    (rw (bare_value t.variables s.at e) (value_alike (NormTo g) SameStore (value t.variables s.at e) _ _ (λ v. refl)))
begins g K P s t q (FailWith at e) =
    plainly g K P s t (FailWith at e) (FailWith 0 (bare_expression e)) (λ k. refl)
    (rw (bare_value t.variables s.at e) (value_alike (NormTo g) SameStore (value t.variables s.at e) _ _ (λ v. refl)))
begins g K P s t q (Continue at es) =
    plainly g K P s t (Continue at es) (Continue 0 (map bare_expression es)) (λ k. refl)
    (rw (bare_values t.variables s.at es) (value_alike (NormTo g) SameStore (values t.variables s.at es) _ _ (λ vs. if_alike (NormTo g) SameStore s.is_first _ _ _ _ refl refl)))

steps_by : (g : Patching) (K : Type 0) (P : Store → Type 0) (s : Setting) (t : Store) (r : Rest) (m : Move) (y : Rest) → move s t r ≡ m → norm g r ≡ y → is_done r ≡ is_done y → Alike (NormTo g) SameStore m (move s t y) → Steps g K P s t r
steps_by g K P s t r m y e n d a =
    inr (
      d ∙ ap is_done (sym n),
      subst (λ x. Alike (NormTo g) SameStore x (move s t (norm g r))) (sym e) (subst (λ z. Alike (NormTo g) SameStore m (move s t z)) (sym n) a),
    )

-- the first statement behind a rest that is done
then_done : (g : Patching) (K : Type 0) (P : Store → Type 0) (s : Setting) (t : Store) → Patches g K P s t → (r : Rest) (b : Block) → is_done r ≡ true → Steps g K P s t (Then r b)
then_done g K P s t q r End e =
    steps_by g K P s t (Then r End) Stays Done (rw e) (done_norm g r e) (rw e) tt
then_done g K P s t q r (Next st b) e =
    ⊎_elim (λ (k : Skips g K P s t st).
    inl (record {
      rest = followed_by b k.rest;
      store = k.store;
      goes = rw e (ap (around (followed_by b)) k.goes);
      kept = λ h. norm_followed g b k.rest ∙ k.spliced h (changed g b) ∙ ap (λ y. behind y (placed g st (changed g b))) (sym (done_norm g r e));
      passed = k.passed;
    }))
    (λ (k : Begins g s t st).
    steps_by g K P s t (Then r (Next st b)) (around (followed_by b) (begin s t st)) (Then Done (Next k.statement (k.tail (changed g b)))) (rw e)
    (ap (λ y. behind y (placed g st (changed g b))) (done_norm g r e) ∙ ap (behind Done) (k.stands (changed g b))) (rw e) (k.same b))
    (begins g K P s t q st)

-- a rest that goes on before a block
pub record Pushes (s : Setting) (t : Store) (y : Rest) (c : Block) : Type 0 where
  pub open_still : is_done (behind y c) ≡ false
  pub same : Alike FlatTo SameStore (around (λ x. Then x c) (move s t y)) (move s t (behind y c))

pushed_leaf : (s : Setting) (t : Store) (y : Rest) (c : Block) → is_done y ≡ false → behind y c ≡ Then y c → Pushes s t y c
pushed_leaf s t y c e b =
    record {
      open_still = ap is_done b ∙ rw e;
      same = rw (b, e) (alike_same FlatTo (λ x. Then x c) (λ x. Then x c) (λ x. refl) (move s t y));
    }

and_true : (b : Bool) → b ≡ (b && true)
and_true true = refl
and_true false = refl

pushed_first : (s : Setting) (t : Store) (z : Rest) (d c : Block) → is_done z ≡ true → is_done (Then z d) ≡ false → behind (Then z d) c ≡ Then z (joined d c) → Pushes s t (Then z d) c
pushed_first s t z End c g e b = absurd (true≢false (sym g ∙ and_true (is_done z) ∙ e))
pushed_first s t z (Next st d) c g e b =
    record {
      open_still = ap is_done b ∙ rw g;
      same = rw (b, g) (alike_twice FlatTo (λ x. Then x c) (followed_by d) (followed_by (joined d c))
          (λ x. ap (λ y. behind y c) (flat_followed d x) ∙ behind_twice (flat x) d c ∙ sym (flat_followed (joined d c) x)) (begin s t st));
    }

pushed_then : (s : Setting) (t : Store) (z : Rest) (d c : Block) → is_done (Then z d) ≡ false → behind (Then z d) c ≡ Then z (joined d c) → Pushes s t (Then z d) c
pushed_then s t z d c e b =
    ⊎_elim (λ (g : is_done z ≡ false).
    record {
      open_still = ap is_done b ∙ rw g;
      same = rw (b, g) (alike_twice FlatTo (λ x. Then x c) (λ x. Then x d) (λ x. Then x (joined d c)) (λ x. behind_twice (flat x) d c) (move s t z));
    })
    (λ (g : is_done z ≡ true). pushed_first s t z d c g e b) (⊎_elim (λ (x : is_done z ≡ true). inr x) (λ (x : is_done z ≡ false). inl x) (cases (is_done z)))

pub pushes : (s : Setting) (t : Store) (y : Rest) (c : Block) → is_done y ≡ false → Pushes s t y c
pushes s t y End e = record { open_still = e; same = alike_within FlatTo (λ x. Then x End) (λ x. refl) (move s t y) }
pushes s t Done (Next u c) e = absurd (true≢false e)
pushes s t (OnActivity n x k o) (Next u c) e = pushed_leaf s t (OnActivity n x k o) (Next u c) e refl
pushes s t (OnTimer n) (Next u c) e = pushed_leaf s t (OnTimer n) (Next u c) e refl
pushes s t (OnSignal x n) (Next u c) e = pushed_leaf s t (OnSignal x n) (Next u c) e refl
pushes s t (OnSignalFor x m n b) (Next u c) e = pushed_leaf s t (OnSignalFor x m n b) (Next u c) e refl
pushes s t (Raised w v) (Next u c) e = pushed_leaf s t (Raised w v) (Next u c) e refl
pushes s t (Beside a b) (Next u c) e = pushed_leaf s t (Beside a b) (Next u c) e refl
pushes s t (Then z d) (Next u c) e = pushed_then s t z d (Next u c) e refl

then_goes : (g : Patching) (K : Type 0) (P : Store → Type 0) (s : Setting) (t : Store) (r : Rest) (b : Block) → is_done r ≡ false → Steps g K P s t r → Steps g K P s t (Then r b)
then_goes g K P s t r b e (inl k) =
    inl (record {
      rest = Then k.rest b;
      store = k.store;
      goes = rw e (ap (around (λ q. Then q b)) k.goes);
      kept = λ h. ap (λ y. behind y (changed g b)) (k.kept h);
      passed = k.passed;
    })
then_goes g K P s t r b e (inr k) =
    let p = pushes s t (norm g r) (changed g b) (sym k.0 ∙ e) in
    steps_by g K P s t (Then r b) (around (λ q. Then q b) (move s t r)) (behind (norm g r) (changed g b)) (rw e) refl (rw e (sym p.open_still))
    (alike_then g (around (λ q. Then q b) (move s t r)) (around (λ x. Then x (changed g b)) (move s t (norm g r))) (move s t (behind (norm g r) (changed g b)))
    (around_alike (NormTo g) (NormTo g) SameStore (λ q. Then q b) (λ x. Then x (changed g b)) (λ q x h. ap (λ z. behind z (changed g b)) h) (move s t r) (move s t (norm g r)) k.1)
    p.same)

-- what goes on in two branches
pub record Sides (s : Setting) (t : Store) (x y : Rest) : Type 0 where
  pub done_both : is_done (Beside x y) ≡ is_done (beside x y)
  pub same : Alike FlatTo SameStore (move s t (Beside x y)) (move s t (beside x y))

alike_self : (m : Move) → Alike FlatTo SameStore m m
alike_self Stays = tt
alike_self (Goes q t) = (refl, refl)
alike_self (Asks q t c) = (refl, refl, refl)
alike_self (Ends c) = refl

pub sides : (s : Setting) (t : Store) (x y : Rest) → Sides s t x y
sides s t x y =
    ⊎_elim (λ (e : (is_done x && is_done y) ≡ true).
    let d = both (is_done x) (is_done y) e in
    record { done_both = rw e; same = rw (e, done_stays s t x d.0, done_stays s t y d.1) tt })
    (λ (e : (is_done x && is_done y) ≡ false).
    record { done_both = rw e (rw e); same = rw e (alike_self (move s t (Beside x y))) })
    (cases (is_done x && is_done y))

-- a branch that does not rest hides the other
abbrev Rests : Move → Type 0
Rests Stays = Unit {0}
Rests m = ⊥

pub record Hides (S : Rest → Rest → Type 0) (T : Store → Store → Type 0) (g h : Rest → Rest) (m n : Move) : Type 0 where
  pub goes_on : m ≡ Stays → ⊥
  pub same : (k l : Move) → Alike S T (or_move (around g m) k) (or_move (around h n) l)

pub hides : (R S : Rest → Rest → Type 0) (T : Store → Store → Type 0) (g h : Rest → Rest) → ((q x : Rest) → R q x → S (g q) (h x)) → (m n : Move) → Alike R T m n → ((m ≡ Stays) × (n ≡ Stays)) ⊎ Hides S T g h m n
hides R S T g h f Stays Stays a = inl (refl, refl)
hides R S T g h f (Goes q t) (Goes x u) a = inr (record { goes_on = λ e. subst Rests (sym e) tt; same = λ k l. (f q x a.0, a.1) })
hides R S T g h f (Asks q t c) (Asks x u d) a = inr (record { goes_on = λ e. subst Rests (sym e) tt; same = λ k l. (f q x a.0, a.1, a.2) })
hides R S T g h f (Ends c) (Ends d) a = inr (record { goes_on = λ e. subst Rests (sym e) tt; same = λ k l. a })
hides R S T g h f m n a = absurd a

left_norm : (g : Patching) (b : Rest) (q x : Rest) → NormTo g q x → NormTo g (Beside q b) (Beside x (norm g b))
left_norm g b q x h = ap (λ z. beside z (norm g b)) h ∙ ap (beside (flat x)) (sym (flat_norm g b))

right_norm : (g : Patching) (a : Rest) (q x : Rest) → NormTo g q x → NormTo g (Beside a q) (Beside (norm g a) x)
right_norm g a q x h = ap (beside (norm g a)) h ∙ ap (λ z. beside z (flat x)) (sym (flat_norm g a))

beside_steps : (g : Patching) (K : Type 0) (P : Store → Type 0) (s : Setting) (t : Store) (a b : Rest) → Steps g K P s t a → Steps g K P s t b → Steps g K P s t (Beside a b)
beside_steps g K P s t a b (inl k) j =
    inl (record {
      rest = Beside k.rest b;
      store = k.store;
      goes = rw (k.goes);
      kept = λ h. ap (λ y. beside y (norm g b)) (k.kept h);
      passed = k.passed;
    })
beside_steps g K P s t a b (inr k) j =
    let p = sides s t (norm g a) (norm g b) in
    let close = λ (d : is_done (Beside a b) ≡ is_done (Beside (norm g a) (norm g b))) (l : Alike (NormTo g) SameStore (move s t (Beside a b)) (move s t (Beside (norm g a) (norm g b)))).
    steps_by g K P s t (Beside a b) (move s t (Beside a b)) (beside (norm g a) (norm g b)) refl refl (d ∙ p.done_both)
    (alike_then g (move s t (Beside a b)) (move s t (Beside (norm g a) (norm g b))) (move s t (beside (norm g a) (norm g b))) l p.same) in
    let left = around_alike (NormTo g) (NormTo g) SameStore (λ q. Beside q b) (λ q. Beside q (norm g b)) (left_norm g b) (move s t a) (move s t (norm g a)) k.1 in
    ⊎_elim (λ (i : Aside g K P (norm g b) (move s t b)).
    ⊎_elim (λ (e : (move s t a ≡ Stays) × (move s t (norm g a) ≡ Stays)).
    inl (record {
      rest = Beside a i.rest;
      store = i.store;
      goes = rw (e.0, i.goes);
      kept = λ h. ap (beside (norm g a)) (i.kept h);
      passed = i.passed;
    }))
    (λ (e : Hides (NormTo g) SameStore (λ q. Beside q b) (λ q. Beside q (norm g b)) (move s t a) (move s t (norm g a))).
    ⊎_elim (λ (d : is_done a ≡ true). absurd (e.goes_on (done_stays s t a d)))
    (λ (d : is_done a ≡ false).
    close (rw d (rw (sym k.0 ∙ d))) (e.same (around (λ q. Beside a q) (move s t b)) (around (λ q. Beside (norm g a) q) (move s t (norm g b)))))
    (cases (is_done a)))
    (hides (NormTo g) (NormTo g) SameStore (λ q. Beside q b) (λ q. Beside q (norm g b)) (left_norm g b) (move s t a) (move s t (norm g a)) k.1))
    (λ (i : (is_done b ≡ is_done (norm g b)) × Alike (NormTo g) SameStore (move s t b) (move s t (norm g b))).
    close (ap (λ z. z && is_done b) k.0 ∙ ap (λ z. is_done (norm g a) && z) i.0) (or_alike (NormTo g) SameStore (around (λ q. Beside q b) (move s t a)) (around (λ q. Beside q (norm g b)) (move s t (norm g a))) (around (λ q. Beside a q) (move s t b)) (around (λ q. Beside (norm g a) q) (move s t (norm g b)))
    left (around_alike (NormTo g) (NormTo g) SameStore (λ q. Beside a q) (λ q. Beside (norm g a) q) (right_norm g a) (move s t b) (move s t (norm g b)) i.1)))
    j

-- each step of a rest is one of its normal form, or a patch takes it aside
pub normal_steps : (g : Patching) (K : Type 0) (P : Store → Type 0) (s : Setting) (t : Store) → Patches g K P s t → (r : Rest) → Steps g K P s t r
normal_steps g K P s t q Done = inr (refl, tt)
normal_steps g K P s t q (OnActivity n x k o) = inr (refl, tt)
normal_steps g K P s t q (OnTimer n) = inr (refl, tt)
normal_steps g K P s t q (OnSignal x n) = inr (refl, signal_alike (NormTo g) SameStore (oldest n t.buffer) _ _ _ _ (λ v. (refl, refl)) tt)
normal_steps g K P s t q (OnSignalFor x n m b) = inr (refl, signal_alike (NormTo g) SameStore (oldest n t.buffer) _ _ _ _ (λ v. (refl, refl, refl)) tt)
normal_steps g K P s t q (Raised c v) = inr (refl, refl)
normal_steps g K P s t q (Then r b) =
    ⊎_elim (λ (e : is_done r ≡ true). then_done g K P s t q r b e) (λ (e : is_done r ≡ false). then_goes g K P s t r b e (normal_steps g K P s t q r)) (cases (is_done r))
normal_steps g K P s t q (Beside a b) = beside_steps g K P s t a b (normal_steps g K P s t q a) (normal_steps g K P s t q b)
