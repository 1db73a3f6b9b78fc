-- What a worker has told, one report more.
use Rattle.std.proofs.Common.{◌≡◌, ℕ, zero, suc, List, [], ◌∷◌, ◌++◌, Bool, true, false, Some, is_some, if◌then◌else◌, set, get_or, drop, length, ◌<◌, refl, sym, ap, ◌∙◌, subst, arith, append_assoc, append-nil, bytes_eq}
use Rattle.std.proofs.lemmas.Option.{same_Some, none-some}
use Rattle.std.specs.List.{AllByRecursion, slice_get}
use Rattle.flow_base.specs.declared.command.Command.{Command}
use Rattle.flow_pool.specs.declared.activity.Attempt.{Attempt}
use Rattle.flow_base.specs.declared.task.Task.{Task}
use Rattle.flow_pool.specs.Reports.{Telling, first_named, is_left, MayCome, IsUnheard, Reported, Does, GoesOn}

-- one more that wasn't heard
pub unheard_next : (c : Command) (before : List Telling) (x : Telling) → AllByRecursion (IsUnheard c) before → IsUnheard c x → AllByRecursion (IsUnheard c) (before ++ x ∷ [])
unheard_next c [] x all one = (one, tt)
unheard_next c (b ∷ bs) x all one = (all.0, unheard_next c bs x all.1 one)

-- one more task, at which somebody heard
pub goes_on : (tells : ℕ → Type 0) (may : Task → Attempt → Type 0) (left : Task → Bool) (ts : List Task) (log : List Telling) (t : Task) (one : List Telling) → GoesOn tells may left ts log
    → Does tells may t (left t) one false → GoesOn tells may left (ts ++ t ∷ []) (log ++ one)
goes_on tells may left [] log t one went told = (one, [], ap (λ l. l ++ one) went ∙ sym (append-nil one), told, refl)
goes_on tells may left (s ∷ ts) log t one went told =
    (went.0, went.1 ++ one, ap (λ l. l ++ one) went.2 ∙ append_assoc went.0 went.1 one, went.3, goes_on tells may left ts went.1 t one went.4 told)

-- what may come by one set of activities may come by another
pub reported_by : (tells : ℕ → Type 0) (may more : Task → Attempt → Type 0) (t : Task) (log : List Telling) (over : Bool) → ((s : Task) (a : Attempt) → may s a → more s a) → Reported tells may t log over
    → Reported tells more t log over
reported_by tells may more t log over weaker (a, came, at, clocked, first, e, rest, is, told, follows) = (a, weaker t a came, at, clocked, first, e, rest, is, told, follows)

-- and so may what is left alone by one, where the same are left alone by the other
pub does_by : (tells : ℕ → Type 0) (may more : Task → Attempt → Type 0) (t : Task) (left : Bool) (log : List Telling) (over : Bool) → ((s : Task) (a : Attempt) → may s a → more s a)
    → Does tells may t left log over → Does tells more t left log over
does_by tells may more t true log over weaker does = does
does_by tells may more t false log over weaker does = reported_by tells may more t log over weaker does

pub does_as : (tells : ℕ → Type 0) (may more : Task → Attempt → Type 0) (t : Task) (left is : Bool) (log : List Telling) (over : Bool) → left ≡ is → ((s : Task) (a : Attempt) → may s a → more s a)
    → Does tells may t left log over → Does tells more t is log over
does_as tells may more t left is log over same weaker does = subst (λ b. Does tells more t b log over) same (does_by tells may more t left log over weaker does)

-- the names are those of before
pub left_same : {X : Type 0} (leaves : Bool) (named : X → List ℕ) (xs ys : List X) (t : Task) → ((name : List ℕ) → is_some (first_named named name xs) ≡ is_some (first_named named name ys)) → is_left leaves named xs t ≡ is_left leaves named ys t
left_same leaves named xs ys t same = ap (λ b. if b then false else leaves) (same t.activity)

-- what is reported is done where a task isn't left alone, and nothing where it is
pub does_work : (tells : ℕ → Type 0) (may : Task → Attempt → Type 0) (t : Task) (left : Bool) (log : List Telling) (over : Bool) → left ≡ false → Reported tells may t log over → Does tells may t left log over
does_work tells may t left log over is told = subst (λ b. Does tells may t b log over) (sym is) told

pub does_nothing : (tells : ℕ → Type 0) (may : Task → Attempt → Type 0) (t : Task) (left : Bool) → left ≡ true → Does tells may t left [] false
does_nothing tells may t left is = subst (λ b. Does tells may t b [] false) (sym is) (refl, refl)

-- one activity in the place of another of its name
pub named_set : {X : Type 0} (named : X → List ℕ) (xs : List X) (i : ℕ) (x y : X) → i < length xs → get_or xs i x ≡ x → named y ≡ named x
    → (name : List ℕ) → is_some (first_named named name (set xs i y)) ≡ is_some (first_named named name xs)
named_set named [] i x y less at same name = absurd (omega arith)
named_set named (z ∷ zs) zero x y less at same name = go (bytes_eq (named z) name) refl
  where
    go : (b : Bool) → bytes_eq (named z) name ≡ b → is_some (first_named named name (set (z ∷ zs) zero y)) ≡ is_some (first_named named name (z ∷ zs))
    go true is = rw (same, sym (ap named at), is) refl
    go false is = rw (same, sym (ap named at), is) refl
named_set named (z ∷ zs) (suc i) x y less at same name = go (named_set named zs i x y (omega arith) at same name) (bytes_eq (named z) name) refl
  where
    go : is_some (first_named named name (set zs i y)) ≡ is_some (first_named named name zs) → (b : Bool) → bytes_eq (named z) name ≡ b → is_some (first_named named name (set (z ∷ zs) (suc i) y)) ≡ is_some (first_named named name (z ∷ zs))
    go rest true is = rw is refl
    go rest false is = rw is rest

-- an activity that has run gives no more than before
pub may_set : {X : Type 0} (named : X → List ℕ) (gives : X → Task → Attempt → Type 0) (xs : List X) (i : ℕ) (x y : X) → i < length xs → get_or xs i x ≡ x → named y ≡ named x
    → ((t : Task) (a : Attempt) → gives y t a → gives x t a)
    → (t : Task) (a : Attempt) → MayCome named gives (set xs i y) t a → MayCome named gives xs t a
may_set named gives [] i x y less at same keeps t a came = absurd (omega arith)
may_set named gives (z ∷ zs) zero x y less at same keeps t a came = go (bytes_eq (named z) t.activity) refl
  where
    go : (b : Bool) → bytes_eq (named z) t.activity ≡ b → MayCome named gives (z ∷ zs) t a
    go true is = rw is (subst (λ w. gives w t a) (sym at) (keeps t a (rw (same, sym (ap named at), is) at came)))
    go false is = rw is (rw (same, sym (ap named at), is) at came)
may_set named gives (z ∷ zs) (suc i) x y less at same keeps t a came = go (may_set named gives zs i x y (omega arith) at same keeps t a) (bytes_eq (named z) t.activity) refl
  where
    go : (MayCome named gives (set zs i y) t a → MayCome named gives zs t a) → (b : Bool) → bytes_eq (named z) t.activity ≡ b → MayCome named gives (z ∷ zs) t a
    go rest true is = rw is (rw is at came)
    go rest false is = rw is (rest (rw is at came))

-- the first that has a name
pub found_at : {X : Type 0} (named : X → List ℕ) (name : List ℕ) (xs : List X) (i : ℕ) (x : X) → slice_get xs i ≡ Some x → bytes_eq (named x) name ≡ true → first_named named name (drop i xs) ≡ slice_get xs i
found_at named name [] i x at same = absurd (none-some x at)
found_at named name (z ∷ zs) zero x at same = let here : bytes_eq (named z) name ≡ true = ap (λ w. bytes_eq (named w) name) (same_Some z x at) ∙ same in rw here refl
found_at named name (z ∷ zs) (suc i) x at same = found_at named name zs i x at same
