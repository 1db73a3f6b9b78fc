-- A rest of the old program steps alike under both programs, and asks for no new marker.
use Rattle.std.proofs.Common.{◌≡◌, ℕ, List, [], ◌∷◌, ◌++◌, refl, sym, ap, ◌∙◌, Option, Some, None, Result, Ok, Err, Bool, true, false, ⊎_elim, inr}
use Rattle.std.specs.Prelude.{bytes_eq, if◌then◌else◌, nat_lt, nat_eq, ◌⊎◌}
use Rattle.std.proofs.lemmas.Bool.{true≢false}
use Rattle.std.specs.Cmp.Lexicographic.{bytes_decides}
use Rattle.flow_base.specs.Syntax.{Bytes, Expression, Statement, Let, Assign, Call, WaitSignal, WaitSignalFor, Sleep, If, While, Parallel, Patch, Deprecate, Return, FailWith, Continue, Block, End, Next, Otherwise, NoElse, Else, Branches, NoBranch, Branch, ActivityType}
use Rattle.flow_base.specs.declared.value.Value.{Value}
use Rattle.flow_base.specs.declared.event.Cause.{Cause}
use Rattle.flow_base.specs.declared.event.Cause.TheVariants as C
use Rattle.flow_base.specs.declared.event.Cmd.{Cmd}
use Rattle.flow_base.specs.declared.event.Cmd.TheVariants.{RecordMarker}
use Rattle.flow_model.specs.Values.{value, values, due, is_true}
use Rattle.flow_model.specs.Rest.{Rest, Done, OnActivity, OnTimer, OnSignal, OnSignalFor, Raised, Then, Beside, rest_of, rest_else, branches_of, is_done}
use Rattle.flow_model.specs.Step.{Store, Setting, Move, Stays, Goes, Asks, Ends, on_value, on_signal, oldest, wait_limit, test_limit, picked, patched, begin, around, first_of, followed_by, or_move, move, gives_of}
use Rattle.flow_model.specs.Deliver.{replaced, map_rest, or_rest, when_completed, when_failed, when_fired}
use Rattle.flow_patch.proofs.Owned.{is_declared, Own, OwnBlock, OwnOtherwise, OwnBranches}
use Rattle.flow_patch.proofs.Normal.{cases}

abbrev pub OwnRest : (Bytes → Bool) → List ActivityType → Rest → Type 0
OwnRest f acts Done = Unit {0}
OwnRest f acts (OnActivity n x k o) = OwnOtherwise f acts o
OwnRest f acts (OnTimer n) = Unit {0}
OwnRest f acts (OnSignal x s) = Unit {0}
OwnRest f acts (OnSignalFor x s n b) = OwnBlock f acts b
OwnRest f acts (Raised c t) = Unit {0}
OwnRest f acts (Then r b) = OwnRest f acts r × OwnBlock f acts b
OwnRest f acts (Beside a b) = OwnRest f acts a × OwnRest f acts b

-- the old program asks for no new marker
abbrev pub OwnCmd : (Bytes → Bool) → Cmd → Type 0
OwnCmd f (RecordMarker id) = f id ≡ false
OwnCmd f c = Unit {0}

-- answers that differ on new patches alone, which are not decided or decided no
abbrev pub NearDecided : (Bytes → Bool) → (Bytes → Option Bool) → (Bytes → Option Bool) → Type 0
NearDecided f e d = (id : Bytes) → (f id ≡ false → d id ≡ e id) × (f id ≡ true → (d id ≡ None) ⊎ (d id ≡ Some false))

abbrev pub with_decided : Store → (Bytes → Option Bool) → Store
with_decided t d = record t { decided = d }

abbrev pub Near : (Bytes → Bool) → Store → Store → Type 0
Near f t u = (d : Bytes → Option Bool) × ((u ≡ with_decided t d) × NearDecided f t.decided d)

pub near_more : (f : Bytes → Bool) (e d : Bytes → Option Bool) (id : Bytes) (b : Bool) → f id ≡ false → NearDecided f e d → NearDecided f (λ i. if bytes_eq i id then Some b else e i) (λ i. if bytes_eq i id then Some b else d i)
near_more f e d id b h n i =
    ⊎_elim (λ (x : bytes_eq i id ≡ true).
    ((λ o. rw x), (λ o. absurd (true≢false (sym o ∙ ap f ((bytes_decides i id).0 x) ∙ h)))))
    (λ (x : bytes_eq i id ≡ false). ((λ o. rw x ((n i).0 o)), (λ o. rw x ((n i).1 o)))) (cases (bytes_eq i id))

-- a new patch that was passed
pub near_passed : (f : Bytes → Bool) (e d : Bytes → Option Bool) (id : Bytes) → f id ≡ true → NearDecided f e d → NearDecided f e (λ i. if bytes_eq i id then Some false else d i)
near_passed f e d id h n i =
    ⊎_elim (λ (x : bytes_eq i id ≡ true).
    ((λ o. absurd (true≢false (sym h ∙ sym (ap f ((bytes_decides i id).0 x)) ∙ o))), (λ o. rw x (inr refl))))
    (λ (x : bytes_eq i id ≡ false). ((λ o. rw x ((n i).0 o)), (λ o. rw x ((n i).1 o)))) (cases (bytes_eq i id))

abbrev pub Twin : (Bytes → Bool) → List ActivityType → Move → Move → Type 0
Twin f acts Stays Stays = Unit {0}
Twin f acts (Goes q t) (Goes x u) = (q ≡ x) × OwnRest f acts q × Near f t u
Twin f acts (Asks q t c) (Asks x u d) = (q ≡ x) × OwnRest f acts q × Near f t u × (c ≡ d) × OwnCmd f c
Twin f acts (Ends c) (Ends d) = (c ≡ d) × OwnCmd f c
Twin f acts m n = ⊥

value_twin : {A : Type 0} (f : Bytes → Bool) (acts : List ActivityType) (r : Result A Cause) (g h : A → Move) → ((v : A) → Twin f acts (g v) (h v)) → Twin f acts (on_value r g) (on_value r h)
value_twin f acts (Ok v) g h k = k v
value_twin f acts (Err c) g h k = (refl, tt)

signal_twin : (f : Bytes → Bool) (acts : List ActivityType) (o : Option Value) (g h : Value → Move) (m n : Move) → ((v : Value) → Twin f acts (g v) (h v)) → Twin f acts m n → Twin f acts (on_signal o g m) (on_signal o h n)
signal_twin f acts None g h m n k a = a
signal_twin f acts (Some v) g h m n k a = k v

if_twin : (f : Bytes → Bool) (acts : List ActivityType) (b : Bool) (m n k l : Move) → Twin f acts m n → Twin f acts k l → Twin f acts (if b then m else k) (if b then n else l)
if_twin f acts true m n k l a c = a
if_twin f acts false m n k l a c = c

around_twin : (f : Bytes → Bool) (acts : List ActivityType) (g : Rest → Rest) → ((q : Rest) → OwnRest f acts q → OwnRest f acts (g q)) → (m n : Move) → Twin f acts m n → Twin f acts (around g m) (around g n)
around_twin f acts g h Stays Stays a = tt
around_twin f acts g h (Goes q t) (Goes x u) a = (ap g a.0, h q a.1, a.2)
around_twin f acts g h (Asks q t c) (Asks x u d) a = (ap g a.0, h q a.1, a.2, a.3, a.4)
around_twin f acts g h (Ends c) (Ends d) a = a
around_twin f acts g h m n a = absurd a

or_twin : (f : Bytes → Bool) (acts : List ActivityType) (m n k l : Move) → Twin f acts m n → Twin f acts k l → Twin f acts (or_move m k) (or_move n l)
or_twin f acts Stays Stays k l a b = b
or_twin f acts (Goes q t) (Goes x u) k l a b = a
or_twin f acts (Asks q t c) (Asks x u d) k l a b = a
or_twin f acts (Ends c) (Ends d) k l a b = a
or_twin f acts m n k l a b = absurd a

pub gives_more : (acts more : List ActivityType) (a : Bytes) → is_declared acts a ≡ true → gives_of (acts ++ more) a ≡ gives_of acts a
gives_more [] more a e = absurd (true≢false (sym e))
gives_more (x ∷ acts) more a e =
    ⊎_elim (λ (h : bytes_eq x.name a ≡ true). rw h)
    (λ (h : bytes_eq x.name a ≡ false). rw h (gives_more acts more a (rw h at e))) (cases (bytes_eq x.name a))

own_branches : (f : Bytes → Bool) (acts : List ActivityType) (bs : Branches) → OwnBranches f acts bs → OwnRest f acts (branches_of bs)
own_branches f acts NoBranch o = tt
own_branches f acts (Branch at b end bs) o = ((tt, o.0), own_branches f acts bs o.1)

own_picked : (f : Bytes → Bool) (acts : List ActivityType) (b : Bool) (x y : Block) → OwnBlock f acts x → OwnBlock f acts y → OwnRest f acts (picked b x y)
own_picked f acts true x y o p = (tt, o)
own_picked f acts false x y o p = (tt, p)

own_turns : (f : Bytes → Bool) (acts : List ActivityType) (b : Bool) (at : ℕ) (e : Expression) (x : Block) (end : ℕ) → OwnBlock f acts x → OwnRest f acts (if b then Then (rest_of x) (Next (While at e x end) End) else Done)
own_turns f acts true at e x end o = ((tt, o), (o, tt))
own_turns f acts false at e x end o = tt

-- the setting under the program that declares more
abbrev pub with_more : Setting → List ActivityType → Setting
with_more s more = record s { activities = s.activities ++ more }

patch_twin : (f : Bytes → Bool) (s : Setting) (more : List ActivityType) (t : Store) (d : Bytes → Option Bool) → NearDecided f t.decided d → (id : Bytes) (a b : Block) → f id ≡ false → OwnBlock f s.activities a → OwnBlock f s.activities b → (o : Option Bool) → Twin f s.activities (patched s t id a b o) (patched (with_more s more) (with_decided t d) id a b o)
patch_twin f s more t d n id a b h x y (Some first) = (refl, own_picked f s.activities first a b x y, (d, (refl, n)))
patch_twin f s more t d n id a b h x y None =
    if_twin f s.activities (s.answer id) _ _ _ _
    (refl, (tt, x), ((λ i. if bytes_eq i id then Some true else d i), (refl, near_more f t.decided d id true h n)), refl, h)
    (refl, (tt, y), ((λ i. if bytes_eq i id then Some false else d i), (refl, near_more f t.decided d id false h n)))

begin_twin : (f : Bytes → Bool) (s : Setting) (more : List ActivityType) (t : Store) (d : Bytes → Option Bool) → NearDecided f t.decided d → (st : Statement) → Own f s.activities st → Twin f s.activities (begin s t st) (begin (with_more s more) (with_decided t d) st)
begin_twin f s more t d n (Let at name_at x e) o = value_twin f s.activities (value t.variables s.at e) _ _ (λ v. (refl, tt, (d, (refl, n))))
begin_twin f s more t d n (Assign at x e) o = value_twin f s.activities (value t.variables s.at e) _ _ (λ v. (refl, tt, (d, (refl, n))))
begin_twin f s more t d n (Call at x activity_at a es r w) o =
    rw (gives_more s.activities more a o.0) (value_twin f s.activities (values t.variables s.at es) _ _ (λ vs. if_twin f s.activities (nat_lt s.waits wait_limit) _ _ _ _ (refl, o.1, (d, (refl, n)), refl, tt) (refl, tt)))
begin_twin f s more t d n (WaitSignal at x signal_at i) o =
    signal_twin f s.activities (oldest i t.buffer) _ _ _ _ (λ v. (refl, tt, (d, (refl, n)))) (if_twin f s.activities (nat_lt s.waits wait_limit) _ _ _ _ (refl, tt, (d, (refl, n))) (refl, tt))
begin_twin f s more t d n (WaitSignalFor at x signal_at i e b end) o =
    signal_twin f s.activities (oldest i t.buffer) _ _ _ _ (λ v. (refl, tt, (d, (refl, n))))
    (value_twin f s.activities (due t.variables s.at e) _ _ (λ w. if_twin f s.activities (nat_lt s.waits wait_limit) _ _ _ _ (refl, o, (d, (refl, n)), refl, tt) (refl, tt)))
begin_twin f s more t d n (Sleep at e) o =
    value_twin f s.activities (due t.variables s.at e) _ _ (λ w. if_twin f s.activities (nat_lt s.waits wait_limit) _ _ _ _ (refl, tt, (d, (refl, n)), refl, tt) (refl, tt))
begin_twin f s more t d n (If at e a a_end b b_end) o = value_twin f s.activities (value t.variables s.at e) _ _ (λ v. (refl, own_picked f s.activities (is_true v) a b o.0 o.1, (d, (refl, n))))
begin_twin f s more t d n (While at e b end) o =
    if_twin f s.activities (nat_lt t.tests test_limit) _ _ _ _
    (value_twin f s.activities (value t.variables s.at e) _ _ (λ v. (refl, own_turns f s.activities (is_true v) at e b end o, (d, (refl, n))))) (refl, tt)
begin_twin f s more t d n (Parallel at bs end) o = (refl, own_branches f s.activities bs o, (d, (refl, n)))
begin_twin f s more t d n (Patch at id_at id a a_end b b_end) o =
    rw ((n id).0 o.0) (patch_twin f s more t d n id a b o.0 o.1 o.2 (t.decided id))
begin_twin f s more t d n (Deprecate at id_at id) o =
    rw ((n id).0 o) (patch_twin f s more t d n id End End o tt tt (t.decided id))
begin_twin f s more t d n (Return at e) o = value_twin f s.activities (value t.variables s.at e) _ _ (λ v. (refl, tt))
begin_twin f s more t d n (FailWith at e) o = value_twin f s.activities (value t.variables s.at e) _ _ (λ v. (refl, tt))
begin_twin f s more t d n (Continue at es) o =
    value_twin f s.activities (values t.variables s.at es) _ _ (λ vs. if_twin f s.activities s.is_first _ _ _ _ (refl, tt) (refl, tt))

own_followed : (f : Bytes → Bool) (acts : List ActivityType) (b : Block) → OwnBlock f acts b → (q : Rest) → OwnRest f acts q → OwnRest f acts (followed_by b q)
own_followed f acts End o q p = p
own_followed f acts (Next s b) o q p = (p, o)

first_twin : (f : Bytes → Bool) (s : Setting) (more : List ActivityType) (t : Store) (d : Bytes → Option Bool) → NearDecided f t.decided d → (b : Block) → OwnBlock f s.activities b → Twin f s.activities (first_of s t b) (first_of (with_more s more) (with_decided t d) b)
first_twin f s more t d n End o = tt
first_twin f s more t d n (Next st b) o =
    around_twin f s.activities (followed_by b) (own_followed f s.activities b o.1) (begin s t st) (begin (with_more s more) (with_decided t d) st) (begin_twin f s more t d n st o.0)

pub move_twin : (f : Bytes → Bool) (s : Setting) (more : List ActivityType) (t : Store) (d : Bytes → Option Bool) → NearDecided f t.decided d → (r : Rest) → OwnRest f s.activities r → Twin f s.activities (move s t r) (move (with_more s more) (with_decided t d) r)
move_twin f s more t d n Done o = tt
move_twin f s more t d n (OnActivity i x k w) o = tt
move_twin f s more t d n (OnTimer i) o = tt
move_twin f s more t d n (OnSignal x i) o = signal_twin f s.activities (oldest i t.buffer) _ _ _ _ (λ v. (refl, tt, (d, (refl, n)))) tt
move_twin f s more t d n (OnSignalFor x i e b) o = signal_twin f s.activities (oldest i t.buffer) _ _ _ _ (λ v. (refl, tt, (d, (refl, n)), refl, tt)) tt
move_twin f s more t d n (Raised c v) o = (refl, tt)
move_twin f s more t d n (Then r b) o =
    if_twin f s.activities (is_done r) _ _ _ _ (first_twin f s more t d n b o.1)
    (around_twin f s.activities (λ q. Then q b) (λ q p. (p, o.1)) (move s t r) (move (with_more s more) (with_decided t d) r) (move_twin f s more t d n r o.0))
move_twin f s more t d n (Beside a b) o =
    or_twin f s.activities _ _ _ _
    (around_twin f s.activities (λ q. Beside q b) (λ q p. (p, o.1)) (move s t a) (move (with_more s more) (with_decided t d) a) (move_twin f s more t d n a o.0))
    (around_twin f s.activities (λ q. Beside a q) (λ q p. (o.0, p)) (move s t b) (move (with_more s more) (with_decided t d) b) (move_twin f s more t d n b o.1))

-- what a delivery leaves is the old program's
abbrev pub OwnOver : (Bytes → Bool) → List ActivityType → Option Rest → Type 0
OwnOver f acts None = Unit {0}
OwnOver f acts (Some r) = OwnRest f acts r

own_map : (f : Bytes → Bool) (acts : List ActivityType) (g : Rest → Rest) → ((q : Rest) → OwnRest f acts q → OwnRest f acts (g q)) → (o : Option Rest) → OwnOver f acts o → OwnOver f acts (map_rest g o)
own_map f acts g h None a = tt
own_map f acts g h (Some q) a = h q a

own_or : (f : Bytes → Bool) (acts : List ActivityType) (o p : Option Rest) → OwnOver f acts o → OwnOver f acts p → OwnOver f acts (or_rest o p)
own_or f acts None p a b = b
own_or f acts (Some q) p a b = a

pub own_replaced : (f : Bytes → Bool) (acts : List ActivityType) (g : Rest → Option Rest) → ((r : Rest) → OwnRest f acts r → OwnOver f acts (g r)) → (r : Rest) → OwnRest f acts r → OwnOver f acts (replaced g r)
own_replaced f acts g h (Then r b) o = own_map f acts (λ q. Then q b) (λ q p. (p, o.1)) (replaced g r) (own_replaced f acts g h r o.0)
own_replaced f acts g h (Beside a b) o =
    own_or f acts _ _ (own_map f acts (λ q. Beside q b) (λ q p. (p, o.1)) (replaced g a) (own_replaced f acts g h a o.0))
    (own_map f acts (λ q. Beside a q) (λ q p. (o.0, p)) (replaced g b) (own_replaced f acts g h b o.1))
own_replaced f acts g h Done o = h Done o
own_replaced f acts g h (OnActivity n x k w) o = h (OnActivity n x k w) o
own_replaced f acts g h (OnTimer n) o = h (OnTimer n) o
own_replaced f acts g h (OnSignal x s) o = h (OnSignal x s) o
own_replaced f acts g h (OnSignalFor x s n b) o = h (OnSignalFor x s n b) o
own_replaced f acts g h (Raised c t) o = h (Raised c t) o

own_if : (f : Bytes → Bool) (acts : List ActivityType) (b : Bool) (r : Rest) → OwnRest f acts r → OwnOver f acts (if b then Some r else None)
own_if f acts true r o = o
own_if f acts false r o = tt

own_else : (f : Bytes → Bool) (acts : List ActivityType) (w : Otherwise) (c : Cause) (t : Bytes) → OwnOtherwise f acts w → OwnRest f acts (rest_else w (Raised c t))
own_else f acts NoElse c t o = tt
own_else f acts (Else b end) c t o = (tt, o)

pub own_completed : (f : Bytes → Bool) (acts : List ActivityType) (n : ℕ) (r : Rest) → OwnRest f acts r → OwnOver f acts (when_completed n r)
own_completed f acts n (OnActivity m x k w) o = own_if f acts (nat_eq m n) Done tt
own_completed f acts n r o = tt

pub own_failed : (f : Bytes → Bool) (acts : List ActivityType) (n : ℕ) (text : Bytes) (r : Rest) → OwnRest f acts r → OwnOver f acts (when_failed n text r)
own_failed f acts n text (OnActivity m x k w) o = own_if f acts (nat_eq m n) (rest_else w (Raised C.ActivityFailed text)) (own_else f acts w C.ActivityFailed text o)
own_failed f acts n text r o = tt

pub own_fired : (f : Bytes → Bool) (acts : List ActivityType) (n : ℕ) (r : Rest) → OwnRest f acts r → OwnOver f acts (when_fired n r)
own_fired f acts n (OnTimer m) o = own_if f acts (nat_eq m n) Done tt
own_fired f acts n (OnSignalFor x s m b) o = own_if f acts (nat_eq m n) (rest_of b) (tt, o)
own_fired f acts n r o = tt
