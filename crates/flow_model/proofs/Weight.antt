-- A turn ends: each step makes what is left lighter. A loop weighs as much as all the turns that its tests still allow.
use Rattle.std.proofs.Common.{◌≡◌, ℕ, suc, ◌+◌, ◌*◌, ◌<◌, ◌≤◌, List, [], refl, subst, arith, Option, Some, None, Result, Ok, Err, Bool, true, false}
use Rattle.std.specs.Prelude.{if◌then◌else◌, nat_lt}
use Rattle.std.proofs.lemmas.Bool.Decides.{nat_tests}
use Rattle.flow_base.specs.Syntax.{Bytes, Expression, Statement, Let, Assign, Call, WaitSignal, WaitSignalFor, Sleep, If, While, Parallel, Patch, Deprecate, Return, FailWith, Continue, Block, End, Next, Branches, NoBranch, Branch}
use Rattle.flow_base.specs.declared.value.Value.{Value}
use Rattle.flow_base.specs.declared.event.Cause.{Cause}
use Rattle.flow_base.specs.declared.event.Cause.TheVariants.{WaitLimit}
use Rattle.flow_base.specs.declared.event.Cmd.{Cmd}
use Rattle.flow_base.specs.declared.event.Cmd.TheVariants.{Complete}
use Rattle.flow_base.specs.declared.value.Value.TheVariants.{Text}
use Rattle.std.proofs.lemmas.Bool.{true≢false}
use Rattle.flow_base.specs.declared.event.State.{State}
use Rattle.flow_base.specs.declared.event.State.TheVariants.{Open, Unbegun, Completed, Failed, Continued, Terminated}
use Rattle.flow_model.specs.Weights.{weight, weight_block, weight_branches, weight_rest, left, weight_open, weight_of}
use Rattle.flow_model.specs.Values.{value, values, due, is_true}
use Rattle.flow_model.specs.Rest.{Rest, Done, OnActivity, OnTimer, OnSignal, OnSignalFor, Raised, Then, Beside, rest_of, branches_of, is_done}
use Rattle.flow_model.specs.Configuration.{is_open}
use Rattle.flow_model.specs.Step.{Store, Setting, Move, Stays, Goes, Asks, Ends, on_value, on_signal, oldest, waiting, wait_limit, test_limit, tested, picked, patched, begin, around, first_of, followed_by, or_move, move, raise}
use Rattle.flow_model.specs.Deliver.{Progress}
use Rattle.flow_model.specs.Turn.{Frame, next, setting, state_after_command, ended, after_move, steps}

-- fewer tests weigh no more
loop_le : (m n a b : ℕ) → m ≤ n → a ≤ b → m * (a + 1) + 1 ≤ n * (b + 1) + 1
loop_le m n a b h k = grind arith

mutual
  le : (m n : ℕ) (s : Statement) → m ≤ n → weight m s ≤ weight n s
  le m n (Let at name_at x e) h = omega arith
  le m n (Assign at x e) h = omega arith
  le m n (Call at x activity_at a es r o) h = omega arith
  le m n (WaitSignal at x signal_at s) h = omega arith
  le m n (WaitSignalFor at x signal_at s e b end) h = omega arith
  le m n (Sleep at e) h = omega arith
  le m n (If at e a a_end b b_end) h = omega (arith, le_block m n a h, le_block m n b h)
  le m n (While at e b end) h = loop_le m n (weight_block m b) (weight_block n b) h (le_block m n b h)
  le m n (Parallel at bs end) h = omega (arith, le_branches m n bs h)
  le m n (Patch at id_at id a a_end b b_end) h = omega (arith, le_block m n a h, le_block m n b h)
  le m n (Deprecate at id_at id) h = omega arith
  le m n (Return at e) h = omega arith
  le m n (FailWith at e) h = omega arith
  le m n (Continue at es) h = omega arith

  le_block : (m n : ℕ) (b : Block) → m ≤ n → weight_block m b ≤ weight_block n b
  le_block m n End h = omega arith
  le_block m n (Next s b) h = omega (arith, le m n s h, le_block m n b h)

  le_branches : (m n : ℕ) (bs : Branches) → m ≤ n → weight_branches m bs ≤ weight_branches n bs
  le_branches m n NoBranch h = omega arith
  le_branches m n (Branch at b end bs) h = omega (arith, le_block m n b h, le_branches m n bs h)

le_rest : (m n : ℕ) (r : Rest) → m ≤ n → weight_rest m r ≤ weight_rest n r
le_rest m n Done h = omega arith
le_rest m n (OnActivity e x k o) h = omega arith
le_rest m n (OnTimer e) h = omega arith
le_rest m n (OnSignal x s) h = omega arith
le_rest m n (OnSignalFor x s e b) h = omega arith
le_rest m n (Raised c t) h = omega arith
le_rest m n (Then r b) h = omega (arith, le_rest m n r h, le_block m n b h)
le_rest m n (Beside a b) h = omega (arith, le_rest m n a h, le_rest m n b h)

-- a move makes it lighter than w, and gives no test back
abbrev Falls : ℕ → ℕ → Move → Type 0
Falls n w Stays = Unit {0}
Falls n w (Goes r t) = (left t ≤ n) × (weight_rest (left t) r < w)
Falls n w (Asks r t c) = (left t ≤ n) × (weight_rest (left t) r < w)
Falls n w (Ends c) = is_open (state_after_command c) ≡ false

module _ (n w : ℕ) where
  falls_on_value : {A : Type 0} (r : Result A Cause) (f : A → Move) → ((v : A) → Falls n w (f v)) → Falls n w (on_value r f)
  falls_on_value (Ok v) f h = h v
  falls_on_value (Err c) f h = refl

  falls_on_signal : (o : Option Value) (f : Value → Move) (m : Move) → ((v : Value) → Falls n w (f v)) → Falls n w m → Falls n w (on_signal o f m)
  falls_on_signal None f m h k = k
  falls_on_signal (Some v) f m h k = h v

  falls_if : (b : Bool) (x y : Move) → (b ≡ true → Falls n w x) → Falls n w y → Falls n w (if b then x else y)
  falls_if true x y h k = h refl
  falls_if false x y h k = k

  falls_waiting : (s : Setting) (m : Move) → Falls n w m → Falls n w (waiting s m)
  falls_waiting s m h = falls_if (nat_lt s.waits wait_limit) m (raise WaitLimit) (λ _. h) refl

falls_then : (n w : ℕ) (b : Block) (m : Move) → Falls n w m → Falls n (w + weight_block n b) (around (λ r. Then r b) m)
falls_then n w b Stays h = tt
falls_then n w b (Goes r t) h = (h.0, omega (arith, h.1, le_block (left t) n b h.0))
falls_then n w b (Asks r t c) h = (h.0, omega (arith, h.1, le_block (left t) n b h.0))
falls_then n w b (Ends c) h = h

falls_followed : (n w : ℕ) (b : Block) (m : Move) → Falls n w m → Falls n (w + weight_block n b) (around (followed_by b) m)
falls_followed n w End Stays h = tt
falls_followed n w End (Goes r t) h = (h.0, omega (arith, h.1))
falls_followed n w End (Asks r t c) h = (h.0, omega (arith, h.1))
falls_followed n w End (Ends c) h = h
falls_followed n w (Next s b) m h = falls_then n w (Next s b) m h

falls_left : (n w : ℕ) (b : Rest) (m : Move) → Falls n w m → Falls n (w + weight_rest n b) (around (λ r. Beside r b) m)
falls_left n w b Stays h = tt
falls_left n w b (Goes r t) h = (h.0, omega (arith, h.1, le_rest (left t) n b h.0))
falls_left n w b (Asks r t c) h = (h.0, omega (arith, h.1, le_rest (left t) n b h.0))
falls_left n w b (Ends c) h = h

falls_right : (n w : ℕ) (a : Rest) (m : Move) → Falls n w m → Falls n (weight_rest n a + w) (around (λ r. Beside a r) m)
falls_right n w a Stays h = tt
falls_right n w a (Goes r t) h = (h.0, omega (arith, h.1, le_rest (left t) n a h.0))
falls_right n w a (Asks r t c) h = (h.0, omega (arith, h.1, le_rest (left t) n a h.0))
falls_right n w a (Ends c) h = h

falls_or : (n w : ℕ) (m k : Move) → Falls n w m → Falls n w k → Falls n w (or_move m k)
falls_or n w Stays k h g = g
falls_or n w (Goes r t) k h g = h
falls_or n w (Asks r t c) k h g = h
falls_or n w (Ends c) k h g = h

falls_picked : (n : ℕ) (b : Bool) (x y : Block) → weight_rest n (picked b x y) ≤ weight_block n x + weight_block n y
falls_picked n true x y = omega arith
falls_picked n false x y = omega arith

weight_branches_of : (n : ℕ) (bs : Branches) → weight_rest n (branches_of bs) ≡ weight_branches n bs
weight_branches_of n NoBranch = refl
weight_branches_of n (Branch at b end bs) = omega (arith, weight_branches_of n bs)

falls_patched : (s : Setting) (t : Store) (at id_at a_end b_end : ℕ) (id : Bytes) (a b : Block) (o : Option Bool) → Falls (left t) (weight (left t) (Patch at id_at id a a_end b b_end)) (patched s t id a b o)
falls_patched s t at id_at a_end b_end id a b (Some f) = (omega arith, omega (arith, falls_picked (left t) f a b))
falls_patched s t at id_at a_end b_end id a b None = falls_if (left t) _ (s.answer id) _ _ (λ _. (omega arith, omega arith)) (omega arith, omega arith)

falls_deprecated : (s : Setting) (t : Store) (at id_at : ℕ) (id : Bytes) (o : Option Bool) → Falls (left t) (weight (left t) (Deprecate at id_at id)) (patched s t id End End o)
falls_deprecated s t at id_at id (Some f) = (omega arith, omega (arith, falls_picked (left t) f End End))
falls_deprecated s t at id_at id None = falls_if (left t) _ (s.answer id) _ _ (λ _. (omega arith, omega arith)) (omega arith, omega arith)

loop_step : (m a b n : ℕ) → n ≡ suc m → a ≤ b → (0 + a) + ((m * (a + 1) + 1) + 0) < n * (b + 1) + 1
loop_step m a b n e h = rw e (omega (arith, loop_le m m a b (omega arith) h))

test_is : (a b : ℕ) → nat_lt a b ≡ true → a < b
test_is a b e = grind (arith, nat_tests)

-- one more turn of a loop
falls_loop : (t : Store) (at end : ℕ) (e : Expression) (b : Block) (more : Bool) → t.tests < test_limit → Falls (left t) (weight (left t) (While at e b end)) (Goes (if more then Then (rest_of b) (Next (While at e b end) End) else Done) (tested t))
falls_loop t at end e b true h =
    (omega arith, loop_step (left (tested t)) (weight_block (left (tested t)) b) (weight_block (left t) b) (left t) (omega arith) (le_block (left (tested t)) (left t) b (omega arith)))
falls_loop t at end e b false h = (omega arith, omega arith)

falls_begin : (s : Setting) (t : Store) (st : Statement) → Falls (left t) (weight (left t) st) (begin s t st)
falls_begin s t (Let at name_at x e) = falls_on_value _ _ (value t.variables s.at e) _ (λ v. (omega arith, omega arith))
falls_begin s t (Assign at x e) = falls_on_value _ _ (value t.variables s.at e) _ (λ v. (omega arith, omega arith))
falls_begin s t (Call at x activity_at a es r o) = falls_on_value _ _ (values t.variables s.at es) _ (λ v. falls_waiting _ _ s _ (omega arith, omega arith))
falls_begin s t (WaitSignal at x signal_at n) = falls_on_signal _ _ (oldest n t.buffer) _ _ (λ v. (omega arith, omega arith)) (falls_waiting _ _ s _ (omega arith, omega arith))
falls_begin s t (WaitSignalFor at x signal_at n e b end) = falls_on_signal _ _ (oldest n t.buffer) _ _ (λ v. (omega arith, omega arith)) (falls_on_value _ _ (due t.variables s.at e) _ (λ d. falls_waiting _ _ s _ (omega arith, omega arith)))
falls_begin s t (Sleep at e) = falls_on_value _ _ (due t.variables s.at e) _ (λ d. falls_waiting _ _ s _ (omega arith, omega arith))
falls_begin s t (If at e a a_end b b_end) = falls_on_value _ _ (value t.variables s.at e) _ (λ v. (omega arith, omega (arith, falls_picked (left t) (is_true v) a b)))
falls_begin s t (While at e b end) = falls_if _ _ (nat_lt t.tests test_limit) _ _ (λ h. falls_on_value _ _ (value t.variables s.at e) _ (λ v. falls_loop t at end e b (is_true v) (test_is _ _ h))) refl
falls_begin s t (Parallel at bs end) = (omega arith, omega (arith, weight_branches_of (left t) bs))
falls_begin s t (Patch at id_at id a a_end b b_end) = falls_patched s t at id_at a_end b_end id a b (t.decided id)
falls_begin s t (Deprecate at id_at id) = falls_deprecated s t at id_at id (t.decided id)
falls_begin s t (Return at e) = falls_on_value _ _ (value t.variables s.at e) _ (λ v. refl)
falls_begin s t (FailWith at e) = falls_on_value _ _ (value t.variables s.at e) _ (λ v. refl)
falls_begin s t (Continue at es) = falls_on_value _ _ (values t.variables s.at es) _ (λ v. falls_if _ _ s.is_first _ _ (λ _. refl) refl)

falls_first : (s : Setting) (t : Store) (b : Block) → Falls (left t) (weight_block (left t) b) (first_of s t b)
falls_first s t End = tt
falls_first s t (Next st b) = falls_followed _ _ b _ (falls_begin s t st)

more_room : (n w v : ℕ) (m : Move) → w ≤ v → Falls n w m → Falls n v m
more_room n w v Stays h f = tt
more_room n w v (Goes r t) h f = (f.0, omega (arith, f.1))
more_room n w v (Asks r t c) h f = (f.0, omega (arith, f.1))
more_room n w v (Ends c) h f = f

pub falls : (s : Setting) (t : Store) (r : Rest) → Falls (left t) (weight_rest (left t) r) (move s t r)
falls s t Done = tt
falls s t (OnActivity n x k o) = tt
falls s t (OnTimer n) = tt
falls s t (OnSignal x n) = falls_on_signal _ _ (oldest n t.buffer) _ _ (λ v. (omega arith, omega arith)) tt
falls s t (OnSignalFor x n e b) = falls_on_signal _ _ (oldest n t.buffer) _ _ (λ v. (omega arith, omega arith)) tt
falls s t (Raised c text) = refl
falls s t (Then r b) =
    falls_if _ _ (is_done r) _ _ (λ _. more_room _ _ _ (first_of s t b) (omega arith) (falls_first s t b)) (falls_then _ _ b _ (falls s t r))
falls s t (Beside a b) =
    falls_or _ _ _ _ (falls_left _ _ b _ (falls s t a)) (falls_right _ _ a _ (falls s t b))

abbrev Lighter : ℕ → Option Progress → Type 0
Lighter w None = Unit {0}
Lighter w (Some q) = weight_of q < w

closed_weighs : (st : State) (w : ℕ) → is_open st ≡ false → weight_open st w ≡ 0
closed_weighs Open w e = absurd (true≢false e)
closed_weighs Unbegun w e = refl
closed_weighs Completed w e = refl
closed_weighs Failed w e = refl
closed_weighs Continued w e = refl
closed_weighs Terminated w e = refl

lighter_move : (r : Rest) (t : Store) (asked : List Cmd) (m : Move) → Falls (left t) (weight_rest (left t) r) m → Lighter (weight_rest (left t) r + 1) (after_move (record { rest = r; store = t; asked = asked; state = Open }) m)
lighter_move r t asked Stays h = tt
lighter_move r t asked (Goes q u) h = omega (arith, h.1)
lighter_move r t asked (Asks q u c) h = omega (arith, h.1)
lighter_move r t asked (Ends c) h = omega (arith, closed_weighs (state_after_command c) 0 h)

lighter_at : (f : Frame) (r : Rest) (t : Store) (asked : List Cmd) (st : State) → Lighter (weight_open st (weight_rest (left t) r)) (next f (record { rest = r; store = t; asked = asked; state = st }))
lighter_at f r t asked Open =
    let p : Progress = record { rest = r; store = t; asked = asked; state = Open } in
    elim (is_done r) as (λ b. Lighter (weight_rest (left t) r + 1) (if b then Some (ended p (Complete (Text []))) else after_move p (move (setting f p) t r))) [
      | true ↦ omega arith
      | false ↦ lighter_move r t asked (move (setting f p) t r) (falls (setting f p) t r)
    ]
lighter_at f r t asked Unbegun = tt
lighter_at f r t asked Completed = tt
lighter_at f r t asked Failed = tt
lighter_at f r t asked Continued = tt
lighter_at f r t asked Terminated = tt

pub next_lighter : (f : Frame) (p q : Progress) → next f p ≡ Some q → weight_of q < weight_of p
next_lighter f p q e = subst (Lighter (weight_of p)) e (lighter_at f p.rest p.store p.asked p.state)

pub rests_here : (f : Frame) (p : Progress) → next f p ≡ None → steps 1 f p ≡ Some p
rests_here f p e = rw e

pub one_more : (f : Frame) (p q : Progress) (n : ℕ) → next f p ≡ Some q → steps (suc n) f p ≡ steps n f q
one_more f p q n e = rw e
