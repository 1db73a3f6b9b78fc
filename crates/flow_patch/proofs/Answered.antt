-- An answer no that a patch got stays.
use Rattle.std.proofs.Common.{◌≡◌, ℕ, suc, zero, List, [], ◌∷◌, refl, sym, ap, ◌∙◌, subst, Option, Some, None, Result, Ok, Err, Bool, true, false, ⊎_elim}
use Rattle.std.specs.Prelude.{bytes_eq, if◌then◌else◌, nat_lt, ◌&&◌}
use Rattle.std.proofs.lemmas.Bool.{true≢false}
use Rattle.std.specs.Cmp.Lexicographic.{bytes_decides}
use Rattle.flow_base.specs.Syntax.{Bytes, Statement, Let, Assign, Call, WaitSignal, WaitSignalFor, Sleep, If, While, Parallel, Patch, Deprecate, Return, FailWith, Continue, Block, End, Next, Program, signals_of}
use Rattle.flow_base.specs.declared.value.Value.{Value}
use Rattle.flow_base.specs.declared.value.Value.TheVariants as V
use Rattle.flow_base.specs.declared.value.Kind.{Kind}
use Rattle.flow_base.specs.declared.event.Cause.{Cause}
use Rattle.flow_base.specs.declared.event.Cmd.{Cmd}
use Rattle.flow_base.specs.declared.event.Cmd.TheVariants.{Schedule, StartTimer, CancelTimer, RecordMarker, Complete, Fail, ContinueAsNew}
use Rattle.flow_base.specs.declared.event.Input.{Input}
use Rattle.flow_base.specs.declared.event.Input.TheVariants as I
use Rattle.flow_base.specs.declared.event.Event.{Event}
use Rattle.flow_base.specs.declared.event.State.{State}
use Rattle.flow_base.specs.declared.event.State.TheVariants.{Unbegun, Open, Completed, Failed, Continued, Terminated}
use Rattle.flow_model.specs.Values.{Variables, with_variable, value, values, due}
use Rattle.flow_model.specs.Rest.{Rest, Done, OnActivity, OnTimer, OnSignal, OnSignalFor, Raised, Then, Beside, is_done}
use Rattle.flow_model.specs.Configuration.{Configuration, is_open}
use Rattle.flow_model.specs.Step.{Store, Setting, Move, Stays, Goes, Asks, Ends, on_value, on_signal, oldest, wait_limit, test_limit, patched, decide, begin, around, first_of, followed_by, or_move, move}
use Rattle.flow_model.specs.Deliver.{Progress, replaced, has_kind, all_fit, signal_fits, target_of, when_completed, when_failed, when_fired, start_from, with_rest, completed, begun, deliver}
use Rattle.flow_model.specs.Turn.{Frame, next, setting, state_after_command, ended, after_move, steps, go_on, frame, Turn, Recorded}
use Rattle.flow_model.specs.Stands.{Leads}
use Rattle.flow_patch.proofs.Normal.{cases}
use Rattle.flow_patch.proofs.Turns.{none_some}

abbrev pub IsNo : Bytes → Store → Type 0
IsNo id t = t.decided id ≡ Some false

abbrev KeepsNo : Bytes → Move → Type 0
KeepsNo id Stays = Unit {0}
KeepsNo id (Goes q u) = IsNo id u
KeepsNo id (Asks q u c) = IsNo id u
KeepsNo id (Ends c) = Unit {0}

value_keeps : {A : Type 0} (id : Bytes) (r : Result A Cause) (g : A → Move) → ((v : A) → KeepsNo id (g v)) → KeepsNo id (on_value r g)
value_keeps id (Ok v) g k = k v
value_keeps id (Err c) g k = tt

signal_keeps : (id : Bytes) (o : Option Value) (g : Value → Move) (m : Move) → ((v : Value) → KeepsNo id (g v)) → KeepsNo id m → KeepsNo id (on_signal o g m)
signal_keeps id None g m k a = a
signal_keeps id (Some v) g m k a = k v

if_keeps : (id : Bytes) (b : Bool) (m n : Move) → KeepsNo id m → KeepsNo id n → KeepsNo id (if b then m else n)
if_keeps id true m n a b = a
if_keeps id false m n a b = b

around_keeps : (id : Bytes) (g : Rest → Rest) (m : Move) → KeepsNo id m → KeepsNo id (around g m)
around_keeps id g Stays a = a
around_keeps id g (Goes q u) a = a
around_keeps id g (Asks q u c) a = a
around_keeps id g (Ends c) a = a

or_keeps : (id : Bytes) (m n : Move) → KeepsNo id m → KeepsNo id n → KeepsNo id (or_move m n)
or_keeps id Stays n a b = b
or_keeps id (Goes q u) n a b = a
or_keeps id (Asks q u c) n a b = a
or_keeps id (Ends c) n a b = a

-- only what nothing has decided gets an answer
decide_keeps : (id i : Bytes) (t : Store) (b : Bool) → IsNo id t → t.decided i ≡ None → IsNo id (decide t i b)
decide_keeps id i t b h n =
    ⊎_elim (λ (e : bytes_eq id i ≡ true). absurd (none_some false (sym n ∙ sym (ap t.decided ((bytes_decides id i).0 e)) ∙ h)))
    (λ (e : bytes_eq id i ≡ false). rw e h) (cases (bytes_eq id i))

patched_keeps : (id : Bytes) (s : Setting) (t : Store) → IsNo id t → (i : Bytes) (a b : Block) (o : Option Bool) → t.decided i ≡ o → KeepsNo id (patched s t i a b o)
patched_keeps id s t h i a b (Some first) e = h
patched_keeps id s t h i a b None e = if_keeps id (s.answer i) _ _ (decide_keeps id i t true h e) (decide_keeps id i t false h e)

begin_keeps : (id : Bytes) (s : Setting) (t : Store) → IsNo id t → (st : Statement) → KeepsNo id (begin s t st)
begin_keeps id s t h (Let at name_at x e) = value_keeps id (value t.variables s.at e) _ (λ v. h)
begin_keeps id s t h (Assign at x e) = value_keeps id (value t.variables s.at e) _ (λ v. h)
begin_keeps id s t h (Call at x activity_at a es r o) = value_keeps id (values t.variables s.at es) _ (λ vs. if_keeps id (nat_lt s.waits wait_limit) _ _ h tt)
begin_keeps id s t h (WaitSignal at x signal_at n) = signal_keeps id (oldest n t.buffer) _ _ (λ v. h) (if_keeps id (nat_lt s.waits wait_limit) _ _ h tt)
begin_keeps id s t h (WaitSignalFor at x signal_at n e b end) =
    signal_keeps id (oldest n t.buffer) _ _ (λ v. h) (value_keeps id (due t.variables s.at e) _ (λ d. if_keeps id (nat_lt s.waits wait_limit) _ _ h tt))
begin_keeps id s t h (Sleep at e) = value_keeps id (due t.variables s.at e) _ (λ d. if_keeps id (nat_lt s.waits wait_limit) _ _ h tt)
begin_keeps id s t h (If at e a a_end b b_end) = value_keeps id (value t.variables s.at e) _ (λ v. h)
begin_keeps id s t h (While at e b end) = if_keeps id (nat_lt t.tests test_limit) _ _ (value_keeps id (value t.variables s.at e) _ (λ v. h)) tt
begin_keeps id s t h (Parallel at bs end) = h
begin_keeps id s t h (Patch at id_at i a a_end b b_end) = patched_keeps id s t h i a b (t.decided i) refl
begin_keeps id s t h (Deprecate at id_at i) = patched_keeps id s t h i End End (t.decided i) refl
begin_keeps id s t h (Return at e) = value_keeps id (value t.variables s.at e) _ (λ v. tt)
begin_keeps id s t h (FailWith at e) = value_keeps id (value t.variables s.at e) _ (λ v. tt)
begin_keeps id s t h (Continue at es) = value_keeps id (values t.variables s.at es) _ (λ vs. if_keeps id s.is_first _ _ tt tt)

first_keeps : (id : Bytes) (s : Setting) (t : Store) → IsNo id t → (b : Block) → KeepsNo id (first_of s t b)
first_keeps id s t h End = tt
first_keeps id s t h (Next st b) = around_keeps id (followed_by b) (begin s t st) (begin_keeps id s t h st)

move_keeps : (id : Bytes) (s : Setting) (t : Store) → IsNo id t → (r : Rest) → KeepsNo id (move s t r)
move_keeps id s t h Done = tt
move_keeps id s t h (OnActivity n x k o) = tt
move_keeps id s t h (OnTimer n) = tt
move_keeps id s t h (OnSignal x n) = signal_keeps id (oldest n t.buffer) _ _ (λ v. h) tt
move_keeps id s t h (OnSignalFor x n m b) = signal_keeps id (oldest n t.buffer) _ _ (λ v. h) tt
move_keeps id s t h (Raised c v) = tt
move_keeps id s t h (Then r b) = if_keeps id (is_done r) _ _ (first_keeps id s t h b) (around_keeps id _ (move s t r) (move_keeps id s t h r))
move_keeps id s t h (Beside a b) = or_keeps id _ _ (around_keeps id _ (move s t a) (move_keeps id s t h a)) (around_keeps id _ (move s t b) (move_keeps id s t h b))

---- A run that has begun

abbrev pub is_begun : State → Bool
is_begun Unbegun = false
is_begun s = true

abbrev pub Fixed : Bytes → Progress → Type 0
Fixed id p = IsNo id p.store × (is_begun p.state ≡ true)

begun_after : (c : Cmd) → is_begun (state_after_command c) ≡ true
begun_after (Schedule a vs n m k) = refl
begun_after (StartTimer d) = refl
begun_after (CancelTimer n) = refl
begun_after (RecordMarker i) = refl
begun_after (Complete v) = refl
begun_after (Fail c t) = refl
begun_after (ContinueAsNew vs) = refl

abbrev FixedNext : Bytes → Option Progress → Type 0
FixedNext id None = Unit {0}
FixedNext id (Some q) = Fixed id q

after_fixed : (id : Bytes) (p : Progress) (m : Move) → Fixed id p → KeepsNo id m → FixedNext id (after_move p m)
after_fixed id p Stays h k = tt
after_fixed id p (Goes r u) h k = (k, h.1)
after_fixed id p (Asks r u c) h k = (k, h.1)
after_fixed id p (Ends c) h k = (h.0, begun_after c)

next_fixed : (id : Bytes) (g : Frame) (p : Progress) → Fixed id p → FixedNext id (next g p)
next_fixed id g p h =
    let m = move (setting g p) p.store p.rest in
    elim (is_open p.state) as (λ b. FixedNext id (if b then (if is_done p.rest then Some (ended p (Complete (V.Text []))) else after_move p m) else None)) [
      | true ↦ elim (is_done p.rest) as (λ b. FixedNext id (if b then Some (ended p (Complete (V.Text []))) else after_move p m)) [
        | true ↦ (h.0, refl)
        | false ↦ after_fixed id p m h (move_keeps id (setting g p) p.store h.0 p.rest)
      ]
      | false ↦ tt
    ]

pub steps_fixed : (id : Bytes) (n : ℕ) (g : Frame) (p last : Progress) → Fixed id p → steps n g p ≡ Some last → Fixed id last
steps_fixed id zero g p last h e = absurd (none_some last e)
steps_fixed id (suc n) g p last h e =
    elim (next g p) as (λ x. FixedNext id x → go_on g x p (steps n g) ≡ Some last → Fixed id last) [
      | None ↦ λ y x. let s : p ≡ last = cc x in subst (Fixed id) s h
      | Some q ↦ λ y x. steps_fixed id n g q last y x
    ] (next_fixed id g p h) e

open_begun : (st : State) → is_open st ≡ true → is_begun st ≡ true
open_begun Unbegun e = absurd (true≢false (sym e))
open_begun Open e = refl
open_begun Completed e = refl
open_begun Failed e = refl
open_begun Continued e = refl
open_begun Terminated e = refl

-- what a delivery starts has begun, and keeps the answers of a run that had begun
abbrev pub Fine : Bytes → Configuration → Option Progress → Type 0
Fine id k None = Unit {0}
Fine id k (Some s) = (is_begun s.state ≡ true) × (is_begun k.state ≡ true → k.decided id ≡ Some false → IsNo id s.store)

if_fine : (id : Bytes) (k : Configuration) (c : Bool) (o : Option Progress) → (c ≡ true → Fine id k o) → Fine id k (if c then o else None)
if_fine id k true o h = h refl
if_fine id k false o h = tt

over_fine : (id : Bytes) (k : Configuration) → is_begun k.state ≡ true → (o : Option Rest) (vars : Variables) → Fine id k (elim o [ None ↦ None | Some r ↦ Some (start_from k r vars) ])
over_fine id k b None vars = tt
over_fine id k b (Some r) vars = (b, λ x h. h)

rest_fine : (id : Bytes) (k : Configuration) → is_begun k.state ≡ true → (o : Option Rest) → Fine id k (with_rest k o)
rest_fine id k b None = tt
rest_fine id k b (Some r) = (b, λ x h. h)

completed_fine : (id : Bytes) (k : Configuration) → is_begun k.state ≡ true → (n : ℕ) (v : Value) (o : Option (Bytes × Kind)) → Fine id k (completed k n v o)
completed_fine id k b n v None = tt
completed_fine id k b n v (Some x) = if_fine id k (has_kind x.1 v) _ (λ e. over_fine id k b (replaced (when_completed n) k.rest) (with_variable k.variables x.0 v))

state_fine : (id : Bytes) (k : Configuration) (st : State) → k.state ≡ st → (o : Option Progress) → (is_begun k.state ≡ false → Fine id k o) → Fine id k (elim st [ Unbegun ↦ o | _ ↦ None ])
state_fine id k Unbegun e o h = h (ap is_begun e)
state_fine id k Open e o h = tt
state_fine id k Completed e o h = tt
state_fine id k Failed e o h = tt
state_fine id k Continued e o h = tt
state_fine id k Terminated e o h = tt

first_true : (a b : Bool) → (a && b) ≡ true → a ≡ true
first_true true b e = refl
first_true false b e = e

fine : (id : Bytes) (p : Program) (k : Configuration) (i : Input) → Fine id k (deliver p k i)
fine id p k (I.Started vs) =
    state_fine id k k.state refl (begun p vs) (λ u. if_fine id k (all_fit p.parameters vs) _ (λ e. (refl, λ b h. absurd (true≢false (sym b ∙ u)))))
fine id p k (I.Signaled name req v) =
    if_fine id k (is_open k.state && signal_fits (signals_of p.declarations) name v) _
    (λ e. (open_begun k.state (first_true (is_open k.state) (signal_fits (signals_of p.declarations) name v) e), λ x h. h))
fine id p k (I.ActivityCompleted n v) = if_fine id k (is_open k.state) _ (λ e. completed_fine id k (open_begun k.state e) n v (target_of n k.rest))
fine id p k (I.ActivityFailed n text) = if_fine id k (is_open k.state) _ (λ e. rest_fine id k (open_begun k.state e) (replaced (when_failed n text) k.rest))
fine id p k (I.TimerFired n) = if_fine id k (is_open k.state) _ (λ e. rest_fine id k (open_begun k.state e) (replaced (when_fired n) k.rest))
fine id p k (I.Terminated text) = if_fine id k (is_open k.state) _ (λ e. (refl, λ x h. h))

-- an answer no, in a run that has begun
abbrev pub FixedAt : Bytes → Configuration → Type 0
FixedAt id k = (k.decided id ≡ Some false) × (is_begun k.state ≡ true)

pub start_fine : (id : Bytes) (p : Program) (k : Configuration) (i : Input) (s : Progress) → deliver p k i ≡ Some s → Fine id k (Some s)
start_fine id p k i s e = subst (Fine id k) e (fine id p k i)

turn_fixed : (id : Bytes) (p : Program) (later : List Event) (k : Configuration) (at : ℕ) (i : Input) (cs : List Cmd) (new : Configuration) → FixedAt id k → Turn p (Recorded later) k at i cs new → FixedAt id new
turn_fixed id p later k at i cs new h t =
    let s = start_fine id p k i t.start t.delivered in
    let l = steps_fixed id t.count (frame p k at i (Recorded later)) t.start t.last (s.1 h.1 h.0, s.0) t.runs in
    subst (FixedAt id) (sym t.leaves) l

pub leads_fixed : (id : Bytes) (p : Program) (n : ℕ) (due : List Cmd) (k : Configuration) (h : List Event) (x : Configuration) → FixedAt id k → Leads p n due k h x → FixedAt id x
leads_fixed id p n due k [] x f g = subst (FixedAt id) g.1 f
leads_fixed id p n [] k (e ∷ later) x f g =
    leads_fixed id p (suc n) g.0 g.1.0 later x (turn_fixed id p later k e.at g.1.1.0.2.0 g.0 g.1.0 f g.1.1.0.2.2) g.1.1.1
leads_fixed id p n (c ∷ due) k (e ∷ later) x f g = leads_fixed id p (suc n) g.0 g.1.0 later x (subst (FixedAt id) (sym g.1.1.0.4) f) g.1.1.1

abbrev BegunNext : Option Progress → Type 0
BegunNext None = Unit {0}
BegunNext (Some q) = is_begun q.state ≡ true

after_begun : (p : Progress) (m : Move) → is_begun p.state ≡ true → BegunNext (after_move p m)
after_begun p Stays h = tt
after_begun p (Goes r u) h = h
after_begun p (Asks r u c) h = h
after_begun p (Ends c) h = begun_after c

next_begun : (g : Frame) (p : Progress) → is_begun p.state ≡ true → BegunNext (next g p)
next_begun g p h =
    let m = move (setting g p) p.store p.rest in
    elim (is_open p.state) as (λ b. BegunNext (if b then (if is_done p.rest then Some (ended p (Complete (V.Text []))) else after_move p m) else None)) [
      | true ↦ elim (is_done p.rest) as (λ b. BegunNext (if b then Some (ended p (Complete (V.Text []))) else after_move p m)) [
        | true ↦ refl
        | false ↦ after_begun p m h
      ]
      | false ↦ tt
    ]

pub begun_next : (g : Frame) (p q : Progress) → is_begun p.state ≡ true → next g p ≡ Some q → is_begun q.state ≡ true
begun_next g p q h e = subst BegunNext e (next_begun g p h)
