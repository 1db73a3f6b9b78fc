-- A history that stands under a program stands under each that wraps it.
use Rattle.std.proofs.Common.{◌≡◌, ℕ, suc, zero, ◌+◌, ◌≤◌, List, [], ◌∷◌, ◌++◌, map, length, refl, sym, ap, ◌∙◌, subst, arith, Option, Some, None, Bool, true, false, ⊎_elim, inl}
use Rattle.std.specs.Prelude.{if◌then◌else◌, ◌&&◌, bytes_eq, slice_get}
use Rattle.std.specs.List.{AllByRecursion}
use Rattle.std.specs.Cmp.Lexicographic.{bytes_decides}
use Rattle.std.proofs.lemmas.Bool.{true≢false}
use Rattle.flow_base.specs.Syntax.{Bytes, Statement, Let, Assign, Call, WaitSignal, WaitSignalFor, Sleep, If, While, Parallel, Patch, Deprecate, Return, FailWith, Continue, Block, End, Next, Otherwise, NoElse, Else, Branches, NoBranch, Branch, ActivityType, Program, activities_of, signals_of}
use Rattle.flow_base.specs.Bare.{bare_expression, bare_retry, bare_statement, bare_block, bare_otherwise, bare_branches, bare_parameter}
use Rattle.flow_base.specs.declared.syntax.Parameter.{Parameter}
use Rattle.flow_base.specs.declared.value.Value.{Value}
use Rattle.flow_base.specs.declared.value.Kind.{Kind}
use Rattle.flow_base.specs.declared.event.Cmd.{Cmd}
use Rattle.flow_base.specs.declared.event.Cmd.TheVariants.{Schedule, StartTimer, CancelTimer, RecordMarker, Complete, Fail, ContinueAsNew}
use Rattle.flow_base.specs.declared.event.Input.{Input}
use Rattle.flow_base.specs.declared.event.Input.TheVariants as I
use Rattle.flow_base.specs.declared.event.Event.{Event}
use Rattle.flow_base.specs.declared.event.State.{State}
use Rattle.flow_base.specs.declared.event.State.TheVariants.{Unbegun, Open, Completed, Failed, Continued, Terminated}
use Rattle.flow_model.specs.Values.{Variables, with_variable}
use Rattle.flow_model.specs.Rest.{Rest, Done, rest_of}
use Rattle.flow_model.specs.Configuration.{none_decided, Configuration, first_configuration, is_open}
use Rattle.flow_model.specs.Deliver.{Progress, replaced, has_kind, all_fit, bound, signal_fits, target_of, when_completed, when_failed, when_fired, start_from, with_rest, completed, begun, deliver}
use Rattle.flow_model.specs.Turn.{Frame, steps, Recorded, is_marker, answer_of, is_started, frame, left_by, Turn}
use Rattle.flow_model.specs.Stands.{Leads, Stands}
use Rattle.flow_patch.specs.Wrap.{placed, plain, changed_otherwise, changed_branches, without_new, SameToASubmitter}
use Rattle.flow_patch.proofs.Owned.{OwnBlock}
use Rattle.flow_patch.proofs.Passed.{plain_rest}
use Rattle.flow_patch.proofs.Normal.{cases, flat, behind, NormTo}
use Rattle.flow_patch.proofs.Waits.{OverTo, over_then, Leaves, replaced_norm, target_is, target_in, leaves_completed, leaves_failed, leaves_fired}
use Rattle.flow_patch.proofs.Own.{OwnRest, OwnCmd, OwnOver, NearDecided, own_replaced, own_completed, own_failed, own_fired}
use Rattle.flow_patch.proofs.Simulate.{none, twin, Sim, more_frame, same_waits}
use Rattle.flow_patch.proofs.Turns.{follows, own_steps}

-- with no new ids a list becomes itself without places
mutual
  placed_none : (st : Statement) (k : Block) → placed (without_new none) st k ≡ Next (bare_statement st) k
  placed_none (Let at name_at x e) k = refl
  placed_none (Assign at x e) k = refl
  placed_none (Call at x activity_at a es r o) k = ap (λ w. Next (Call 0 x 0 a (map bare_expression es) (bare_retry r) w) k) (otherwise_none o)
  placed_none (WaitSignal at x signal_at n) k = refl
  placed_none (WaitSignalFor at x signal_at n e b end) k = ap (λ w. Next (WaitSignalFor 0 x 0 n (bare_expression e) w 0) k) (plain_none b)
  placed_none (Sleep at e) k = refl
  placed_none (If at e a a_end b b_end) k =
      ap (λ w. Next (If 0 (bare_expression e) w 0 (plain none b) 0) k) (plain_none a) ∙ ap (λ w. Next (If 0 (bare_expression e) (bare_block a) 0 w 0) k) (plain_none b)
  placed_none (While at e b end) k = ap (λ w. Next (While 0 (bare_expression e) w 0) k) (plain_none b)
  placed_none (Parallel at bs end) k = ap (λ w. Next (Parallel 0 w 0) k) (branches_none bs)
  placed_none (Patch at id_at id a a_end b b_end) k =
      ap (λ w. Next (Patch 0 0 id w 0 (plain none b) 0) k) (plain_none a) ∙ ap (λ w. Next (Patch 0 0 id (bare_block a) 0 w 0) k) (plain_none b)
  placed_none (Deprecate at id_at id) k = refl
  placed_none (Return at e) k = refl
  placed_none (FailWith at e) k = refl
  placed_none (Continue at es) k = refl

  pub plain_none : (b : Block) → plain none b ≡ bare_block b
  plain_none End = refl
  plain_none (Next s b) = placed_none s (plain none b) ∙ ap (Next (bare_statement s)) (plain_none b)

  otherwise_none : (o : Otherwise) → changed_otherwise (without_new none) o ≡ bare_otherwise o
  otherwise_none NoElse = refl
  otherwise_none (Else b end) = ap (λ w. Else w 0) (plain_none b)

  branches_none : (bs : Branches) → changed_branches (without_new none) bs ≡ bare_branches bs
  branches_none NoBranch = refl
  branches_none (Branch at b end bs) =
      ap (λ w. Branch 0 w 0 (changed_branches (without_new none) bs)) (plain_none b) ∙ ap (Branch 0 (bare_block b) 0) (branches_none bs)

-- What the law needs of a wrap.
pub record Change (p p' : Program) : Type 0 where
  pub parameters : map bare_parameter p'.parameters ≡ map bare_parameter p.parameters
  pub more_activities : List ActivityType
  pub activities : activities_of p'.declarations ≡ activities_of p.declarations ++ more_activities
  pub more_signals : List (Bytes × Kind)
  pub signals : signals_of p'.declarations ≡ signals_of p.declarations ++ more_signals
  pub is_new : Bytes → Bool
  pub own : OwnBlock is_new (activities_of p.declarations) p.body
  pub body : plain is_new p'.body ≡ bare_block p.body

pub bare_fit : (ps : List Parameter) (vs : List Value) → all_fit (map bare_parameter ps) vs ≡ all_fit ps vs
bare_fit [] [] = refl
bare_fit [] (v ∷ vs) = refl
bare_fit (p ∷ ps) [] = refl
bare_fit (p ∷ ps) (v ∷ vs) = ap (λ b. has_kind p.kind v && b) (bare_fit ps vs)

pub bare_bound : (ps : List Parameter) (vs : List Value) → bound (map bare_parameter ps) vs ≡ bound ps vs
bare_bound [] vs = refl
bare_bound (p ∷ ps) [] = refl
bare_bound (p ∷ ps) (v ∷ vs) = ap (λ x. with_variable x p.name v) (bare_bound ps vs)

same_fit : (p p' : Program) (w : Change p p') (vs : List Value) → all_fit p'.parameters vs ≡ all_fit p.parameters vs
same_fit p p' w vs = sym (bare_fit p'.parameters vs) ∙ ap (λ ps. all_fit ps vs) w.parameters ∙ bare_fit p.parameters vs

same_bound : (p p' : Program) (w : Change p p') (vs : List Value) → bound p'.parameters vs ≡ bound p.parameters vs
same_bound p p' w vs = sym (bare_bound p'.parameters vs) ∙ ap (λ ps. bound ps vs) w.parameters ∙ bare_bound p.parameters vs

-- The run at rest under the new program, beside k under the old one.
abbrev conf_of : Configuration → Rest → (Bytes → Option Bool) → Configuration
conf_of k r d = record k { rest = r; decided = d }

record SimRest (f : Bytes → Bool) (acts : List ActivityType) (k : Configuration) (r : Rest) (d : Bytes → Option Bool) : Type 0 where
  rests : plain_rest none k.rest ≡ plain_rest f r
  own : OwnRest f acts k.rest
  near : NearDecided f k.decided d

record Delivered (f : Bytes → Bool) (acts : List ActivityType) (s s' : Progress) : Type 0 where
  rest : Rest
  decided : Bytes → Option Bool
  is : s' ≡ twin s rest decided
  sim : Sim f acts s rest decided

-- what the old program takes the new one takes
abbrev TakenTo : (Bytes → Bool) → List ActivityType → Option Progress → Option Progress → Type 0
TakenTo f acts None o = Unit {0}
TakenTo f acts (Some s) (Some s') = Delivered f acts s s'
TakenTo f acts (Some s) None = ⊥

if_taken : (f : Bytes → Bool) (acts : List ActivityType) (c c' : Bool) → (c ≡ true → c' ≡ true) → (o o' : Option Progress) → TakenTo f acts o o' → TakenTo f acts (if c then o else None) (if c' then o' else None)
if_taken f acts true true h o o' t = t
if_taken f acts true false h o o' t = absurd (true≢false (sym (h refl)))
if_taken f acts false c' h o o' t = tt

state_taken : (f : Bytes → Bool) (acts : List ActivityType) (st : State) (o o' : Option Progress) → TakenTo f acts o o' → TakenTo f acts (elim st [ Unbegun ↦ o | _ ↦ None ]) (elim st [ Unbegun ↦ o' | _ ↦ None ])
state_taken f acts Unbegun o o' t = t
state_taken f acts Open o o' t = tt
state_taken f acts Completed o o' t = tt
state_taken f acts Failed o o' t = tt
state_taken f acts Continued o o' t = tt
state_taken f acts Terminated o o' t = tt

signal_more : (ss more : List (Bytes × Kind)) (name : Bytes) (v : Value) → signal_fits ss name v ≡ true → signal_fits (ss ++ more) name v ≡ true
signal_more [] more name v e = absurd (true≢false (sym e))
signal_more (s ∷ ss) more name v e =
    ⊎_elim (λ (h : bytes_eq s.0 name ≡ true). rw h (rw h at e)) (λ (h : bytes_eq s.0 name ≡ false). rw h (signal_more ss more name v (rw h at e))) (cases (bytes_eq s.0 name))

and_same : (a b c : Bool) → (b ≡ true → c ≡ true) → (a && b) ≡ true → (a && c) ≡ true
and_same true b c h e = h e
and_same false b c h e = e

same_target : (f : Bytes → Bool) (n : ℕ) (r r' : Rest) → plain_rest none r ≡ plain_rest f r' → target_of n r' ≡ target_of n r
same_target f n r r' e = target_is n r' ∙ ap (target_in n) (same_waits f r r' e) ∙ sym (target_is n r)

abbrev OneRest : (Bytes → Bool) → Rest → Rest → Type 0
OneRest f q x = plain_rest none q ≡ plain_rest f x

flipped : (f : Bytes → Bool) (o p : Option Rest) → OverTo (NormTo (without_new f)) o p → OverTo (λ x q. plain_rest f q ≡ flat x) p o
flipped f None None a = tt
flipped f (Some q) (Some x) a = a
flipped f None (Some x) a = absurd a
flipped f (Some q) None a = absurd a

-- what is left once the same wait is over
same_over : (f : Bytes → Bool) (g : Rest → Option Rest) → Leaves (without_new none) g → Leaves (without_new f) g → (r r' : Rest) → plain_rest none r ≡ plain_rest f r' → OverTo (OneRest f) (replaced g r) (replaced g r')
same_over f g l l' r r' e =
    over_then (NormTo (without_new none)) (λ x q. plain_rest f q ≡ flat x) (OneRest f) (λ x y z a b. a ∙ sym b) (replaced g r) (replaced g (plain_rest f r')) (replaced g r')
    (subst (λ y. OverTo (NormTo (without_new none)) (replaced g r) (replaced g y)) e (replaced_norm (without_new none) g l r))
    (flipped f (replaced g r') (replaced g (plain_rest f r')) (replaced_norm (without_new f) g l' r'))

over_taken : (f : Bytes → Bool) (acts : List ActivityType) (k : Configuration) (d : Bytes → Option Bool) (r : Rest) (vars : Variables) → NearDecided f k.decided d → (o o' : Option Rest) → OverTo (OneRest f) o o' → OwnOver f acts o → TakenTo f acts (elim o [ None ↦ None | Some q ↦ Some (start_from k q vars) ]) (elim o' [ None ↦ None | Some q ↦ Some (start_from (conf_of k r d) q vars) ])
over_taken f acts k d r vars n None None a o = tt
over_taken f acts k d r vars n (Some q) (Some x) a o = record { rest = x; decided = d; is = refl; sim = record { rests = a; own = o; near = n; own_asked = tt } }
over_taken f acts k d r vars n None (Some x) a o = absurd a
over_taken f acts k d r vars n (Some q) None a o = absurd a

rest_taken : (f : Bytes → Bool) (acts : List ActivityType) (k : Configuration) (d : Bytes → Option Bool) (r : Rest) → NearDecided f k.decided d → (o o' : Option Rest) → OverTo (OneRest f) o o' → OwnOver f acts o → TakenTo f acts (with_rest k o) (with_rest (conf_of k r d) o')
rest_taken f acts k d r n None None a o = tt
rest_taken f acts k d r n (Some q) (Some x) a o = record { rest = x; decided = d; is = refl; sim = record { rests = a; own = o; near = n; own_asked = tt } }
rest_taken f acts k d r n None (Some x) a o = absurd a
rest_taken f acts k d r n (Some q) None a o = absurd a

completed_taken : (f : Bytes → Bool) (acts : List ActivityType) (k : Configuration) (r : Rest) (d : Bytes → Option Bool) (n : ℕ) (v : Value) → SimRest f acts k r d → (o : Option (Bytes × Kind)) → TakenTo f acts (completed k n v o) (completed (conf_of k r d) n v o)
completed_taken f acts k r d n v s None = tt
completed_taken f acts k r d n v s (Some x) =
    if_taken f acts (has_kind x.1 v) (has_kind x.1 v) (λ e. e) _ _
    (over_taken f acts k d r (with_variable k.variables x.0 v) s.near (replaced (when_completed n) k.rest) (replaced (when_completed n) r)
    (same_over f (when_completed n) (leaves_completed (without_new none) n) (leaves_completed (without_new f) n) k.rest r s.rests)
    (own_replaced f acts (when_completed n) (own_completed f acts n) k.rest s.own))

begun_taken : (p p' : Program) (w : Change p p') (vs : List Value) → TakenTo w.is_new (activities_of p.declarations) (begun p vs) (begun p' vs)
begun_taken p p' w vs =
    rw (same_fit p p' w vs, same_bound p p' w vs) (if_taken w.is_new (activities_of p.declarations) (all_fit p.parameters vs) (all_fit p.parameters vs) (λ e. e) _ _
    (record {
      rest = rest_of p'.body;
      decided = none_decided;
      is = refl;
      sim = record { rests = ap (behind Done) (plain_none p.body ∙ sym w.body); own = (tt, w.own); near = λ id. ((λ h. refl), (λ h. inl refl)); own_asked = tt };
    }))

taken : (p p' : Program) (w : Change p p') (k : Configuration) (r : Rest) (d : Bytes → Option Bool) → SimRest w.is_new (activities_of p.declarations) k r d → (i : Input) → TakenTo w.is_new (activities_of p.declarations) (deliver p k i) (deliver p' (conf_of k r d) i)
taken p p' w k r d s (I.Started vs) = state_taken w.is_new (activities_of p.declarations) k.state (begun p vs) (begun p' vs) (begun_taken p p' w vs)
taken p p' w k r d s (I.Signaled name req v) =
    rw (w.signals) (if_taken w.is_new (activities_of p.declarations) (is_open k.state && signal_fits (signals_of p.declarations) name v) (is_open k.state && signal_fits ((signals_of p.declarations) ++ w.more_signals) name v)
    (and_same (is_open k.state) (signal_fits (signals_of p.declarations) name v) (signal_fits ((signals_of p.declarations) ++ w.more_signals) name v) (signal_more (signals_of p.declarations) w.more_signals name v)) _ _
    (record { rest = r; decided = d; is = refl; sim = record { rests = s.rests; own = s.own; near = s.near; own_asked = tt } }))
taken p p' w k r d s (I.ActivityCompleted n v) =
    if_taken w.is_new (activities_of p.declarations) (is_open k.state) (is_open k.state) (λ e. e) _ _
    (subst (λ o. TakenTo w.is_new (activities_of p.declarations) (completed k n v (target_of n k.rest)) (completed (conf_of k r d) n v o)) (sym (same_target w.is_new n k.rest r s.rests))
    (completed_taken w.is_new (activities_of p.declarations) k r d n v s (target_of n k.rest)))
taken p p' w k r d s (I.ActivityFailed n text) =
    if_taken w.is_new (activities_of p.declarations) (is_open k.state) (is_open k.state) (λ e. e) _ _
    (rest_taken w.is_new (activities_of p.declarations) k d r s.near (replaced (when_failed n text) k.rest) (replaced (when_failed n text) r)
    (same_over w.is_new (when_failed n text) (leaves_failed (without_new none) n text) (leaves_failed (without_new w.is_new) n text) k.rest r s.rests)
    (own_replaced w.is_new (activities_of p.declarations) (when_failed n text) (own_failed w.is_new (activities_of p.declarations) n text) k.rest s.own))
taken p p' w k r d s (I.TimerFired n) =
    if_taken w.is_new (activities_of p.declarations) (is_open k.state) (is_open k.state) (λ e. e) _ _
    (rest_taken w.is_new (activities_of p.declarations) k d r s.near (replaced (when_fired n) k.rest) (replaced (when_fired n) r)
    (same_over w.is_new (when_fired n) (leaves_fired (without_new none) n) (leaves_fired (without_new w.is_new) n) k.rest r s.rests)
    (own_replaced w.is_new (activities_of p.declarations) (when_fired n) (own_fired w.is_new (activities_of p.declarations) n) k.rest s.own))
taken p p' w k r d s (I.Terminated text) =
    if_taken w.is_new (activities_of p.declarations) (is_open k.state) (is_open k.state) (λ e. e) _ _
    (record { rest = Done; decided = d; is = refl; sim = record { rests = refl; own = tt; near = s.near; own_asked = tt } })

-- an input that the old program took
record Took (p p' : Program) (w : Change p p') (k : Configuration) (r : Rest) (d : Bytes → Option Bool) (i : Input) (start : Progress) : Type 0 where
  rest : Rest
  decided : Bytes → Option Bool
  takes : deliver p' (conf_of k r d) i ≡ Some (twin start rest decided)
  sim : Sim w.is_new (activities_of p.declarations) start rest decided

took_by : (p p' : Program) (w : Change p p') (k : Configuration) (r : Rest) (d : Bytes → Option Bool) (i : Input) (start : Progress) (o' : Option Progress) → deliver p' (conf_of k r d) i ≡ o' → TakenTo w.is_new (activities_of p.declarations) (Some start) o' → Took p p' w k r d i start
took_by p p' w k r d i start None e t = absurd t
took_by p p' w k r d i start (Some s') e t = record { rest = t.rest; decided = t.decided; takes = e ∙ ap Some t.is; sim = t.sim }

took : (p p' : Program) (w : Change p p') (k : Configuration) (r : Rest) (d : Bytes → Option Bool) → SimRest w.is_new (activities_of p.declarations) k r d → (i : Input) (start : Progress) → deliver p k i ≡ Some start → Took p p' w k r d i start
took p p' w k r d s i start e =
    took_by p p' w k r d i start (deliver p' (conf_of k r d) i) refl (subst (λ o. TakenTo w.is_new (activities_of p.declarations) o (deliver p' (conf_of k r d) i)) e (taken p p' w k r d s i))

-- nothing in what the old program asked for and in what follows it is a new marker
NoMarkers : (Bytes → Bool) → ℕ → List Event → Type 0
NoMarkers f n later = (j : ℕ) → j ≤ n → (id : Bytes) → f id ≡ true → is_marker id (slice_get later j) ≡ false

abbrev marks : Bytes → Cmd → Bool
marks id c = elim c [ RecordMarker i ↦ bytes_eq i id | _ ↦ false ]

own_marks : (f : Bytes → Bool) (id : Bytes) (c : Cmd) → OwnCmd f c → f id ≡ true → marks id c ≡ false
own_marks f id (RecordMarker i) o h =
    ⊎_elim (λ (e : bytes_eq i id ≡ true). absurd (true≢false (sym h ∙ sym (ap f ((bytes_decides i id).0 e)) ∙ o))) (λ (e : bytes_eq i id ≡ false). e) (cases (bytes_eq i id))
own_marks f id (Schedule a vs n m k) o h = refl
own_marks f id (StartTimer d) o h = refl
own_marks f id (CancelTimer n) o h = refl
own_marks f id (Complete v) o h = refl
own_marks f id (Fail c t) o h = refl
own_marks f id (ContinueAsNew vs) o h = refl

abbrev IsEmpty : {A : Type 0} → List A → Type 0
IsEmpty [] = Unit {0}
IsEmpty (x ∷ xs) = ⊥

no_marker : (f : Bytes → Bool) (p : Program) (n : ℕ) (due : List Cmd) (k : Configuration) (h : List Event) (x : Configuration) → AllByRecursion (OwnCmd f) due → Leads p n due k h x → (j : ℕ) → j ≤ length due → (id : Bytes) → f id ≡ true → is_marker id (slice_get h j) ≡ false
no_marker f p n [] k [] x o g j l id y = refl
no_marker f p n [] k (e ∷ later) x o g zero l id y = rw (g.1.1.0.2.1)
no_marker f p n [] k (e ∷ later) x o g (suc j) l id y = absurd (omega (arith, l))
no_marker f p n (c ∷ due) k [] x o g j l id y = absurd (subst (IsEmpty {A = Cmd}) (sym g.0) tt)
no_marker f p n (c ∷ due) k (e ∷ later) x o g zero l id y = rw (g.1.1.0.2) (own_marks f id c o.0 y)
no_marker f p n (c ∷ due) k (e ∷ later) x o g (suc j) l id y =
    no_marker f p (suc n) due g.1.0 later x o.1 (subst (λ u. Leads p (suc n) u g.1.0 later x) g.1.1.0.3 g.1.1.1) j (omega (arith, l)) id y

-- a turn
record Turned (p p' : Program) (w : Change p p') (later : List Event) (k : Configuration) (r : Rest) (d : Bytes → Option Bool) (at : ℕ) (i : Input) (due : List Cmd) (new : Configuration) : Type 0 where
  rest : Rest
  decided : Bytes → Option Bool
  turn : Turn p' (Recorded later) (conf_of k r d) at i due (conf_of new rest decided)
  sim : SimRest w.is_new (activities_of p.declarations) new rest decided

own_turn : (p p' : Program) (w : Change p p') (later : List Event) (k : Configuration) (r : Rest) (d : Bytes → Option Bool) (at : ℕ) (i : Input) (due : List Cmd) (new : Configuration) → SimRest w.is_new (activities_of p.declarations) k r d → Turn p (Recorded later) k at i due new → AllByRecursion (OwnCmd w.is_new) due
own_turn p p' w later k r d at i due new s t =
    let a = took p p' w k r d s i t.start t.delivered in
    subst (AllByRecursion (OwnCmd w.is_new)) (sym t.asks) (own_steps w.is_new t.count (frame p k at i (Recorded later)) t.start t.last a.sim.own a.sim.own_asked t.runs).1

turned : (p p' : Program) (w : Change p p') (later : List Event) (k : Configuration) (r : Rest) (d : Bytes → Option Bool) (at : ℕ) (i : Input) (due : List Cmd) (new : Configuration) → SimRest w.is_new (activities_of p.declarations) k r d → ((j : ℕ) → j ≤ length due → (id : Bytes) → w.is_new id ≡ true → is_marker id (slice_get later j) ≡ false) → Turn p (Recorded later) k at i due new → Turned p p' w later k r d at i due new
turned p p' w later k r d at i due new s noes t =
    let a = took p p' w k r d s i t.start t.delivered in
    let g : Frame = frame p k at i (Recorded later) in
    let l : length due ≡ length t.last.asked = ap length t.asks in
    let h = follows w.is_new g w.more_activities t.last (λ j b id y. noes j (omega (arith, b, l)) id y) t.count t.start a.rest a.decided a.sim t.runs in
    let same : more_frame g w.more_activities ≡ frame p' (conf_of k r d) at i (Recorded later) =
    ap (λ acts. record { activities = acts; at = at; is_first = is_started i; events = k.events + 1; answer = answer_of (Recorded later) }) (sym w.activities) in
    let new_is : conf_of new h.rest h.decided ≡ left_by (frame p' (conf_of k r d) at i (Recorded later)) (twin t.last h.rest h.decided) =
    ap (λ q. conf_of q h.rest h.decided) t.leaves in
    record {
      rest = h.rest;
      decided = h.decided;
      turn = record {
        start = twin t.start a.rest a.decided;
        delivered = a.takes;
        count = h.count;
        last = twin t.last h.rest h.decided;
        runs = subst (λ (x : Frame). steps h.count x (twin t.start a.rest a.decided) ≡ Some (twin t.last h.rest h.decided)) same h.runs;
        asks = t.asks;
        leaves = new_is;
      };
      sim = subst (λ q. SimRest w.is_new (activities_of p.declarations) q h.rest h.decided) (sym t.leaves) (record { rests = h.sim.rests; own = h.sim.own; near = h.sim.near });
    }

record Led (p p' : Program) (w : Change p p') (n : ℕ) (due : List Cmd) (k : Configuration) (r : Rest) (d : Bytes → Option Bool) (h : List Event) (x : Configuration) : Type 0 where
  rest : Rest
  decided : Bytes → Option Bool
  leads : Leads p' n due (conf_of k r d) h (conf_of x rest decided)
  sim : SimRest w.is_new (activities_of p.declarations) x rest decided

led : (p p' : Program) (w : Change p p') (n : ℕ) (due : List Cmd) (k : Configuration) (r : Rest) (d : Bytes → Option Bool) (h : List Event) (x : Configuration) → SimRest w.is_new (activities_of p.declarations) k r d → Leads p n due k h x → Led p p' w n due k r d h x
led p p' w n due k r d [] x s g =
    record { rest = r; decided = d; leads = (g.0, ap (λ q. conf_of q r d) g.1); sim = subst (λ q. SimRest w.is_new (activities_of p.declarations) q r d) g.1 s }
led p p' w n [] k r d (e ∷ later) x s g =
    let t = g.1.1.0.2.2 in
    let own = own_turn p p' w later k r d e.at g.1.1.0.2.0 g.0 g.1.0 s t in
    let u = turned p p' w later k r d e.at g.1.1.0.2.0 g.0 g.1.0 s (no_marker w.is_new p (suc n) g.0 g.1.0 later x own g.1.1.1) t in
    let v = led p p' w (suc n) g.0 g.1.0 u.rest u.decided later x u.sim g.1.1.1 in
    record {
      rest = v.rest;
      decided = v.decided;
      leads = (g.0, (conf_of g.1.0 u.rest u.decided, ((g.1.1.0.0, g.1.1.0.1, (g.1.1.0.2.0, g.1.1.0.2.1, u.turn)), v.leads)));
      sim = v.sim;
    }
led p p' w n (c ∷ due) k r d (e ∷ later) x s g =
    let v = led p p' w (suc n) g.0 g.1.0 r d later x (subst (λ q. SimRest w.is_new (activities_of p.declarations) q r d) (sym g.1.1.0.4) s) g.1.1.1 in
    record {
      rest = v.rest;
      decided = v.decided;
      leads = (g.0, (conf_of g.1.0 r d, ((g.1.1.0.0, g.1.1.0.1, g.1.1.0.2, g.1.1.0.3, ap (λ q. conf_of q r d) g.1.1.0.4), v.leads)));
      sim = v.sim;
    }

pub change_stands : (p p' : Program) (h : List Event) (k : Configuration) → Change p p' → Stands p h k → (k' : Configuration) × (Stands p' h k' × SameToASubmitter k k')
change_stands p p' h k w s =
    let v = led p p' w 1 [] first_configuration Done none_decided h k (record { rests = refl; own = tt; near = λ id. ((λ e. refl), (λ e. inl refl)) }) s.1 in (
      conf_of k v.rest v.decided,
      (
        (s.0, v.leads),
        record { variables = refl; buffer = refl; waits = same_waits w.is_new k.rest v.rest v.sim.rests; state = refl; events = refl; moment = refl },
      ),
    )
