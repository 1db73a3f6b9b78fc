-- A history that answered no settled patch with no stands under the program in which these patches are settled.
use Rattle.std.proofs.Common.{◌≡◌, ℕ, suc, ◌+◌, List, [], ◌∷◌, map, refl, sym, ap, ◌∙◌, subst, Option, Some, None, Bool, true, false}
use Rattle.std.specs.Prelude.{if◌then◌else◌, ◌&&◌}
use Rattle.flow_base.specs.Syntax.{Bytes, ActivityType, Program, activities_of, signals_of}
use Rattle.flow_base.specs.Bare.{bare_parameter}
use Rattle.flow_base.specs.declared.value.Value.{Value}
use Rattle.flow_base.specs.declared.value.Kind.{Kind}
use Rattle.flow_base.specs.declared.event.Cmd.{Cmd}
use Rattle.flow_base.specs.declared.event.Input.{Input}
use Rattle.flow_base.specs.declared.event.Input.TheVariants as I
use Rattle.flow_base.specs.declared.event.Event.{Event}
use Rattle.flow_base.specs.declared.event.State.{State}
use Rattle.flow_base.specs.declared.event.State.TheVariants.{Unbegun, Open, Completed, Failed, Continued, Terminated}
use Rattle.flow_model.specs.Values.{Variables, with_variable}
use Rattle.flow_model.specs.Rest.{Rest, Done, rest_of}
use Rattle.flow_model.specs.Configuration.{Configuration, first_configuration, is_open}
use Rattle.flow_model.specs.Deliver.{Progress, replaced, has_kind, all_fit, bound, signal_fits, target_of, when_completed, when_failed, when_fired, start_from, with_rest, completed, begun, deliver}
use Rattle.flow_model.specs.Turn.{Frame, steps, Recorded, answer_of, is_started, frame, left_by, Turn}
use Rattle.flow_model.specs.Stands.{Leads}
use Rattle.flow_patch.specs.Wrap.{without_new}
use Rattle.flow_patch.specs.Settle.{settling, Settles, SettledStands}
use Rattle.flow_patch.proofs.Normal.{behind, flat, norm, NormTo}
use Rattle.flow_patch.proofs.Waits.{OverTo, over_then, Leaves, replaced_norm, target_is, target_in, leaves_completed, leaves_failed, leaves_fired}
use Rattle.flow_patch.proofs.Passed.{plain_rest}
use Rattle.flow_patch.proofs.Simulate.{none}
use Rattle.flow_patch.proofs.Law.{plain_none, bare_fit, bare_bound}
use Rattle.flow_patch.proofs.Words.{bare_activities, bare_signals}
use Rattle.flow_patch.proofs.Answered.{FixedAt, leads_fixed, start_fine}
use Rattle.flow_patch.proofs.Settling.{One, twin, same_waits, follows}

module _ (f : Bytes → Bool) (p p' : Program) (w : Settles f p p') where
  same_activities : activities_of p.declarations ≡ activities_of p'.declarations
  same_activities = sym (bare_activities p.declarations) ∙ ap activities_of (sym w.declarations) ∙ bare_activities p'.declarations

  same_signals : signals_of p'.declarations ≡ signals_of p.declarations
  same_signals = sym (bare_signals p'.declarations) ∙ ap signals_of w.declarations ∙ bare_signals p.declarations

  same_fit : (vs : List Value) → all_fit p'.parameters vs ≡ all_fit p.parameters vs
  same_fit vs = sym (bare_fit p'.parameters vs) ∙ ap (λ ps. all_fit ps vs) w.parameters ∙ bare_fit p.parameters vs

  same_bound : (vs : List Value) → bound p'.parameters vs ≡ bound p.parameters vs
  same_bound vs = sym (bare_bound p'.parameters vs) ∙ ap (λ ps. bound ps vs) w.parameters ∙ bare_bound p.parameters vs

abbrev conf_of : Configuration → Rest → Configuration
conf_of k r = record k { rest = r }

record Delivered (f : Bytes → Bool) (s s' : Progress) : Type 0 where
  rest : Rest
  is : s' ≡ twin s rest
  one : One f s.rest rest

-- what the old program takes the new one takes
abbrev TakenTo : (Bytes → Bool) → Option Progress → Option Progress → Type 0
TakenTo f None o = Unit {0}
TakenTo f (Some s) (Some s') = Delivered f s s'
TakenTo f (Some s) None = ⊥

if_taken : (f : Bytes → Bool) (c : Bool) (o o' : Option Progress) → TakenTo f o o' → TakenTo f (if c then o else None) (if c then o' else None)
if_taken f true o o' t = t
if_taken f false o o' t = tt

state_taken : (f : Bytes → Bool) (st : State) (o o' : Option Progress) → TakenTo f o o' → TakenTo f (elim st [ Unbegun ↦ o | _ ↦ None ]) (elim st [ Unbegun ↦ o' | _ ↦ None ])
state_taken f Unbegun o o' t = t
state_taken f Open o o' t = tt
state_taken f Completed o o' t = tt
state_taken f Failed o o' t = tt
state_taken f Continued o o' t = tt
state_taken f Terminated o o' t = tt

same_target : (f : Bytes → Bool) (n : ℕ) (r r' : Rest) → One f r r' → target_of n r' ≡ target_of n r
same_target f n r r' e = target_is n r' ∙ ap (target_in n) (same_waits f r r' e) ∙ sym (target_is n r)

flipped : (o p : Option Rest) → OverTo (NormTo (without_new none)) o p → OverTo (λ x q. plain_rest none q ≡ flat x) p o
flipped None None a = tt
flipped (Some q) (Some x) a = a
flipped None (Some x) a = absurd a
flipped (Some q) None a = absurd a

over_taken : (f : Bytes → Bool) (k : Configuration) (r : Rest) (vars : Variables) (o o' : Option Rest) → OverTo (One f) o o' → TakenTo f (elim o [ None ↦ None | Some q ↦ Some (start_from k q vars) ]) (elim o' [ None ↦ None | Some q ↦ Some (start_from (conf_of k r) q vars) ])
over_taken f k r vars None None a = tt
over_taken f k r vars (Some q) (Some x) a = record { rest = x; is = refl; one = a }
over_taken f k r vars None (Some x) a = absurd a
over_taken f k r vars (Some q) None a = absurd a

rest_taken : (f : Bytes → Bool) (k : Configuration) (r : Rest) (o o' : Option Rest) → OverTo (One f) o o' → TakenTo f (with_rest k o) (with_rest (conf_of k r) o')
rest_taken f k r None None a = tt
rest_taken f k r (Some q) (Some x) a = record { rest = x; is = refl; one = a }
rest_taken f k r None (Some x) a = absurd a
rest_taken f k r (Some q) None a = absurd a

-- what is left once the same wait is over
same_over : (f : Bytes → Bool) (g : Rest → Option Rest) → Leaves (settling f) g → Leaves (without_new none) g → (r r' : Rest) → One f r r' → OverTo (One f) (replaced g r) (replaced g r')
same_over f g l l' r r' e =
    over_then (NormTo (settling f)) (λ x q. plain_rest none q ≡ flat x) (One f) (λ x y z a b. a ∙ sym b) (replaced g r) (replaced g (plain_rest none r')) (replaced g r')
    (subst (λ y. OverTo (NormTo (settling f)) (replaced g r) (replaced g y)) e (replaced_norm (settling f) g l r))
    (flipped (replaced g r') (replaced g (plain_rest none r')) (replaced_norm (without_new none) g l' r'))

completed_taken : (f : Bytes → Bool) (k : Configuration) (r : Rest) (n : ℕ) (v : Value) → One f k.rest r → (o : Option (Bytes × Kind)) → TakenTo f (completed k n v o) (completed (conf_of k r) n v o)
completed_taken f k r n v s None = tt
completed_taken f k r n v s (Some x) =
    if_taken f (has_kind x.1 v) _ _
    (over_taken f k r (with_variable k.variables x.0 v) (replaced (when_completed n) k.rest) (replaced (when_completed n) r)
    (same_over f (when_completed n) (leaves_completed (settling f) n) (leaves_completed (without_new none) n) k.rest r s))

begun_taken : (f : Bytes → Bool) (p p' : Program) (w : Settles f p p') (vs : List Value) → TakenTo f (begun p vs) (begun p' vs)
begun_taken f p p' w vs =
    rw (same_fit f p p' w vs, same_bound f p p' w vs) (if_taken f (all_fit p.parameters vs) _ _
    (record { rest = rest_of p'.body; is = refl; one = ap (behind Done) (sym w.body ∙ sym (plain_none p'.body)) }))

taken : (f : Bytes → Bool) (p p' : Program) (w : Settles f p p') (k : Configuration) (r : Rest) → One f k.rest r → (i : Input) → TakenTo f (deliver p k i) (deliver p' (conf_of k r) i)
taken f p p' w k r s (I.Started vs) = state_taken f k.state (begun p vs) (begun p' vs) (begun_taken f p p' w vs)
taken f p p' w k r s (I.Signaled name req v) =
    rw (same_signals f p p' w) (if_taken f (is_open k.state && signal_fits (signals_of p.declarations) name v) _ _ (record { rest = r; is = refl; one = s }))
taken f p p' w k r s (I.ActivityCompleted n v) =
    if_taken f (is_open k.state) _ _
    (subst (λ o. TakenTo f (completed k n v (target_of n k.rest)) (completed (conf_of k r) n v o)) (sym (same_target f n k.rest r s)) (completed_taken f k r n v s (target_of n k.rest)))
taken f p p' w k r s (I.ActivityFailed n text) =
    if_taken f (is_open k.state) _ _
    (rest_taken f k r (replaced (when_failed n text) k.rest) (replaced (when_failed n text) r)
    (same_over f (when_failed n text) (leaves_failed (settling f) n text) (leaves_failed (without_new none) n text) k.rest r s))
taken f p p' w k r s (I.TimerFired n) =
    if_taken f (is_open k.state) _ _
    (rest_taken f k r (replaced (when_fired n) k.rest) (replaced (when_fired n) r)
    (same_over f (when_fired n) (leaves_fired (settling f) n) (leaves_fired (without_new none) n) k.rest r s))
taken f p p' w k r s (I.Terminated text) = if_taken f (is_open k.state) _ _ (record { rest = Done; is = refl; one = refl })

-- an input that the old program took
record Took (f : Bytes → Bool) (p' : Program) (k : Configuration) (r : Rest) (i : Input) (start : Progress) : Type 0 where
  rest : Rest
  takes : deliver p' (conf_of k r) i ≡ Some (twin start rest)
  one : One f start.rest rest

took_by : (f : Bytes → Bool) (p' : Program) (k : Configuration) (r : Rest) (i : Input) (start : Progress) (o' : Option Progress) → deliver p' (conf_of k r) i ≡ o' → TakenTo f (Some start) o' → Took f p' k r i start
took_by f p' k r i start None e t = absurd t
took_by f p' k r i start (Some s') e t = record { rest = t.rest; takes = e ∙ ap Some t.is; one = t.one }

took : (f : Bytes → Bool) (p p' : Program) (w : Settles f p p') (k : Configuration) (r : Rest) → One f k.rest r → (i : Input) (start : Progress) → deliver p k i ≡ Some start → Took f p' k r i start
took f p p' w k r s i start e =
    took_by f p' k r i start (deliver p' (conf_of k r) i) refl (subst (λ o. TakenTo f o (deliver p' (conf_of k r) i)) e (taken f p p' w k r s i))

-- the run ends with no settled patch answered no
abbrev NeverNo : (Bytes → Bool) → Configuration → Type 0
NeverNo f k = (id : Bytes) → f id ≡ true → FixedAt id k → ⊥

record Turned (f : Bytes → Bool) (p' : Program) (later : List Event) (k : Configuration) (r : Rest) (at : ℕ) (i : Input) (due : List Cmd) (new : Configuration) : Type 0 where
  rest : Rest
  turn : Turn p' (Recorded later) (conf_of k r) at i due (conf_of new rest)
  one : One f new.rest rest

turned : (f : Bytes → Bool) (p p' : Program) (w : Settles f p p') (later : List Event) (k : Configuration) (r : Rest) (at : ℕ) (i : Input) (due : List Cmd) (new : Configuration) → One f k.rest r → NeverNo f new → Turn p (Recorded later) k at i due new → Turned f p' later k r at i due new
turned f p p' w later k r at i due new s bar t =
    let a = took f p p' w k r s i t.start t.delivered in
    let g : Frame = frame p k at i (Recorded later) in
    let begun_is = (start_fine [] p k i t.start t.delivered).0 in
    let h = follows f g t.last (λ id y z. bar id y (subst (FixedAt id) (sym t.leaves) z)) t.count t.start a.rest a.one begun_is t.runs in
    let same : g ≡ frame p' (conf_of k r) at i (Recorded later) =
    ap (λ acts. record { activities = acts; at = at; is_first = is_started i; events = k.events + 1; answer = answer_of (Recorded later) }) (same_activities f p p' w) in
    let new_is : conf_of new h.rest ≡ left_by (frame p' (conf_of k r) at i (Recorded later)) (twin t.last h.rest) = ap (λ q. conf_of q h.rest) t.leaves in
    record {
      rest = h.rest;
      turn = record {
        start = twin t.start a.rest;
        delivered = a.takes;
        count = h.count;
        last = twin t.last h.rest;
        runs = subst (λ (x : Frame). steps h.count x (twin t.start a.rest) ≡ Some (twin t.last h.rest)) same h.runs;
        asks = t.asks;
        leaves = new_is;
      };
      one = subst (λ (q : Configuration). One f q.rest h.rest) (sym t.leaves) h.one;
    }

record Led (f : Bytes → Bool) (p' : Program) (n : ℕ) (due : List Cmd) (k : Configuration) (r : Rest) (h : List Event) (x : Configuration) : Type 0 where
  rest : Rest
  leads : Leads p' n due (conf_of k r) h (conf_of x rest)
  one : One f x.rest rest

led : (f : Bytes → Bool) (p p' : Program) (w : Settles f p p') (n : ℕ) (due : List Cmd) (k : Configuration) (r : Rest) (h : List Event) (x : Configuration) → NeverNo f x → One f k.rest r → Leads p n due k h x → Led f p' n due k r h x
led f p p' w n due k r [] x bar s g =
    record { rest = r; leads = (g.0, ap (λ q. conf_of q r) g.1); one = subst (λ (q : Configuration). One f q.rest r) g.1 s }
led f p p' w n [] k r (e ∷ later) x bar s g =
    let before = λ (id : Bytes) (y : f id ≡ true) (z : FixedAt id g.1.0). bar id y (leads_fixed id p (suc n) g.0 g.1.0 later x z g.1.1.1) in
    let u = turned f p p' w later k r e.at g.1.1.0.2.0 g.0 g.1.0 s before g.1.1.0.2.2 in
    let v = led f p p' w (suc n) g.0 g.1.0 u.rest later x bar u.one g.1.1.1 in
    record { rest = v.rest; leads = (g.0, (conf_of g.1.0 u.rest, ((g.1.1.0.0, g.1.1.0.1, (g.1.1.0.2.0, g.1.1.0.2.1, u.turn)), v.leads))); one = v.one }
led f p p' w n (c ∷ due) k r (e ∷ later) x bar s g =
    let v = led f p p' w (suc n) g.0 g.1.0 r later x bar (subst (λ (q : Configuration). One f q.rest r) (sym g.1.1.0.4) s) g.1.1.1 in
    record { rest = v.rest; leads = (g.0, (conf_of g.1.0 r, ((g.1.1.0.0, g.1.1.0.1, g.1.1.0.2, g.1.1.0.3, ap (λ q. conf_of q r) g.1.1.0.4), v.leads))); one = v.one }

pub settled_stands : SettledStands
settled_stands f p p' h k w no_no s =
    let v = led f p p' w 1 [] first_configuration Done h k (λ id y z. no_no id y z.0) refl s.1 in
    (conf_of k v.rest, ((s.0, v.leads), record { variables = refl; buffer = refl; waits = same_waits f k.rest v.rest v.one; state = refl; events = refl; moment = refl }))
