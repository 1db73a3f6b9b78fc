-- A turn from its parts.
use Rattle.std.proofs.Common.{◌≡◌, ℕ, ◌+◌, List, [], refl, sym, ap, ◌∙◌, Option, Some, None, Result, Ok, Err, Bool, true, false}
use Rattle.std.specs.Prelude.{if◌then◌else◌, is_some, IfOk, MatchOption, OnErr}
use Rattle.flow_base.specs.Syntax.{Program, ActivityType, activities_of}
use Rattle.flow_base.specs.declared.event.Cmd.{Cmd}
use Rattle.flow_base.specs.declared.event.Input.{Input}
use Rattle.flow_base.specs.declared.event.Input.TheVariants as input
use Rattle.flow_base.specs.declared.event.State.{State}
use Rattle.flow_base.specs.declared.event.State.TheVariants.{Unbegun, Open, Completed, Failed, Continued, Terminated}
use Rattle.flow_base.specs.declared.value.Value.{Value}
use Rattle.flow_model.specs.Configuration.{Configuration, first_configuration, none_decided}
use Rattle.flow_run.specs.Whole.{is_unbegun}
use Rattle.flow_run.specs.Position.{Leads}
use Rattle.flow_model.specs.Rest.{rest_of}
use Rattle.flow_model.specs.Deliver.{Progress, all_fit, begun, bound, deliver}
use Rattle.flow_model.specs.Turn.{Frame, Answers, Turn, frame, steps, left_by, is_started, answer_of}

pub turn_is : (p : Program) (answers : Answers) (old : Configuration) (at : ℕ) (i : Input) (start last : Progress) (f : Frame) (cmds : List Cmd) (new : Configuration) → f ≡ frame p old at i answers → deliver p old i ≡ Some start → (n : ℕ) × (steps n f start ≡ Some last) → cmds ≡ last.asked → new ≡ left_by f last → Turn p answers old at i cmds new
turn_is p answers old at i start last f cmds new e d r h k =
    record {
      start = start;
      delivered = d;
      count = r.0;
      last = last;
      runs = ap (λ (g : Frame). steps r.0 g start) (sym e) ∙ r.1;
      asks = h;
      leaves = k ∙ ap (λ (g : Frame). left_by g last) e;
    }

pub frame_is : (p : Program) (answers : Answers) (old : Configuration) (at : ℕ) (i : Input) (acts : List ActivityType) (b : Bool) → acts ≡ activities_of p.declarations → b ≡ is_started i → ◌≡◌ {A = Frame} (record { activities = acts; at = at; is_first = b; events = old.events + 1; answer = answer_of answers }) (frame p old at i answers)
frame_is p answers old at i acts b e h = λ x. record { activities = e x; at = at; is_first = h x; events = old.events + 1; answer = answer_of answers }

-- a turn from where its steps lead
pub turn_leads : (p : Program) (answers : Answers) (old : Configuration) (at : ℕ) (i : Input) (start : Progress) (f : Frame) (cmds : List Cmd) (new : Configuration) → f ≡ frame p old at i answers → deliver p old i ≡ Some start → Leads f start cmds new → Turn p answers old at i cmds new
turn_leads p answers old at i start f cmds new e d l = turn_is p answers old at i start l.last f cmds new e d l.runs l.asks l.leaves

-- a run that has begun takes no second start
not_first : (p : Program) (old : Configuration) (i : Input) (q : Progress) → is_unbegun old.state ≡ false → Some q ≡ deliver p old i → false ≡ is_started i
not_first p old (input.Started vs) q b d = absurd (by old.state b d)
  where
    by : (s : State) → is_unbegun s ≡ false → Some q ≡ elim s [ Unbegun ↦ begun p vs | _ ↦ None ] → ⊥
    by Unbegun e g = cc
    by Open e g = cc
    by Completed e g = cc
    by Failed e g = cc
    by Continued e g = cc
    by Terminated e g = cc
not_first p old (input.Signaled name request v) q b d = refl
not_first p old (input.ActivityCompleted n v) q b d = refl
not_first p old (input.ActivityFailed n text) q b d = refl
not_first p old (input.TimerFired n) q b d = refl
not_first p old (input.Terminated text) q b d = refl

-- a further turn, and the first
pub turn_again : (p : Program) (answers : Answers) (old : Configuration) (at : ℕ) (i : Input) (acts : List ActivityType) (events : ℕ) (start : Progress) (cmds : List Cmd) (new : Configuration) → acts ≡ activities_of p.declarations → is_unbegun old.state ≡ false → events ≡ old.events + 1 → Some start ≡ deliver p old i
    → Leads (record { activities = acts; at = at; is_first = false; events = events; answer = answer_of answers }) start cmds new → Turn p answers old at i cmds new
turn_again p answers old at i acts events start cmds new e b n d l =
    let f : ◌≡◌ {A = Frame} (record { activities = acts; at = at; is_first = false; events = events; answer = answer_of answers }) (frame p old at i answers) =
    λ x. record { activities = e x; at = at; is_first = not_first p old i start b d x; events = n x; answer = answer_of answers } in
    turn_leads p answers old at i start (record { activities = acts; at = at; is_first = false; events = events; answer = answer_of answers }) cmds new f (sym d) l

pub turn_first : (p : Program) (answers : Answers) (at : ℕ) (vs : List Value) (acts : List ActivityType) (start : Progress) (cmds : List Cmd) (new : Configuration) → acts ≡ activities_of p.declarations → Some start ≡ begun p vs
    → Leads (record { activities = acts; at = at; is_first = true; events = 1; answer = answer_of answers }) start cmds new → Turn p answers first_configuration at (input.Started vs) cmds new
turn_first p answers at vs acts start cmds new e d l =
    let f : ◌≡◌ {A = Frame} (record { activities = acts; at = at; is_first = true; events = 1; answer = answer_of answers }) (frame p first_configuration at (input.Started vs) answers) =
    λ x. record { activities = e x; at = at; is_first = true; events = 1; answer = answer_of answers } in
    turn_leads p answers first_configuration at (input.Started vs) start (record { activities = acts; at = at; is_first = true; events = 1; answer = answer_of answers }) cmds new f (sym d) l

-- a run begins where its arguments fit, and nowhere else
fits_if : (b : Bool) (x q : Progress) → Some x ≡ (if b then Some q else None) → b ≡ true
fits_if true x q e = refl
fits_if false x q e = cc

unfit_if : (b : Bool) (q : Progress) → ◌≡◌ {A = Option Progress} None (if b then Some q else None) → b ≡ false
unfit_if true q e = cc
unfit_if false q e = refl

pub begun_fits : (p : Program) (vs : List Value) (x : Progress) → Some x ≡ begun p vs → all_fit p.parameters vs ≡ true
begun_fits p vs x e =
    fits_if (all_fit p.parameters vs) x (record { rest = rest_of p.body; store = record { variables = bound p.parameters vs; buffer = []; decided = none_decided; tests = 0 }; asked = []; state = Open }) e

pub begun_unfit : (p : Program) (vs : List Value) → None ≡ begun p vs → all_fit p.parameters vs ≡ false
begun_unfit p vs e =
    unfit_if (all_fit p.parameters vs) (record { rest = rest_of p.body; store = record { variables = bound p.parameters vs; buffer = []; decided = none_decided; tests = 0 }; asked = []; state = Open }) e

-- the input of a turn is delivered
pub is_delivered : (p : Program) (answers : Answers) (old : Configuration) (at : ℕ) (i : Input) (cmds : List Cmd) (new : Configuration) → Turn p answers old at i cmds new → is_some (deliver p old i) ≡ true
is_delivered p answers old at i cmds new t = ap is_some t.delivered

-- where a run begins, its start is delivered
begun_not : (p : Program) (vs : List Value) → all_fit p.parameters vs ≡ false → deliver p first_configuration (input.Started vs) ≡ None
begun_not p vs h = rw h

begun_some : (p : Program) (vs : List Value) → all_fit p.parameters vs ≡ true → is_some (deliver p first_configuration (input.Started vs)) ≡ true
begun_some p vs h = rw h

begins_or : {A : Type 0} (o : Option A) (p : Program) (vs : List Value) (P : A → Type 0) → MatchOption o (all_fit p.parameters vs ≡ false) P → MatchOption o (deliver p first_configuration (input.Started vs) ≡ None) P
begins_or None p vs P h = begun_not p vs h
begins_or (Some a) p vs P h = h

pub begins_ok : {A E : Type 0} (r : Result (Option A) E) (p : Program) (vs : List Value) (P : A → Type 0)
    → IfOk r (λ o. MatchOption o (all_fit p.parameters vs ≡ false) P) → IfOk r (λ o. MatchOption o (deliver p first_configuration (input.Started vs) ≡ None) P)
begins_ok (Ok o) p vs P h = begins_or o p vs P h
begins_ok (Err e) p vs P h = h

pub begins_err : {A E : Type 0} (r : Result A E) (p : Program) (vs : List Value) → OnErr r (all_fit p.parameters vs ≡ true) → OnErr r (is_some (deliver p first_configuration (input.Started vs)) ≡ true)
begins_err (Ok a) p vs h = h
begins_err (Err e) p vs h = begun_some p vs h
