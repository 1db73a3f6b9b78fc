-- All moments of a run of a checked program fit, from the first configuration on; and so the laws.
use Rattle.std.proofs.Common.{◌≡◌, ℕ, suc, zero, Bool, true, false, ◌&&◌, List, [], ◌∷◌, ◌++◌, map, Option, Some, None, refl, sym, ap, subst, ◌∙◌, bytes_eq, if◌then◌else◌, inl, inr}
use Rattle.std.specs.Prelude.{◌⊎◌, nat_eq}
use Rattle.std.specs.List.{All}
use Rattle.std.proofs.lemmas.List.Elements.{All-append, All-cons, All-nil}
use Rattle.std.specs.Cmp.Lexicographic.{bytes_decides}
use Rattle.flow_base.specs.declared.value.Value.{Value}
use Rattle.flow_base.specs.declared.value.Value.TheVariants as value
use Rattle.flow_base.specs.declared.value.Kind.{Kind}
use Rattle.flow_base.specs.declared.value.Kind.TheVariants.{Int, Text}
use Rattle.flow_base.specs.declared.syntax.Parameter.{Parameter}
use Rattle.flow_base.specs.declared.event.Cause.TheVariants.{ActivityFailed}
use Rattle.flow_base.specs.declared.event.Cmd.{Cmd}
use Rattle.flow_base.specs.declared.event.Cmd.TheVariants.{Complete}
use Rattle.flow_base.specs.declared.event.Event.{Event}
use Rattle.flow_base.specs.declared.event.Input.{Input}
use Rattle.flow_base.specs.declared.event.Input.TheVariants as input
use Rattle.flow_base.specs.declared.event.State.{State}
use Rattle.flow_base.specs.declared.event.State.TheVariants.{Unbegun, Open, Completed, Failed, Continued, Terminated}
use Rattle.flow_base.specs.Syntax.{Bytes, Otherwise, NoElse, Else, Declared, Activity, Signal, Program, activities_of, signals_of}
use Rattle.flow_model.specs.Values.{Variables, with_variable}
use Rattle.flow_model.specs.Rest.{Rest, Done, OnActivity, OnTimer, OnSignal, OnSignalFor, Raised, Then, Beside, rest_of, rest_else, is_done}
use Rattle.flow_model.specs.Configuration.{Configuration, first_configuration, none_decided, is_open}
use Rattle.flow_model.specs.Step.{Move, Stays, Goes, Asks, Ends, move}
use Rattle.flow_model.specs.Deliver.{Progress, deliver, begun, bound, all_fit, has_kind, signal_fits, target_of, replaced, map_rest, or_rest, when_completed, when_failed, when_fired, completed, with_rest, start_from}
use Rattle.flow_model.specs.Turn.{Frame, Recorded, frame, setting, next, ended, after_move, go_on, steps}
use Rattle.flow_model.specs.Stands.{Leads}
use Rattle.flow_model.specs.WellFormed.{Types, no_types, with_type, type_known, types_of_parameters, signal_of, scope_of, faults_of_block, WellFormed}
use Rattle.flow_check.specs.Typed.{type_of, IsFit, Reaches, Steps, Moment, NothingMissing, OneKind, CommandsFit, StandsReached}
use Rattle.flow_check.proofs.KindOfName.{kinds, all_agree, Agrees, agrees_both, typings_of, typings_of_block, typing_of_parameter}
use Rattle.flow_check.proofs.Fitting.{Holds, Sees, More, more_same, more_with, holds_with, Fits, fits_more, OtherwiseFits, BufferFits, StoreFits, MoveFits, move_fits, block_more, next_can_begin}

some_is : {A : Type 0} {x y : A} → Some x ≡ Some y → x ≡ y
some_is h = cc

abbrev ProgressFits : Program → Types → Progress → Type 0
ProgressFits p G q = StoreFits p G q.store × Fits p G q.store.variables q.rest × All (IsFit p) q.asked

abbrev OptionFits : Program → Types → Option Progress → Type 0
OptionFits p G None = Unit {0}
OptionFits p G (Some q) = ProgressFits p G q

abbrev ConfigurationFits : Program → Types → Configuration → Type 0
ConfigurationFits p G k = Holds G k.variables × BufferFits p k.buffer × Fits p G k.variables k.rest

abbrev RestFits : Program → Types → Variables → Option Rest → Type 0
RestFits p G vars None = Unit {0}
RestFits p G vars (Some r) = Fits p G vars r

-- a wait's variable has the type that is tested where the wait ends
abbrev TargetFits : Types → Option (Bytes × Kind) → Type 0
TargetFits G None = Unit {0}
TargetFits G (Some x) = G x.0 ≡ Some (Some x.1)

---- Steps

one_more_fits : (p : Program) (cs : List Cmd) (c : Cmd) → All (IsFit p) cs → IsFit p c → All (IsFit p) (cs ++ c ∷ [])
one_more_fits p cs c h f = All-append (IsFit p) cs (c ∷ []) h (All-cons (IsFit p) c [] f (All-nil (IsFit p)))

option_if : (p : Program) (G : Types) (b : Bool) (x y : Option Progress) → OptionFits p G x → OptionFits p G y → OptionFits p G (if b then x else y)
option_if p G true x y h k = h
option_if p G false x y h k = k

after_fits : (p : Program) (G : Types) (q : Progress) (m : Move) → ProgressFits p G q → MoveFits p G q.store.variables no_types m → OptionFits p G (after_move q m)
after_fits p G q Stays f g = tt
after_fits p G q (Goes r t) f g = (g.0, g.3, f.2)
after_fits p G q (Asks r t c) f g = (g.0.0, g.0.3, one_more_fits p q.asked c f.2 g.1)
after_fits p G q (Ends c) f g = (f.0, tt, one_more_fits p q.asked c f.2 g)

next_fits : (p : Program) (G : Types) (f : Frame) (q : Progress) → f.activities ≡ activities_of p.declarations → ProgressFits p G q → OptionFits p G (next f q)
next_fits p G f q active h =
    let m = move (setting f q) q.store q.rest in
    option_if p G (is_open q.state) (if is_done q.rest then Some (ended q (Complete (value.Text []))) else after_move q m) None
    (option_if p G (is_done q.rest) (Some (ended q (Complete (value.Text [])))) (after_move q m)
    (h.0, tt, one_more_fits p q.asked (Complete (value.Text [])) h.2 tt)
    (after_fits p G q m h (move_fits p G (setting f q) q.store active h.0 q.rest h.1))) tt

steps_fit : (p : Program) (G : Types) (n : ℕ) (f : Frame) (q r : Progress) → f.activities ≡ activities_of p.declarations → ProgressFits p G q → Steps n f q r → ProgressFits p G r
steps_fit p G zero f q r active h s = subst (ProgressFits p G) s h
steps_fit p G (suc n) f q r active h s = steps_fit p G n f s.0 r active (subst (OptionFits p G) s.1.0 (next_fits p G f q active h)) s.1.1

turn_fits : (p : Program) (G : Types) (n : ℕ) (f : Frame) (q r : Progress) → f.activities ≡ activities_of p.declarations → ProgressFits p G q → steps n f q ≡ Some r → ProgressFits p G r
turn_fits p G zero f q r active h e = absurd (cc)
turn_fits p G (suc n) f q r active h e =
    elim (next f q) as (λ o. OptionFits p G o → go_on f o q (steps n f) ≡ Some r → ProgressFits p G r) [
      | None ↦ λ g v. subst (ProgressFits p G) (some_is v) h
      | Some m ↦ λ g v. turn_fits p G n f m r active g v
    ] (next_fits p G f q active h) e

---- Deliveries

map_fits : (p : Program) (G : Types) (vars : Variables) (f : Rest → Rest) (o : Option Rest) → ((r : Rest) → Fits p G vars r → Fits p G vars (f r)) → RestFits p G vars o → RestFits p G vars (map_rest f o)
map_fits p G vars f None h g = tt
map_fits p G vars f (Some r) h g = h r g

or_fits : (p : Program) (G : Types) (vars : Variables) (o u : Option Rest) → RestFits p G vars o → RestFits p G vars u → RestFits p G vars (or_rest o u)
or_fits p G vars None u h g = g
or_fits p G vars (Some r) u h g = h

module _ (p : Program) (G : Types) (vars more : Variables) (m : More vars more) (f : Rest → Option Rest) (leaf : (l : Rest) → Fits p G vars l → RestFits p G more (f l)) where
  replaced_fits : (r : Rest) → Fits p G vars r → RestFits p G more (replaced f r)
  replaced_fits Done h = leaf Done h
  replaced_fits (OnActivity n x k o) h = leaf (OnActivity n x k o) h
  replaced_fits (OnTimer n) h = leaf (OnTimer n) h
  replaced_fits (OnSignal x s) h = leaf (OnSignal x s) h
  replaced_fits (OnSignalFor x s n b) h = leaf (OnSignalFor x s n b) h
  replaced_fits (Raised c t) h = leaf (Raised c t) h
  replaced_fits (Then r b) h = map_fits p G more (λ q. Then q b) (replaced f r) (λ q g. (g, block_more p G vars more m b h.1)) (replaced_fits r h.0)
  replaced_fits (Beside a b) h =
      or_fits p G more (map_rest (λ q. Beside q b) (replaced f a)) (map_rest (λ q. Beside a q) (replaced f b))
      (map_fits p G more (λ q. Beside q b) (replaced f a) (λ q g. (g, fits_more p G vars more m b h.1)) (replaced_fits a h.0))
      (map_fits p G more (λ q. Beside a q) (replaced f b) (λ q g. (fits_more p G vars more m a h.0, g)) (replaced_fits b h.1))

rest_if : (p : Program) (G : Types) (vars : Variables) (b : Bool) (r : Rest) → Fits p G vars r → RestFits p G vars (if b then Some r else None)
rest_if p G vars true r h = h
rest_if p G vars false r h = tt

completed_leaf : (p : Program) (G : Types) (vars more : Variables) (n : ℕ) (l : Rest) → Fits p G vars l → RestFits p G more (when_completed n l)
completed_leaf p G vars more n Done h = tt
completed_leaf p G vars more n (OnActivity i x k o) h = rest_if p G more (nat_eq i n) Done tt
completed_leaf p G vars more n (OnTimer i) h = tt
completed_leaf p G vars more n (OnSignal x s) h = tt
completed_leaf p G vars more n (OnSignalFor x s i b) h = tt
completed_leaf p G vars more n (Raised c t) h = tt
completed_leaf p G vars more n (Then r b) h = tt
completed_leaf p G vars more n (Beside a b) h = tt

else_fits : (p : Program) (G : Types) (vars : Variables) (o : Otherwise) (text : Bytes) → OtherwiseFits p G vars o → Fits p G vars (rest_else o (Raised ActivityFailed text))
else_fits p G vars NoElse text h = tt
else_fits p G vars (Else b end) text h = (tt, h)

failed_leaf : (p : Program) (G : Types) (vars : Variables) (n : ℕ) (text : Bytes) (l : Rest) → Fits p G vars l → RestFits p G vars (when_failed n text l)
failed_leaf p G vars n text Done h = tt
failed_leaf p G vars n text (OnActivity i x k o) h = rest_if p G vars (nat_eq i n) (rest_else o (Raised ActivityFailed text)) (else_fits p G vars o text h.1)
failed_leaf p G vars n text (OnTimer i) h = tt
failed_leaf p G vars n text (OnSignal x s) h = tt
failed_leaf p G vars n text (OnSignalFor x s i b) h = tt
failed_leaf p G vars n text (Raised c t) h = tt
failed_leaf p G vars n text (Then r b) h = tt
failed_leaf p G vars n text (Beside a b) h = tt

fired_leaf : (p : Program) (G : Types) (vars : Variables) (n : ℕ) (l : Rest) → Fits p G vars l → RestFits p G vars (when_fired n l)
fired_leaf p G vars n Done h = tt
fired_leaf p G vars n (OnActivity i x k o) h = tt
fired_leaf p G vars n (OnTimer i) h = rest_if p G vars (nat_eq i n) Done tt
fired_leaf p G vars n (OnSignal x s) h = tt
fired_leaf p G vars n (OnSignalFor x s i b) h = rest_if p G vars (nat_eq i n) (rest_of b) (tt, h.1)
fired_leaf p G vars n (Raised c t) h = tt
fired_leaf p G vars n (Then r b) h = tt
fired_leaf p G vars n (Beside a b) h = tt

target_if : (G : Types) (b : Bool) (x : Bytes) (k : Kind) → G x ≡ Some (Some k) → TargetFits G (if b then Some (x, k) else None)
target_if G true x k h = h
target_if G false x k h = tt

target_fits : (p : Program) (G : Types) (vars : Variables) (n : ℕ) (r : Rest) → Fits p G vars r → TargetFits G (target_of n r)
target_fits p G vars n Done h = tt
target_fits p G vars n (OnActivity i x k o) h = target_if G (nat_eq i n) x k h.0
target_fits p G vars n (OnTimer i) h = tt
target_fits p G vars n (OnSignal x s) h = tt
target_fits p G vars n (OnSignalFor x s i b) h = tt
target_fits p G vars n (Raised c t) h = tt
target_fits p G vars n (Then r b) h = target_fits p G vars n r h.0
target_fits p G vars n (Beside a b) h =
    elim (target_of n a) as (λ o. TargetFits G o → TargetFits G (elim o [ None ↦ target_of n b | Some x ↦ Some x ])) [
      | None ↦ λ g. target_fits p G vars n b h.1
      | Some x ↦ λ g. g
    ] (target_fits p G vars n a h.0)

kind_tested : (k : Kind) (v : Value) → has_kind k v ≡ true → k ≡ type_of v
kind_tested Int (value.Int z) h = refl
kind_tested Int (value.Text t) h = cc
kind_tested Text (value.Int z) h = cc
kind_tested Text (value.Text t) h = refl

completed_if : (p : Program) (G : Types) (k : Configuration) (n : ℕ) (v : Value) (x : Bytes × Kind) (b : Bool) → has_kind x.1 v ≡ b → ConfigurationFits p G k → G x.0 ≡ Some (Some x.1)
    → OptionFits p G (if b then elim (replaced (when_completed n) k.rest) [ None ↦ None | Some r ↦ Some (start_from k r (with_variable k.variables x.0 v)) ] else None)
completed_if p G k n v x true e f g =
    let vars = with_variable k.variables x.0 v in
    let has : G x.0 ≡ Some (Some (type_of v)) = g ∙ ap (λ j. Some (Some j)) (kind_tested x.1 v e) in
    elim (replaced (when_completed n) k.rest) as (λ o. RestFits p G vars o → OptionFits p G (elim o [ None ↦ None | Some r ↦ Some (start_from k r vars) ])) [
      | None ↦ λ h. tt
      | Some r ↦ λ h. ((holds_with G k.variables x.0 v f.0 has, f.1), h, All-nil (IsFit p))
    ] (replaced_fits p G k.variables vars (more_with k.variables x.0 v) (when_completed n) (completed_leaf p G k.variables vars n) k.rest f.2)
completed_if p G k n v x false e f g = tt

completed_fits : (p : Program) (G : Types) (k : Configuration) (n : ℕ) (v : Value) (o : Option (Bytes × Kind)) → ConfigurationFits p G k → TargetFits G o → OptionFits p G (completed k n v o)
completed_fits p G k n v None f g = tt
completed_fits p G k n v (Some x) f g = completed_if p G k n v x (has_kind x.1 v) refl f g

rest_fits : (p : Program) (G : Types) (k : Configuration) (o : Option Rest) → ConfigurationFits p G k → RestFits p G k.variables o → OptionFits p G (with_rest k o)
rest_fits p G k None f h = tt
rest_fits p G k (Some r) f h = ((f.0, f.1), h, All-nil (IsFit p))

signal_if : (b t : Bool) (k : Kind) (v : Value) (o : Option Kind) → (t ≡ true → o ≡ Some (type_of v)) → (if b then has_kind k v else t) ≡ true → (if b then Some k else o) ≡ Some (type_of v)
signal_if true t k v o f h = ap Some (kind_tested k v h)
signal_if false t k v o f h = f h

signal_is : (ds : List Declared) (name : Bytes) (v : Value) → signal_fits (signals_of ds) name v ≡ true → signal_of ds name ≡ Some (type_of v)
signal_is [] name v h = absurd (cc)
signal_is (Activity at name_at x takes gives ∷ ds) name v h = signal_is ds name v h
signal_is (Signal at name_at x carries ∷ ds) name v h = signal_if (bytes_eq x name) (signal_fits (signals_of ds) name v) carries v (signal_of ds name) (signal_is ds name v) h

buffer_more : (p : Program) (ss : List (Bytes × Value)) (s : Bytes × Value) → BufferFits p ss → signal_of p.declarations s.0 ≡ Some (type_of s.1) → BufferFits p (ss ++ s ∷ [])
buffer_more p [] s f h = (h, tt)
buffer_more p (x ∷ ss) s f h = (f.0, buffer_more p ss s f.1 h)

second_of : (a b : Bool) → (a && b) ≡ true → b ≡ true
second_of true b h = h
second_of false b h = cc

first_of_two : (a b : Bool) → (a && b) ≡ true → a ≡ true
first_of_two true b h = refl
first_of_two false b h = h

signaled_if : (p : Program) (G : Types) (k : Configuration) (name : Bytes) (v : Value) (b : Bool) → ConfigurationFits p G k → (b ≡ true → signal_of p.declarations name ≡ Some (type_of v))
    → OptionFits p G (if b then Some (record { rest = k.rest; store = record { variables = k.variables; buffer = k.buffer ++ (name, v) ∷ []; decided = k.decided; tests = 0 }; asked = []; state = k.state }) else None)
signaled_if p G k name v true f h = ((f.0, buffer_more p k.buffer (name, v) f.1 (h refl)), f.2, All-nil (IsFit p))
signaled_if p G k name v false f h = tt

---- The start

bound_holds : (G : Types) (ps : List Parameter) (vs : List Value) → Agrees G (map typing_of_parameter ps) → all_fit ps vs ≡ true → Holds G (bound ps vs)
bound_holds G [] vs a h x v e = absurd (cc)
bound_holds G (q ∷ ps) [] a h x v e = absurd (cc)
bound_holds G (q ∷ ps) (w ∷ vs) a h x v e =
    holds_with G (bound ps vs) q.name w (bound_holds G ps vs a.1 (second_of (has_kind q.kind w) (all_fit ps vs) h))
    (a.0 ∙ ap (λ j. Some (Some j)) (kind_tested q.kind w (first_of_two (has_kind q.kind w) (all_fit ps vs) h))) x v e

abbrev IsBound : Types → Variables → Bytes → Option Kind → Type 0
IsBound G vars x o = (k : Kind) × ((o ≡ Some k) × (G x ≡ Some (Some k)) × ((v : Value) × (vars x ≡ Some v)))

bound_if : (G : Types) (types : Types) (vars : Variables) (x name : Bytes) (v : Value) (k : Kind) (o : Option Kind) (b : Bool) → bytes_eq name x ≡ b → G name ≡ Some (Some k)
    → (if b then Some (Some k) else types x) ≡ Some o → (types x ≡ Some o) ⊎ IsBound G (with_variable vars name v) x o
bound_if G types vars x name v k o true e g h =
    let same : name ≡ x = (bytes_decides name x).0 e in
    inr (k, (sym (some_is h), ap G (sym same) ∙ g, (v, ap (λ b. if b then Some v else vars x) ((bytes_decides x name).1 (sym same)))))
bound_if G types vars x name v k o false e g h = inl h

bound_sees : (G : Types) (types : Types) (ps : List Parameter) (vs : List Value) → Agrees G (map typing_of_parameter ps) → all_fit ps vs ≡ true → (x : Bytes) (o : Option Kind) → types_of_parameters types ps x ≡ Some o
    → (types x ≡ Some o) ⊎ IsBound G (bound ps vs) x o
bound_sees G types [] vs a h x o e = inl e
bound_sees G types (q ∷ ps) [] a h x o e = absurd (cc)
bound_sees G types (q ∷ ps) (w ∷ vs) a h x o e =
    elim (bound_sees G (with_type types q.name (Some q.kind)) ps vs a.1 (second_of (has_kind q.kind w) (all_fit ps vs) h) x o e) [
      | inl i ↦ bound_if G types (bound ps vs) x q.name w q.kind o (bytes_eq q.name x) refl a.0 i
      | inr i ↦ inr (i.0, (i.1.0, i.1.1, more_with (bound ps vs) q.name w x i.1.2))
    ]

visible_bound : (G : Types) (vars : Variables) (x : Bytes) (o : Option Kind) → (no_types x ≡ Some o) ⊎ IsBound G vars x o → IsBound G vars x o
visible_bound G vars x o (inl e) = absurd (cc)
visible_bound G vars x o (inr i) = i

module _ (p : Program) (G : Types) (agree : Agrees G (typings_of p)) (body : faults_of_block (scope_of p) p.body ≡ []) where
  begun_if : (vs : List Value) (b : Bool) → all_fit p.parameters vs ≡ b
      → OptionFits p G (if b then Some (record { rest = rest_of p.body; store = record { variables = bound p.parameters vs; buffer = []; decided = none_decided; tests = 0 }; asked = []; state = Open }) else None)
  begun_if vs true e =
      let parts = agrees_both G (map typing_of_parameter p.parameters) (typings_of_block (scope_of p).types p.body) agree in
      let sees : Sees G (bound p.parameters vs) (scope_of p).types = λ x o h. visible_bound G (bound p.parameters vs) x o (bound_sees G no_types p.parameters vs parts.0 e x o h) in
      ((bound_holds G p.parameters vs parts.0 e, tt), (tt, ((scope_of p).types, (false, (sees, body, parts.1)))), All-nil (IsFit p))
  begun_if vs false e = tt

  begins_fit : (st : State) (o : Option Progress) → OptionFits p G o → OptionFits p G (elim st [ Unbegun ↦ o | _ ↦ None ])
  begins_fit Unbegun o h = h
  begins_fit Open o h = tt
  begins_fit Completed o h = tt
  begins_fit Failed o h = tt
  begins_fit Continued o h = tt
  begins_fit Terminated o h = tt

  deliver_fits : (k : Configuration) (i : Input) → ConfigurationFits p G k → OptionFits p G (deliver p k i)
  deliver_fits k (input.Started vs) f = begins_fit k.state (begun p vs) (begun_if vs (all_fit p.parameters vs) refl)
  deliver_fits k (input.Signaled name request v) f =
      signaled_if p G k name v (is_open k.state && signal_fits (signals_of p.declarations) name v) f
      (λ h. signal_is p.declarations name v (second_of (is_open k.state) (signal_fits (signals_of p.declarations) name v) h))
  deliver_fits k (input.ActivityCompleted n v) f =
      option_if p G (is_open k.state) (completed k n v (target_of n k.rest)) None (completed_fits p G k n v (target_of n k.rest) f (target_fits p G k.variables n k.rest f.2)) tt
  deliver_fits k (input.ActivityFailed n text) f =
      option_if p G (is_open k.state) (with_rest k (replaced (when_failed n text) k.rest)) None
      (rest_fits p G k (replaced (when_failed n text) k.rest) f (replaced_fits p G k.variables k.variables (more_same k.variables) (when_failed n text) (failed_leaf p G k.variables n text) k.rest f.2)) tt
  deliver_fits k (input.TimerFired n) f =
      option_if p G (is_open k.state) (with_rest k (replaced (when_fired n) k.rest)) None
      (rest_fits p G k (replaced (when_fired n) k.rest) f (replaced_fits p G k.variables k.variables (more_same k.variables) (when_fired n) (fired_leaf p G k.variables n) k.rest f.2)) tt
  deliver_fits k (input.Terminated text) f =
      option_if p G (is_open k.state) (Some (record (start_from k Done k.variables) { state = Terminated })) None ((f.0, f.1), tt, All-nil (IsFit p)) tt

  first_fit : ConfigurationFits p G first_configuration
  first_fit = ((λ x v e. absurd (cc)), tt, tt)

  reached_fits : (n : ℕ) (k : Configuration) → Reaches p n k → ConfigurationFits p G k
  reached_fits zero k r = subst (ConfigurationFits p G) (sym r) first_fit
  reached_fits (suc n) k r =
      let old = r.0 in
      let turn = r.1.1.1.1.1.0 in
      let start = subst (OptionFits p G) turn.delivered (deliver_fits old r.1.1.1.0 (reached_fits n old r.1.1.1.1.1.1)) in
      let last = turn_fits p G turn.count (frame p old r.1.1.0 r.1.1.1.0 r.1.0) turn.start turn.last refl start turn.runs in
      subst (ConfigurationFits p G) (sym turn.leaves) (last.0.0, last.0.1, last.1)

  moment_fits : (q : Progress) → Moment p q → ProgressFits p G q
  moment_fits q m =
      let start = subst (OptionFits p G) m.delivered (deliver_fits m.before m.input (reached_fits m.turns m.before m.chain)) in
      steps_fit p G m.count (frame p m.before m.at m.input m.answers) m.start q refl start m.steps

---- Laws

fits_in : (p : Program) (q : Progress) → WellFormed p → Moment p q → ProgressFits p (kinds p) q
fits_in p q w m = let a = all_agree p w in moment_fits p (kinds p) a.0 a.1 q m

pub nothing_missing : NothingMissing
nothing_missing p q s w m i = let f = fits_in p q w m in next_can_begin p (kinds p) q.store.variables q.rest s f.0.0 f.1 i

pub one_kind : OneKind
one_kind p w = ((λ x. type_known (kinds p x)), (λ q x v m e. ap type_known ((fits_in p q w m).0.0 x v e)))

pub commands_fit : CommandsFit
commands_fit p q c w m h = subst (IsFit p) h.2 ((fits_in p q w m).2 h.0 c h.1)

leads_reached : (p : Program) (n : ℕ) (due : List Cmd) (k : Configuration) (h : List Event) (k' : Configuration) (m : ℕ) → Reaches p m k → Leads p n due k h k' → (j : ℕ) × Reaches p j k'
leads_reached p n due k [] k' m r l = (m, subst (Reaches p m) l.1 r)
leads_reached p n [] k (e ∷ later) k' m r l =
    let a = l.1.1.0 in
    leads_reached p (suc n) l.0 l.1.0 later k' (suc m) (k, (Recorded later, (e.at, (a.2.0, (l.0, (a.2.2, r)))))) l.1.1.1
leads_reached p n (c ∷ due) k (e ∷ later) k' m r l = leads_reached p (suc n) l.0 l.1.0 later k' m (subst (Reaches p m) (sym l.1.1.0.4) r) l.1.1.1

pub stands_reached : StandsReached
stands_reached p h k s = leads_reached p 1 [] first_configuration h k 0 refl s.1
