-- What is left of a run fits its variables: each list of statements that is still to run has no fault where it stands, and
-- what is visible there is set, with the type of its declaration. Steps and deliveries keep it so.
use Rattle.std.proofs.Common.{◌≡◌, ℕ, Bool, true, false, ◌&&◌, List, [], ◌∷◌, ◌++◌, map, Option, Some, None, Result, Ok, Err, refl, sym, ap, subst, ◌∙◌, bytes_eq, if◌then◌else◌, inl, inr, drop}
use Rattle.std.specs.Prelude.{nat_lt}
use Rattle.std.proofs.lemmas.List.{append-nil}
use Rattle.std.specs.Cmp.Lexicographic.{bytes_decides}
use Rattle.flow_base.specs.declared.code.Code.TheVariants as code
use Rattle.flow_base.specs.declared.value.Value.{Value}
use Rattle.flow_base.specs.declared.value.Value.TheVariants as value
use Rattle.flow_base.specs.declared.value.Kind.{Kind}
use Rattle.flow_base.specs.declared.value.Kind.TheVariants.{Int, Text}
use Rattle.flow_base.specs.declared.syntax.Parameter.{Parameter}
use Rattle.flow_base.specs.declared.event.Cause.{Cause}
use Rattle.flow_base.specs.declared.event.Cause.TheVariants.{WaitLimit, TurnBudget, ChainLimit}
use Rattle.flow_base.specs.declared.event.Cmd.TheVariants.{Schedule, StartTimer, CancelTimer, RecordMarker, ContinueAsNew}
use Rattle.flow_base.specs.Syntax.{Bytes, Expression, Statement, Let, Assign, Call, WaitSignal, WaitSignalFor, Sleep, If, While, Parallel, Patch, Deprecate, Return, FailWith, Continue, Block, End, Next, Otherwise, NoElse, Else, Branches, NoBranch, Branch, Declared, Activity, Signal, Program, activities_of}
use Rattle.flow_base.specs.declared.syntax.Retry.{Retry}
use Rattle.flow_model.specs.Values.{Variables, with_variable, value as value_of, values, due, is_true}
use Rattle.flow_model.specs.Rest.{Rest, Done, OnActivity, OnTimer, OnSignal, OnSignalFor, Raised, Then, Beside, rest_of, branches_of, is_done}
use Rattle.flow_model.specs.Step.{Store, Setting, Move, Stays, Goes, Asks, Ends, on_value, set_in, gives_of, oldest, without_oldest, take_signal, on_signal, waiting, wait_limit, test_limit, tested, picked, decide, patched, begin, around, followed_by, first_of, or_move, move, raise}
use Rattle.flow_model.specs.Deliver.{has_kind, all_fit}
use Rattle.flow_model.specs.WellFormed.{Types, no_types, with_type, kind_of, beginning, Signature, activity_of, signal_of, Scope, behind, given, fault_at_first, branch_places, branch_limit, faults_of_expression, faults_of_wanted, faults_of_assigned, faults_of_arguments, faults_of_call, faults_of_retry, wrong_count, unknown_signal, ends_in_parallel, faults_of_statement, faults_of_block, faults_of_otherwise, faults_of_branches}
use Rattle.flow_check.specs.Typed.{type_of, IsThere, HasKind, HaveKinds, CanBegin, IsFirst, IsNext, IsFit}
use Rattle.flow_check.proofs.HavingKinds.{none_in_both, Shows, known, known_wanted, known_all, wanted_kind, value_has_kind, values_have_kinds}
use Rattle.flow_check.proofs.KindOfName.{types_behind, typings_of_statement, typings_of_block, typings_of_otherwise, typings_of_branches, Agrees, agrees_both}

---- Definitions

abbrev IsSet : Variables → Bytes → Type 0
IsSet vars x = (v : Value) × (vars x ≡ Some v)

-- what is set has the type of its declaration
abbrev pub Holds : Types → Variables → Type 0
Holds G vars = (x : Bytes) (v : Value) → vars x ≡ Some v → G x ≡ Some (Some (type_of v))

-- what is visible has the type of its declaration, and is set
abbrev pub Sees : Types → Variables → Types → Type 0
Sees G vars types = (x : Bytes) (o : Option Kind) → types x ≡ Some o → (k : Kind) × ((o ≡ Some k) × (G x ≡ Some (Some k)) × IsSet vars x)

-- what is set stays so
abbrev pub More : Variables → Variables → Type 0
More vars more = (x : Bytes) → IsSet vars x → IsSet more x

abbrev pub scope : Program → Types → Bool → Scope
scope p types par =
    record { types = types; activities = activity_of p.declarations; signals = signal_of p.declarations; parameters = map (λ (q : Parameter). q.kind) p.parameters; in_parallel = par }

abbrev pub BlockFits : Program → Types → Variables → Block → Type 0
BlockFits p G vars b = (types : Types) × ((par : Bool) × (Sees G vars types × (faults_of_block (scope p types par) b ≡ []) × Agrees G (typings_of_block types b)))

abbrev pub OtherwiseFits : Program → Types → Variables → Otherwise → Type 0
OtherwiseFits p G vars NoElse = Unit {0}
OtherwiseFits p G vars (Else b end) = BlockFits p G vars b

abbrev SignalFits : Program → Types → Bytes → Bytes → Type 0
SignalFits p G x name = (k : Kind) × ((signal_of p.declarations name ≡ Some k) × (G x ≡ Some (Some k)))

abbrev pub Fits : Program → Types → Variables → Rest → Type 0
Fits p G vars Done = Unit {0}
Fits p G vars (OnActivity n x k o) = (G x ≡ Some (Some k)) × OtherwiseFits p G vars o
Fits p G vars (OnTimer n) = Unit {0}
Fits p G vars (OnSignal x name) = SignalFits p G x name
Fits p G vars (OnSignalFor x name n b) = SignalFits p G x name × BlockFits p G vars b
Fits p G vars (Raised c t) = Unit {0}
Fits p G vars (Then r b) = Fits p G vars r × BlockFits p G vars b
Fits p G vars (Beside a b) = Fits p G vars a × Fits p G vars b

-- each signal has its declared type
abbrev pub BufferFits : Program → List (Bytes × Value) → Type 0
BufferFits p [] = Unit {0}
BufferFits p (s ∷ ss) = (signal_of p.declarations s.0 ≡ Some (type_of s.1)) × BufferFits p ss

abbrev pub StoreFits : Program → Types → Store → Type 0
StoreFits p G t = Holds G t.variables × BufferFits p t.buffer

abbrev After : Program → Types → Variables → Types → Rest → Store → Type 0
After p G vars types r t = StoreFits p G t × More vars t.variables × Sees G t.variables types × Fits p G t.variables r

-- a move leads to what fits, and then these types are visible
abbrev pub MoveFits : Program → Types → Variables → Types → Move → Type 0
MoveFits p G vars types Stays = Unit {0}
MoveFits p G vars types (Goes r t) = After p G vars types r t
MoveFits p G vars types (Asks r t c) = After p G vars types r t × IsFit p c
MoveFits p G vars types (Ends c) = IsFit p c

---- Variables

some_is : {A : Type 0} {x y : A} → Some x ≡ Some y → x ≡ y
some_is h = cc

more_then : (a b c : Variables) → More a b → More b c → More a c
more_then a b c f g x s = g x (f x s)

pub more_same : (a : Variables) → More a a
more_same a x s = s

sees_more : (G : Types) (a b : Variables) (types : Types) → More a b → Sees G a types → Sees G b types
sees_more G a b types m s x o e = let h = s x o e in (h.0, (h.1.0, h.1.1, m x h.1.2))

set_if : (b : Bool) (v : Value) (o : Option Value) → (w : Value) × (o ≡ Some w) → (w : Value) × ((if b then Some v else o) ≡ Some w)
set_if true v o h = (v, refl)
set_if false v o h = h

pub more_with : (vars : Variables) (y : Bytes) (v : Value) → More vars (with_variable vars y v)
more_with vars y v x s = set_if (bytes_eq x y) v (vars x) s

set_there : (vars : Variables) (x : Bytes) (v : Value) → IsSet (with_variable vars x v) x
set_there vars x v = (v, ap (λ b. if b then Some v else vars x) ((bytes_decides x x).1 refl))

holds_if : (G : Types) (x y : Bytes) (v w : Value) (o : Option Value) (b : Bool) → bytes_eq x y ≡ b → (o ≡ Some w → G x ≡ Some (Some (type_of w))) → G y ≡ Some (Some (type_of v))
    → (if b then Some v else o) ≡ Some w → G x ≡ Some (Some (type_of w))
holds_if G x y v w o true e f g h = ap G ((bytes_decides x y).0 e) ∙ g ∙ ap (λ u. Some (Some (type_of u))) (some_is h)
holds_if G x y v w o false e f g h = f h

pub holds_with : (G : Types) (vars : Variables) (y : Bytes) (v : Value) → Holds G vars → G y ≡ Some (Some (type_of v)) → Holds G (with_variable vars y v)
holds_with G vars y v h g x w e = holds_if G x y v w (vars x) (bytes_eq x y) refl (h x w) g e

there_of : (G : Types) (vars : Variables) (x : Bytes) (k : Kind) → Holds G vars → G x ≡ Some (Some k) → IsSet vars x → IsThere vars x k
there_of G vars x k h g s = (s.0, (s.1, some_is (some_is (sym (h x s.0 s.1) ∙ g))))

pub shows : (G : Types) (vars : Variables) (types : Types) → Holds G vars → Sees G vars types → Shows vars types
shows G vars types h s x o e = let i = s x o e in (i.0, (i.1.0, there_of G vars x i.0 h i.1.1 i.1.2))

sees_if : (G : Types) (vars : Variables) (types : Types) (x y : Bytes) (v : Value) (k : Kind) (q o : Option Kind) (b : Bool) → bytes_eq x y ≡ b → Sees G vars types → G x ≡ Some (Some k) → q ≡ Some k
    → (if b then Some q else types y) ≡ Some o → (j : Kind) × ((o ≡ Some j) × (G y ≡ Some (Some j)) × IsSet (with_variable vars x v) y)
sees_if G vars types x y v k q o true e s g is h =
    let same : x ≡ y = (bytes_decides x y).0 e in
    (k, (sym (some_is h) ∙ is, subst (λ (z : Bytes). G z ≡ Some (Some k)) same g, subst (λ (z : Bytes). IsSet (with_variable vars x v) z) same (set_there vars x v)))
sees_if G vars types x y v k q o false e s g is h = sees_more G vars (with_variable vars x v) types (more_with vars x v) s y o h

pub sees_let : (G : Types) (vars : Variables) (types : Types) (x : Bytes) (v : Value) (k : Kind) (q : Option Kind) → Sees G vars types → G x ≡ Some (Some k) → q ≡ Some k
    → Sees G (with_variable vars x v) (with_type types x q)
sees_let G vars types x v k q s g is y o e = sees_if G vars types x y v k q o (bytes_eq x y) refl s g is e

sees_nothing : (G : Types) (vars : Variables) → Sees G vars no_types
sees_nothing G vars x o e = absurd (cc)

---- What fits, fits more variables

module _ (p : Program) (G : Types) (a b : Variables) (m : More a b) where
  pub block_more : (c : Block) → BlockFits p G a c → BlockFits p G b c
  block_more c f = (f.0, (f.1.0, (sees_more G a b f.0 m f.1.1.0, f.1.1.1, f.1.1.2)))

  otherwise_more : (o : Otherwise) → OtherwiseFits p G a o → OtherwiseFits p G b o
  otherwise_more NoElse f = f
  otherwise_more (Else c end) f = block_more c f

  pub fits_more : (r : Rest) → Fits p G a r → Fits p G b r
  fits_more Done f = f
  fits_more (OnActivity n x k o) f = (f.0, otherwise_more o f.1)
  fits_more (OnTimer n) f = f
  fits_more (OnSignal x name) f = f
  fits_more (OnSignalFor x name n c) f = (f.0, block_more c f.1)
  fits_more (Raised c t) f = f
  fits_more (Then r c) f = (fits_more r f.0, block_more c f.1)
  fits_more (Beside r q) f = (fits_more r f.0, fits_more q f.1)

---- Signals and declarations

oldest_if : (p : Program) (name : Bytes) (s : Bytes × Value) (o : Option Value) (v : Value) (b : Bool) → bytes_eq s.0 name ≡ b → signal_of p.declarations s.0 ≡ Some (type_of s.1)
    → (o ≡ Some v → signal_of p.declarations name ≡ Some (type_of v)) → (if b then Some s.1 else o) ≡ Some v → signal_of p.declarations name ≡ Some (type_of v)
oldest_if p name s o v true e g f h = ap (signal_of p.declarations) (sym ((bytes_decides s.0 name).0 e)) ∙ g ∙ ap (λ u. Some (type_of u)) (some_is h)
oldest_if p name s o v false e g f h = f h

oldest_kind : (p : Program) (name : Bytes) (v : Value) (ss : List (Bytes × Value)) → BufferFits p ss → oldest name ss ≡ Some v → signal_of p.declarations name ≡ Some (type_of v)
oldest_kind p name v [] f h = absurd (cc)
oldest_kind p name v (s ∷ ss) f h = oldest_if p name s (oldest name ss) v (bytes_eq s.0 name) refl f.0 (oldest_kind p name v ss f.1) h

without_if : (p : Program) (s : Bytes × Value) (ss rest : List (Bytes × Value)) (b : Bool) → signal_of p.declarations s.0 ≡ Some (type_of s.1) → BufferFits p ss → BufferFits p rest → BufferFits p (if b then ss else s ∷ rest)
without_if p s ss rest true e f g = f
without_if p s ss rest false e f g = (e, g)

without_fits : (p : Program) (name : Bytes) (ss : List (Bytes × Value)) → BufferFits p ss → BufferFits p (without_oldest name ss)
without_fits p name [] f = f
without_fits p name (s ∷ ss) f = without_if p s ss (without_oldest name ss) (bytes_eq s.0 name) f.0 f.1 (without_fits p name ss f.1)

gives_if : (b : Bool) (s g : Signature) (o : Option Signature) (k : Kind) → (o ≡ Some g → k ≡ g.gives) → (if b then Some s else o) ≡ Some g → (if b then s.gives else k) ≡ g.gives
gives_if true s g o k f h = ap (λ (x : Signature). x.gives) (some_is h)
gives_if false s g o k f h = f h

gives_is : (ds : List Declared) (name : Bytes) (g : Signature) → activity_of ds name ≡ Some g → gives_of (activities_of ds) name ≡ g.gives
gives_is [] name g h = absurd (cc)
gives_is (Activity at name_at x takes gives ∷ ds) name g h =
    gives_if (bytes_eq x name) (record { takes = map (λ t. t.kind) takes; gives = gives }) g (activity_of ds name) (gives_of (activities_of ds) name) (gives_is ds name g) h
gives_is (Signal at name_at x carries ∷ ds) name g h = gives_is ds name g h

pub has_type : (v : Value) → has_kind (type_of v) v ≡ true
has_type (value.Int z) = refl
has_type (value.Text t) = refl

both_true : (a b : Bool) → a ≡ true → b ≡ true → (a && b) ≡ true
both_true a b h k = ap (λ x. x && b) h ∙ k

pub kinds_fit : (ps : List Parameter) (vs : List Value) → map type_of vs ≡ map (λ (q : Parameter). q.kind) ps → all_fit ps vs ≡ true
kinds_fit [] [] h = refl
kinds_fit [] (v ∷ vs) h = cc
kinds_fit (q ∷ ps) [] h = cc
kinds_fit (q ∷ ps) (v ∷ vs) h =
    let parts : (type_of v ≡ q.kind) × (map type_of vs ≡ map (λ (q : Parameter). q.kind) ps) = (cc, cc) in
    both_true (has_kind q.kind v) (all_fit ps vs) (ap (λ k. has_kind k v) (sym parts.0) ∙ has_type v) (kinds_fit ps vs parts.1)

---- Moves

module _ (p : Program) (G : Types) (vars : Variables) (types : Types) where
  fits_on_value : {A : Type 0} (r : Result A Cause) (f : A → Move) → ((v : A) → r ≡ Ok v → MoveFits p G vars types (f v)) → MoveFits p G vars types (on_value r f)
  fits_on_value (Ok v) f h = h v refl
  fits_on_value (Err c) f h = tt

  fits_on_signal : (o : Option Value) (f : Value → Move) (m : Move) → ((v : Value) → o ≡ Some v → MoveFits p G vars types (f v)) → MoveFits p G vars types m → MoveFits p G vars types (on_signal o f m)
  fits_on_signal None f m h k = k
  fits_on_signal (Some v) f m h k = h v refl

  fits_if : (b : Bool) (x y : Move) → MoveFits p G vars types x → MoveFits p G vars types y → MoveFits p G vars types (if b then x else y)
  fits_if true x y h k = h
  fits_if false x y h k = k

  fits_waiting : (s : Setting) (m : Move) → MoveFits p G vars types m → MoveFits p G vars types (waiting s m)
  fits_waiting s m h = fits_if (nat_lt s.waits wait_limit) m (raise WaitLimit) h tt

  fits_or : (m k : Move) → MoveFits p G vars types m → MoveFits p G vars types k → MoveFits p G vars types (or_move m k)
  fits_or Stays k h g = g
  fits_or (Goes r t) k h g = h
  fits_or (Asks r t c) k h g = h
  fits_or (Ends c) k h g = h

module _ (p : Program) (G : Types) (vars : Variables) where
  -- a rest within another that fits, whatever more is set
  fits_around : (f : Rest → Rest) (m : Move) → ((more : Variables) (r : Rest) → More vars more → Fits p G more r → Fits p G more (f r)) → MoveFits p G vars no_types m → MoveFits p G vars no_types (around f m)
  fits_around f Stays h g = tt
  fits_around f (Goes r t) h g = (g.0, g.1, g.2, h t.variables r g.1 g.3)
  fits_around f (Asks r t c) h g = ((g.0.0, g.0.1, g.0.2, h t.variables r g.0.1 g.0.3), g.1)
  fits_around f (Ends c) h g = g

  followed : (types : Types) (par : Bool) (b : Block) (more : Variables) (r : Rest) → faults_of_block (scope p types par) b ≡ [] → Agrees G (typings_of_block types b) → Sees G more types → Fits p G more r → Fits p G more (followed_by b r)
  followed types par End more r h a s f = f
  followed types par (Next t b) more r h a s f = (f, (types, (par, (s, h, a))))

  fits_followed : (types : Types) (par : Bool) (b : Block) (m : Move) → faults_of_block (scope p types par) b ≡ [] → Agrees G (typings_of_block types b) → MoveFits p G vars types m → MoveFits p G vars no_types (around (followed_by b) m)
  fits_followed types par b Stays h a g = tt
  fits_followed types par b (Goes r t) h a g = (g.0, g.1, sees_nothing G t.variables, followed types par b t.variables r h a g.2 g.3)
  fits_followed types par b (Asks r t c) h a g = ((g.0.0, g.0.1, sees_nothing G t.variables, followed types par b t.variables r h a g.0.2 g.0.3), g.1)
  fits_followed types par b (Ends c) h a g = g

  picked_fits : (b : Bool) (x y : Block) → BlockFits p G vars x → BlockFits p G vars y → Fits p G vars (picked b x y)
  picked_fits true x y h k = (tt, h)
  picked_fits false x y h k = (tt, k)

  otherwise_fits : (types : Types) (par : Bool) (o : Otherwise) → Sees G vars types → faults_of_otherwise (scope p types par) o ≡ [] → Agrees G (typings_of_otherwise types o) → OtherwiseFits p G vars o
  otherwise_fits types par NoElse s h a = tt
  otherwise_fits types par (Else b end) s h a = (types, (par, (s, h, a)))

  branches_fit : (types : Types) (bs : Branches) → Sees G vars types → faults_of_branches (scope p types true) bs ≡ [] → Agrees G (typings_of_branches types bs) → Fits p G vars (branches_of bs)
  branches_fit types NoBranch s h a = tt
  branches_fit types (Branch at b end bs) s h a =
      let parts = none_in_both (faults_of_block (scope p types true) b) (faults_of_branches (scope p types true) bs) h in
      let agree = agrees_both G (typings_of_block types b) (typings_of_branches types bs) a in
      ((tt, (types, (true, (s, parts.0, agree.0)))), branches_fit types bs s parts.1 agree.1)

---- What the rules say of a statement

assigned_by : (G : Types) (vars : Variables) (types : Types) → Sees G vars types → (x : Bytes) (o : Option (Option Kind)) (q : Option Kind) (k : Kind) (at b : ℕ) → types x ≡ o → q ≡ Some k → faults_of_assigned o at q b ≡ []
    → (G x ≡ Some (Some k)) × IsSet vars x
assigned_by G vars types s x None q k at b e is h = cc
assigned_by G vars types s x (Some None) q k at b e is h = let i = s x None e in absurd (cc (i.1.0))
assigned_by G vars types s x (Some (Some w)) q k at b e is h =
    let i = s x (Some w) e in
    let same : k ≡ w = wanted_kind w k q b is h in
    (i.1.1 ∙ ap (λ j. Some (Some j)) (sym (some_is i.1.0) ∙ sym same), i.1.2)

call_by : (vars : Variables) (types : Types) → Shows vars types → (o : Option Signature) (es : List Expression) (at : ℕ) → faults_of_call types o at es ≡ [] → (g : Signature) × ((o ≡ Some g) × HaveKinds vars es g.takes)
call_by vars types s None es at h = cc
call_by vars types s (Some g) es at h =
    let parts = none_in_both (wrong_count g.takes es at) (faults_of_arguments types g.takes es) h in
    (g, (refl, known_all vars types s g.takes es at parts.0 parts.1))

signal_by : (o : Option Kind) (at : ℕ) → unknown_signal o at ≡ [] → (k : Kind) × (o ≡ Some k)
signal_by None at h = cc
signal_by (Some k) at h = (k, refl)

module _ (p : Program) (G : Types) (vars : Variables) (types : Types) (par : Bool) (holds : Holds G vars) (sees : Sees G vars types) where
  call_known : (at : ℕ) (x : Bytes) (activity_at : ℕ) (name : Bytes) (es : List Expression) (r : Retry) (o : Otherwise) → faults_of_statement (scope p types par) (Call at x activity_at name es r o) ≡ []
      → (g : Signature) × ((activity_of p.declarations name ≡ Some g) × HaveKinds vars es g.takes × (G x ≡ Some (Some g.gives)) × IsSet vars x × (faults_of_otherwise (scope p types par) o ≡ []))
  call_known at x activity_at name es r o h =
      let call = faults_of_call types (activity_of p.declarations name) activity_at es in
      let assigned = faults_of_assigned (types x) at (given (activity_of p.declarations name)) at in
      let last = none_in_both (call ++ assigned ++ faults_of_retry r) (faults_of_otherwise (scope p types par) o) h in
      let first = none_in_both (call ++ assigned) (faults_of_retry r) last.0 in
      let both = none_in_both call assigned first.0 in
      let c = call_by vars types (shows G vars types holds sees) (activity_of p.declarations name) es activity_at both.0 in
      let a = assigned_by G vars types sees x (types x) (given (activity_of p.declarations name)) c.0.gives at at refl (ap given c.1.0) both.1 in
      (c.0, (c.1.0, c.1.1, a.0, a.1, last.1))

  signal_known : (x : Bytes) (at : ℕ) (name : Bytes) (signal_at : ℕ) → unknown_signal (signal_of p.declarations name) signal_at ++ faults_of_assigned (types x) at (signal_of p.declarations name) at ≡ []
      → (k : Kind) × ((signal_of p.declarations name ≡ Some k) × (G x ≡ Some (Some k)) × IsSet vars x)
  signal_known x at name signal_at h =
      let parts = none_in_both (unknown_signal (signal_of p.declarations name) signal_at) (faults_of_assigned (types x) at (signal_of p.declarations name) at) h in
      let k = signal_by (signal_of p.declarations name) signal_at parts.0 in
      let a = assigned_by G vars types sees x (types x) (signal_of p.declarations name) k.0 at at refl k.1 parts.1 in
      (k.0, (k.1, a.0, a.1))

  assign_known : (at : ℕ) (x : Bytes) (e : Expression) → faults_of_statement (scope p types par) (Assign at x e) ≡ [] → (k : Kind) × (HasKind vars e k × (G x ≡ Some (Some k)) × IsSet vars x)
  assign_known at x e h =
      let parts = none_in_both (faults_of_expression types e) (faults_of_assigned (types x) at (kind_of types e) (beginning e)) h in
      let k = known vars types (shows G vars types holds sees) e parts.0 in
      let a = assigned_by G vars types sees x (types x) (kind_of types e) k.0 at (beginning e) refl k.1.0 parts.1 in
      (k.0, (k.1.1, a.0, a.1))

  late_known : (at : ℕ) (x : Bytes) (signal_at : ℕ) (name : Bytes) (e : Expression) (b : Block) (end : ℕ) → faults_of_statement (scope p types par) (WaitSignalFor at x signal_at name e b end) ≡ []
      → ((k : Kind) × ((signal_of p.declarations name ≡ Some k) × (G x ≡ Some (Some k)) × IsSet vars x)) × HasKind vars e Int × (faults_of_block (scope p types par) b ≡ [])
  late_known at x signal_at name e b end h =
      let signal = unknown_signal (signal_of p.declarations name) signal_at ++ faults_of_assigned (types x) at (signal_of p.declarations name) at in
      let last = none_in_both (signal ++ faults_of_wanted types Int e) (faults_of_block (scope p types par) b) h in
      let first = none_in_both signal (faults_of_wanted types Int e) last.0 in
      (signal_known x at name signal_at first.0, known_wanted vars types (shows G vars types holds sees) Int e first.1, last.1)

  if_known : (e : Expression) (a b : Block) → faults_of_wanted types Int e ++ faults_of_block (scope p types par) a ++ faults_of_block (scope p types par) b ≡ []
      → HasKind vars e Int × (faults_of_block (scope p types par) a ≡ []) × (faults_of_block (scope p types par) b ≡ [])
  if_known e a b h =
      let last = none_in_both (faults_of_wanted types Int e ++ faults_of_block (scope p types par) a) (faults_of_block (scope p types par) b) h in
      let first = none_in_both (faults_of_wanted types Int e) (faults_of_block (scope p types par) a) last.0 in
      (known_wanted vars types (shows G vars types holds sees) Int e first.0, first.1, last.1)

  continue_known : (at : ℕ) (es : List Expression) → faults_of_statement (scope p types par) (Continue at es) ≡ [] → HaveKinds vars es (map (λ (q : Parameter). q.kind) p.parameters)
  continue_known at es h =
      let ks = map (λ (q : Parameter). q.kind) p.parameters in
      let last = none_in_both (wrong_count ks es at ++ faults_of_arguments types ks es) (ends_in_parallel (scope p types par) at) h in
      let first = none_in_both (wrong_count ks es at) (faults_of_arguments types ks es) last.0 in
      known_all vars types (shows G vars types holds sees) ks es at first.0 first.1

  -- a statement without faults can begin
  pub can_begin : (st : Statement) → faults_of_statement (scope p types par) st ≡ [] → CanBegin p vars st
  can_begin (Let at name_at x e) h = let k = known vars types (shows G vars types holds sees) e h in (k.0, k.1.1)
  can_begin (Assign at x e) h = let k = assign_known at x e h in (k.0, (k.1.0, there_of G vars x k.0 holds k.1.1 k.1.2))
  can_begin (Call at x activity_at name es r o) h =
      let c = call_known at x activity_at name es r o h in
      (c.0, (c.1.0, c.1.1, there_of G vars x c.0.gives holds c.1.2 c.1.3))
  can_begin (WaitSignal at x signal_at name) h =
      let s = signal_known x at name signal_at h in
      (s.0, (s.1.0, there_of G vars x s.0 holds s.1.1 s.1.2))
  can_begin (WaitSignalFor at x signal_at name e b end) h =
      let l = late_known at x signal_at name e b end h in
      ((l.0.0, (l.0.1.0, there_of G vars x l.0.0 holds l.0.1.1 l.0.1.2)), l.1)
  can_begin (Sleep at e) h = known_wanted vars types (shows G vars types holds sees) Int e h
  can_begin (If at e a a_end b b_end) h = (if_known e a b h).0
  can_begin (While at e b end) h = known_wanted vars types (shows G vars types holds sees) Int e (none_in_both (faults_of_wanted types Int e) (faults_of_block (scope p types par) b) h).0
  can_begin (Parallel at bs end) h = tt
  can_begin (Patch at id_at id a a_end b b_end) h = tt
  can_begin (Deprecate at id_at id) h = tt
  can_begin (Return at e) h =
      let k = known vars types (shows G vars types holds sees) e (none_in_both (faults_of_expression types e) (ends_in_parallel (scope p types par) at) h).0 in
      (k.0, k.1.1)
  can_begin (FailWith at e) h = known_wanted vars types (shows G vars types holds sees) Text e (none_in_both (faults_of_wanted types Text e) (ends_in_parallel (scope p types par) at) h).0
  can_begin (Continue at es) h = continue_known at es h

first_can_begin : (p : Program) (G : Types) (vars : Variables) (types : Types) (par : Bool) (b : Block) (st : Statement) → Holds G vars → Sees G vars types → faults_of_block (scope p types par) b ≡ [] → IsFirst b st → CanBegin p vars st
first_can_begin p G vars types par End st holds sees h i = absurd i
first_can_begin p G vars types par (Next t b) st holds sees h i =
    subst (CanBegin p vars) i
    (can_begin p G vars types par holds sees t (none_in_both (faults_of_statement (scope p types par) t) (faults_of_block (behind (scope p types par) t) b) h).0)

-- What is next in a rest that fits can begin.
pub next_can_begin : (p : Program) (G : Types) (vars : Variables) (r : Rest) (st : Statement) → Holds G vars → Fits p G vars r → IsNext r st → CanBegin p vars st
next_can_begin p G vars Done st holds f i = absurd i
next_can_begin p G vars (OnActivity n x k o) st holds f i = absurd i
next_can_begin p G vars (OnTimer n) st holds f i = absurd i
next_can_begin p G vars (OnSignal x name) st holds f i = absurd i
next_can_begin p G vars (OnSignalFor x name n b) st holds f i = absurd i
next_can_begin p G vars (Raised c t) st holds f i = absurd i
next_can_begin p G vars (Then r b) st holds f (inl i) = first_can_begin p G vars f.1.0 f.1.1.0 b st holds f.1.1.1.0 f.1.1.1.1 i.1
next_can_begin p G vars (Then r b) st holds f (inr i) = next_can_begin p G vars r st holds f.0 i
next_can_begin p G vars (Beside a b) st holds f (inl i) = next_can_begin p G vars a st holds f.0 i
next_can_begin p G vars (Beside a b) st holds f (inr i) = next_can_begin p G vars b st holds f.1 i

---- A statement begins

behind_is : (p : Program) (types : Types) (par : Bool) (st : Statement) → behind (scope p types par) st ≡ scope p (types_behind types st) par
behind_is p types par (Let at name_at x e) = refl
behind_is p types par (Assign at x e) = refl
behind_is p types par (Call at x activity_at a es r o) = refl
behind_is p types par (WaitSignal at x signal_at s) = refl
behind_is p types par (WaitSignalFor at x signal_at s e b end) = refl
behind_is p types par (Sleep at e) = refl
behind_is p types par (If at e a a_end b b_end) = refl
behind_is p types par (While at e b end) = refl
behind_is p types par (Parallel at bs end) = refl
behind_is p types par (Patch at id_at id a a_end b b_end) = refl
behind_is p types par (Deprecate at id_at id) = refl
behind_is p types par (Return at e) = refl
behind_is p types par (FailWith at e) = refl
behind_is p types par (Continue at es) = refl

module _ (p : Program) (G : Types) (s : Setting) (t : Store) (active : s.activities ≡ activities_of p.declarations) (store : StoreFits p G t) where
  -- a signal is taken for a variable
  taken : (types : Types) (x name : Bytes) (v : Value) → Sees G t.variables types → SignalFits p G x name → oldest name t.buffer ≡ Some v → After p G t.variables types Done (take_signal t x name v)
  taken types x name v sees f e =
      let carries = oldest_kind p name v t.buffer store.1 e in
      let has : G x ≡ Some (Some (type_of v)) = f.1.1 ∙ ap Some (sym f.1.0 ∙ carries) in (
        (holds_with G t.variables x v store.0 has, without_fits p name t.buffer store.1),
        more_with t.variables x v,
        sees_more G t.variables (with_variable t.variables x v) types (more_with t.variables x v) sees,
        tt,
      )

  module _ (types : Types) (par : Bool) (sees : Sees G t.variables types) where
    same_store : (r : Rest) → Fits p G t.variables r → After p G t.variables types r t
    same_store r f = (store, more_same t.variables, sees, f)

    fits_let : (at name_at : ℕ) (x : Bytes) (e : Expression) (k : Kind) (q : Option Kind) → G x ≡ Some q → q ≡ Some k → HasKind t.variables e k
        → MoveFits p G t.variables (with_type types x q) (on_value (value_of t.variables s.at e) (λ v. Goes Done (set_in t x v)))
    fits_let at name_at x e k q g is h =
        fits_on_value p G t.variables (with_type types x q) (value_of t.variables s.at e) (λ v. Goes Done (set_in t x v)) (λ v r.
        let has : G x ≡ Some (Some (type_of v)) = g ∙ ap Some (is ∙ ap Some (sym (value_has_kind t.variables s.at e k v h r))) in (
          (holds_with G t.variables x v store.0 has, store.1),
          more_with t.variables x v,
          sees_let G t.variables types x v k q sees (g ∙ ap Some is) is,
          tt,
        ))

    fits_assign : (x : Bytes) (e : Expression) (k : Kind) → G x ≡ Some (Some k) → HasKind t.variables e k → MoveFits p G t.variables types (on_value (value_of t.variables s.at e) (λ v. Goes Done (set_in t x v)))
    fits_assign x e k g h =
        fits_on_value p G t.variables types (value_of t.variables s.at e) (λ v. Goes Done (set_in t x v)) (λ v r.
        let has : G x ≡ Some (Some (type_of v)) = g ∙ ap (λ j. Some (Some j)) (sym (value_has_kind t.variables s.at e k v h r)) in (
          (holds_with G t.variables x v store.0 has, store.1),
          more_with t.variables x v,
          sees_more G t.variables (with_variable t.variables x v) types (more_with t.variables x v) sees,
          tt,
        ))

    fits_call : (at : ℕ) (x : Bytes) (activity_at : ℕ) (name : Bytes) (es : List Expression) (r : Retry) (o : Otherwise) → faults_of_statement (scope p types par) (Call at x activity_at name es r o) ≡ []
        → Agrees G (typings_of_otherwise types o) → MoveFits p G t.variables types (begin s t (Call at x activity_at name es r o))
    fits_call at x activity_at name es r o h a =
        let c = call_known p G t.variables types par store.0 sees at x activity_at name es r o h in
        let gives : gives_of s.activities name ≡ c.0.gives = ap (λ l. gives_of l name) active ∙ gives_is p.declarations name c.0 c.1.0 in
        let k = gives_of s.activities name in
        fits_on_value p G t.variables types (values t.variables s.at es) (λ vs. waiting s (Asks (OnActivity s.event x k o) t (Schedule name vs r.tries r.every k))) (λ vs is.
        fits_waiting p G t.variables types s (Asks (OnActivity s.event x k o) t (Schedule name vs r.tries r.every k)) (
          same_store (OnActivity s.event x k o) (c.1.2 ∙ ap (λ j. Some (Some j)) (sym gives), otherwise_fits p G t.variables types par o sees c.1.4 a),
          (c.0, (c.1.0, values_have_kinds t.variables s.at es c.0.takes vs c.1.1 is, gives)),
        ))

    loop_fits : (at : ℕ) (e : Expression) (b : Block) (end : ℕ) (c : Bool) → faults_of_statement (scope p types par) (While at e b end) ≡ [] → Agrees G (typings_of_block types b)
        → Fits p G t.variables (if c then Then (rest_of b) (Next (While at e b end) End) else Done)
    loop_fits at e b end true h a =
        let parts = none_in_both (faults_of_wanted types Int e) (faults_of_block (scope p types par) b) h in (
          (tt, (types, (par, (sees, parts.1, a)))),
          (types, (par, (sees, append-nil (faults_of_statement (scope p types par) (While at e b end)) ∙ h, subst (Agrees G) (sym (append-nil (typings_of_block types b))) a))),
        )
    loop_fits at e b end false h a = tt

    fits_patched : (id : Bytes) (a b : Block) (o : Option Bool) → BlockFits p G t.variables a → BlockFits p G t.variables b → MoveFits p G t.variables types (patched s t id a b o)
    fits_patched id a b (Some first) x y = same_store (picked first a b) (picked_fits p G t.variables first a b x y)
    fits_patched id a b None x y =
        fits_if p G t.variables types (s.answer id) (Asks (rest_of a) (decide t id true) (RecordMarker id)) (Goes (rest_of b) (decide t id false))
        ((store, more_same t.variables, sees, (tt, x)), tt) (store, more_same t.variables, sees, (tt, y))

    begin_fits : (st : Statement) → faults_of_statement (scope p types par) st ≡ [] → Agrees G (typings_of_statement types st) → MoveFits p G t.variables (types_behind types st) (begin s t st)
    begin_fits (Let at name_at x e) h a =
        let k = known t.variables types (shows G t.variables types store.0 sees) e h in
        fits_let at name_at x e k.0 (kind_of types e) a.0 k.1.0 k.1.1
    begin_fits (Assign at x e) h a =
        let k = assign_known p G t.variables types par store.0 sees at x e h in
        fits_assign x e k.0 k.1.1 k.1.0
    begin_fits (Call at x activity_at name es r o) h a = fits_call at x activity_at name es r o h a
    begin_fits (WaitSignal at x signal_at name) h a =
        let k = signal_known p G t.variables types par store.0 sees x at name signal_at h in
        fits_on_signal p G t.variables types (oldest name t.buffer) (λ v. Goes Done (take_signal t x name v)) (waiting s (Goes (OnSignal x name) t))
        (λ v e. taken types x name v sees (k.0, (k.1.0, k.1.1)) e)
        (fits_waiting p G t.variables types s (Goes (OnSignal x name) t) (same_store (OnSignal x name) (k.0, (k.1.0, k.1.1))))
    begin_fits (WaitSignalFor at x signal_at name e b end) h a =
        let l = late_known p G t.variables types par store.0 sees at x signal_at name e b end h in
        fits_on_signal p G t.variables types (oldest name t.buffer) (λ v. Goes Done (take_signal t x name v)) (on_value (due t.variables s.at e) (λ d. waiting s (Asks (OnSignalFor x name s.event b) t (StartTimer d))))
        (λ v i. taken types x name v sees (l.0.0, (l.0.1.0, l.0.1.1)) i)
        (fits_on_value p G t.variables types (due t.variables s.at e) (λ d. waiting s (Asks (OnSignalFor x name s.event b) t (StartTimer d))) (λ d i.
        fits_waiting p G t.variables types s (Asks (OnSignalFor x name s.event b) t (StartTimer d))
        (same_store (OnSignalFor x name s.event b) ((l.0.0, (l.0.1.0, l.0.1.1)), (types, (par, (sees, l.2, a)))), tt)))
    begin_fits (Sleep at e) h a =
        fits_on_value p G t.variables types (due t.variables s.at e) (λ d. waiting s (Asks (OnTimer s.event) t (StartTimer d))) (λ d i.
        fits_waiting p G t.variables types s (Asks (OnTimer s.event) t (StartTimer d)) (same_store (OnTimer s.event) tt, tt))
    begin_fits (If at e x x_end y y_end) h a =
        let k = if_known p G t.variables types par store.0 sees e x y h in
        let agree = agrees_both G (typings_of_block types x) (typings_of_block types y) a in
        fits_on_value p G t.variables types (value_of t.variables s.at e) (λ v. Goes (picked (is_true v) x y) t) (λ v i.
        same_store (picked (is_true v) x y) (picked_fits p G t.variables (is_true v) x y (types, (par, (sees, k.1, agree.0))) (types, (par, (sees, k.2, agree.1)))))
    begin_fits (While at e b end) h a =
        fits_if p G t.variables types (nat_lt t.tests test_limit)
        (on_value (value_of t.variables s.at e) (λ v. Goes (if is_true v then Then (rest_of b) (Next (While at e b end) End) else Done) (tested t))) (raise TurnBudget)
        (fits_on_value p G t.variables types (value_of t.variables s.at e) (λ v. Goes (if is_true v then Then (rest_of b) (Next (While at e b end) End) else Done) (tested t))
        (λ v i. (store, more_same t.variables, sees, loop_fits at e b end (is_true v) h a))) tt
    begin_fits (Parallel at bs end) h a =
        let parts = none_in_both (fault_at_first code.TooManyBranches (drop branch_limit (branch_places bs))) (faults_of_branches (scope p types true) bs) h in
        same_store (branches_of bs) (branches_fit p G t.variables types bs sees parts.1 a)
    begin_fits (Patch at id_at id x x_end y y_end) h a =
        let parts = none_in_both (faults_of_block (scope p types par) x) (faults_of_block (scope p types par) y) h in
        let agree = agrees_both G (typings_of_block types x) (typings_of_block types y) a in
        fits_patched id x y (t.decided id) (types, (par, (sees, parts.0, agree.0))) (types, (par, (sees, parts.1, agree.1)))
    begin_fits (Deprecate at id_at id) h a = fits_patched id End End (t.decided id) (types, (par, (sees, refl, tt))) (types, (par, (sees, refl, tt)))
    begin_fits (Return at e) h a = fits_on_value p G t.variables types (value_of t.variables s.at e) _ (λ v i. tt)
    begin_fits (FailWith at e) h a = fits_on_value p G t.variables types (value_of t.variables s.at e) _ (λ v i. tt)
    begin_fits (Continue at es) h a =
        let ks = map (λ (q : Parameter). q.kind) p.parameters in
        let have = continue_known p G t.variables types par store.0 sees at es h in
        fits_on_value p G t.variables types (values t.variables s.at es) (λ vs. if s.is_first then raise ChainLimit else Ends (ContinueAsNew vs)) (λ vs i.
        fits_if p G t.variables types s.is_first (raise ChainLimit) (Ends (ContinueAsNew vs)) tt (kinds_fit p.parameters vs (values_have_kinds t.variables s.at es ks vs have i)))

  first_fits : (b : Block) → BlockFits p G t.variables b → MoveFits p G t.variables no_types (first_of s t b)
  first_fits End f = tt
  first_fits (Next st b) f =
      let types = f.0 in
      let par = f.1.0 in
      let parts = none_in_both (faults_of_statement (scope p types par) st) (faults_of_block (behind (scope p types par) st) b) f.1.1.1 in
      let agree = agrees_both G (typings_of_statement types st) (typings_of_block (types_behind types st) b) f.1.1.2 in
      fits_followed p G t.variables (types_behind types st) par b (begin s t st) (subst (λ (c : Scope). faults_of_block c b ≡ []) (behind_is p types par st) parts.1) agree.1
      (begin_fits types par f.1.1.0 st parts.0 agree.0)

  -- A step leads to what fits.
  pub move_fits : (r : Rest) → Fits p G t.variables r → MoveFits p G t.variables no_types (move s t r)
  move_fits Done f = tt
  move_fits (OnActivity n x k o) f = tt
  move_fits (OnTimer n) f = tt
  move_fits (OnSignal x name) f =
      fits_on_signal p G t.variables no_types (oldest name t.buffer) (λ v. Goes Done (take_signal t x name v)) Stays (λ v e. taken no_types x name v (sees_nothing G t.variables) f e) tt
  move_fits (OnSignalFor x name n b) f =
      fits_on_signal p G t.variables no_types (oldest name t.buffer) (λ v. Asks Done (take_signal t x name v) (CancelTimer n)) Stays (λ v e. (taken no_types x name v (sees_nothing G t.variables) f.0 e, tt)) tt
  move_fits (Raised c text) f = tt
  move_fits (Then r b) f =
      fits_if p G t.variables no_types (is_done r) (first_of s t b) (around (λ q. Then q b) (move s t r)) (first_fits b f.1)
      (fits_around p G t.variables (λ q. Then q b) (move s t r) (λ more q m g. (g, block_more p G t.variables more m b f.1)) (move_fits r f.0))
  move_fits (Beside a b) f =
      fits_or p G t.variables no_types (around (λ q. Beside q b) (move s t a)) (around (λ q. Beside a q) (move s t b))
      (fits_around p G t.variables (λ q. Beside q b) (move s t a) (λ more q m g. (g, fits_more p G t.variables more m b f.1)) (move_fits a f.0))
      (fits_around p G t.variables (λ q. Beside a q) (move s t b) (λ more q m g. (fits_more p G t.variables more m a f.0, g)) (move_fits b f.1))
