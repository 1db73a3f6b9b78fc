-- What the table of variables and activities knows behind a declaration, an activity, a statement.
use Rattle.std.proofs.Common.{◌≡◌, ℕ, ◌+◌, ◌<◌, ◌≤◌, min, Bool, true, false, cond, List, [], ◌∷◌, ◌++◌, length, map, take, get_or, Option, Some, None, is_some, option_map, refl, sym, ap, subst, ◌∙◌, bytes_eq, arith, append_assoc}
use Rattle.std.specs.Prelude.{Result, Ok, Err, OnErr}
use Rattle.std.proofs.Math.Seq.{take-length}
use Rattle.std.proofs.lemmas.List.{append-nil, take_more, take-take, length-take}
use Rattle.std.proofs.lemmas.Map.Text.{hash_map_updates_str}
use Rattle.std.proofs.lemmas.Slice.Eq.{bytes_eq-Decides}
use Rattle.std.specs.HashMap.{HashMap, get_by, UpdatesBy}
use Rattle.flow_base.specs.declared.command.TextFault.{TextFault}
use Rattle.flow_base.specs.declared.value.Kind.{Kind}
use Rattle.flow_base.specs.declared.syntax.Declaration.{Declaration}
use Rattle.flow_base.specs.declared.syntax.Parameter.{Parameter}
use Rattle.flow_base.specs.declared.syntax.Stmt.{Stmt}
use Rattle.flow_base.specs.declared.syntax.Branch.{Branch}
use Rattle.flow_base.specs.Shown.{Braced, shown_stmt, shown_branch, shown_declaration, shown_block, branches_of}
use Rattle.flow_base.specs.Syntax.{Bytes, Block, End, Next, Statement, Let, Assign, Call, WaitSignal, WaitSignalFor, Sleep, If, While, Parallel, Patch, Deprecate, Return, FailWith, Continue, Declared, Activity, Signal, block_of}
use Rattle.flow_model.specs.WellFormed as rule
use Rattle.flow_model.specs.WellFormed.{no_types, with_type, types_of_parameters, activity_of, signal_of, kinds_of, earliest, faults_of_block, faults_of_statement, faults_of_branches, behind}
use Rattle.flow_model.proofs.FirstFault.{earliest-append}
use Rattle.flow_check.specs.declared.scope.Scope.{Scope}
use Rattle.flow_check.specs.declared.scope.Signature.{Signature}
use Rattle.flow_check.specs.declared.scope.Variable.{Variable}
use Rattle.flow_check.specs.Tables.{variables_of, types_in, types_of, activities_of, signals_of, parameters_of, shown_signature, shown_scope, or_else, first_then, only, behind_block, Checks, IsSame, Notes}
use Rattle.flow_check.proofs.Declaring.{map_one_more}
use denote.Ref.{Bor}

pub same_function : {A B : Type 0} (f g : A → B) → ((x : A) → f x ≡ g x) → f ≡ g
same_function f g h = λ i. λ x. h x i

-- a table behind one more name
abbrev pub Updated : {X S : Type 0} → HashMap (Bor Bytes) X S → Bytes → X → HashMap (Bor Bytes) X S → Type 0
Updated {X} m name v n = (x : Bytes) → get_by (λ k. bytes_eq x k.now) n ≡ cond (bytes_eq name x) (Some v) (get_by (λ k. bytes_eq x k.now) m)

pub updated : {X S : Type 0} (m n : HashMap (Bor Bytes) X S) (name : Bytes) (v : X) → UpdatesBy (λ x y. bytes_eq x.now y.now) (λ k. bytes_eq name k.now) m n (Some v) → Updated m name v n
updated m n name v h = hash_map_updates_str name m n (Some v) h

absent_by : (b : Bool) (o : Option Signature) (a : Signature) → (b ≡ true → is_some o ≡ false) → option_map shown_signature (cond b (Some a) o) ≡ or_else (option_map shown_signature o) (cond b (Some (shown_signature a)) None)
absent_by true None a h = refl
absent_by true (Some c) a h = let k = h refl in absurd (cc)
absent_by false None a h = refl
absent_by false (Some c) a h = refl

present_by : (b : Bool) (o : Option Signature) (a : rule.Signature) → (b ≡ true → is_some o ≡ true) → option_map shown_signature o ≡ or_else (option_map shown_signature o) (cond b (Some a) None)
present_by true None a h = let k = h refl in absurd (cc)
present_by true (Some c) a h = refl
present_by false None a h = refl
present_by false (Some c) a h = refl

at_name : {X S : Type 0} (m : HashMap (Bor Bytes) X S) (name : Bytes) (b : Bool) (x : Bytes) → is_some (get_by (λ k. bytes_eq name k.now) m) ≡ b → bytes_eq name x ≡ true → is_some (get_by (λ k. bytes_eq x k.now) m) ≡ b
at_name m name b x h e = subst (λ (y : Bytes). is_some (get_by (λ k. bytes_eq y k.now) m) ≡ b) ((bytes_eq-Decides name x).0 e) h

module _ {S : Type 0} (m : HashMap (Bor Bytes) Signature S) (name : Bytes) where
  -- the activity is new
  pub activity_new : (n : HashMap (Bor Bytes) Signature S) (a : Signature) → Updated m name a n → is_some (get_by (λ k. bytes_eq name k.now) m) ≡ false
      → ◌≡◌ {A = Bytes → Option rule.Signature} (λ x. option_map shown_signature (get_by (λ k. bytes_eq x k.now) n)) (first_then (λ x. option_map shown_signature (get_by (λ k. bytes_eq x k.now) m)) (only name (shown_signature a)))
  activity_new n a h e =
      same_function (λ (x : Bytes). option_map shown_signature (get_by (λ k. bytes_eq x k.now) n)) (first_then (λ (x : Bytes). option_map shown_signature (get_by (λ k. bytes_eq x k.now) m)) (only name (shown_signature a)))
      (λ x. ap (option_map shown_signature) (h x) ∙ absent_by (bytes_eq name x) (get_by (λ k. bytes_eq x k.now) m) a (at_name m name false x e))

  -- there is one of the name already
  pub activity_old : (a : rule.Signature) → is_some (get_by (λ k. bytes_eq name k.now) m) ≡ true
      → ◌≡◌ {A = Bytes → Option rule.Signature} (λ x. option_map shown_signature (get_by (λ k. bytes_eq x k.now) m)) (first_then (λ x. option_map shown_signature (get_by (λ k. bytes_eq x k.now) m)) (only name a))
  activity_old a e =
      same_function (λ (x : Bytes). option_map shown_signature (get_by (λ k. bytes_eq x k.now) m)) (first_then (λ (x : Bytes). option_map shown_signature (get_by (λ k. bytes_eq x k.now) m)) (only name a))
      (λ x. present_by (bytes_eq name x) (get_by (λ k. bytes_eq x k.now) m) a (at_name m name true x e))

absent_kind : (b : Bool) (o : Option Kind) (k : Kind) → (b ≡ true → is_some o ≡ false) → cond b (Some k) o ≡ or_else o (cond b (Some k) None)
absent_kind true None k h = refl
absent_kind true (Some c) k h = let e = h refl in absurd (cc)
absent_kind false None k h = refl
absent_kind false (Some c) k h = refl

present_kind : (b : Bool) (o : Option Kind) (k : Kind) → (b ≡ true → is_some o ≡ true) → o ≡ or_else o (cond b (Some k) None)
present_kind true None k h = let e = h refl in absurd (cc)
present_kind true (Some c) k h = refl
present_kind false None k h = refl
present_kind false (Some c) k h = refl

module _ {S : Type 0} (m : HashMap (Bor Bytes) Kind S) (name : Bytes) where
  -- the signal is new
  pub signal_new : (n : HashMap (Bor Bytes) Kind S) (v : Kind) → Updated m name v n → is_some (get_by (λ k. bytes_eq name k.now) m) ≡ false
      → ◌≡◌ {A = Bytes → Option Kind} (λ x. get_by (λ k. bytes_eq x k.now) n) (first_then (λ x. get_by (λ k. bytes_eq x k.now) m) (only name v))
  signal_new n v h e =
      same_function (λ (x : Bytes). get_by (λ k. bytes_eq x k.now) n) (first_then (λ (x : Bytes). get_by (λ k. bytes_eq x k.now) m) (only name v))
      (λ x. h x ∙ absent_kind (bytes_eq name x) (get_by (λ k. bytes_eq x k.now) m) v (at_name m name false x e))

  -- there is one of the name already
  pub signal_old : (v : Kind) → is_some (get_by (λ k. bytes_eq name k.now) m) ≡ true
      → ◌≡◌ {A = Bytes → Option Kind} (λ x. get_by (λ k. bytes_eq x k.now) m) (first_then (λ x. get_by (λ k. bytes_eq x k.now) m) (only name v))
  signal_old v e =
      same_function (λ (x : Bytes). get_by (λ k. bytes_eq x k.now) m) (first_then (λ (x : Bytes). get_by (λ k. bytes_eq x k.now) m) (only name v))
      (λ x. present_kind (bytes_eq name x) (get_by (λ k. bytes_eq x k.now) m) v (at_name m name true x e))

---- variables, the newest last

-- one more variable
pub types_in-append : (t : rule.Types) (vs : List Variable) (v : Variable) → types_in t (vs ++ v ∷ []) ≡ with_type (types_in t vs) v.name.now v.kind
types_in-append t [] v = refl
types_in-append t (w ∷ vs) v = types_in-append (with_type t w.name.now w.kind) vs v

-- what a table knows that has these variables
abbrev pub known_with : Scope → List Variable → rule.Scope
known_with s vs = record { types = types_in no_types vs; activities = activities_of s; signals = signals_of s; parameters = parameters_of s; in_parallel = false }

-- what holds anyway holds behind an error
pub behind_error : {A E : Type 0} (r : Result A E) (X : Type 0) → X → OnErr r X
behind_error (Ok v) X x = tt
behind_error (Err e) X x = x

-- what the last one of some says of a name
pub last_type : (vs : List Variable) (i : ℕ) (v : Variable) (x : Bytes) → i < length vs → v ≡ get_or vs i v
    → types_in no_types (take (i + 1) vs) x ≡ cond (bytes_eq v.name.now x) (Some v.kind) (types_in no_types (take i vs) x)
last_type vs i v x l e =
    ap (λ (ws : List Variable). types_in no_types ws x) (take_more vs i v l ∙ ap (λ (w : Variable). take i vs ++ w ∷ []) (sym e))
    ∙ ap (λ (t : rule.Types). t x) (types_in-append no_types (take i vs) v)

shorter : (m n : ℕ) → m ≡ min m n → m ≤ n
shorter m n h = omega arith

-- what was there first still is
pub grows_then : {X : Type 0} (a b c : List X) → take (length a) b ≡ a → take (length b) c ≡ b → take (length a) c ≡ a
grows_then a b c h g =
    sym (take-take (length a) (length b) c (shorter (length a) (length b) (ap length (sym h) ∙ length-take (length a) b))) ∙ ap (take (length a)) g ∙ h

or_nothing : {X : Type 0} (a : Option X) → or_else a None ≡ a
or_nothing None = refl
or_nothing (Some a) = refl

or_assoc : {X : Type 0} (a b c : Option X) → or_else (or_else a b) c ≡ or_else a (or_else b c)
or_assoc None b c = refl
or_assoc (Some a) b c = refl

or_cond : {X : Type 0} (b : Bool) (s : X) (o p : Option X) → cond b (Some s) (or_else o p) ≡ or_else (cond b (Some s) o) p
or_cond true s o p = refl
or_cond false s o p = refl

activity_of-append : (a b : List Declared) (x : Bytes) → activity_of (a ++ b) x ≡ or_else (activity_of a x) (activity_of b x)
activity_of-append [] b x = refl
activity_of-append (Activity at name_at name takes gives ∷ a) b x =
    let s : rule.Signature = record { takes = kinds_of takes; gives = gives } in
    ap (cond (bytes_eq name x) (Some s)) (activity_of-append a b x) ∙ or_cond (bytes_eq name x) s (activity_of a x) (activity_of b x)
activity_of-append (Signal at name_at name carries ∷ a) b x = activity_of-append a b x

signal_of-append : (a b : List Declared) (x : Bytes) → signal_of (a ++ b) x ≡ or_else (signal_of a x) (signal_of b x)
signal_of-append [] b x = refl
signal_of-append (Activity at name_at name takes gives ∷ a) b x = signal_of-append a b x
signal_of-append (Signal at name_at name carries ∷ a) b x =
    ap (cond (bytes_eq name x) (Some carries)) (signal_of-append a b x) ∙ or_cond (bytes_eq name x) carries (signal_of a x) (signal_of b x)

-- what declares nothing
pub nothing_more : {X : Type 0} (f g : Bytes → Option X) → ((x : Bytes) → g x ≡ None) → f ≡ first_then f g
nothing_more f g h = same_function f (first_then f g) (λ x. sym (or_nothing (f x)) ∙ ap (or_else (f x)) (sym (h x)))

pub one_more_activity : (f g : Bytes → Option rule.Signature) (ds : List Declaration) (i : ℕ) (d : Declaration) → i < length ds → d ≡ get_or ds i d
    → g ≡ first_then f (activity_of (map shown_declaration (take i ds))) → first_then g (activity_of (shown_declaration d ∷ [])) ≡ first_then f (activity_of (map shown_declaration (take (i + 1) ds)))
one_more_activity f g ds i d l e h =
    let before = map shown_declaration (take i ds) in
    let one = shown_declaration d ∷ [] in
    same_function (first_then g (activity_of one)) (first_then f (activity_of (map shown_declaration (take (i + 1) ds))))
    (λ x. ap (λ (k : Bytes → Option rule.Signature). or_else (k x) (activity_of one x)) h ∙ or_assoc (f x) (activity_of before x) (activity_of one x)
    ∙ ap (or_else (f x)) (sym (activity_of-append before one x)) ∙ ap (λ (ys : List Declared). or_else (f x) (activity_of ys x)) (sym (map_one_more shown_declaration ds i d l e)))

pub one_more_signal : (f g : Bytes → Option Kind) (ds : List Declaration) (i : ℕ) (d : Declaration) → i < length ds → d ≡ get_or ds i d
    → g ≡ first_then f (signal_of (map shown_declaration (take i ds))) → first_then g (signal_of (shown_declaration d ∷ [])) ≡ first_then f (signal_of (map shown_declaration (take (i + 1) ds)))
one_more_signal f g ds i d l e h =
    let before = map shown_declaration (take i ds) in
    let one = shown_declaration d ∷ [] in
    same_function (first_then g (signal_of one)) (first_then f (signal_of (map shown_declaration (take (i + 1) ds))))
    (λ x. ap (λ (k : Bytes → Option Kind). or_else (k x) (signal_of one x)) h ∙ or_assoc (f x) (signal_of before x) (signal_of one x)
    ∙ ap (or_else (f x)) (sym (signal_of-append before one x)) ∙ ap (λ (ys : List Declared). or_else (f x) (signal_of ys x)) (sym (map_one_more shown_declaration ds i d l e)))

types_of_parameters-append : (t : rule.Types) (a b : List Parameter) → types_of_parameters t (a ++ b) ≡ types_of_parameters (types_of_parameters t a) b
types_of_parameters-append t [] b = refl
types_of_parameters-append t (p ∷ a) b = types_of_parameters-append (with_type t p.name (Some p.kind)) a b

pub one_more_type : (t u : rule.Types) (ps : List Parameter) (i : ℕ) (p : Parameter) → i < length ps → p ≡ get_or ps i p → u ≡ types_of_parameters t (take i ps)
    → with_type u p.name (Some p.kind) ≡ types_of_parameters t (take (i + 1) ps)
one_more_type t u ps i p l e h =
    ap (λ (v : rule.Types). with_type v p.name (Some p.kind)) h ∙ sym (types_of_parameters-append t (take i ps) (p ∷ []))
    ∙ ap (λ q. types_of_parameters t (take i ps ++ q ∷ [])) e ∙ ap (types_of_parameters t) (sym (take_more ps i p l))

---- lists of statements

behind_block-append : (m : rule.Scope) (xs ys : List Statement) → behind_block m (block_of (xs ++ ys)) ≡ behind_block (behind_block m (block_of xs)) (block_of ys)
behind_block-append m [] ys = refl
behind_block-append m (x ∷ xs) ys = behind_block-append (behind m x) xs ys

faults_of_block-append : (m : rule.Scope) (xs ys : List Statement) → faults_of_block m (block_of (xs ++ ys)) ≡ faults_of_block m (block_of xs) ++ faults_of_block (behind_block m (block_of xs)) (block_of ys)
faults_of_block-append m [] ys = refl
faults_of_block-append m (x ∷ xs) ys =
    ap (λ fs. faults_of_statement m x ++ fs) (faults_of_block-append (behind m x) xs ys)
    ∙ sym (append_assoc (faults_of_statement m x) (faults_of_block (behind m x) (block_of xs)) (faults_of_block (behind_block (behind m x) (block_of xs)) (block_of ys)))

module _ (p : Bool) where
  pub checks_nothing : (s : Scope) (o : Option TextFault) → Checks p s o End s o
  checks_nothing s o = (refl, (take-length (variables_of s), refl))

  pub checks_then : (s s1 s2 : Scope) (o o1 o2 : Option TextFault) (xs ys : List Statement) → Checks p s o (block_of xs) s1 o1 → Checks p s1 o1 (block_of ys) s2 o2 → Checks p s o (block_of (xs ++ ys)) s2 o2
  checks_then s s1 s2 o o1 o2 xs ys first second =
      let m = shown_scope p s in
      let n = behind_block m (block_of xs) in (
        second.0 ∙ ap (λ (k : rule.Scope). behind_block k (block_of ys)) first.0 ∙ sym (behind_block-append m xs ys),
        (
          grows_then (variables_of s) (variables_of s1) (variables_of s2) first.1.0 second.1.0,
          second.1.1 ∙ ap (λ (k : rule.Scope). earliest o1 (faults_of_block k (block_of ys))) first.0 ∙ ap (λ (f : Option TextFault). earliest f (faults_of_block n (block_of ys))) first.1.1
              ∙ sym (earliest-append o (faults_of_block m (block_of xs)) (faults_of_block n (block_of ys))) ∙ ap (earliest o) (sym (faults_of_block-append m xs ys)),
        ),
      )

  pub one_more_checked : (s s1 s2 : Scope) (o o1 o2 : Option TextFault) (ss : List Stmt) (i : ℕ) (t : Stmt) → i < length ss → t ≡ get_or ss i t
      → Checks p s o (shown_block (take i ss)) s1 o1 → Checks p s1 o1 (Next (shown_stmt t) End) s2 o2 → Checks p s o (shown_block (take (i + 1) ss)) s2 o2
  one_more_checked s s1 s2 o o1 o2 ss i t l e first second =
      subst (λ (ys : List Statement). Checks p s o (block_of ys) s2 o2) (sym (map_one_more shown_stmt ss i t l e)) (checks_then s s1 s2 o o1 o2 (map shown_stmt (take i ss)) (shown_stmt t ∷ []) first second)

---- what is known is the same afterwards

-- what is known is the same where each of its parts is
pub same_known : (p : Bool) (s : Scope) (m : rule.Scope) → types_of s ≡ m.types → activities_of s ≡ m.activities → signals_of s ≡ m.signals → parameters_of s ≡ m.parameters → p ≡ m.in_parallel → shown_scope p s ≡ m
same_known p s m types activities signals parameters within =
    λ i. record { types = types i; activities = activities i; signals = signals i; parameters = parameters i; in_parallel = within i }

-- and the same within a parallel block as outside of one
pub same_within : (p : Bool) (s s' : Scope) → IsSame s s' → shown_scope p s' ≡ shown_scope p s
same_within p s s' h = ap (λ (m : rule.Scope). record m { in_parallel = p }) h.1

-- only variables become visible behind a statement
types_alone : (m : rule.Scope) (t : Statement) → behind m t ≡ record m { types = (behind m t).types }
types_alone m (Let at name_at x e) = refl
types_alone m (Assign at x e) = refl
types_alone m (Call at x activity_at a es r o) = refl
types_alone m (WaitSignal at x signal_at name) = refl
types_alone m (WaitSignalFor at x signal_at name e b end) = refl
types_alone m (Sleep at e) = refl
types_alone m (If at e a a_end b b_end) = refl
types_alone m (While at e b end) = refl
types_alone m (Parallel at bs end) = refl
types_alone m (Patch at id_at id a a_end b b_end) = refl
types_alone m (Deprecate at id_at id) = refl
types_alone m (Return at e) = refl
types_alone m (FailWith at e) = refl
types_alone m (Continue at es) = refl

types_alone_behind : (m : rule.Scope) (b : Block) → behind_block m b ≡ record m { types = (behind_block m b).types }
types_alone_behind m End = refl
types_alone_behind m (Next t b) = types_alone_behind (behind m t) b ∙ ap (λ (k : rule.Scope). record k { types = (behind_block m (Next t b)).types }) (types_alone m t)

-- behind a list within a statement what it declared is forgotten
pub inner_checked : (p : Bool) (s s1 s2 : Scope) (o o1 : Option TextFault) (b : Block) (n : ℕ) → n ≡ length (variables_of s) → Checks p s o b s1 o1 → variables_of s2 ≡ take n (variables_of s1)
    → activities_of s2 ≡ activities_of s1 → signals_of s2 ≡ signals_of s1 → parameters_of s2 ≡ parameters_of s1 → Notes s o (faults_of_block (shown_scope p s) b) s2 o1
inner_checked p s s1 s2 o o1 b n count h forgotten activities signals parameters =
    let m = shown_scope p s in
    let back : variables_of s2 ≡ variables_of s = forgotten ∙ ap (λ (k : ℕ). take k (variables_of s1)) count ∙ h.1.0 in
    let known : shown_scope p s1 ≡ record m { types = (behind_block m b).types } = h.0 ∙ types_alone_behind m b in (
      (
        back,
        same_known false s2 (shown_scope false s) (ap (types_in no_types) back) (activities ∙ ap (λ (k : rule.Scope). k.activities) known) (signals ∙ ap (λ (k : rule.Scope). k.signals) known)
            (parameters ∙ ap (λ (k : rule.Scope). k.parameters) known) refl,
      ),
      h.1.1,
    )

pub nothing_noted : (s : Scope) (o : Option TextFault) → Notes s o [] s o
nothing_noted s o = ((refl, refl), refl)

pub noted : (s : Scope) (o o1 : Option TextFault) (fs : List TextFault) → o1 ≡ earliest o fs → Notes s o fs s o1
noted s o o1 fs h = ((refl, refl), h)

-- faults after others, by what is known there
pub notes_then : (p : Bool) (s s1 s2 : Scope) (o o1 o2 : Option TextFault) (fs : List TextFault) (g : rule.Scope → List TextFault) → Notes s o fs s1 o1 → Notes s1 o1 (g (shown_scope p s1)) s2 o2 → Notes s o (fs ++ g (shown_scope p s)) s2 o2
notes_then p s s1 s2 o o1 o2 fs g h k =
    let gs = g (shown_scope p s) in (
      (k.0.0 ∙ h.0.0, k.0.1 ∙ h.0.1),
      k.1 ∙ ap (λ (m : rule.Scope). earliest o1 (g m)) (same_within p s s1 h.0) ∙ ap (λ (x : Option TextFault). earliest x gs) h.1 ∙ sym (earliest-append o fs gs),
    )

faults_of_branches-append : (m : rule.Scope) (xs ys : List (ℕ × Braced)) → faults_of_branches m (branches_of (xs ++ ys)) ≡ faults_of_branches m (branches_of xs) ++ faults_of_branches m (branches_of ys)
faults_of_branches-append m [] ys = refl
faults_of_branches-append m (x ∷ xs) ys =
    ap (λ fs. faults_of_block m x.1.0 ++ fs) (faults_of_branches-append m xs ys) ∙ sym (append_assoc (faults_of_block m x.1.0) (faults_of_branches m (branches_of xs)) (faults_of_branches m (branches_of ys)))

pub one_more_branch_checked : (s s1 s2 : Scope) (o o1 o2 : Option TextFault) (bs : List Branch) (i : ℕ) (b : Branch) → i < length bs → b ≡ get_or bs i b
    → Notes s o (faults_of_branches (shown_scope true s) (branches_of (map shown_branch (take i bs)))) s1 o1 → Notes s1 o1 (faults_of_block (shown_scope true s1) (shown_branch b).1.0) s2 o2
    → Notes s o (faults_of_branches (shown_scope true s) (branches_of (map shown_branch (take (i + 1) bs)))) s2 o2
one_more_branch_checked s s1 s2 o o1 o2 bs i b l e first second =
    let m = shown_scope true s in
    let before = map shown_branch (take i bs) in
    let here = shown_branch b in
    subst (λ (fs : List TextFault). Notes s o fs s2 o2)
    (sym (ap (λ (ys : List (ℕ × Braced)). faults_of_branches m (branches_of ys)) (map_one_more shown_branch bs i b l e) ∙ faults_of_branches-append m before (here ∷ [])
    ∙ ap (λ fs. faults_of_branches m (branches_of before) ++ fs) (append-nil (faults_of_block m here.1.0))))
    (notes_then true s s1 s2 o o1 o2 (faults_of_branches m (branches_of before)) (λ (k : rule.Scope). faults_of_block k here.1.0) first second)
