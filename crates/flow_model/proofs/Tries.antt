-- In a well-formed program each call is such as a row takes, with 1 to 20 attempts, a pause of at most a day and at most 256
-- arguments, and so is each activity that a turn of it asks for. So is what a run continues with.
use Rattle.std.proofs.Common.{◌≡◌, ℕ, suc, ◌+◌, ◌-◌, ◌≤◌, List, [], ◌∷◌, ◌++◌, length, map, Contains, refl, sym, ap, ◌∙◌, subst, arith, Option, Some, None, Result, Ok, Err, Bool, true, false, ◌||◌}
use Rattle.std.specs.Prelude.{if◌then◌else◌, nat_lt, nat_eq, drop, bytes_eq}
use Rattle.std.proofs.lemmas.Bool.{ltb-false, eqb-true, eqb-false}
use Rattle.std.proofs.lemmas.Option.{same_Some}
use Rattle.std.proofs.lemmas.List.{length-append, length-drop, length-map}
use Rattle.flow_base.specs.Limits.{Within}
use Rattle.flow_base.specs.Syntax.{Bytes, Program, Statement, Let, Assign, Call, WaitSignal, WaitSignalFor, Sleep, If, While, Parallel, Patch, Deprecate, Return, FailWith, Continue, Block, End, Next, Otherwise, NoElse, Else, Branches, NoBranch, Branch, Expression, Declared, Activity, Signal}
use Rattle.flow_base.specs.declared.value.Value.{Value}
use Rattle.flow_base.specs.declared.value.Kind.{Kind}
use Rattle.flow_base.specs.declared.value.Kind.TheVariants.{Int}
use Rattle.flow_base.specs.declared.syntax.Parameter.{Parameter}
use Rattle.flow_base.specs.declared.syntax.TypeAt.{TypeAt}
use Rattle.flow_base.specs.declared.event.Cause.{Cause}
use Rattle.flow_base.specs.declared.event.Cause.TheVariants.{ActivityFailed, TurnBudget, WaitLimit, UserFail, ChainLimit}
use Rattle.flow_base.specs.declared.event.Cmd.{Cmd}
use Rattle.flow_base.specs.declared.event.Cmd.TheVariants.{Schedule, StartTimer, CancelTimer, RecordMarker, Complete, Fail, ContinueAsNew}
use Rattle.flow_base.specs.declared.code.Code.{Code}
use Rattle.flow_base.specs.declared.code.Code.TheVariants as code
use Rattle.flow_base.specs.declared.command.TextFault.{TextFault}
use Rattle.flow_model.specs.WellFormed as rule
use Rattle.flow_model.specs.WellFormed.{Scope, Signature, Types, Named, WellFormed, faults, faults_of_statement, faults_of_block, faults_of_otherwise, faults_of_branches, faults_of_retry, out_of_range, behind, scope_of}
use Rattle.flow_model.specs.Values.{◌>>=◌, Variables, value, values, due, is_true, text_of}
use Rattle.flow_model.specs.Rest.{Rest, Done, OnActivity, OnTimer, OnSignal, OnSignalFor, Raised, Then, Beside, rest_of, branches_of, rest_else, is_done}
use Rattle.flow_model.specs.Step.{Store, Setting, Move, Stays, Goes, Asks, Ends, on_value, on_signal, oldest, waiting, wait_limit, test_limit, tested, picked, decide, patched, begin, around, first_of, followed_by, or_move, move, raise, set_in, take_signal, gives_of}
use Rattle.flow_model.specs.Deliver.{replaced, or_rest, map_rest, when_completed, when_failed, when_fired}

-- what a row takes of a call: so many arguments, attempts, and milliseconds between two of these
abbrev pub TakesWell : ℕ → ℕ → ℕ → Type 0
TakesWell arguments tries every = (arguments ≤ 256) × Within 1 20 tries × (every ≤ 86400000)

-- each call within is such, and so are the arguments with which it continues
abbrev mutual
  pub Tried : Statement → Type 0
  Tried (Let at name_at x e) = Unit {0}
  Tried (Assign at x e) = Unit {0}
  Tried (Call at x activity_at a es r o) = TakesWell (length es) r.tries r.every × TriedElse o
  Tried (WaitSignal at x signal_at n) = Unit {0}
  Tried (WaitSignalFor at x signal_at n e b end) = TriedBlock b
  Tried (Sleep at e) = Unit {0}
  Tried (If at e a a_end b b_end) = TriedBlock a × TriedBlock b
  Tried (While at e b end) = TriedBlock b
  Tried (Parallel at bs end) = TriedBranches bs
  Tried (Patch at id_at id a a_end b b_end) = TriedBlock a × TriedBlock b
  Tried (Deprecate at id_at id) = Unit {0}
  Tried (Return at e) = Unit {0}
  Tried (FailWith at e) = Unit {0}
  Tried (Continue at es) = length es ≤ 256

  pub TriedBlock : Block → Type 0
  TriedBlock End = Unit {0}
  TriedBlock (Next s b) = Tried s × TriedBlock b

  pub TriedElse : Otherwise → Type 0
  TriedElse NoElse = Unit {0}
  TriedElse (Else b end) = TriedBlock b

  pub TriedBranches : Branches → Type 0
  TriedBranches NoBranch = Unit {0}
  TriedBranches (Branch at b end bs) = TriedBlock b × TriedBranches bs

---- Well-formed programs

nil_left : {A : Type 0} (xs ys : List A) → xs ++ ys ≡ [] → xs ≡ []
nil_left [] ys e = refl
nil_left (x ∷ xs) ys e = cc

nil_right : {A : Type 0} (xs ys : List A) → xs ++ ys ≡ [] → ys ≡ []
nil_right [] ys e = e
nil_right (x ∷ xs) ys e = cc

neither : (x y : Bool) (at : ℕ) → (if x || y then rule.fault code.BadRetry at else []) ≡ [] → (x ≡ false) × (y ≡ false)
neither true y at e = cc
neither false true at e = cc
neither false false at e = (refl, refl)

in_range : (least most n at : ℕ) → out_of_range least most n at ≡ [] → Within least most n
in_range least most n at e = let no = neither (nat_lt n least) (nat_lt most n) at e in (ltb-false n least no.0, ltb-false most n no.1)

---- At most 256

counted : (b : Bool) (at : ℕ) → (if b then [] else rule.fault code.BadCount at) ≡ [] → b ≡ true
counted true at e = refl
counted false at e = cc

few : (ks : List Kind) (es : List Expression) (at : ℕ) → length ks ≤ 256 → rule.wrong_count ks es at ≡ [] → length es ≤ 256
few ks es at k e = let same : length es ≡ length ks = eqb-true (length es) (length ks) (counted (nat_eq (length es) (length ks)) at e) in omega (arith, same, k)

few_arguments : (types : Types) (o : Option Signature) (at : ℕ) (es : List Expression) → ((g : Signature) → o ≡ Some g → length g.takes ≤ 256) → rule.faults_of_call types o at es ≡ [] → length es ≤ 256
few_arguments types None at es k e = cc
few_arguments types (Some g) at es k e = few g.takes es at (k g refl) (nil_left (rule.wrong_count g.takes es at) (rule.faults_of_arguments types g.takes es) e)

-- where a statement stands, no activity takes more, and the program doesn't either
abbrev IsSmall : Scope → Type 0
IsSmall s = ((a : Bytes) (g : Signature) → s.activities a ≡ Some g → length g.takes ≤ 256) × (length s.parameters ≤ 256)

behind_small : (s : Scope) (t : Statement) → IsSmall s → IsSmall (behind s t)
behind_small s (Let at name_at x e) k = k
behind_small s (Assign at x e) k = k
behind_small s (Call at x activity_at a es r o) k = k
behind_small s (WaitSignal at x signal_at n) k = k
behind_small s (WaitSignalFor at x signal_at n e b end) k = k
behind_small s (Sleep at e) k = k
behind_small s (If at e a a_end b b_end) k = k
behind_small s (While at e b end) k = k
behind_small s (Parallel at bs end) k = k
behind_small s (Patch at id_at id a a_end b b_end) k = k
behind_small s (Deprecate at id_at id) k = k
behind_small s (Return at e) k = k
behind_small s (FailWith at e) k = k
behind_small s (Continue at es) k = k

none_first : (c : Code) (ats : List ℕ) → rule.fault_at_first c ats ≡ [] → ats ≡ []
none_first c [] e = refl
none_first c (at ∷ ats) e = cc

taken : (takes : List TypeAt) → rule.fault_at_first code.TooManyNames (map (λ (t : TypeAt). t.at) (drop rule.name_limit takes)) ≡ [] → length (rule.kinds_of takes) ≤ 256
taken takes e =
    let none = none_first code.TooManyNames (map (λ (t : TypeAt). t.at) (drop rule.name_limit takes)) e in
    let left : length takes - 256 ≡ 0 = sym (length-drop 256 takes) ∙ sym (length-map (drop rule.name_limit takes) (λ (t : TypeAt). t.at)) ∙ ap length none in
    let all : length (rule.kinds_of takes) ≡ length takes = length-map takes (λ (t : TypeAt). t.kind) in
    omega (arith, left, all)

takes_few : (ds : List Declared) → rule.faults_of_declarations ds ≡ [] → (a : Bytes) (g : Signature) → rule.activity_of ds a ≡ Some g → length g.takes ≤ 256
takes_few [] e a g h = cc
takes_few (Signal at name_at name carries ∷ ds) e a g h = takes_few ds e a g h
takes_few (Activity at name_at name takes gives ∷ ds) e a g h =
    let here : Signature = record { takes = rule.kinds_of takes; gives = gives } in
    let own = rule.faults_of_declared (Activity at name_at name takes gives) in
    elim (bytes_eq name a) as (λ t. (if t then Some here else rule.activity_of ds a) ≡ Some g → length g.takes ≤ 256) [
      | true ↦ λ v. subst (λ (x : Signature). length x.takes ≤ 256) (same_Some here g v) (taken takes (nil_left own (rule.faults_of_declarations ds) e))
      | false ↦ λ v. takes_few ds (nil_right own (rule.faults_of_declarations ds) e) a g v
    ] h

not_full : (b : Bool) (at : ℕ) → (if b then rule.fault code.TooManyNames at else []) ≡ [] → b ≡ false
not_full true at e = cc
not_full false at e = refl

names_few : (before ns : List Named) → rule.faults_of_names before ns ≡ [] → length before ≤ 256 → length before + length ns ≤ 256
names_few before [] e k = omega (arith, k)
names_few before (n ∷ more) e k =
    let twice = rule.declared_twice before n in
    let many = rule.one_too_many before n in
    let later = rule.faults_of_names (before ++ n ∷ []) more in
    let full = nat_eq (length before) rule.name_limit in
    let room : full ≡ false = not_full full n.at (nil_right twice many (nil_left (twice ++ many) later e)) in
    let apart = eqb-false (length before) 256 room in
    let longer : length (before ++ n ∷ []) ≡ length before + 1 = length-append before (n ∷ []) in
    let shorter : length before + 1 ≤ 256 = omega (arith, k, apart) in
    let rest = names_few (before ++ n ∷ []) more (nil_right (twice ++ many) later e) (omega (arith, shorter, longer)) in
    omega (arith, rest, longer)

parameters_few : (p : Program) → rule.faults_of_names [] (rule.names_of p) ≡ [] → length (scope_of p).parameters ≤ 256
parameters_few p e =
    let ps = map rule.name_of_parameter p.parameters in
    let ds = map rule.name_of_declared p.declarations in
    let b = rule.names_of_block p.body in
    let all = names_few [] (rule.names_of p) e (omega arith) in
    let whole : length (ps ++ ds ++ b) ≡ length (ps ++ ds) + length b = length-append (ps ++ ds) b in
    let front : length (ps ++ ds) ≡ length ps + length ds = length-append ps ds in
    let named : length ps ≡ length p.parameters = length-map p.parameters rule.name_of_parameter in
    let kinds : length (scope_of p).parameters ≡ length p.parameters = length-map p.parameters (λ (q : Parameter). q.kind) in
    omega (arith, all, whole, front, named, kinds)

---- Statements

mutual
  tried : (s : Scope) (t : Statement) → IsSmall s → faults_of_statement s t ≡ [] → Tried t
  tried s (Let at name_at x e) k h = tt
  tried s (Assign at x e) k h = tt
  tried s (Call at x activity_at a es r o) k h =
      let called = rule.faults_of_call s.types (s.activities a) activity_at es in
      let assigned = rule.faults_of_assigned (s.types x) at (rule.given (s.activities a)) at in
      let front = nil_left (called ++ assigned ++ faults_of_retry r) (faults_of_otherwise s o) h in
      let call = nil_left called assigned (nil_left (called ++ assigned) (faults_of_retry r) front) in
      let retry = nil_right (called ++ assigned) (faults_of_retry r) front in
      let tries = out_of_range 1 20 r.tries r.tries_at in
      let every = out_of_range 0 86400000 r.every r.every_at in (
        (few_arguments s.types (s.activities a) activity_at es (k.0 a) call, in_range 1 20 r.tries r.tries_at (nil_left tries every retry), (in_range 0 86400000 r.every r.every_at (nil_right tries every retry)).1),
        tried_else s o k (nil_right (called ++ assigned ++ faults_of_retry r) (faults_of_otherwise s o) h),
      )
  tried s (WaitSignal at x signal_at n) k h = tt
  tried s (WaitSignalFor at x signal_at n e b end) k h =
      let known = rule.unknown_signal (s.signals n) signal_at in
      let assigned = rule.faults_of_assigned (s.types x) at (s.signals n) at in
      let wanted = rule.faults_of_wanted s.types Int e in
      tried_block s b k (nil_right (known ++ assigned ++ wanted) (faults_of_block s b) h)
  tried s (Sleep at e) k h = tt
  tried s (If at e a a_end b b_end) k h =
      let wanted = rule.faults_of_wanted s.types Int e in
      let h1 = nil_left (wanted ++ faults_of_block s a) (faults_of_block s b) h in
      (tried_block s a k (nil_right wanted (faults_of_block s a) h1), tried_block s b k (nil_right (wanted ++ faults_of_block s a) (faults_of_block s b) h))
  tried s (While at e b end) k h =
      let wanted = rule.faults_of_wanted s.types Int e in
      tried_block s b k (nil_right wanted (faults_of_block s b) h)
  tried s (Parallel at bs end) k h =
      let inside : Scope = record s { in_parallel = true } in
      let many = rule.fault_at_first code.TooManyBranches (drop rule.branch_limit (rule.branch_places bs)) in
      tried_branches inside bs k (nil_right many (faults_of_branches inside bs) h)
  tried s (Patch at id_at id a a_end b b_end) k h =
      (tried_block s a k (nil_left (faults_of_block s a) (faults_of_block s b) h), tried_block s b k (nil_right (faults_of_block s a) (faults_of_block s b) h))
  tried s (Deprecate at id_at id) k h = tt
  tried s (Return at e) k h = tt
  tried s (FailWith at e) k h = tt
  tried s (Continue at es) k h =
      let count = rule.wrong_count s.parameters es at in
      let arguments = rule.faults_of_arguments s.types s.parameters es in
      few s.parameters es at k.1 (nil_left count arguments (nil_left (count ++ arguments) (rule.ends_in_parallel s at) h))

  tried_block : (s : Scope) (b : Block) → IsSmall s → faults_of_block s b ≡ [] → TriedBlock b
  tried_block s End k h = tt
  tried_block s (Next t b) k h =
      (tried s t k (nil_left (faults_of_statement s t) (faults_of_block (behind s t) b) h), tried_block (behind s t) b (behind_small s t k) (nil_right (faults_of_statement s t) (faults_of_block (behind s t) b) h))

  tried_else : (s : Scope) (o : Otherwise) → IsSmall s → faults_of_otherwise s o ≡ [] → TriedElse o
  tried_else s NoElse k h = tt
  tried_else s (Else b end) k h = tried_block s b k h

  tried_branches : (s : Scope) (bs : Branches) → IsSmall s → faults_of_branches s bs ≡ [] → TriedBranches bs
  tried_branches s NoBranch k h = tt
  tried_branches s (Branch at b end bs) k h =
      (tried_block s b k (nil_left (faults_of_block s b) (faults_of_branches s bs) h), tried_branches s bs k (nil_right (faults_of_block s b) (faults_of_branches s bs) h))

no_fault : (fs : List TextFault) → ((c : Code) (at : ℕ) → Contains fs (record { code = c; at = at }) → ⊥) → fs ≡ []
no_fault [] h = refl
no_fault (f ∷ fs) h = absurd (h f.code f.at (0, omega arith, refl))

-- the calls of a well-formed program
pub well_formed_tried : (p : Program) → WellFormed p → TriedBlock p.body
well_formed_tried p w =
    let names = rule.faults_of_names [] (rule.names_of p) in
    let types = rule.faults_of_declarations p.declarations in
    let body = faults_of_block (scope_of p) p.body in
    let none = no_fault (faults p) w in
    let front = nil_left (names ++ types) body none in
    tried_block (scope_of p) p.body (takes_few p.declarations (nil_right names types front), parameters_few p (nil_left names types front)) (nil_right (names ++ types) body none)

-- and its parameters
pub few_parameters : (p : Program) → WellFormed p → length p.parameters ≤ 256
few_parameters p w =
    let names = rule.faults_of_names [] (rule.names_of p) in
    let types = rule.faults_of_declarations p.declarations in
    let body = faults_of_block (scope_of p) p.body in
    let few = parameters_few p (nil_left names types (nil_left (names ++ types) body (no_fault (faults p) w))) in
    let kinds : length (scope_of p).parameters ≡ length p.parameters = length-map p.parameters (λ (q : Parameter). q.kind) in
    omega (arith, few, kinds)

---- Moves

abbrev pub TriedRest : Rest → Type 0
TriedRest Done = Unit {0}
TriedRest (OnActivity n x k o) = TriedElse o
TriedRest (OnTimer n) = Unit {0}
TriedRest (OnSignal x s) = Unit {0}
TriedRest (OnSignalFor x s n b) = TriedBlock b
TriedRest (Raised c t) = Unit {0}
TriedRest (Then r b) = TriedRest r × TriedBlock b
TriedRest (Beside a b) = TriedRest a × TriedRest b

-- what a turn may ask: such as a row takes
abbrev pub AskedWell : Cmd → Type 0
AskedWell (Schedule a vs n m k) = TakesWell (length vs) n m
AskedWell (StartTimer d) = Unit {0}
AskedWell (CancelTimer n) = Unit {0}
AskedWell (RecordMarker id) = Unit {0}
AskedWell (Complete v) = Unit {0}
AskedWell (Fail c t) = Unit {0}
AskedWell (ContinueAsNew vs) = length vs ≤ 256

-- what it may ask and go on
abbrev pub GoesOn : Cmd → Type 0
GoesOn (Schedule a vs n m k) = TakesWell (length vs) n m
GoesOn (StartTimer d) = Unit {0}
GoesOn (CancelTimer n) = Unit {0}
GoesOn (RecordMarker id) = Unit {0}
GoesOn (Complete v) = ⊥
GoesOn (Fail c t) = ⊥
GoesOn (ContinueAsNew vs) = ⊥

abbrev pub MovesWell : Move → Type 0
MovesWell Stays = Unit {0}
MovesWell (Goes r t) = TriedRest r
MovesWell (Asks r t c) = TriedRest r × GoesOn c
MovesWell (Ends c) = AskedWell c

on_value_well : {A : Type 0} (r : Result A Cause) (f : A → Move) → ((v : A) → MovesWell (f v)) → MovesWell (on_value r f)
on_value_well (Ok v) f h = h v
on_value_well (Err c) f h = tt

on_value_if : {A : Type 0} (r : Result A Cause) (f : A → Move) → ((v : A) → r ≡ Ok v → MovesWell (f v)) → MovesWell (on_value r f)
on_value_if (Ok v) f h = h v refl
on_value_if (Err c) f h = tt

-- as many values as expressions
one_behind : (v : Value) (q : Result (List Value) Cause) (n : ℕ) (vs : List Value) → ((ws : List Value) → q ≡ Ok ws → length ws ≡ n) → (q >>= (λ ws. Ok (v ∷ ws))) ≡ Ok vs → length vs ≡ suc n
one_behind v (Ok ws) n vs f e = let same : v ∷ ws ≡ vs = cc in sym (ap length same) ∙ ap suc (f ws refl)
one_behind v (Err c) n vs f e = cc

one_more_value : (r : Result Value Cause) (q : Result (List Value) Cause) (n : ℕ) (vs : List Value) → ((ws : List Value) → q ≡ Ok ws → length ws ≡ n) → (r >>= (λ v. q >>= (λ ws. Ok (v ∷ ws)))) ≡ Ok vs → length vs ≡ suc n
one_more_value (Ok v) q n vs f e = one_behind v q n vs f e
one_more_value (Err c) q n vs f e = cc

as_many : (vars : Variables) (at : ℕ) (es : List Expression) (vs : List Value) → values vars at es ≡ Ok vs → length vs ≡ length es
as_many vars at [] vs e = let same : [] ≡ vs = cc in sym (ap length same)
as_many vars at (x ∷ es) vs e = one_more_value (value vars at x) (values vars at es) (length es) vs (λ ws g. as_many vars at es ws g) e

on_signal_well : (o : Option Value) (f : Value → Move) (m : Move) → ((v : Value) → MovesWell (f v)) → MovesWell m → MovesWell (on_signal o f m)
on_signal_well None f m h k = k
on_signal_well (Some v) f m h k = h v

if_well : (b : Bool) (m n : Move) → MovesWell m → MovesWell n → MovesWell (if b then m else n)
if_well true m n h k = h
if_well false m n h k = k

around_well : (f : Rest → Rest) (m : Move) → ((r : Rest) → TriedRest r → TriedRest (f r)) → MovesWell m → MovesWell (around f m)
around_well f Stays g h = tt
around_well f (Goes r t) g h = g r h
around_well f (Asks r t c) g h = (g r h.0, h.1)
around_well f (Ends c) g h = h

or_well : (m n : Move) → MovesWell m → MovesWell n → MovesWell (or_move m n)
or_well Stays n h k = k
or_well (Goes r t) n h k = h
or_well (Asks r t c) n h k = h
or_well (Ends c) n h k = h

picked_tried : (b : Bool) (x y : Block) → TriedBlock x → TriedBlock y → TriedRest (picked b x y)
picked_tried true x y h k = (tt, h)
picked_tried false x y h k = (tt, k)

branches_tried : (bs : Branches) → TriedBranches bs → TriedRest (branches_of bs)
branches_tried NoBranch h = tt
branches_tried (Branch at b end bs) h = ((tt, h.0), branches_tried bs h.1)

again_tried : (b : Bool) (r q : Rest) → TriedRest r → TriedRest q → TriedRest (if b then r else q)
again_tried true r q h k = h
again_tried false r q h k = k

patched_well : (s : Setting) (t : Store) (id : Bytes) (x y : Block) (o : Option Bool) → TriedBlock x → TriedBlock y → MovesWell (patched s t id x y o)
patched_well s t id x y (Some b) h k = picked_tried b x y h k
patched_well s t id x y None h k = if_well (s.answer id) (Asks (rest_of x) (decide t id true) (RecordMarker id)) (Goes (rest_of y) (decide t id false)) ((tt, h), tt) (tt, k)

begins_well : (s : Setting) (t : Store) (st : Statement) → Tried st → MovesWell (begin s t st)
begins_well s t (Let at name_at x e) h = on_value_well (value t.variables s.at e) (λ v. Goes Done (set_in t x v)) (λ v. tt)
begins_well s t (Assign at x e) h = on_value_well (value t.variables s.at e) (λ v. Goes Done (set_in t x v)) (λ v. tt)
begins_well s t (If at e a a_end b b_end) h =
    on_value_well (value t.variables s.at e) (λ v. Goes (picked (is_true v) a b) t) (λ v. picked_tried (is_true v) a b h.0 h.1)
begins_well s t (While at e b end) h =
    let loop = λ (v : Value). Goes (if is_true v then Then (rest_of b) (Next (While at e b end) End) else Done) (tested t) in
    if_well (nat_lt t.tests test_limit) (on_value (value t.variables s.at e) loop) (raise TurnBudget)
    (on_value_well (value t.variables s.at e) loop (λ v. again_tried (is_true v) (Then (rest_of b) (Next (While at e b end) End)) Done ((tt, h), (h, tt)) tt)) tt
begins_well s t (Call at x activity_at a es r o) h =
    let gives = gives_of s.activities a in
    let asks = λ (vs : List Value). Asks (OnActivity s.event x gives o) t (Schedule a vs r.tries r.every gives) in
    on_value_if (values t.variables s.at es) (λ vs. waiting s (asks vs))
    (λ vs e.
    let many : length vs ≡ length es = as_many t.variables s.at es vs e in
    let takes : TakesWell (length vs) r.tries r.every = subst (λ n. TakesWell n r.tries r.every) (sym many) h.0 in
    if_well (nat_lt s.waits wait_limit) (asks vs) (raise WaitLimit) (h.1, takes) tt)
begins_well s t (Sleep at e) h =
    on_value_well (due t.variables s.at e) (λ d. waiting s (Asks (OnTimer s.event) t (StartTimer d)))
    (λ d. if_well (nat_lt s.waits wait_limit) (Asks (OnTimer s.event) t (StartTimer d)) (raise WaitLimit) (tt, tt) tt)
begins_well s t (WaitSignal at x signal_at n) h =
    on_signal_well (oldest n t.buffer) (λ v. Goes Done (take_signal t x n v)) (waiting s (Goes (OnSignal x n) t)) (λ v. tt)
    (if_well (nat_lt s.waits wait_limit) (Goes (OnSignal x n) t) (raise WaitLimit) tt tt)
begins_well s t (WaitSignalFor at x signal_at n e b end) h =
    let asks = λ (d : ℕ). Asks (OnSignalFor x n s.event b) t (StartTimer d) in
    on_signal_well (oldest n t.buffer) (λ v. Goes Done (take_signal t x n v)) (on_value (due t.variables s.at e) (λ d. waiting s (asks d))) (λ v. tt)
    (on_value_well (due t.variables s.at e) (λ d. waiting s (asks d))
    (λ d. if_well (nat_lt s.waits wait_limit) (asks d) (raise WaitLimit) (h, tt) tt))
begins_well s t (Parallel at bs end) h = branches_tried bs h
begins_well s t (Patch at id_at id a a_end b b_end) h = patched_well s t id a b (t.decided id) h.0 h.1
begins_well s t (Deprecate at id_at id) h = patched_well s t id End End (t.decided id) tt tt
begins_well s t (Return at e) h = on_value_well (value t.variables s.at e) (λ v. Ends (Complete v)) (λ v. tt)
begins_well s t (FailWith at e) h =
    on_value_well (value t.variables s.at e) (λ v. Ends (Fail UserFail (text_of v))) (λ v. tt)
begins_well s t (Continue at es) h =
    let ends = λ (vs : List Value). if s.is_first then raise ChainLimit else Ends (ContinueAsNew vs) in
    on_value_if (values t.variables s.at es) ends
    (λ vs e.
    let many : length vs ≡ length es = as_many t.variables s.at es vs e in
    if_well s.is_first (raise ChainLimit) (Ends (ContinueAsNew vs)) tt (subst (λ n. n ≤ 256) (sym many) h))

followed_tried : (b : Block) (r : Rest) → TriedBlock b → TriedRest r → TriedRest (followed_by b r)
followed_tried End r h k = k
followed_tried (Next s b) r h k = (k, h)

first_well : (s : Setting) (t : Store) (b : Block) → TriedBlock b → MovesWell (first_of s t b)
first_well s t End h = tt
first_well s t (Next st b) h = around_well (followed_by b) (begin s t st) (λ r k. followed_tried b r h.1 k) (begins_well s t st h.0)

pub moves_well : (s : Setting) (t : Store) (r : Rest) → TriedRest r → MovesWell (move s t r)
moves_well s t Done h = tt
moves_well s t (OnActivity n x k o) h = tt
moves_well s t (OnTimer n) h = tt
moves_well s t (OnSignal x name) h = on_signal_well (oldest name t.buffer) (λ v. Goes Done (take_signal t x name v)) Stays (λ v. tt) tt
moves_well s t (OnSignalFor x name n b) h =
    on_signal_well (oldest name t.buffer) (λ v. Asks Done (take_signal t x name v) (CancelTimer n)) Stays (λ v. (tt, tt)) tt
moves_well s t (Raised c text) h = tt
moves_well s t (Then r b) h =
    if_well (is_done r) (first_of s t b) (around (λ q. Then q b) (move s t r)) (first_well s t b h.1)
    (around_well (λ q. Then q b) (move s t r) (λ q k. (k, h.1)) (moves_well s t r h.0))
moves_well s t (Beside a b) h =
    or_well (around (λ q. Beside q b) (move s t a)) (around (λ q. Beside a q) (move s t b))
    (around_well (λ q. Beside q b) (move s t a) (λ q k. (k, h.1)) (moves_well s t a h.0))
    (around_well (λ q. Beside a q) (move s t b) (λ q k. (h.0, k)) (moves_well s t b h.1))

---- What ends a wait

abbrev pub TriedIf : Option Rest → Type 0
TriedIf None = Unit {0}
TriedIf (Some r) = TriedRest r

map_tried : (f : Rest → Rest) (o : Option Rest) → ((r : Rest) → TriedRest r → TriedRest (f r)) → TriedIf o → TriedIf (map_rest f o)
map_tried f None g h = tt
map_tried f (Some r) g h = g r h

or_tried : (a b : Option Rest) → TriedIf a → TriedIf b → TriedIf (or_rest a b)
or_tried None b h k = k
or_tried (Some r) b h k = h

pub replaced_tried : (f : Rest → Option Rest) → ((r : Rest) → TriedRest r → TriedIf (f r)) → (r : Rest) → TriedRest r → TriedIf (replaced f r)
replaced_tried f g (Then r b) h = map_tried (λ q. Then q b) (replaced f r) (λ q k. (k, h.1)) (replaced_tried f g r h.0)
replaced_tried f g (Beside a b) h =
    or_tried (map_rest (λ q. Beside q b) (replaced f a)) (map_rest (λ q. Beside a q) (replaced f b))
    (map_tried (λ q. Beside q b) (replaced f a) (λ q k. (k, h.1)) (replaced_tried f g a h.0))
    (map_tried (λ q. Beside a q) (replaced f b) (λ q k. (h.0, k)) (replaced_tried f g b h.1))
replaced_tried f g Done h = g Done h
replaced_tried f g (OnActivity n x k o) h = g (OnActivity n x k o) h
replaced_tried f g (OnTimer n) h = g (OnTimer n) h
replaced_tried f g (OnSignal x s) h = g (OnSignal x s) h
replaced_tried f g (OnSignalFor x s n b) h = g (OnSignalFor x s n b) h
replaced_tried f g (Raised c t) h = g (Raised c t) h

if_tried : (b : Bool) (r : Rest) → TriedRest r → TriedIf (if b then Some r else None)
if_tried true r h = h
if_tried false r h = tt

pub completed_tried : (n : ℕ) (r : Rest) → TriedRest r → TriedIf (when_completed n r)
completed_tried n Done h = tt
completed_tried n (OnActivity m x k o) h = if_tried (nat_eq m n) Done tt
completed_tried n (OnTimer m) h = tt
completed_tried n (OnSignal x s) h = tt
completed_tried n (OnSignalFor x s m b) h = tt
completed_tried n (Raised c t) h = tt
completed_tried n (Then r b) h = tt
completed_tried n (Beside a b) h = tt

else_tried : (o : Otherwise) (r : Rest) → TriedElse o → TriedRest r → TriedRest (rest_else o r)
else_tried NoElse r h k = k
else_tried (Else b end) r h k = (tt, h)

pub failed_tried : (n : ℕ) (text : Bytes) (r : Rest) → TriedRest r → TriedIf (when_failed n text r)
failed_tried n text Done h = tt
failed_tried n text (OnActivity m x k o) h =
    if_tried (nat_eq m n) (rest_else o (Raised ActivityFailed text)) (else_tried o (Raised ActivityFailed text) h tt)
failed_tried n text (OnTimer m) h = tt
failed_tried n text (OnSignal x s) h = tt
failed_tried n text (OnSignalFor x s m b) h = tt
failed_tried n text (Raised c t) h = tt
failed_tried n text (Then r b) h = tt
failed_tried n text (Beside a b) h = tt

pub fired_tried : (n : ℕ) (r : Rest) → TriedRest r → TriedIf (when_fired n r)
fired_tried n Done h = tt
fired_tried n (OnActivity m x k o) h = tt
fired_tried n (OnTimer m) h = if_tried (nat_eq m n) Done tt
fired_tried n (OnSignal x s) h = tt
fired_tried n (OnSignalFor x s m b) h = if_tried (nat_eq m n) (rest_of b) (tt, h)
fired_tried n (Raised c t) h = tt
fired_tried n (Then r b) h = tt
fired_tried n (Beside a b) h = tt
