-- Statements and whole programs: what the table knows behind them, and which faults are noted.
use Rattle.std.proofs.Common.{◌≡◌, ℕ, Bool, true, false, List, [], ◌++◌, length, map, take, drop, Option, None, Result, OnOk, refl, sym, ap, subst, ◌∙◌, append_assoc}
use Rattle.std.proofs.Math.Seq.{take-length}
use Rattle.std.proofs.lemmas.List.{append-nil}
use Rattle.std.proofs.lemmas.Result.{on_ok_weaker}
use Rattle.flow_base.specs.declared.code.Code.TheVariants as code
use Rattle.flow_base.specs.declared.command.TextFault.{TextFault}
use Rattle.flow_base.specs.declared.value.Kind.{Kind}
use Rattle.flow_base.specs.declared.value.Kind.TheVariants.{Int, Text}
use Rattle.flow_base.specs.declared.syntax.Retry.{Retry}
use Rattle.flow_base.specs.declared.syntax.Parameter.{Parameter}
use Rattle.flow_base.specs.declared.syntax.Declaration.{Declaration}
use Rattle.flow_base.specs.declared.syntax.Stmt.{Stmt}
use Rattle.flow_base.specs.declared.syntax.Program as program
use Rattle.flow_base.specs.Shown.{shown_block, shown_declaration, shown_program}
use Rattle.flow_base.specs.Syntax.{Bytes, Expression, Statement, Let, Assign, Call, WaitSignal, WaitSignalFor, Sleep, If, While, Parallel, Patch, Deprecate, Return, FailWith, Continue, Block, Next, End, Otherwise, Branches, Branch}
use Rattle.flow_model.specs.WellFormed as rule
use Rattle.flow_model.specs.WellFormed.{Named, earliest, kind_of, beginning, with_type, behind, scope_of, no_types, types_of_parameters, activity_of, signal_of, names_of, names_of_block, name_of_parameter, name_of_declared, faults_of_names, faults_of_declarations, fault_at_first, branch_places, faults_of_block, faults_of_otherwise, faults_of_branches, faults_of_statement, faults_of_expression, faults_of_wanted, faults_of_assigned, faults_of_arguments, faults_of_call, faults_of_retry, wrong_count, unknown_signal, given, first_fault}
use Rattle.flow_model.proofs.FirstFault.{earliest-append}
use Rattle.flow_check.specs.declared.names.Names.{Names}
use Rattle.flow_check.specs.declared.scope.Scope.{Scope}
use Rattle.flow_check.specs.Tables.{variables_of, types_of, activities_of, signals_of, parameters_of, kinds_of_parameters, shown_scope, nothing_known, first_then, Checks, Notes, ends_within, Lists, Declares}
use Rattle.flow_check.proofs.Declaring.{declares_then}
use Rattle.flow_check.proofs.Scoping.{same_known, same_within, noted, notes_then}

module _ (p : Bool) (s : Scope) (x : Statement) (o : Option TextFault) where
  pub let_checked : (s' : Scope) (at name_at : ℕ) (name : Bytes) (e : Expression) (k : Option Kind) (o1 : Option TextFault)
      → x ≡ Let at name_at name e → o1 ≡ earliest o (faults_of_expression (types_of s) e) → k ≡ kind_of (types_of s) e
      → take (length (variables_of s)) (variables_of s') ≡ variables_of s → types_of s' ≡ with_type (types_of s) name k
      → activities_of s' ≡ activities_of s → signals_of s' ≡ signals_of s → parameters_of s' ≡ parameters_of s → Checks p s o (Next x End) s' o1
  let_checked s' at name_at name e k o1 is one kind grows types activities signals parameters =
      subst (λ (y : Statement). Checks p s o (Next y End) s' o1) (sym is) (
        same_known p s' (behind (shown_scope p s) (Let at name_at name e)) (types ∙ ap (with_type (types_of s) name) kind) activities signals parameters refl,
        (grows, one ∙ ap (earliest o) (sym (append-nil (faults_of_expression (types_of s) e)))),
      )

  -- a statement behind which the same is known as before it
  pub stays_checked : (y : Statement) (s' : Scope) (o1 : Option TextFault) → x ≡ y → shown_scope p s ≡ behind (shown_scope p s) y → Notes s o (faults_of_statement (shown_scope p s) y) s' o1 → Checks p s o (Next x End) s' o1
  stays_checked y s' o1 is stays h =
      subst (λ (z : Statement). Checks p s o (Next z End) s' o1) (sym is) (
        same_within p s s' h.0 ∙ stays,
        (
          ap (take (length (variables_of s))) h.0.0 ∙ take-length (variables_of s),
          h.1 ∙ ap (earliest o) (sym (append-nil (faults_of_statement (shown_scope p s) y))),
        ),
      )

  pub assign_checked : (at : ℕ) (name : Bytes) (e : Expression) (k : Option Kind) (v : Option (Option Kind)) (b : ℕ) (o1 o2 : Option TextFault)
      → x ≡ Assign at name e → o1 ≡ earliest o (faults_of_expression (types_of s) e) → k ≡ kind_of (types_of s) e → v ≡ types_of s name → b ≡ beginning e
      → o2 ≡ earliest o1 (faults_of_assigned v at k b) → Checks p s o (Next x End) s o2
  assign_checked at name e k v b o1 o2 is one kind seen place two =
      let y = Assign at name e in
      stays_checked y s o2 is refl (noted s o o2 (faults_of_statement (shown_scope p s) y)
      (rw (two, one, kind, seen, place) (sym (earliest-append o (faults_of_expression (types_of s) e) (faults_of_assigned (types_of s name) at (kind_of (types_of s) e) (beginning e))))))

  pub call_checked : (at activity_at : ℕ) (name activity : Bytes) (es : List Expression) (r : Retry) (other : Otherwise) (s' : Scope) (a : Option rule.Signature) (v : Option (Option Kind)) (g : Option Kind) (o1 o2 o3 o4 : Option TextFault)
      → x ≡ Call at name activity_at activity es r other → a ≡ activities_of s activity → o1 ≡ earliest o (faults_of_call (types_of s) a activity_at es) → v ≡ types_of s name → g ≡ given a
      → o2 ≡ earliest o1 (faults_of_assigned v at g at) → o3 ≡ earliest o2 (faults_of_retry r) → Notes s o3 (faults_of_otherwise (shown_scope p s) other) s' o4 → Checks p s o (Next x End) s' o4
  call_checked at activity_at name activity es r other s' a v g o1 o2 o3 o4 is sig one seen gives two three four =
      let called = faults_of_call (types_of s) (activities_of s activity) activity_at es in
      let given_to = faults_of_assigned (types_of s name) at (given (activities_of s activity)) at in
      let tried = faults_of_retry r in
      let assigned : o2 ≡ earliest o (called ++ given_to) = rw (two, one, seen, gives, sig) (sym (earliest-append o called given_to)) in
      let alone : o3 ≡ earliest o ((called ++ given_to) ++ tried) = three ∙ ap (λ (y : Option TextFault). earliest y tried) assigned ∙ sym (earliest-append o (called ++ given_to) tried) in
      stays_checked (Call at name activity_at activity es r other) s' o4 is refl
      (notes_then p s s s' o o3 o4 ((called ++ given_to) ++ tried) (λ (m : rule.Scope). faults_of_otherwise m other) (noted s o o3 ((called ++ given_to) ++ tried) alone) four)

  pub wait_checked : (at signal_at : ℕ) (name signal : Bytes) (o1 : Option TextFault) → x ≡ WaitSignal at name signal_at signal
      → o1 ≡ earliest o (unknown_signal (signals_of s signal) signal_at ++ faults_of_assigned (types_of s name) at (signals_of s signal) at) → Checks p s o (Next x End) s o1
  wait_checked at signal_at name signal o1 is one =
      let y = WaitSignal at name signal_at signal in
      stays_checked y s o1 is refl (noted s o o1 (faults_of_statement (shown_scope p s) y) one)

  pub wait_for_checked : (at signal_at : ℕ) (name signal : Bytes) (e : Expression) (b : Block) (end : ℕ) (s' : Scope) (o1 o2 o3 : Option TextFault) → x ≡ WaitSignalFor at name signal_at signal e b end
      → o1 ≡ earliest o (unknown_signal (signals_of s signal) signal_at ++ faults_of_assigned (types_of s name) at (signals_of s signal) at)
      → o2 ≡ earliest o1 (faults_of_wanted (types_of s) Int e) → Notes s o2 (faults_of_block (shown_scope p s) b) s' o3 → Checks p s o (Next x End) s' o3
  wait_for_checked at signal_at name signal e b end s' o1 o2 o3 is one two three =
      let heard = unknown_signal (signals_of s signal) signal_at ++ faults_of_assigned (types_of s name) at (signals_of s signal) at in
      let delay = faults_of_wanted (types_of s) Int e in
      stays_checked (WaitSignalFor at name signal_at signal e b end) s' o3 is refl
      (notes_then p s s s' o o2 o3 (heard ++ delay) (λ (m : rule.Scope). faults_of_block m b) (noted s o o2 (heard ++ delay) (rw (two, one) (sym (earliest-append o heard delay)))) three)

  pub sleep_checked : (at : ℕ) (e : Expression) (o1 : Option TextFault) → x ≡ Sleep at e → o1 ≡ earliest o (faults_of_wanted (types_of s) Int e) → Checks p s o (Next x End) s o1
  sleep_checked at e o1 is one = stays_checked (Sleep at e) s o1 is refl (noted s o o1 (faults_of_wanted (types_of s) Int e) one)

  -- two lists, one after the other, behind other faults
  two_lists : (a b : Block) (s1 s2 : Scope) (o1 o2 o3 : Option TextFault) (fs : List TextFault) → o1 ≡ earliest o fs → Notes s o1 (faults_of_block (shown_scope p s) a) s1 o2
      → Notes s1 o2 (faults_of_block (shown_scope p s1) b) s2 o3 → Notes s o ((fs ++ faults_of_block (shown_scope p s) a) ++ faults_of_block (shown_scope p s) b) s2 o3
  two_lists a b s1 s2 o1 o2 o3 fs one two three =
      notes_then p s s1 s2 o o2 o3 (fs ++ faults_of_block (shown_scope p s) a) (λ (m : rule.Scope). faults_of_block m b)
      (notes_then p s s s1 o o1 o2 fs (λ (m : rule.Scope). faults_of_block m a) (noted s o o1 fs one) two) three

  pub if_checked : (at : ℕ) (e : Expression) (a b : Block) (a_end b_end : ℕ) (s1 s2 : Scope) (o1 o2 o3 : Option TextFault) → x ≡ If at e a a_end b b_end → o1 ≡ earliest o (faults_of_wanted (types_of s) Int e)
      → Notes s o1 (faults_of_block (shown_scope p s) a) s1 o2 → Notes s1 o2 (faults_of_block (shown_scope p s1) b) s2 o3 → Checks p s o (Next x End) s2 o3
  if_checked at e a b a_end b_end s1 s2 o1 o2 o3 is one two three =
      stays_checked (If at e a a_end b b_end) s2 o3 is refl (two_lists a b s1 s2 o1 o2 o3 (faults_of_wanted (types_of s) Int e) one two three)

  pub while_checked : (at : ℕ) (e : Expression) (b : Block) (end : ℕ) (s1 : Scope) (o1 o2 : Option TextFault) → x ≡ While at e b end → o1 ≡ earliest o (faults_of_wanted (types_of s) Int e)
      → Notes s o1 (faults_of_block (shown_scope p s) b) s1 o2 → Checks p s o (Next x End) s1 o2
  while_checked at e b end s1 o1 o2 is one two =
      let condition = faults_of_wanted (types_of s) Int e in
      stays_checked (While at e b end) s1 o2 is refl (notes_then p s s s1 o o1 o2 condition (λ (m : rule.Scope). faults_of_block m b) (noted s o o1 condition one) two)

  pub parallel_checked : (at b_at : ℕ) (b : Block) (b_end : ℕ) (bs : Branches) (end : ℕ) (s1 s2 : Scope) (o1 o2 o3 : Option TextFault) → x ≡ Parallel at (Branch b_at b b_end bs) end
      → o1 ≡ earliest o (fault_at_first code.TooManyBranches (drop 7 (branch_places bs))) → Notes s o1 (faults_of_block (shown_scope true s) b) s1 o2
      → Notes s1 o2 (faults_of_branches (shown_scope true s1) bs) s2 o3 → Checks p s o (Next x End) s2 o3
  parallel_checked at b_at b b_end bs end s1 s2 o1 o2 o3 is one two three =
      let beyond = fault_at_first code.TooManyBranches (drop 7 (branch_places bs)) in
      let m = shown_scope true s in
      stays_checked (Parallel at (Branch b_at b b_end bs) end) s2 o3 is refl
      (subst (λ (fs : List TextFault). Notes s o fs s2 o3) (append_assoc beyond (faults_of_block m b) (faults_of_branches m bs))
      (notes_then true s s1 s2 o o2 o3 (beyond ++ faults_of_block m b) (λ (k : rule.Scope). faults_of_branches k bs)
      (notes_then true s s s1 o o1 o2 beyond (λ (k : rule.Scope). faults_of_block k b) (noted s o o1 beyond one) two) three))

  pub patch_checked : (at id_at : ℕ) (id : Bytes) (a b : Block) (a_end b_end : ℕ) (s1 s2 : Scope) (o1 o2 : Option TextFault) → x ≡ Patch at id_at id a a_end b b_end
      → Notes s o (faults_of_block (shown_scope p s) a) s1 o1 → Notes s1 o1 (faults_of_block (shown_scope p s1) b) s2 o2 → Checks p s o (Next x End) s2 o2
  patch_checked at id_at id a b a_end b_end s1 s2 o1 o2 is one two =
      stays_checked (Patch at id_at id a a_end b b_end) s2 o2 is refl (two_lists a b s1 s2 o o1 o2 [] refl one two)

  pub deprecate_checked : (at id_at : ℕ) (id : Bytes) → x ≡ Deprecate at id_at id → Checks p s o (Next x End) s o
  deprecate_checked at id_at id is = stays_checked (Deprecate at id_at id) s o is refl (noted s o o [] refl)

  pub return_checked : (at : ℕ) (e : Expression) (o1 o2 : Option TextFault) → x ≡ Return at e → o1 ≡ earliest o (faults_of_expression (types_of s) e) → o2 ≡ earliest o1 (ends_within p at) → Checks p s o (Next x End) s o2
  return_checked at e o1 o2 is one two =
      let fs = faults_of_expression (types_of s) e in
      stays_checked (Return at e) s o2 is refl (noted s o o2 (fs ++ ends_within p at) (rw (two, one) (sym (earliest-append o fs (ends_within p at)))))

  pub fail_checked : (at : ℕ) (e : Expression) (o1 o2 : Option TextFault) → x ≡ FailWith at e → o1 ≡ earliest o (faults_of_wanted (types_of s) Text e) → o2 ≡ earliest o1 (ends_within p at) → Checks p s o (Next x End) s o2
  fail_checked at e o1 o2 is one two =
      let fs = faults_of_wanted (types_of s) Text e in
      stays_checked (FailWith at e) s o2 is refl (noted s o o2 (fs ++ ends_within p at) (rw (two, one) (sym (earliest-append o fs (ends_within p at)))))

  pub continue_checked : (at : ℕ) (es : List Expression) (ks : List Kind) (o1 o2 : Option TextFault) → x ≡ Continue at es → ks ≡ parameters_of s
      → o1 ≡ earliest o (wrong_count ks es at ++ faults_of_arguments (types_of s) ks es) → o2 ≡ earliest o1 (ends_within p at) → Checks p s o (Next x End) s o2
  continue_checked at es ks o1 o2 is kinds one two =
      let fs = wrong_count (parameters_of s) es at ++ faults_of_arguments (types_of s) (parameters_of s) es in
      stays_checked (Continue at es) s o2 is refl (noted s o o2 (fs ++ ends_within p at) (rw (two, one, kinds) (sym (earliest-append o fs (ends_within p at)))))

-- the names of a program, in three parts
pub names_checked : {U E : Type 0} (r : Result U E) (p : program.Program) (n n1 n2 n3 : Names) (o o1 o2 o3 : Option TextFault) (ps : List Parameter) (ds : List Declaration) (ss : List Stmt)
    → ps ≡ p.parameters.items → ds ≡ p.declarations.items → ss ≡ p.body.value.items → Lists n []
    → Declares n o (map name_of_parameter ps) n1 o1 → Declares n1 o1 (map name_of_declared (map shown_declaration ds)) n2 o2 → OnOk r (Declares n2 o2 (names_of_block (shown_block ss)) n3 o3)
    → OnOk r (o3 ≡ earliest o (faults_of_names [] (names_of (shown_program p))))
names_checked r p n n1 n2 n3 o o1 o2 o3 ps ds ss ips ids iss l first second third =
    let a = map name_of_parameter ps in
    let b = map name_of_declared (map shown_declaration ds) in
    let c = names_of_block (shown_block ss) in
    let same : (a ++ b) ++ c ≡ names_of (shown_program p) = rw (ips, ids, iss) refl in
    on_ok_weaker r
    (λ h. let all = declares_then n n2 n3 o o2 o3 (a ++ b) c (declares_then n n1 n2 o o1 o2 a b first second) h in
    (all [] l).1 ∙ ap (λ (ns : List Named). earliest o (faults_of_names [] ns)) same) third

-- the tables where the body begins
pub known_first : (s s1 s2 : Scope) (p : program.Program) → types_of s ≡ no_types → activities_of s ≡ nothing_known → signals_of s ≡ nothing_known → parameters_of s ≡ kinds_of_parameters p.parameters.items
    → types_of s1 ≡ types_of_parameters (types_of s) p.parameters.items → activities_of s1 ≡ activities_of s → signals_of s1 ≡ signals_of s → parameters_of s1 ≡ parameters_of s
    → types_of s2 ≡ types_of s1 → activities_of s2 ≡ first_then (activities_of s1) (activity_of (map shown_declaration p.declarations.items))
    → signals_of s2 ≡ first_then (signals_of s1) (signal_of (map shown_declaration p.declarations.items)) → parameters_of s2 ≡ parameters_of s1
    → shown_scope false s2 ≡ scope_of (shown_program p)
known_first s s1 s2 p untyped none unheard takes types same alike too kept activities signals parameters =
    let ds = map shown_declaration p.declarations.items in
    same_known false s2 (scope_of (shown_program p)) (kept ∙ types ∙ ap (λ (t : rule.Types). types_of_parameters t p.parameters.items) untyped)
    (activities ∙ ap (λ (f : Bytes → Option rule.Signature). first_then f (activity_of ds)) (same ∙ none))
    (signals ∙ ap (λ (f : Bytes → Option Kind). first_then f (signal_of ds)) (alike ∙ unheard)) (parameters ∙ too ∙ takes) refl

pub first_found : (p : program.Program) (s s' : Scope) (o o1 o2 o3 r : Option TextFault) → o ≡ None → o1 ≡ earliest o (faults_of_names [] (names_of (shown_program p)))
    → o2 ≡ earliest o1 (faults_of_declarations (map shown_declaration p.declarations.items)) → shown_scope false s ≡ scope_of (shown_program p) → Checks false s o2 (shown_block p.body.value.items) s' o3 → r ≡ o3
    → r ≡ first_fault (shown_program p)
first_found p s s' o o1 o2 o3 r none one two known checks is =
    let q = shown_program p in
    let a = faults_of_names [] (names_of q) in
    let b = faults_of_declarations q.declarations in
    let c = faults_of_block (scope_of q) q.body in
    is ∙ checks.1.1 ∙ ap (λ (m : rule.Scope). earliest o2 (faults_of_block m q.body)) known
    ∙ ap (λ (x : Option TextFault). earliest x c) (two ∙ ap (λ (x : Option TextFault). earliest x b) (one ∙ ap (λ (x : Option TextFault). earliest x a) none) ∙ sym (earliest-append None a b))
    ∙ sym (earliest-append None (a ++ b) c)
