-- A well-formed program calls declared activities alone; so where its patches have no new ids, all of it is its own.
use Rattle.std.proofs.Common.{◌≡◌, ℕ, List, [], ◌∷◌, ◌++◌, Contains, refl, sym, ◌∙◌, subst, arith, Option, Some, None, Bool, true, false}
use Rattle.std.specs.Prelude.{bytes_eq, drop, ◌||◌, if◌then◌else◌}
use Rattle.std.specs.Cmp.Lexicographic.{bytes_decides}
use Rattle.std.proofs.lemmas.Bool.{true≢false}
use Rattle.std.proofs.lemmas.List.Elements.{Contains-append_left, Contains-append_right}
use Rattle.flow_base.specs.Syntax.{Bytes, Expression, Statement, Let, Assign, Call, WaitSignal, WaitSignalFor, Sleep, If, While, Parallel, Patch, Deprecate, Return, FailWith, Continue, Block, End, Next, Otherwise, NoElse, Else, Branches, NoBranch, Branch, Declared, Activity, Signal, Program, activities_of}
use Rattle.flow_base.specs.declared.code.Code.{Code}
use Rattle.flow_base.specs.declared.code.Code.TheVariants as code
use Rattle.flow_base.specs.declared.command.TextFault.{TextFault}
use Rattle.flow_base.specs.declared.value.Kind.TheVariants.{Int}
use Rattle.flow_model.specs.WellFormed.{Signature, Types, Scope, activity_of, behind, branch_limit, branch_places, fault, fault_at_first, faults_of_arguments, faults_of_assigned, faults_of_block, faults_of_branches, faults_of_call, faults_of_declarations, faults_of_names, faults_of_otherwise, faults_of_retry, faults_of_statement, faults_of_wanted, given, kinds_of, names_of, scope_of, unknown_signal, WellFormed}
use Rattle.flow_patch.specs.Wrap.{has_id, block_has, otherwise_has, branches_have}
use Rattle.flow_patch.proofs.Owned.{is_declared, Own, OwnBlock, OwnOtherwise, OwnBranches}

abbrev Clean : List TextFault → Type 0
Clean fs = (f : TextFault) → Contains fs f → ⊥

clean_left : (a b : List TextFault) → Clean (a ++ b) → Clean a
clean_left a b c f h = c f (Contains-append_left a b f h)

clean_right : (a b : List TextFault) → Clean (a ++ b) → Clean b
clean_right a b c f h = c f (Contains-append_right a b f h)

no_fault : (code : Code) (at : ℕ) → Clean (fault code at) → ⊥
no_fault code at c = c (record { code = code; at = at }) (0, omega arith, refl)

abbrev is_known : Option Signature → Bool
is_known None = false
is_known (Some a) = true

known_is_declared : (ds : List Declared) (a : Bytes) → is_known (activity_of ds a) ≡ is_declared (activities_of ds) a
known_is_declared [] a = refl
known_is_declared (Activity at name_at name takes gives ∷ ds) a =
    elim (bytes_eq name a) as (λ b. is_known (if b then Some (record { takes = kinds_of takes; gives = gives }) else activity_of ds a) ≡ (if b then true else is_declared (activities_of ds) a)) [
      | true ↦ refl
      | false ↦ known_is_declared ds a
    ]
known_is_declared (Signal at name_at name carries ∷ ds) a = known_is_declared ds a

clean_call : (types : Types) (o : Option Signature) (at : ℕ) (es : List Expression) → Clean (faults_of_call types o at es) → is_known o ≡ true
clean_call types None at es c = absurd (no_fault code.NotDeclared at (clean_left (fault code.NotDeclared at) (faults_of_arguments types [] es) c))
clean_call types (Some a) at es c = refl

behind_keeps : (s : Scope) (t : Statement) → (behind s t).activities ≡ s.activities
behind_keeps s (Let at name_at x e) = refl
behind_keeps s (Assign at x e) = refl
behind_keeps s (Call at x activity_at a es r o) = refl
behind_keeps s (WaitSignal at x signal_at n) = refl
behind_keeps s (WaitSignalFor at x signal_at n e b end) = refl
behind_keeps s (Sleep at e) = refl
behind_keeps s (If at e a a_end b b_end) = refl
behind_keeps s (While at e b end) = refl
behind_keeps s (Parallel at bs end) = refl
behind_keeps s (Patch at id_at id a a_end b b_end) = refl
behind_keeps s (Deprecate at id_at id) = refl
behind_keeps s (Return at e) = refl
behind_keeps s (FailWith at e) = refl
behind_keeps s (Continue at es) = refl

or_left : (a b : Bool) → a ≡ true → (a || b) ≡ true
or_left true b e = refl
or_left false b e = absurd (true≢false (sym e))

or_right : (a b : Bool) → b ≡ true → (a || b) ≡ true
or_right true b e = refl
or_right false b e = e

-- whatever holds of the ids within holds of each patch
mutual
  own_statement : (g : Bytes → Bool) (ds : List Declared) (s : Scope) → s.activities ≡ activity_of ds → (t : Statement) → ((i : Bytes) → has_id true i t ≡ true → g i ≡ false) → Clean (faults_of_statement s t) → Own g (activities_of ds) t
  own_statement g ds s e (Call at x activity_at a es r o) h c =
      let call = faults_of_call s.types (s.activities a) activity_at es in
      let assigned = faults_of_assigned (s.types x) at (given (s.activities a)) at in
      let retried = faults_of_retry r in (
        sym (known_is_declared ds a) ∙ clean_call s.types (activity_of ds a) activity_at es
            (subst (λ (f : Bytes → Option Signature). Clean (faults_of_call s.types (f a) activity_at es)) e
            (clean_left call assigned (clean_left (call ++ assigned) retried (clean_left ((call ++ assigned) ++ retried) (faults_of_otherwise s o) c)))),
        own_otherwise g ds s e o h (clean_right ((call ++ assigned) ++ retried) (faults_of_otherwise s o) c),
      )
  own_statement g ds s e (WaitSignalFor at x signal_at n d b end) h c =
      own_block g ds s e b h
      (clean_right ((unknown_signal (s.signals n) signal_at ++ faults_of_assigned (s.types x) at (s.signals n) at) ++ faults_of_wanted s.types Int d) (faults_of_block s b) c)
  own_statement g ds s e (If at d a a_end b b_end) h c =
      let wanted = faults_of_wanted s.types Int d in (
        own_block g ds s e a (λ i y. h i (or_left (block_has true i a) (block_has true i b) y))
            (clean_right wanted (faults_of_block s a) (clean_left (wanted ++ faults_of_block s a) (faults_of_block s b) c)),
        own_block g ds s e b (λ i y. h i (or_right (block_has true i a) (block_has true i b) y)) (clean_right (wanted ++ faults_of_block s a) (faults_of_block s b) c),
      )
  own_statement g ds s e (While at d b end) h c = own_block g ds s e b h (clean_right (faults_of_wanted s.types Int d) (faults_of_block s b) c)
  own_statement g ds s e (Parallel at bs end) h c =
      own_branches g ds (record s { in_parallel = true }) e bs h
      (clean_right (fault_at_first code.TooManyBranches (drop branch_limit (branch_places bs))) (faults_of_branches (record s { in_parallel = true }) bs) c)
  own_statement g ds s e (Patch at id_at id a a_end b b_end) h c = (
    h id (or_left (bytes_eq id id) (block_has true id a || block_has true id b) ((bytes_decides id id).1 refl)),
    own_block g ds s e a (λ i y. h i (or_right (bytes_eq id i) (block_has true i a || block_has true i b) (or_left (block_has true i a) (block_has true i b) y)))
        (clean_left (faults_of_block s a) (faults_of_block s b) c),
    own_block g ds s e b (λ i y. h i (or_right (bytes_eq id i) (block_has true i a || block_has true i b) (or_right (block_has true i a) (block_has true i b) y)))
        (clean_right (faults_of_block s a) (faults_of_block s b) c),
  )
  own_statement g ds s e (Deprecate at id_at id) h c = h id ((bytes_decides id id).1 refl)
  own_statement g ds s e (Let at name_at x d) h c = tt
  own_statement g ds s e (Assign at x d) h c = tt
  own_statement g ds s e (WaitSignal at x signal_at n) h c = tt
  own_statement g ds s e (Sleep at d) h c = tt
  own_statement g ds s e (Return at d) h c = tt
  own_statement g ds s e (FailWith at d) h c = tt
  own_statement g ds s e (Continue at es) h c = tt

  own_block : (g : Bytes → Bool) (ds : List Declared) (s : Scope) → s.activities ≡ activity_of ds → (b : Block) → ((i : Bytes) → block_has true i b ≡ true → g i ≡ false) → Clean (faults_of_block s b) → OwnBlock g (activities_of ds) b
  own_block g ds s e End h c = tt
  own_block g ds s e (Next t b) h c = (
    own_statement g ds s e t (λ i y. h i (or_left (has_id true i t) (block_has true i b) y)) (clean_left (faults_of_statement s t) (faults_of_block (behind s t) b) c),
    own_block g ds (behind s t) (behind_keeps s t ∙ e) b (λ i y. h i (or_right (has_id true i t) (block_has true i b) y))
        (clean_right (faults_of_statement s t) (faults_of_block (behind s t) b) c),
  )

  own_otherwise : (g : Bytes → Bool) (ds : List Declared) (s : Scope) → s.activities ≡ activity_of ds → (o : Otherwise) → ((i : Bytes) → otherwise_has true i o ≡ true → g i ≡ false) → Clean (faults_of_otherwise s o) → OwnOtherwise g (activities_of ds) o
  own_otherwise g ds s e NoElse h c = tt
  own_otherwise g ds s e (Else b end) h c = own_block g ds s e b h c

  own_branches : (g : Bytes → Bool) (ds : List Declared) (s : Scope) → s.activities ≡ activity_of ds → (bs : Branches) → ((i : Bytes) → branches_have true i bs ≡ true → g i ≡ false) → Clean (faults_of_branches s bs) → OwnBranches g (activities_of ds) bs
  own_branches g ds s e NoBranch h c = tt
  own_branches g ds s e (Branch at b end bs) h c = (
    own_block g ds s e b (λ i y. h i (or_left (block_has true i b) (branches_have true i bs) y)) (clean_left (faults_of_block s b) (faults_of_branches s bs) c),
    own_branches g ds s e bs (λ i y. h i (or_right (block_has true i b) (branches_have true i bs) y)) (clean_right (faults_of_block s b) (faults_of_branches s bs) c),
  )

-- the body of a well-formed program, where no id in it is new
pub own_body : (g : Bytes → Bool) (p : Program) → ((i : Bytes) → block_has true i p.body ≡ true → g i ≡ false) → WellFormed p → OwnBlock g (activities_of p.declarations) p.body
own_body g p h w =
    own_block g p.declarations (scope_of p) refl p.body h
    (clean_right (faults_of_names [] (names_of p) ++ faults_of_declarations p.declarations) (faults_of_block (scope_of p) p.body) (λ f x. w f.code f.at x))
