-- There is no first difference exactly where the new text wraps the old one.
use Rattle.std.proofs.Common.{◌≡◌, ℕ, List, [], ◌∷◌, ◌++◌, map, refl, sym, ap, ◌∙◌, subst, Bool, true, false, Option, Some, None, ⊎_elim}
use Rattle.std.specs.Prelude.{bytes_eq, ◌&&◌, if◌then◌else◌}
use Rattle.std.proofs.lemmas.Bool.{true≢false}
use Rattle.flow_base.specs.Syntax.{Bytes, Statement, Let, Assign, Call, WaitSignal, WaitSignalFor, Sleep, If, While, Parallel, Patch, Deprecate, Return, FailWith, Continue, Block, End, Next, Otherwise, NoElse, Else, Branches, NoBranch, Branch, Declared, Program}
use Rattle.flow_base.specs.Bare.{bare_expression, bare_retry, bare_statement, bare_block, bare_otherwise, bare_branches, bare_parameter, bare_declared}
use Rattle.flow_base.specs.declared.syntax.Parameter.{Parameter}
use Rattle.flow_model.specs.Rest.{is_end}
use Rattle.flow_patch.specs.Wrap.{plain, without_new, new_in, Wrap}
use Rattle.flow_patch.specs.Difference.{same_head, has_else, same_flag, else_list, first_list, second_list, branches_in, place_of, beginning_of, first_place, splicing, spliced, difference, difference_within, difference_else, difference_beside, same_expressions, same_retry, same_parameter, difference_of_parameters, same_declared, difference_of_declarations, place_of_declared, first_difference, DifferenceDecides}
use Rattle.flow_patch.proofs.Normal.{cases}
use Rattle.flow_patch.proofs.Rebuilding.{Bares, bare_joined, bare_rebuilt}
use Rattle.flow_patch.proofs.Turns.{none_some}
use Rattle.flow_patch.proofs.Words.{wrap_is_computed}
use Rattle.flow_patch.proofs.Heads.{bytes_same, bytes_self, head_by, bare_first, bare_second, bare_beside, statements_alike, parameters_alike, parameter_self, declared_alike, declared_by}

-- no place in either
pub places : (o p : Option ℕ) → first_place o p ≡ None → (o ≡ None) × (p ≡ None)
places None p e = (refl, e)
places (Some n) p e = absurd (none_some n (sym e))

pub no_place : (o p : Option ℕ) → o ≡ None → p ≡ None → first_place o p ≡ None
no_place o p e h = rw (e, h)

-- a test that is not to tell a place
pub tested : (b : Bool) (o : Option ℕ) (n : ℕ) → (if b then o else Some n) ≡ None → (b ≡ true) × (o ≡ None)
tested true o n e = (refl, e)
tested false o n e = absurd (none_some n (sym e))

---- What is spliced, without places

bares : (f : Bytes → Bool) → Bares (splicing f) (without_new f)
bares f = record {
  patch = λ at id_at id a a_end b b_end k. ⊎_elim (λ (e : f id ≡ true). rw e (bare_joined b k)) (λ (e : f id ≡ false). rw e refl) (cases (f id));
  deprecate = λ at id_at id k. ⊎_elim (λ (e : f id ≡ true). rw e refl) (λ (e : f id ≡ false). rw e refl) (cases (f id));
}

pub bare_spliced : (f : Bytes → Bool) (b : Block) → bare_block (spliced f b) ≡ plain f b
bare_spliced f b = bare_rebuilt (splicing f) (without_new f) (bares f) b

---- No difference: the same without places

-- of two calls, from their heads
same_else : (x y n m t : Bool) → (x && (y && (n && (m && t)))) ≡ true → t ≡ true
same_else true true true true t e = e
same_else true true true false t e = absurd (true≢false (sym e))
same_else true true false m t e = absurd (true≢false (sym e))
same_else true false n m t e = absurd (true≢false (sym e))
same_else false y n m t e = absurd (true≢false (sym e))

mutual
  pub alike : (b b' : Block) (end : ℕ) → difference b b' end ≡ None → bare_block b ≡ bare_block b'
  alike End End end e = refl
  alike (Next s b) End end e = absurd (none_some end (sym e))
  alike End (Next s' b') end e = absurd (none_some (place_of s') (sym e))
  alike (Next s b) (Next s' b') end e =
      let t = tested (same_head s s') (first_place (difference_within s s') (difference b b' end)) (place_of s') e in
      let p = places (difference_within s s') (difference b b' end) t.1 in
      ap (λ x. Next x (bare_block b)) (alike_statements s s' t.0 p.0) ∙ ap (Next (bare_statement s')) (alike b b' end p.1)

  alike_statements : (s s' : Statement) → same_head s s' ≡ true → difference_within s s' ≡ None → bare_statement s ≡ bare_statement s'
  alike_statements (Let at name_at x e) (Let at' name_at' y d) h n = statements_alike (Let at name_at x e) (Let at' name_at' y d) h refl refl refl
  alike_statements (Assign at x e) (Assign at' y d) h n = statements_alike (Assign at x e) (Assign at' y d) h refl refl refl
  alike_statements (Call at x activity_at a es r o) (Call at' y activity_at' b ds q u) h n =
      statements_alike (Call at x activity_at a es r o) (Call at' y activity_at' b ds q u) h
      (alike_else o u (same_else (bytes_eq x y) (bytes_eq a b) (same_expressions es ds) (same_retry r q) (same_flag (has_else o) (has_else u)) h) n) refl refl
  alike_statements (WaitSignal at x signal_at i) (WaitSignal at' y signal_at' j) h n =
      statements_alike (WaitSignal at x signal_at i) (WaitSignal at' y signal_at' j) h refl refl refl
  alike_statements (WaitSignalFor at x signal_at i e b end) (WaitSignalFor at' y signal_at' j d b' end') h n =
      statements_alike (WaitSignalFor at x signal_at i e b end) (WaitSignalFor at' y signal_at' j d b' end') h (alike b b' end' n) refl refl
  alike_statements (Sleep at e) (Sleep at' d) h n = statements_alike (Sleep at e) (Sleep at' d) h refl refl refl
  alike_statements (If at e a a_end b b_end) (If at' d a' a_end' b' b_end') h n =
      let p = places (difference a a' a_end') (difference b b' b_end') n in
      statements_alike (If at e a a_end b b_end) (If at' d a' a_end' b' b_end') h (alike a a' a_end' p.0) (alike b b' b_end' p.1) refl
  alike_statements (While at e b end) (While at' d b' end') h n = statements_alike (While at e b end) (While at' d b' end') h (alike b b' end' n) refl refl
  alike_statements (Parallel at bs end) (Parallel at' cs end') h n = statements_alike (Parallel at bs end) (Parallel at' cs end') h refl refl (alike_beside bs cs end' n)
  alike_statements (Patch at id_at i a a_end b b_end) (Patch at' id_at' j a' a_end' b' b_end') h n =
      let p = places (difference a a' a_end') (difference b b' b_end') n in
      statements_alike (Patch at id_at i a a_end b b_end) (Patch at' id_at' j a' a_end' b' b_end') h (alike a a' a_end' p.0) (alike b b' b_end' p.1) refl
  alike_statements (Deprecate at id_at i) (Deprecate at' id_at' j) h n = statements_alike (Deprecate at id_at i) (Deprecate at' id_at' j) h refl refl refl
  alike_statements (Return at e) (Return at' d) h n = statements_alike (Return at e) (Return at' d) h refl refl refl
  alike_statements (FailWith at e) (FailWith at' d) h n = statements_alike (FailWith at e) (FailWith at' d) h refl refl refl
  alike_statements (Continue at es) (Continue at' ds) h n = statements_alike (Continue at es) (Continue at' ds) h refl refl refl
  alike_statements s s' h n = absurd (true≢false (sym h))

  alike_else : (o u : Otherwise) → same_flag (has_else o) (has_else u) ≡ true → difference_else (else_list o) u ≡ None → bare_block (else_list o) ≡ bare_block (else_list u)
  alike_else NoElse NoElse h n = refl
  alike_else NoElse (Else c end) h n = absurd (true≢false (sym h))
  alike_else (Else b end) NoElse h n = absurd (true≢false (sym h))
  alike_else (Else b end) (Else c end') h n = alike b c end' n

  alike_beside : (bs cs : Branches) (block_end : ℕ) → difference_beside bs cs block_end ≡ None → bare_branches bs ≡ bare_branches cs
  alike_beside NoBranch NoBranch block_end n = refl
  alike_beside NoBranch (Branch at c end cs) block_end n = absurd (none_some at (sym n))
  alike_beside (Branch at b end bs) NoBranch block_end n = absurd (none_some block_end (sym n))
  alike_beside (Branch at b end bs) (Branch at' c end' cs) block_end n =
      let p = places (difference b c end') (difference_beside bs cs block_end) n in
      ap (λ x. Branch 0 x 0 (bare_branches bs)) (alike b c end' p.0) ∙ ap (Branch 0 (bare_block c) 0) (alike_beside bs cs block_end p.1)

---- The same without places: no difference

abbrev first_in : Statement → Block → Statement
first_in s End = s
first_in s (Next u b) = u

abbrev rest_in : Block → Block
rest_in End = End
rest_in (Next s b) = b

abbrev no_branch : Branches → Bool
no_branch NoBranch = true
no_branch (Branch at b end bs) = false

abbrev branch_in : Branches → Block
branch_in NoBranch = End
branch_in (Branch at b end bs) = b

abbrev others_in : Branches → Branches
others_in NoBranch = NoBranch
others_in (Branch at b end bs) = bs

mutual
  pub nowhere : (b b' : Block) (end : ℕ) → bare_block b ≡ bare_block b' → difference b b' end ≡ None
  nowhere End End end e = refl
  nowhere (Next s b) End end e = absurd (true≢false (sym (ap is_end e)))
  nowhere End (Next s' b') end e = absurd (true≢false (ap is_end e))
  nowhere (Next s b) (Next s' b') end e =
      let h : bare_statement s ≡ bare_statement s' = ap (first_in (bare_statement s)) e in
      rw (head_by s s' h)
      (no_place (difference_within s s') (difference b b' end)
      (nowhere_within s s' (sym (bare_first s) ∙ ap first_list h ∙ bare_first s') (sym (bare_second s) ∙ ap second_list h ∙ bare_second s') (sym (bare_beside s) ∙ ap branches_in h ∙ bare_beside s'))
      (nowhere b b' end (ap rest_in e)))

  nowhere_within : (s s' : Statement) → bare_block (first_list s) ≡ bare_block (first_list s') → bare_block (second_list s) ≡ bare_block (second_list s') → bare_branches (branches_in s) ≡ bare_branches (branches_in s') → difference_within s s' ≡ None
  nowhere_within s (Call at x activity_at a es r o) f g h = nowhere_else (first_list s) o f
  nowhere_within s (WaitSignalFor at x signal_at n e b end) f g h = nowhere (first_list s) b end f
  nowhere_within s (If at e a a_end b b_end) f g h = no_place (difference (first_list s) a a_end) (difference (second_list s) b b_end) (nowhere (first_list s) a a_end f) (nowhere (second_list s) b b_end g)
  nowhere_within s (While at e b end) f g h = nowhere (first_list s) b end f
  nowhere_within s (Parallel at bs end) f g h = nowhere_beside (branches_in s) bs end h
  nowhere_within s (Patch at id_at i a a_end b b_end) f g h = no_place (difference (first_list s) a a_end) (difference (second_list s) b b_end) (nowhere (first_list s) a a_end f) (nowhere (second_list s) b b_end g)
  nowhere_within s s' f g h = refl

  nowhere_else : (b : Block) (o : Otherwise) → bare_block b ≡ bare_block (else_list o) → difference_else b o ≡ None
  nowhere_else b NoElse e = refl
  nowhere_else b (Else c end) e = nowhere b c end e

  nowhere_beside : (bs cs : Branches) (block_end : ℕ) → bare_branches bs ≡ bare_branches cs → difference_beside bs cs block_end ≡ None
  nowhere_beside NoBranch NoBranch block_end e = refl
  nowhere_beside NoBranch (Branch at c end cs) block_end e = absurd (true≢false (ap no_branch e))
  nowhere_beside (Branch at b end bs) NoBranch block_end e = absurd (true≢false (sym (ap no_branch e)))
  nowhere_beside (Branch at b end bs) (Branch at' c end' cs) block_end e =
      no_place (difference b c end') (difference_beside bs cs block_end) (nowhere b c end' (ap branch_in e)) (nowhere_beside bs cs block_end (ap others_in e))

---- Programs

pub parameters_same : (ps qs : List Parameter) (end : ℕ) → difference_of_parameters ps qs end ≡ None → map bare_parameter ps ≡ map bare_parameter qs
parameters_same [] [] end n = refl
parameters_same [] (q ∷ qs) end n = absurd (none_some q.at (sym n))
parameters_same (p ∷ ps) [] end n = absurd (none_some end (sym n))
parameters_same (p ∷ ps) (q ∷ qs) end n =
    let t = tested (same_parameter p q) (difference_of_parameters ps qs end) q.at n in
    ap (λ x. x ∷ map bare_parameter ps) (parameters_alike p q t.0) ∙ ap (λ xs. bare_parameter q ∷ xs) (parameters_same ps qs end t.1)

abbrev pub is_empty : {A : Type 0} → List A → Bool
is_empty [] = true
is_empty (x ∷ xs) = false

abbrev pub head_of : {A : Type 0} → A → List A → A
head_of a [] = a
head_of a (x ∷ xs) = x

abbrev pub tail_of : {A : Type 0} → List A → List A
tail_of [] = []
tail_of (x ∷ xs) = xs

pub parameters_nowhere : (ps qs : List Parameter) (end : ℕ) → map bare_parameter ps ≡ map bare_parameter qs → difference_of_parameters ps qs end ≡ None
parameters_nowhere [] [] end e = refl
parameters_nowhere [] (q ∷ qs) end e = absurd (true≢false (ap is_empty e))
parameters_nowhere (p ∷ ps) [] end e = absurd (true≢false (sym (ap is_empty e)))
parameters_nowhere (p ∷ ps) (q ∷ qs) end e =
    rw (parameter_self p q (ap (head_of (bare_parameter p)) e)) (parameters_nowhere ps qs end (ap tail_of e))

abbrev More : List Declared → List Declared → Type 0
More ds ds' = (more : List Declared) × (map bare_declared ds' ≡ map bare_declared ds ++ more)

declarations_same : (ds ds' : List Declared) (after : ℕ) → difference_of_declarations ds ds' after ≡ None → More ds ds'
declarations_same [] ds' after n = (map bare_declared ds', refl)
declarations_same (d ∷ ds) [] after n = absurd (none_some after (sym n))
declarations_same (d ∷ ds) (d' ∷ ds') after n =
    let t = tested (same_declared d d') (difference_of_declarations ds ds' after) (place_of_declared d') n in
    let m = declarations_same ds ds' after t.1 in
    (m.0, ap (λ x. x ∷ map bare_declared ds') (sym (declared_alike d d' t.0)) ∙ ap (λ xs. bare_declared d ∷ xs) m.1)

declarations_nowhere : (ds ds' : List Declared) (after : ℕ) (more : List Declared) → map bare_declared ds' ≡ map bare_declared ds ++ more → difference_of_declarations ds ds' after ≡ None
declarations_nowhere [] ds' after more e = refl
declarations_nowhere (d ∷ ds) [] after more e = absurd (true≢false (ap is_empty e))
declarations_nowhere (d ∷ ds) (d' ∷ ds') after more e =
    rw (declared_by d d' (sym (ap (head_of (bare_declared d')) e))) (declarations_nowhere ds ds' after more (ap tail_of e))

wraps : (p p' : Program) → first_difference p p' ≡ None → Wrap p p'
wraps p p' e =
    let body = difference p.body (spliced (new_in p) p'.body) p'.body_end in
    let declared = difference_of_declarations p.declarations p'.declarations (beginning_of p'.body p'.body_end) in
    let parameters = difference_of_parameters p.parameters p'.parameters p'.parameters_end in
    let a = places (if bytes_eq p.name p'.name then None else Some p'.at) (first_place parameters (first_place declared body)) e in
    let b = places parameters (first_place declared body) a.1 in
    let c = places declared body b.1 in
    let m = declarations_same p.declarations p'.declarations (beginning_of p'.body p'.body_end) c.0 in
    record {
      name = sym (bytes_same p.name p'.name (tested (bytes_eq p.name p'.name) None p'.at a.0).0);
      parameters = sym (parameters_same p.parameters p'.parameters p'.parameters_end b.0);
      more = m.0;
      declarations = m.1;
      body = (wrap_is_computed (new_in p) p.body p'.body).1 (alike p.body (spliced (new_in p) p'.body) p'.body_end c.1 ∙ bare_spliced (new_in p) p'.body);
    }

nowhere_in : (p p' : Program) → Wrap p p' → first_difference p p' ≡ None
nowhere_in p p' w =
    let body = difference p.body (spliced (new_in p) p'.body) p'.body_end in
    let declared = difference_of_declarations p.declarations p'.declarations (beginning_of p'.body p'.body_end) in
    let parameters = difference_of_parameters p.parameters p'.parameters p'.parameters_end in
    let same : bytes_eq p.name p'.name ≡ true = subst (λ x. bytes_eq p.name x ≡ true) (sym w.name) (bytes_self p.name) in
    no_place (if bytes_eq p.name p'.name then None else Some p'.at) (first_place parameters (first_place declared body)) (rw same)
    (no_place parameters (first_place declared body) (parameters_nowhere p.parameters p'.parameters p'.parameters_end (sym w.parameters))
    (no_place declared body (declarations_nowhere p.declarations p'.declarations (beginning_of p'.body p'.body_end) w.more w.declarations)
    (nowhere p.body (spliced (new_in p) p'.body) p'.body_end
    ((wrap_is_computed (new_in p) p.body p'.body).0 w.body ∙ sym (bare_spliced (new_in p) p'.body)))))

pub difference_decides : DifferenceDecides
difference_decides p p' = ((λ e. wraps p p' e), (λ w. nowhere_in p p' w))
