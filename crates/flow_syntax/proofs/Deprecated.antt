-- A program has a `deprecate` only where a text stands behind that name.
use Rattle.std.specs.Prelude.{◌⊎◌, ◌||◌, ◌&&◌, bytes_eq}
use Rattle.std.specs.Cmp.Lexicographic.{bytes_decides}
use Rattle.std.proofs.Common.{◌≡◌, ◌∙◌, ℕ, inl, inr, ⊎_elim, Bool, true, false, List, [], ◌∷◌, ◌++◌, refl, ap, sym, subst}
use Rattle.std.proofs.lemmas.Bool.{true≢false}
use Rattle.flow_base.specs.Syntax.{Bytes, Program}
use Rattle.flow_base.specs.declared.token.Mark.TheVariants as mark
use Rattle.flow_model.specs.Lexeme.{Lexeme}
use Rattle.flow_model.specs.Grammar.{deprecate_name, ElseTail, no_else, else_, CallTail, no_retry, retry, WaitTail, for_ever, for_, SideReading, value, call, wait, BranchesReading, no_branch, branch, StatementReading, let_, assign, sleep, while_, parallel, return_, fail, continue_, deprecate, StatementsReading, no_statement, statement, if_, patch, AfterChoice, otherwise, without, BodyReading, statements, declaration, ProgramReading, workflow}
use Rattle.flow_model.specs.Grammar.{marked, named, worded, numbered, expr_tokens, arguments_tokens, declaration_tokens, parameters_tokens, else_tail_tokens, call_tail_tokens, wait_tail_tokens, side_tokens, branches_tokens, statement_tokens, statements_tokens, choice_tokens, body_tokens, program_tokens, otherwise_of, failing_of, wait_of, side_of, branches_of, statement_of, statements_of, second_of, behind_choice, body_statements, program_of, Reads}
use Rattle.flow_syntax.specs.Parsing.{begins_deprecate}
use Rattle.flow_syntax.specs.Deprecated.{has_deprecate, deprecates, block_deprecates, else_deprecates, branches_deprecate, NoNameNoStatement}

or_of : (a b : Bool) → (a || b) ≡ true → (a ≡ true) ⊎ (b ≡ true)
or_of true b h = inl refl
or_of false b h = inr h

or_left : (a b : Bool) → a ≡ true → (a || b) ≡ true
or_left true b h = refl
or_left false b h = absurd (true≢false (sym h))

or_right : (a b : Bool) → b ≡ true → (a || b) ≡ true
or_right true b h = refl
or_right false b h = h

-- what is behind one token more
later : (t : Lexeme) (ts : List Lexeme) → has_deprecate ts ≡ true → has_deprecate (t ∷ ts) ≡ true
later t ts h = or_right (begins_deprecate (t ∷ ts)) (has_deprecate ts) h

in_right : (a b : List Lexeme) → has_deprecate b ≡ true → has_deprecate (a ++ b) ≡ true
in_right [] b h = h
in_right (t ∷ a) b h = later t (a ++ b) (in_right a b h)

begins_more : (t : Lexeme) (a b : List Lexeme) → begins_deprecate (t ∷ a) ≡ true → begins_deprecate (t ∷ (a ++ b)) ≡ true
begins_more t [] b h = absurd (true≢false (sym h))
begins_more t (u ∷ a) b h = h

in_left : (a b : List Lexeme) → has_deprecate a ≡ true → has_deprecate (a ++ b) ≡ true
in_left [] b h = absurd (true≢false (sym h))
in_left (t ∷ a) b h =
    ⊎_elim (λ (k : begins_deprecate (t ∷ a) ≡ true). or_left (begins_deprecate (t ∷ (a ++ b))) (has_deprecate (a ++ b)) (begins_more t a b k))
    (λ (k : has_deprecate a ≡ true). later t (a ++ b) (in_left a b k)) (or_of (begins_deprecate (t ∷ a)) (has_deprecate a) h)

-- in one of two parts
in_two : (x y : List Lexeme) (a b : Bool) → (a ≡ true → has_deprecate x ≡ true) → (b ≡ true → has_deprecate y ≡ true) → (a || b) ≡ true → has_deprecate (x ++ y) ≡ true
in_two x y a b f g h = ⊎_elim (λ (k : a ≡ true). in_left x y (f k)) (λ (k : b ≡ true). in_right x y (g k)) (or_of a b h)

or_assoc : (a b c : Bool) → ((a || b) || c) ≡ true → (a || (b || c)) ≡ true
or_assoc true b c h = refl
or_assoc false b c h = h

-- the first list of a choice, its second one, and what is behind it
in_three : (x y : List Lexeme) (a b c : Bool) → (a ≡ true → has_deprecate x ≡ true) → ((b || c) ≡ true → has_deprecate y ≡ true) → ((a || b) || c) ≡ true → has_deprecate (x ++ y) ≡ true
in_three x y a b c f g h = in_two x y a (b || c) f g (or_assoc a b c h)

and_is : (a b : Bool) → a ≡ true → b ≡ true → (a && b) ≡ true
and_is true b g h = h
and_is false b g h = absurd (true≢false (sym g))

statement_has : (at id_at : ℕ) (id : Bytes) (end : ℕ) → has_deprecate (named at deprecate_name ∷ (worded id_at id ∷ (marked end mark.Semicolon ∷ []))) ≡ true
statement_has at id_at id end =
    or_left (bytes_eq deprecate_name deprecate_name && true) (has_deprecate (worded id_at id ∷ (marked end mark.Semicolon ∷ [])))
    (and_is (bytes_eq deprecate_name deprecate_name) true ((bytes_decides deprecate_name deprecate_name).1 refl) refl)

mutual
  in_else : (r : ElseTail) → else_deprecates (otherwise_of r) ≡ true → has_deprecate (else_tail_tokens r) ≡ true
  in_else (no_else end) h = absurd (true≢false (sym h))
  in_else (else_ at brace ss end) h =
      let to = marked end mark.Semicolon ∷ [] in
      let list = statements_tokens ss ++ to in
      later (marked at mark.Else) (marked brace mark.BraceOpen ∷ list) (later (marked brace mark.BraceOpen) list (in_left (statements_tokens ss) to (in_statements ss h)))

  in_call : (r : CallTail) → else_deprecates (failing_of r) ≡ true → has_deprecate (call_tail_tokens r) ≡ true
  in_call (no_retry more) h = in_else more h
  in_call (retry at tries_at tries every every_at pause more) h =
      in_right (marked at mark.Retry ∷ (numbered tries_at tries ∷ (marked every mark.Every ∷ (numbered every_at pause ∷ [])))) (else_tail_tokens more) (in_else more h)

  in_wait : (at : ℕ) (x : Bytes) (name_at : ℕ) (n : Bytes) (r : WaitTail) → deprecates (wait_of at x name_at n r) ≡ true → has_deprecate (wait_tail_tokens r) ≡ true
  in_wait at x name_at n (for_ever end) h = absurd (true≢false (sym h))
  in_wait at x name_at n (for_ for_at e else_at brace ss end) h =
      let to = marked end mark.Semicolon ∷ [] in
      let list = statements_tokens ss ++ to in
      let late = marked else_at mark.Else ∷ (marked brace mark.BraceOpen ∷ list) in
      later (marked for_at mark.For) (expr_tokens e ++ late)
      (in_right (expr_tokens e) late (later (marked else_at mark.Else) (marked brace mark.BraceOpen ∷ list) (later (marked brace mark.BraceOpen) list (in_left (statements_tokens ss) to (in_statements ss h)))))

  in_side : (at : ℕ) (x : Bytes) (r : SideReading) → deprecates (side_of at x r) ≡ true → has_deprecate (side_tokens r) ≡ true
  in_side at x (value e end) h = absurd (true≢false (sym h))
  in_side at x (call call_at name_at a paren es more) h =
      in_right (marked call_at mark.Call ∷ (named name_at a ∷ (marked paren mark.Open ∷ []))) (arguments_tokens es ++ call_tail_tokens more)
      (in_right (arguments_tokens es) (call_tail_tokens more) (in_call more h))
  in_side at x (wait wait_at signal_at name_at n more) h =
      in_right (marked wait_at mark.Wait ∷ (marked signal_at mark.Signal ∷ (named name_at n ∷ []))) (wait_tail_tokens more) (in_wait at x name_at n more h)

  in_branches : (r : BranchesReading) → branches_deprecate (branches_of r) ≡ true → has_deprecate (branches_tokens r) ≡ true
  in_branches (no_branch to) h = absurd (true≢false (sym h))
  in_branches (branch at ss more) h =
      later (marked at mark.BraceOpen) (statements_tokens ss ++ branches_tokens more)
      (in_two (statements_tokens ss) (branches_tokens more) (block_deprecates (statements_of ss)) (branches_deprecate (branches_of more)) (λ k. in_statements ss k) (λ k. in_branches more k) h)

  in_statement : (s : StatementReading) → deprecates (statement_of s) ≡ true → has_deprecate (statement_tokens s) ≡ true
  in_statement (let_ at name_at x eq e end) h = absurd (true≢false (sym h))
  in_statement (assign at x eq s) h = in_right (named at x ∷ (marked eq mark.Assign ∷ [])) (side_tokens s) (in_side at x s h)
  in_statement (sleep at e end) h = absurd (true≢false (sym h))
  in_statement (while_ at e brace ss) h =
      let list = marked brace mark.BraceOpen ∷ statements_tokens ss in
      later (marked at mark.While) (expr_tokens e ++ list) (in_right (expr_tokens e) list (later (marked brace mark.BraceOpen) (statements_tokens ss) (in_statements ss h)))
  in_statement (parallel at brace first ss more) h =
      in_right (marked at mark.Parallel ∷ (marked brace mark.BraceOpen ∷ (marked first mark.BraceOpen ∷ []))) (statements_tokens ss ++ branches_tokens more)
      (in_two (statements_tokens ss) (branches_tokens more) (block_deprecates (statements_of ss)) (branches_deprecate (branches_of more)) (λ k. in_statements ss k) (λ k. in_branches more k) h)
  in_statement (return_ at e end) h = absurd (true≢false (sym h))
  in_statement (fail at e end) h = absurd (true≢false (sym h))
  in_statement (continue_ at as_at new_at paren es end) h = absurd (true≢false (sym h))
  in_statement (deprecate at id_at id is end) h = statement_has at id_at id end

  in_statements : (r : StatementsReading) → block_deprecates (statements_of r) ≡ true → has_deprecate (statements_tokens r) ≡ true
  in_statements (no_statement to) h = absurd (true≢false (sym h))
  in_statements (statement s more) h =
      in_two (statement_tokens s) (statements_tokens more) (deprecates (statement_of s)) (block_deprecates (statements_of more)) (λ k. in_statement s k) (λ k. in_statements more k) h
  in_statements (if_ at e brace ss more) h =
      let list = marked brace mark.BraceOpen ∷ (statements_tokens ss ++ choice_tokens more) in
      later (marked at mark.If) (expr_tokens e ++ list) (in_right (expr_tokens e) list (later (marked brace mark.BraceOpen) (statements_tokens ss ++ choice_tokens more)
      (in_three (statements_tokens ss) (choice_tokens more) (block_deprecates (statements_of ss)) (block_deprecates (second_of more)) (block_deprecates (behind_choice more)) (λ k. in_statements ss k) (λ k. in_choice more k) h)))
  in_statements (patch at id_at id is brace ss more) h =
      in_right (marked at mark.Patch ∷ (worded id_at id ∷ (marked brace mark.BraceOpen ∷ []))) (statements_tokens ss ++ choice_tokens more)
      (in_three (statements_tokens ss) (choice_tokens more) (block_deprecates (statements_of ss)) (block_deprecates (second_of more)) (block_deprecates (behind_choice more)) (λ k. in_statements ss k) (λ k. in_choice more k) h)

  in_choice : (r : AfterChoice) → (block_deprecates (second_of r) || block_deprecates (behind_choice r)) ≡ true → has_deprecate (choice_tokens r) ≡ true
  in_choice (otherwise at brace ss more) h =
      in_right (marked at mark.Else ∷ (marked brace mark.BraceOpen ∷ [])) (statements_tokens ss ++ statements_tokens more)
      (in_two (statements_tokens ss) (statements_tokens more) (block_deprecates (statements_of ss)) (block_deprecates (statements_of more)) (λ k. in_statements ss k) (λ k. in_statements more k) h)
  in_choice (without more) h = in_statements more h

in_body : (r : BodyReading) → block_deprecates (statements_of (body_statements r)) ≡ true → has_deprecate (body_tokens r) ≡ true
in_body (statements ss) h = in_statements ss h
in_body (declaration d more) h = in_right (declaration_tokens d) (body_tokens more) (in_body more h)

in_program : (r : ProgramReading) → block_deprecates (program_of r).body ≡ true → has_deprecate (program_tokens r) ≡ true
in_program (workflow at name_at x paren ps brace body) h =
    let rest = marked brace mark.BraceOpen ∷ body_tokens body in
    in_right (marked at mark.Workflow ∷ (named name_at x ∷ (marked paren mark.Open ∷ []))) (parameters_tokens ps ++ rest)
    (in_right (parameters_tokens ps) rest (later (marked brace mark.BraceOpen) (body_tokens body) (in_body body h)))

by_value : (b : Bool) → (b ≡ true → ⊥) → b ≡ false
by_value true h = absurd (h refl)
by_value false h = refl

pub no_name_no_statement : NoNameNoStatement
no_name_no_statement ts p r none =
    by_value (block_deprecates p.body)
    (λ h. true≢false (sym (in_program r.0 (ap (λ (q : Program). block_deprecates q.body) r.2 ∙ h)) ∙ ap has_deprecate r.1 ∙ none))
