-- Places are no part of what is printed.
use Rattle.std.proofs.Common.{◌≡◌, ◌∙◌, List, [], ◌∷◌, ◌++◌, map, refl, ap, sym}
use Rattle.flow_base.specs.Syntax.{Expression, Number, Literal, Variable, Now, Apply, Combine, Statement, Let, Assign, Call, WaitSignal, WaitSignalFor, Sleep, If, While, Parallel, Patch, Deprecate, Return, FailWith, Continue, Block, End, Next, Otherwise, NoElse, Else, Branches, NoBranch, Branch, Declared, Activity, Signal, Program}
use Rattle.flow_base.specs.Bare.{bare_expression, bare_statement, bare_block, bare_otherwise, bare_branches, bare_type, bare_parameter, bare_declared, bare}
use Rattle.flow_base.specs.declared.token.Mark.TheVariants as mark
use Rattle.flow_base.specs.declared.token.Word.{Word}
use Rattle.flow_base.specs.declared.token.Word.TheVariants as word
use Rattle.flow_syntax.specs.Print.{level, unary_words, binary_words, expression_words, listed, arguments_words, end, in_braces, retry_words, statement_words, block_words, else_words, otherwise_words, branches_words, type_words, parameter_words, declared_words, declarations_words, program_words}

same_level : (x : Expression) → level (bare_expression x) ≡ level x
same_level (Number at n) = refl
same_level (Literal at t) = refl
same_level (Variable at x) = refl
same_level (Now at) = refl
same_level (Apply at op a) = refl
same_level (Combine op a b) = refl

expression_same : (x : Expression) → expression_words (bare_expression x) ≡ expression_words x
expression_same (Number at n) = refl
expression_same (Literal at t) = refl
expression_same (Variable at x) = refl
expression_same (Now at) = refl
expression_same (Apply at op a) = ap (λ n. unary_words op n (expression_words (bare_expression a))) (same_level a) ∙ ap (λ v. unary_words op (level a) v) (expression_same a)
expression_same (Combine op a b) =
    ap (λ n. binary_words op n (expression_words (bare_expression a)) (level (bare_expression b)) (expression_words (bare_expression b))) (same_level a)
    ∙ ap (λ v. binary_words op (level a) v (level (bare_expression b)) (expression_words (bare_expression b))) (expression_same a)
    ∙ ap (λ n. binary_words op (level a) (expression_words a) n (expression_words (bare_expression b))) (same_level b)
    ∙ ap (λ v. binary_words op (level a) (expression_words a) (level b) v) (expression_same b)

all_same : {A B : Type 0} (f : A → B) (g : A → A) → ((x : A) → f (g x) ≡ f x) → (xs : List A) → map f (map g xs) ≡ map f xs
all_same f g h [] = refl
all_same f g h (x ∷ xs) = ap (λ v. v ∷ map f (map g xs)) (h x) ∙ ap (λ v. f x ∷ v) (all_same f g h xs)

arguments_same : (es : List Expression) → arguments_words (map bare_expression es) ≡ arguments_words es
arguments_same es = ap listed (all_same expression_words bare_expression expression_same es)

-- what is behind an expression
then_same : (x : Expression) (u v : List Word) → u ≡ v → expression_words (bare_expression x) ++ u ≡ expression_words x ++ v
then_same x u v h = ap (λ w. w ++ u) (expression_same x) ∙ ap (λ w. expression_words x ++ w) h

mutual
  statement_same : (s : Statement) → statement_words (bare_statement s) ≡ statement_words s
  statement_same (Let at name_at x e) = ap (λ v. word.Mark mark.Let ∷ word.Name x ∷ word.Mark mark.Assign ∷ v) (then_same e end end refl)
  statement_same (Assign at x e) = ap (λ v. word.Name x ∷ word.Mark mark.Assign ∷ v) (then_same e end end refl)
  statement_same (Call at x activity_at a es r o) =
      ap (λ v. word.Name x ∷ word.Mark mark.Assign ∷ word.Mark mark.Call ∷ word.Name a ∷ v)
      (ap (λ v. v ++ (retry_words r ++ (otherwise_words (bare_otherwise o) ++ end))) (arguments_same es) ∙ ap (λ v. arguments_words es ++ (retry_words r ++ (v ++ end))) (otherwise_same o))
  statement_same (WaitSignal at x signal_at s) = refl
  statement_same (WaitSignalFor at x signal_at s e b b_end) =
      ap (λ v. word.Name x ∷ word.Mark mark.Assign ∷ word.Mark mark.Wait ∷ word.Mark mark.Signal ∷ word.Name s ∷ word.Mark mark.For ∷ v)
      (then_same e (word.Mark mark.Else ∷ (in_braces (block_words (bare_block b)) ++ end)) (word.Mark mark.Else ∷ (in_braces (block_words b) ++ end)) (ap (λ v. word.Mark mark.Else ∷ (in_braces v ++ end)) (block_same b)))
  statement_same (Sleep at e) = ap (λ v. word.Mark mark.Sleep ∷ v) (then_same e end end refl)
  statement_same (If at e a a_end b b_end) =
      ap (λ v. word.Mark mark.If ∷ v)
      (then_same e (in_braces (block_words (bare_block a)) ++ else_words (bare_block b)) (in_braces (block_words a) ++ else_words b) (ap (λ v. in_braces v ++ else_words (bare_block b)) (block_same a) ∙ ap (λ v. in_braces (block_words a) ++ v) (else_same b)))
  statement_same (While at e b b_end) = ap (λ v. word.Mark mark.While ∷ v) (then_same e (in_braces (block_words (bare_block b))) (in_braces (block_words b)) (ap in_braces (block_same b)))
  statement_same (Parallel at bs _) = ap (λ v. word.Mark mark.Parallel ∷ in_braces v) (branches_same bs)
  statement_same (Patch at id_at id a a_end b b_end) =
      ap (λ v. word.Mark mark.Patch ∷ word.Text id ∷ (in_braces v ++ else_words (bare_block b))) (block_same a) ∙ ap (λ v. word.Mark mark.Patch ∷ word.Text id ∷ (in_braces (block_words a) ++ v)) (else_same b)
  statement_same (Deprecate at id_at id) = refl
  statement_same (Return at e) = ap (λ v. word.Mark mark.Return ∷ v) (then_same e end end refl)
  statement_same (FailWith at e) = ap (λ v. word.Mark mark.Fail ∷ v) (then_same e end end refl)
  statement_same (Continue at es) = ap (λ v. word.Mark mark.Continue ∷ word.Mark mark.As ∷ word.Mark mark.New ∷ (v ++ end)) (arguments_same es)

  block_same : (b : Block) → block_words (bare_block b) ≡ block_words b
  block_same End = refl
  block_same (Next s b) = ap (λ v. v ++ block_words (bare_block b)) (statement_same s) ∙ ap (λ v. statement_words s ++ v) (block_same b)

  else_same : (b : Block) → else_words (bare_block b) ≡ else_words b
  else_same End = refl
  else_same (Next s b) =
      ap (λ v. word.Mark mark.Else ∷ in_braces (v ++ block_words (bare_block b))) (statement_same s) ∙ ap (λ v. word.Mark mark.Else ∷ in_braces (statement_words s ++ v)) (block_same b)

  otherwise_same : (o : Otherwise) → otherwise_words (bare_otherwise o) ≡ otherwise_words o
  otherwise_same NoElse = refl
  otherwise_same (Else b b_end) = ap (λ v. word.Mark mark.Else ∷ in_braces v) (block_same b)

  branches_same : (bs : Branches) → branches_words (bare_branches bs) ≡ branches_words bs
  branches_same NoBranch = refl
  branches_same (Branch at b b_end bs) = ap (λ v. in_braces v ++ branches_words (bare_branches bs)) (block_same b) ∙ ap (λ v. in_braces (block_words b) ++ v) (branches_same bs)

declared_same : (d : Declared) → declared_words (bare_declared d) ≡ declared_words d
declared_same (Activity at name_at a takes gives) =
    ap (λ v. word.Mark mark.Activity ∷ word.Name a ∷ (listed v ++ (word.Mark mark.Arrow ∷ type_words (record { at = at; kind = gives }) ++ end))) (all_same type_words bare_type (λ t. refl) takes)
declared_same (Signal at name_at s carries) = refl

declarations_same : (ds : List Declared) → declarations_words (map bare_declared ds) ≡ declarations_words ds
declarations_same [] = refl
declarations_same (d ∷ ds) = ap (λ v. v ++ declarations_words (map bare_declared ds)) (declared_same d) ∙ ap (λ v. declared_words d ++ v) (declarations_same ds)

bare_same : (p : Program) → program_words (bare p) ≡ program_words p
bare_same p =
    ap (λ v. word.Mark mark.Workflow ∷ word.Name p.name ∷ (listed v ++ in_braces (declarations_words (map bare_declared p.declarations) ++ block_words (bare_block p.body)))) (all_same parameter_words bare_parameter (λ q. refl) p.parameters)
    ∙ ap (λ v. word.Mark mark.Workflow ∷ word.Name p.name ∷ (listed (map parameter_words p.parameters) ++ in_braces (v ++ block_words (bare_block p.body)))) (declarations_same p.declarations)
    ∙ ap (λ v. word.Mark mark.Workflow ∷ word.Name p.name ∷ (listed (map parameter_words p.parameters) ++ in_braces (declarations_words p.declarations ++ v))) (block_same p.body)

-- one program, up to places, prints as one list of words
pub same_words : (p q : Program) → bare q ≡ bare p → program_words q ≡ program_words p
same_words p q h = sym (bare_same q) ∙ ap program_words h ∙ bare_same p
