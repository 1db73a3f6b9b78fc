-- What is printed of a program is read as it, up to places, wherever its tokens stand.
use Rattle.std.proofs.Common.{◌≡◌, ◌∙◌, ℕ, pos, Bool, true, false, List, [], ◌∷◌, ◌++◌, map, IsTrue, refl, ap, sym, append_assoc}
use Rattle.flow_base.specs.Syntax as tree
use Rattle.flow_base.specs.Syntax.{Statement, Block, End, Next, Otherwise, NoElse, Else, Branches, NoBranch, Branch}
use Rattle.flow_base.specs.Bare.{bare_expression, bare_retry, bare_statement, bare_block, bare_otherwise, bare_branches, bare_declared, bare_type, bare_parameter}
use Rattle.flow_base.specs.declared.syntax.Retry.{Retry}
use Rattle.flow_base.specs.declared.syntax.Parameter.{Parameter}
use Rattle.flow_base.specs.declared.syntax.TypeAt.{TypeAt}
use Rattle.flow_base.specs.declared.value.Kind.{Kind}
use Rattle.flow_base.specs.declared.value.Kind.TheVariants as kind
use Rattle.flow_base.specs.declared.token.Word.{Word}
use Rattle.flow_base.specs.declared.token.Word.TheVariants as word
use Rattle.flow_base.specs.declared.token.Mark.TheVariants as mark
use Rattle.flow_model.specs.Lexeme.{Lexeme}
use Rattle.flow_model.specs.Grammar.{is_patch_id, deprecate_name, ExprReading, no_argument, argument, last_argument, next_argument, TypeReading, typed, no_type, type_, last_type, next_type, ParameterReading, parameter, no_parameter, parameter_, last_parameter, next_parameter, DeclarationReading, activity, signal, ElseTail, no_else, else_, CallTail, no_retry, retry, for_ever, for_, value, call, wait, BranchesReading, no_branch, branch, StatementReading, let_, assign, sleep, while_, parallel, return_, fail, continue_, deprecate, StatementsReading, no_statement, statement, if_, patch, AfterChoice, otherwise, without, BodyReading, statements, declaration, ProgramReading, workflow}
use Rattle.flow_model.specs.Grammar.{marked, named, numbered, worded, expr_tokens, expr_of, argument_tail_tokens, arguments_tokens, type_tokens, type_tail_tokens, types_tokens, parameter_tokens, parameter_tail_tokens, parameters_tokens, declaration_tokens, else_tail_tokens, call_tail_tokens, branches_tokens, statement_tokens, statements_tokens, choice_tokens, body_tokens, program_tokens, argument_tail_of, arguments_of, type_of, kind_of, type_tail_of, types_of, parameter_of, parameter_tail_of, parameters_of, declaration_of, retry_of, otherwise_of, failing_of, branches_of, statement_of, statements_of, second_of, behind_choice, body_statements, declarations_of, program_of}
use Rattle.flow_syntax.specs.Print.{words_of, AreReadAs, IsReadable, AreReadable, IsReadableElse, AreReadableBranches, kind_mark, expression_words, behind_commas, between_commas, type_words, parameter_words, in_braces, retry_words, statement_words, block_words, else_words, otherwise_words, branches_words, declared_words, declarations_words, program_words}
use Rattle.flow_syntax.proofs.PrintedExpressions.{first, only, split, expression_read}
use Rattle.flow_syntax.proofs.Printing.{is_once, retry_or_none, once_means}

-- the tokens have a reading that stands for these items, up to places
abbrev Listed : {R A B : Type 0} → (R → List Lexeme) → (R → List A) → (A → B) → List Lexeme → List A → Type 0
Listed {R} tokens of bare_item ts xs = (r : R) × (tokens r ≡ ts) × (map bare_item (of r) ≡ map bare_item xs)

-- an item, and what is behind it
joined : (ts x y left right : List Lexeme) → left ≡ x → right ≡ y → ts ≡ x ++ y → left ++ right ≡ ts
joined ts x y left right e f h = ap (λ v. v ++ right) e ∙ ap (λ v. x ++ v) f ∙ sym h

---- Arguments

abbrev arguments_words : List tree.Expression → List (List Word)
arguments_words es = map expression_words es

argument_tail_read : (es : List tree.Expression) (ts : List Lexeme) → words_of ts ≡ behind_commas (arguments_words es) ++ (word.Mark mark.Close ∷ []) → Listed argument_tail_tokens argument_tail_of bare_expression ts es
argument_tail_read [] ts h = let c = only (word.Mark mark.Close) ts h in (last_argument c.0, sym c.1, refl)
argument_tail_read (e ∷ es) ts h =
    let o = first (word.Mark mark.Comma) ((expression_words e ++ behind_commas (arguments_words es)) ++ (word.Mark mark.Close ∷ [])) ts h in
    let s = split (expression_words e) (behind_commas (arguments_words es) ++ (word.Mark mark.Close ∷ [])) o.1 (o.3 ∙ append_assoc (expression_words e) (behind_commas (arguments_words es)) (word.Mark mark.Close ∷ [])) in
    let here = expression_read e s.0 s.3 in
    let behind = argument_tail_read es s.1 s.4 in (
      next_argument o.0 here.0 behind.0,
      ap (λ v. marked o.0 mark.Comma ∷ v) (joined o.1 s.0 s.1 (expr_tokens here.0) (argument_tail_tokens behind.0) here.1 behind.1 s.2) ∙ sym o.2,
      ap (λ v. v ∷ map bare_expression (argument_tail_of behind.0)) here.2 ∙ ap (λ v. bare_expression e ∷ v) behind.2,
    )

arguments_read : (es : List tree.Expression) (ts : List Lexeme) → words_of ts ≡ between_commas (arguments_words es) ++ (word.Mark mark.Close ∷ []) → Listed arguments_tokens arguments_of bare_expression ts es
arguments_read [] ts h = let c = only (word.Mark mark.Close) ts h in (no_argument c.0, sym c.1, refl)
arguments_read (e ∷ es) ts h =
    let s = split (expression_words e) (behind_commas (arguments_words es) ++ (word.Mark mark.Close ∷ [])) ts (h ∙ append_assoc (expression_words e) (behind_commas (arguments_words es)) (word.Mark mark.Close ∷ [])) in
    let here = expression_read e s.0 s.3 in
    let behind = argument_tail_read es s.1 s.4 in (
      argument here.0 behind.0,
      joined ts s.0 s.1 (expr_tokens here.0) (argument_tail_tokens behind.0) here.1 behind.1 s.2,
      ap (λ v. v ∷ map bare_expression (argument_tail_of behind.0)) here.2 ∙ ap (λ v. bare_expression e ∷ v) behind.2,
    )

---- Types

abbrev IsType : List Lexeme → Kind → Type 0
IsType ts k = (r : TypeReading) × (type_tokens r ≡ ts) × (kind_of r ≡ k) × (bare_type (type_of r) ≡ bare_type (record { at = 0; kind = k }))

type_read : (k : Kind) (ts : List Lexeme) → words_of ts ≡ word.Mark (kind_mark k) ∷ [] → IsType ts k
type_read kind.Int ts h = let t = only (word.Mark mark.Int) ts h in (typed t.0 kind.Int, sym t.1, refl, refl)
type_read kind.Text ts h = let t = only (word.Mark mark.Text) ts h in (typed t.0 kind.Text, sym t.1, refl, refl)

type_tail_read : (us : List TypeAt) (ts : List Lexeme) → words_of ts ≡ behind_commas (map type_words us) ++ (word.Mark mark.Close ∷ []) → Listed type_tail_tokens type_tail_of bare_type ts us
type_tail_read [] ts h = let c = only (word.Mark mark.Close) ts h in (last_type c.0, sym c.1, refl)
type_tail_read (u ∷ us) ts h =
    let o = first (word.Mark mark.Comma) (word.Mark (kind_mark u.kind) ∷ (behind_commas (map type_words us) ++ (word.Mark mark.Close ∷ []))) ts h in
    let s = split (type_words u) (behind_commas (map type_words us) ++ (word.Mark mark.Close ∷ [])) o.1 o.3 in
    let here = type_read u.kind s.0 s.3 in
    let behind = type_tail_read us s.1 s.4 in (
      next_type o.0 here.0 behind.0,
      ap (λ v. marked o.0 mark.Comma ∷ v) (joined o.1 s.0 s.1 (type_tokens here.0) (type_tail_tokens behind.0) here.1 behind.1 s.2) ∙ sym o.2,
      ap (λ v. v ∷ map bare_type (type_tail_of behind.0)) here.3 ∙ ap (λ v. bare_type u ∷ v) behind.2,
    )

types_read : (us : List TypeAt) (ts : List Lexeme) → words_of ts ≡ between_commas (map type_words us) ++ (word.Mark mark.Close ∷ []) → Listed types_tokens types_of bare_type ts us
types_read [] ts h = let c = only (word.Mark mark.Close) ts h in (no_type c.0, sym c.1, refl)
types_read (u ∷ us) ts h =
    let s = split (type_words u) (behind_commas (map type_words us) ++ (word.Mark mark.Close ∷ [])) ts h in
    let here = type_read u.kind s.0 s.3 in
    let behind = type_tail_read us s.1 s.4 in (
      type_ here.0 behind.0,
      joined ts s.0 s.1 (type_tokens here.0) (type_tail_tokens behind.0) here.1 behind.1 s.2,
      ap (λ v. v ∷ map bare_type (type_tail_of behind.0)) here.3 ∙ ap (λ v. bare_type u ∷ v) behind.2,
    )

---- Parameters

abbrev IsParameter : List Lexeme → Parameter → Type 0
IsParameter ts p = (r : ParameterReading) × (parameter_tokens r ≡ ts) × (bare_parameter (parameter_of r) ≡ bare_parameter p)

parameter_read : (p : Parameter) (ts : List Lexeme) → words_of ts ≡ parameter_words p → IsParameter ts p
parameter_read p ts h =
    let n = first (word.Name p.name) (word.Mark mark.Colon ∷ word.Mark (kind_mark p.kind) ∷ []) ts h in
    let c = first (word.Mark mark.Colon) (word.Mark (kind_mark p.kind) ∷ []) n.1 n.3 in
    let t = type_read p.kind c.1 c.3 in (
      parameter n.0 p.name c.0 t.0,
      ap (λ v. named n.0 p.name ∷ marked c.0 mark.Colon ∷ v) t.1 ∙ ap (λ v. named n.0 p.name ∷ v) (sym c.2) ∙ sym n.2,
      ap (λ (k : Kind). let q : Parameter = record { at = 0; name = p.name; kind = k } in q) t.2,
    )

parameter_tail_read : (ps : List Parameter) (ts : List Lexeme) → words_of ts ≡ behind_commas (map parameter_words ps) ++ (word.Mark mark.Close ∷ []) → Listed parameter_tail_tokens parameter_tail_of bare_parameter ts ps
parameter_tail_read [] ts h = let c = only (word.Mark mark.Close) ts h in (last_parameter c.0, sym c.1, refl)
parameter_tail_read (p ∷ ps) ts h =
    let o = first (word.Mark mark.Comma) (parameter_words p ++ (behind_commas (map parameter_words ps) ++ (word.Mark mark.Close ∷ []))) ts h in
    let s = split (parameter_words p) (behind_commas (map parameter_words ps) ++ (word.Mark mark.Close ∷ [])) o.1 o.3 in
    let here = parameter_read p s.0 s.3 in
    let behind = parameter_tail_read ps s.1 s.4 in (
      next_parameter o.0 here.0 behind.0,
      ap (λ v. marked o.0 mark.Comma ∷ v) (joined o.1 s.0 s.1 (parameter_tokens here.0) (parameter_tail_tokens behind.0) here.1 behind.1 s.2) ∙ sym o.2,
      ap (λ v. v ∷ map bare_parameter (parameter_tail_of behind.0)) here.2 ∙ ap (λ v. bare_parameter p ∷ v) behind.2,
    )

parameters_read : (ps : List Parameter) (ts : List Lexeme) → words_of ts ≡ between_commas (map parameter_words ps) ++ (word.Mark mark.Close ∷ []) → Listed parameters_tokens parameters_of bare_parameter ts ps
parameters_read [] ts h = let c = only (word.Mark mark.Close) ts h in (no_parameter c.0, sym c.1, refl)
parameters_read (p ∷ ps) ts h =
    let s = split (parameter_words p) (behind_commas (map parameter_words ps) ++ (word.Mark mark.Close ∷ [])) ts h in
    let here = parameter_read p s.0 s.3 in
    let behind = parameter_tail_read ps s.1 s.4 in (
      parameter_ here.0 behind.0,
      joined ts s.0 s.1 (parameter_tokens here.0) (parameter_tail_tokens behind.0) here.1 behind.1 s.2,
      ap (λ v. v ∷ map bare_parameter (parameter_tail_of behind.0)) here.2 ∙ ap (λ v. bare_parameter p ∷ v) behind.2,
    )

---- Statements

abbrev IsStatement : List Lexeme → Statement → Type 0
IsStatement ts x = (r : StatementReading) × (statement_tokens r ≡ ts) × (bare_statement (statement_of r) ≡ bare_statement x)

-- statements up to the brace behind them
abbrev AreStatements : List Lexeme → Block → Type 0
AreStatements ts b = (r : StatementsReading) × (statements_tokens r ≡ ts) × (bare_block (statements_of r) ≡ bare_block b)

abbrev end : List Word
end = word.Mark mark.Semicolon ∷ []

abbrev close : List Word
close = word.Mark mark.BraceClose ∷ []

-- what is printed of a statement is read as it
abbrev StatementReader : Statement → Type 0
StatementReader s = (ts : List Lexeme) → words_of ts ≡ statement_words s → IsStatement ts s

-- what is printed of a list is read as it
abbrev Reader : Block → Type 0
Reader b = (ts : List Lexeme) → words_of ts ≡ block_words b ++ close → AreStatements ts b

-- an expression and the semicolon behind it
abbrev IsEnded : List Lexeme → tree.Expression → Type 0
IsEnded ts x = (r : ExprReading) × (end : ℕ) × (expr_tokens r ++ (marked end mark.Semicolon ∷ []) ≡ ts) × (bare_expression (expr_of r) ≡ bare_expression x)

ended_read : (e : tree.Expression) (ts : List Lexeme) → words_of ts ≡ expression_words e ++ end → IsEnded ts e
ended_read e ts h =
    let s = split (expression_words e) end ts h in
    let here = expression_read e s.0 s.3 in
    let c = only (word.Mark mark.Semicolon) s.1 s.4 in
    (here.0, c.0, joined ts s.0 s.1 (expr_tokens here.0) (marked c.0 mark.Semicolon ∷ []) here.1 (sym c.1) s.2, here.2)

let_read : (at name_at : ℕ) (x : tree.Bytes) (e : tree.Expression) → StatementReader (tree.Let at name_at x e)
let_read at name_at x e ts h =
    let o = first (word.Mark mark.Let) (word.Name x ∷ word.Mark mark.Assign ∷ (expression_words e ++ end)) ts h in
    let n = first (word.Name x) (word.Mark mark.Assign ∷ (expression_words e ++ end)) o.1 o.3 in
    let a = first (word.Mark mark.Assign) (expression_words e ++ end) n.1 n.3 in
    let v = ended_read e a.1 a.3 in (
      let_ o.0 n.0 x a.0 v.0 v.1,
      ap (λ w. marked o.0 mark.Let ∷ named n.0 x ∷ marked a.0 mark.Assign ∷ w) v.2 ∙ ap (λ w. marked o.0 mark.Let ∷ named n.0 x ∷ w) (sym a.2) ∙ ap (λ w. marked o.0 mark.Let ∷ w) (sym n.2) ∙ sym o.2,
      ap (λ w. tree.Let 0 0 x w) v.3,
    )

assign_read : (at : ℕ) (x : tree.Bytes) (e : tree.Expression) → StatementReader (tree.Assign at x e)
assign_read at x e ts h =
    let n = first (word.Name x) (word.Mark mark.Assign ∷ (expression_words e ++ end)) ts h in
    let a = first (word.Mark mark.Assign) (expression_words e ++ end) n.1 n.3 in
    let v = ended_read e a.1 a.3 in (
      assign n.0 x a.0 (value v.0 v.1),
      ap (λ w. named n.0 x ∷ marked a.0 mark.Assign ∷ w) v.2 ∙ ap (λ w. named n.0 x ∷ w) (sym a.2) ∙ sym n.2,
      ap (λ w. tree.Assign 0 x w) v.3,
    )

return_read : (at : ℕ) (e : tree.Expression) → StatementReader (tree.Return at e)
return_read at e ts h =
    let o = first (word.Mark mark.Return) (expression_words e ++ end) ts h in
    let v = ended_read e o.1 o.3 in
    (return_ o.0 v.0 v.1, ap (λ w. marked o.0 mark.Return ∷ w) v.2 ∙ sym o.2, ap (λ w. tree.Return 0 w) v.3)

sleep_read : (at : ℕ) (e : tree.Expression) → StatementReader (tree.Sleep at e)
sleep_read at e ts h =
    let o = first (word.Mark mark.Sleep) (expression_words e ++ end) ts h in
    let v = ended_read e o.1 o.3 in
    (sleep o.0 v.0 v.1, ap (λ w. marked o.0 mark.Sleep ∷ w) v.2 ∙ sym o.2, ap (λ w. tree.Sleep 0 w) v.3)

fail_read : (at : ℕ) (e : tree.Expression) → StatementReader (tree.FailWith at e)
fail_read at e ts h =
    let o = first (word.Mark mark.Fail) (expression_words e ++ end) ts h in
    let v = ended_read e o.1 o.3 in
    (fail o.0 v.0 v.1, ap (λ w. marked o.0 mark.Fail ∷ w) v.2 ∙ sym o.2, ap (λ w. tree.FailWith 0 w) v.3)

continue_read : (at : ℕ) (es : List tree.Expression) → StatementReader (tree.Continue at es)
continue_read at es ts h =
    let list : List Word = between_commas (arguments_words es) ++ (word.Mark mark.Close ∷ []) in
    let k = first (word.Mark mark.Continue) (word.Mark mark.As ∷ word.Mark mark.New ∷ word.Mark mark.Open ∷ (list ++ end)) ts h in
    let a = first (word.Mark mark.As) (word.Mark mark.New ∷ word.Mark mark.Open ∷ (list ++ end)) k.1 k.3 in
    let n = first (word.Mark mark.New) (word.Mark mark.Open ∷ (list ++ end)) a.1 a.3 in
    let o = first (word.Mark mark.Open) (list ++ end) n.1 n.3 in
    let s = split list end o.1 o.3 in
    let r = arguments_read es s.0 s.3 in
    let z = only (word.Mark mark.Semicolon) s.1 s.4 in (
      continue_ k.0 a.0 n.0 o.0 r.0 z.0,
      ap (λ w. marked k.0 mark.Continue ∷ marked a.0 mark.As ∷ marked n.0 mark.New ∷ marked o.0 mark.Open ∷ w) (joined o.1 s.0 s.1 (arguments_tokens r.0) (marked z.0 mark.Semicolon ∷ []) r.1 (sym z.1) s.2)
          ∙ ap (λ w. marked k.0 mark.Continue ∷ marked a.0 mark.As ∷ marked n.0 mark.New ∷ w) (sym o.2)
          ∙ ap (λ w. marked k.0 mark.Continue ∷ marked a.0 mark.As ∷ w) (sym n.2)
          ∙ ap (λ w. marked k.0 mark.Continue ∷ w) (sym a.2)
          ∙ sym k.2,
      ap (λ w. tree.Continue 0 w) r.2,
    )

deprecate_read : (at id_at : ℕ) (id : tree.Bytes) → IsTrue (is_patch_id id) → StatementReader (tree.Deprecate at id_at id)
deprecate_read at id_at id fits ts h =
    let n = first (word.Name deprecate_name) (word.Text id ∷ end) ts h in
    let i = first (word.Text id) end n.1 n.3 in
    let z = only (word.Mark mark.Semicolon) i.1 i.3 in (
      deprecate n.0 i.0 id fits z.0,
      ap (λ w. named n.0 deprecate_name ∷ worded i.0 id ∷ w) (sym z.1) ∙ ap (λ w. named n.0 deprecate_name ∷ w) (sym i.2) ∙ sym n.2,
      refl,
    )

---- Waits

wait_read : (at : ℕ) (x : tree.Bytes) (signal_at : ℕ) (b : tree.Bytes) → StatementReader (tree.WaitSignal at x signal_at b)
wait_read at x signal_at b ts h =
    let n = first (word.Name x) (word.Mark mark.Assign ∷ word.Mark mark.Wait ∷ word.Mark mark.Signal ∷ word.Name b ∷ end) ts h in
    let a = first (word.Mark mark.Assign) (word.Mark mark.Wait ∷ word.Mark mark.Signal ∷ word.Name b ∷ end) n.1 n.3 in
    let w = first (word.Mark mark.Wait) (word.Mark mark.Signal ∷ word.Name b ∷ end) a.1 a.3 in
    let g = first (word.Mark mark.Signal) (word.Name b ∷ end) w.1 w.3 in
    let m = first (word.Name b) end g.1 g.3 in
    let z = only (word.Mark mark.Semicolon) m.1 m.3 in (
      assign n.0 x a.0 (wait w.0 g.0 m.0 b (for_ever z.0)),
      ap (λ v. named n.0 x ∷ marked a.0 mark.Assign ∷ marked w.0 mark.Wait ∷ marked g.0 mark.Signal ∷ named m.0 b ∷ v) (sym z.1)
          ∙ ap (λ v. named n.0 x ∷ marked a.0 mark.Assign ∷ marked w.0 mark.Wait ∷ marked g.0 mark.Signal ∷ v) (sym m.2)
          ∙ ap (λ v. named n.0 x ∷ marked a.0 mark.Assign ∷ marked w.0 mark.Wait ∷ v) (sym g.2)
          ∙ ap (λ v. named n.0 x ∷ marked a.0 mark.Assign ∷ v) (sym w.2)
          ∙ ap (λ v. named n.0 x ∷ v) (sym a.2)
          ∙ sym n.2,
      refl,
    )

-- the list behind an `else`, and the semicolon behind it
abbrev IsElseList : List Lexeme → Block → Type 0
IsElseList ts b =
    (at : ℕ) × (brace : ℕ) × (r : StatementsReading) × (end : ℕ) × (marked at mark.Else ∷ marked brace mark.BraceOpen ∷ (statements_tokens r ++ (marked end mark.Semicolon ∷ [])) ≡ ts) × (bare_block (statements_of r) ≡ bare_block b)

else_list_read : (b : Block) → Reader b → (ts : List Lexeme) → words_of ts ≡ word.Mark mark.Else ∷ (in_braces (block_words b) ++ end) → IsElseList ts b
else_list_read b read ts h =
    let list : List Word = block_words b ++ close in
    let o = first (word.Mark mark.Else) (word.Mark mark.BraceOpen ∷ (list ++ end)) ts h in
    let g = first (word.Mark mark.BraceOpen) (list ++ end) o.1 o.3 in
    let p = split list end g.1 g.3 in
    let r = read p.0 p.3 in
    let z = only (word.Mark mark.Semicolon) p.1 p.4 in (
      o.0,
      g.0,
      r.0,
      z.0,
      ap (λ v. marked o.0 mark.Else ∷ marked g.0 mark.BraceOpen ∷ v) (joined g.1 p.0 p.1 (statements_tokens r.0) (marked z.0 mark.Semicolon ∷ []) r.1 (sym z.1) p.2) ∙ ap (λ v. marked o.0 mark.Else ∷ v) (sym g.2) ∙ sym o.2,
      r.2,
    )

wait_for_read : (at : ℕ) (x : tree.Bytes) (signal_at : ℕ) (b : tree.Bytes) (e : tree.Expression) (late : Block) (late_end : ℕ) → Reader late → StatementReader (tree.WaitSignalFor at x signal_at b e late late_end)
wait_for_read at x signal_at b e late late_end read ts h =
    let list : List Word = word.Mark mark.Else ∷ (in_braces (block_words late) ++ end) in
    let limit : List Word = word.Mark mark.For ∷ (expression_words e ++ list) in
    let n = first (word.Name x) (word.Mark mark.Assign ∷ word.Mark mark.Wait ∷ word.Mark mark.Signal ∷ word.Name b ∷ limit) ts h in
    let a = first (word.Mark mark.Assign) (word.Mark mark.Wait ∷ word.Mark mark.Signal ∷ word.Name b ∷ limit) n.1 n.3 in
    let w = first (word.Mark mark.Wait) (word.Mark mark.Signal ∷ word.Name b ∷ limit) a.1 a.3 in
    let g = first (word.Mark mark.Signal) (word.Name b ∷ limit) w.1 w.3 in
    let m = first (word.Name b) limit g.1 g.3 in
    let f = first (word.Mark mark.For) (expression_words e ++ list) m.1 m.3 in
    let s = split (expression_words e) list f.1 f.3 in
    let v = expression_read e s.0 s.3 in
    let l = else_list_read late read s.1 s.4 in
    let ending : List Lexeme = marked l.0 mark.Else ∷ marked l.1 mark.BraceOpen ∷ (statements_tokens l.2 ++ (marked l.3 mark.Semicolon ∷ [])) in (
      assign n.0 x a.0 (wait w.0 g.0 m.0 b (for_ f.0 v.0 l.0 l.1 l.2 l.3)),
      ap (λ t. named n.0 x ∷ marked a.0 mark.Assign ∷ marked w.0 mark.Wait ∷ marked g.0 mark.Signal ∷ named m.0 b ∷ marked f.0 mark.For ∷ t) (joined f.1 s.0 s.1 (expr_tokens v.0) ending v.1 l.4 s.2)
          ∙ ap (λ t. named n.0 x ∷ marked a.0 mark.Assign ∷ marked w.0 mark.Wait ∷ marked g.0 mark.Signal ∷ named m.0 b ∷ t) (sym f.2)
          ∙ ap (λ t. named n.0 x ∷ marked a.0 mark.Assign ∷ marked w.0 mark.Wait ∷ marked g.0 mark.Signal ∷ t) (sym m.2)
          ∙ ap (λ t. named n.0 x ∷ marked a.0 mark.Assign ∷ marked w.0 mark.Wait ∷ t) (sym g.2)
          ∙ ap (λ t. named n.0 x ∷ marked a.0 mark.Assign ∷ t) (sym w.2)
          ∙ ap (λ t. named n.0 x ∷ t) (sym a.2)
          ∙ sym n.2,
      ap (λ t. tree.WaitSignalFor 0 x 0 b t (bare_block (statements_of l.2)) 0) v.2 ∙ ap (λ t. tree.WaitSignalFor 0 x 0 b (bare_expression e) t 0) l.5,
    )

---- Calls

-- what is behind a call and how often it is tried
abbrev IsElseTail : List Lexeme → Otherwise → Type 0
IsElseTail ts o = (m : ElseTail) × (else_tail_tokens m ≡ ts) × (bare_otherwise (otherwise_of m) ≡ bare_otherwise o)

abbrev ElseReader : Otherwise → Type 0
ElseReader o = (ts : List Lexeme) → words_of ts ≡ otherwise_words o ++ end → IsElseTail ts o

no_else_read : ElseReader NoElse
no_else_read ts h = let z = only (word.Mark mark.Semicolon) ts h in (no_else z.0, sym z.1, refl)

else_read : (b : Block) (b_end : ℕ) → Reader b → ElseReader (Else b b_end)
else_read b b_end read ts h = let l = else_list_read b read ts h in (else_ l.0 l.1 l.2 l.3, l.4, ap (λ v. Else v 0) l.5)

-- what is behind the arguments of a call
abbrev IsCallTail : List Lexeme → Retry → Otherwise → Type 0
IsCallTail ts r o = (m : CallTail) × (call_tail_tokens m ≡ ts) × (bare_retry (retry_of m) ≡ bare_retry r) × (bare_otherwise (failing_of m) ≡ bare_otherwise o)

-- how often, at no place
abbrev often : ℕ → ℕ → Retry
often tries every = record { tries_at = 0; tries = tries; every_at = 0; every = every }

tail_read : (once : Bool) (r : Retry) (o : Otherwise) → ElseReader o → (ts : List Lexeme) → is_once r ≡ once → words_of ts ≡ retry_or_none once r ++ (otherwise_words o ++ end) → IsCallTail ts r o
tail_read true r failing read ts e h =
    let m = read ts h in
    let o = once_means r e in
    (no_retry m.0, m.1, sym (ap (λ n. often n r.every) o.0 ∙ ap (often 1) o.1), m.2)
tail_read false r failing read ts e h =
    let more : List Word = otherwise_words failing ++ end in
    let o = first (word.Mark mark.Retry) (word.Int (pos r.tries) ∷ word.Mark mark.Every ∷ word.Int (pos r.every) ∷ more) ts h in
    let n = first (word.Int (pos r.tries)) (word.Mark mark.Every ∷ word.Int (pos r.every) ∷ more) o.1 o.3 in
    let v = first (word.Mark mark.Every) (word.Int (pos r.every) ∷ more) n.1 n.3 in
    let m = first (word.Int (pos r.every)) more v.1 v.3 in
    let z = read m.1 m.3 in (
      retry o.0 n.0 (pos r.tries) v.0 m.0 (pos r.every) z.0,
      ap (λ w. marked o.0 mark.Retry ∷ numbered n.0 (pos r.tries) ∷ marked v.0 mark.Every ∷ numbered m.0 (pos r.every) ∷ w) z.1
          ∙ ap (λ w. marked o.0 mark.Retry ∷ numbered n.0 (pos r.tries) ∷ marked v.0 mark.Every ∷ w) (sym m.2)
          ∙ ap (λ w. marked o.0 mark.Retry ∷ numbered n.0 (pos r.tries) ∷ w) (sym v.2)
          ∙ ap (λ w. marked o.0 mark.Retry ∷ w) (sym n.2)
          ∙ sym o.2,
      refl,
      z.2,
    )

call_tail_read : (r : Retry) (o : Otherwise) → ElseReader o → (ts : List Lexeme) → words_of ts ≡ retry_words r ++ (otherwise_words o ++ end) → IsCallTail ts r o
call_tail_read r o read ts h = tail_read (is_once r) r o read ts refl h

call_read : (at : ℕ) (x : tree.Bytes) (activity_at : ℕ) (b : tree.Bytes) (es : List tree.Expression) (r : Retry) (failing : Otherwise) → ElseReader failing → StatementReader (tree.Call at x activity_at b es r failing)
call_read at x activity_at b es r failing read ts h =
    let list : List Word = between_commas (arguments_words es) ++ (word.Mark mark.Close ∷ []) in
    let tail : List Word = retry_words r ++ (otherwise_words failing ++ end) in
    let n = first (word.Name x) (word.Mark mark.Assign ∷ word.Mark mark.Call ∷ word.Name b ∷ word.Mark mark.Open ∷ (list ++ tail)) ts h in
    let a = first (word.Mark mark.Assign) (word.Mark mark.Call ∷ word.Name b ∷ word.Mark mark.Open ∷ (list ++ tail)) n.1 n.3 in
    let c = first (word.Mark mark.Call) (word.Name b ∷ word.Mark mark.Open ∷ (list ++ tail)) a.1 a.3 in
    let m = first (word.Name b) (word.Mark mark.Open ∷ (list ++ tail)) c.1 c.3 in
    let o = first (word.Mark mark.Open) (list ++ tail) m.1 m.3 in
    let s = split list tail o.1 o.3 in
    let given = arguments_read es s.0 s.3 in
    let more = call_tail_read r failing read s.1 s.4 in (
      assign n.0 x a.0 (call c.0 m.0 b o.0 given.0 more.0),
      ap (λ w. named n.0 x ∷ marked a.0 mark.Assign ∷ marked c.0 mark.Call ∷ named m.0 b ∷ marked o.0 mark.Open ∷ w) (joined o.1 s.0 s.1 (arguments_tokens given.0) (call_tail_tokens more.0) given.1 more.1 s.2)
          ∙ ap (λ w. named n.0 x ∷ marked a.0 mark.Assign ∷ marked c.0 mark.Call ∷ named m.0 b ∷ w) (sym o.2)
          ∙ ap (λ w. named n.0 x ∷ marked a.0 mark.Assign ∷ marked c.0 mark.Call ∷ w) (sym m.2)
          ∙ ap (λ w. named n.0 x ∷ marked a.0 mark.Assign ∷ w) (sym c.2)
          ∙ ap (λ w. named n.0 x ∷ w) (sym a.2)
          ∙ sym n.2,
      ap (λ w. tree.Call 0 x 0 b w (bare_retry (retry_of more.0)) (bare_otherwise (failing_of more.0))) given.2
          ∙ ap (λ w. tree.Call 0 x 0 b (map bare_expression es) w (bare_otherwise (failing_of more.0))) more.2
          ∙ ap (λ w. tree.Call 0 x 0 b (map bare_expression es) (bare_retry r) w) more.3,
    )

---- Loops and branches

while_read : (at : ℕ) (e : tree.Expression) (b : Block) (b_end : ℕ) → Reader b → StatementReader (tree.While at e b b_end)
while_read at e b b_end read ts h =
    let o = first (word.Mark mark.While) (expression_words e ++ in_braces (block_words b)) ts h in
    let s = split (expression_words e) (in_braces (block_words b)) o.1 o.3 in
    let v = expression_read e s.0 s.3 in
    let g = first (word.Mark mark.BraceOpen) (block_words b ++ close) s.1 s.4 in
    let r = read g.1 g.3 in (
      while_ o.0 v.0 g.0 r.0,
      ap (λ w. marked o.0 mark.While ∷ w) (joined o.1 s.0 s.1 (expr_tokens v.0) (marked g.0 mark.BraceOpen ∷ statements_tokens r.0) v.1 (ap (λ w. marked g.0 mark.BraceOpen ∷ w) r.1 ∙ sym g.2) s.2) ∙ sym o.2,
      ap (λ w. tree.While 0 w (bare_block (statements_of r.0)) 0) v.2 ∙ ap (λ w. tree.While 0 (bare_expression e) w 0) r.2,
    )

abbrev AreBranches : List Lexeme → Branches → Type 0
AreBranches ts bs = (r : BranchesReading) × (branches_tokens r ≡ ts) × (bare_branches (branches_of r) ≡ bare_branches bs)

abbrev BranchesReader : Branches → Type 0
BranchesReader bs = (ts : List Lexeme) → words_of ts ≡ branches_words bs ++ close → AreBranches ts bs

-- a branch, and the branches behind it
abbrev IsBranch : List Lexeme → Block → Branches → Type 0
IsBranch ts b bs =
    (at : ℕ) × (r : StatementsReading) × (more : BranchesReading) × (marked at mark.BraceOpen ∷ (statements_tokens r ++ branches_tokens more) ≡ ts) × (bare_block (statements_of r) ≡ bare_block b) × (bare_branches (branches_of more) ≡ bare_branches bs)

branch_read : (b : Block) (bs : Branches) → Reader b → BranchesReader bs → (ts : List Lexeme) → words_of ts ≡ (in_braces (block_words b) ++ branches_words bs) ++ close → IsBranch ts b bs
branch_read b bs read behind ts h =
    let list : List Word = block_words b ++ close in
    let g = first (word.Mark mark.BraceOpen) ((list ++ branches_words bs) ++ close) ts h in
    let p = split list (branches_words bs ++ close) g.1 (g.3 ∙ append_assoc list (branches_words bs) close) in
    let r = read p.0 p.3 in
    let m = behind p.1 p.4 in
    (g.0, r.0, m.0, ap (λ v. marked g.0 mark.BraceOpen ∷ v) (joined g.1 p.0 p.1 (statements_tokens r.0) (branches_tokens m.0) r.1 m.1 p.2) ∙ sym g.2, r.2, m.2)

branches_bare : (b c : Block) (bs cs : Branches) → bare_block b ≡ bare_block c → bare_branches bs ≡ bare_branches cs → Branch 0 (bare_block b) 0 (bare_branches bs) ≡ Branch 0 (bare_block c) 0 (bare_branches cs)
branches_bare b c bs cs e f = ap (λ v. Branch 0 v 0 (bare_branches bs)) e ∙ ap (λ v. Branch 0 (bare_block c) 0 v) f

no_branch_read : BranchesReader NoBranch
no_branch_read ts h = let z = only (word.Mark mark.BraceClose) ts h in (no_branch z.0, sym z.1, refl)

branches_read : (at : ℕ) (b : Block) (b_end : ℕ) (bs : Branches) → Reader b → BranchesReader bs → BranchesReader (Branch at b b_end bs)
branches_read at b b_end bs read behind ts h =
    let l = branch_read b bs read behind ts h in
    (branch l.0 l.1 l.2, l.3, branches_bare (statements_of l.1) b (branches_of l.2) bs l.4 l.5)

parallel_read : (at from : ℕ) (b : Block) (b_end : ℕ) (bs : Branches) (bs_end : ℕ) → Reader b → BranchesReader bs → StatementReader (tree.Parallel at (Branch from b b_end bs) bs_end)
parallel_read at from b b_end bs bs_end read behind ts h =
    let inside : List Word = (in_braces (block_words b) ++ branches_words bs) ++ close in
    let o = first (word.Mark mark.Parallel) (word.Mark mark.BraceOpen ∷ inside) ts h in
    let g = first (word.Mark mark.BraceOpen) inside o.1 o.3 in
    let l = branch_read b bs read behind g.1 g.3 in (
      parallel o.0 g.0 l.0 l.1 l.2,
      ap (λ v. marked o.0 mark.Parallel ∷ marked g.0 mark.BraceOpen ∷ v) l.3 ∙ ap (λ v. marked o.0 mark.Parallel ∷ v) (sym g.2) ∙ sym o.2,
      ap (λ v. tree.Parallel 0 v 0) (branches_bare (statements_of l.1) b (branches_of l.2) bs l.4 l.5),
    )

---- Choices, with what follows them

-- a statement, and the list behind it up to the brace
abbrev ReadWith : Statement → Block → Type 0
ReadWith s b = (ts : List Lexeme) → words_of ts ≡ statement_words s ++ (block_words b ++ close) → AreStatements ts (Next s b)

-- a statement that stands in its list by itself
alone : (s : Statement) (b : Block) → StatementReader s → Reader b → ReadWith s b
alone s b here behind ts h =
    let p = split (statement_words s) (block_words b ++ close) ts h in
    let x = here p.0 p.3 in
    let more = behind p.1 p.4 in (
      statement x.0 more.0,
      joined ts p.0 p.1 (statement_tokens x.0) (statements_tokens more.0) x.1 more.1 p.2,
      ap (λ v. Next v (bare_block (statements_of more.0))) x.2 ∙ ap (λ v. Next (bare_statement s) v) more.2,
    )

-- a second list, and what follows
abbrev IsChoice : List Lexeme → Block → Block → Type 0
IsChoice ts c b = (m : AfterChoice) × (choice_tokens m ≡ ts) × (bare_block (second_of m) ≡ bare_block c) × (bare_block (behind_choice m) ≡ bare_block b)

choice_read : (c b : Block) → Reader c → Reader b → (ts : List Lexeme) → words_of ts ≡ else_words c ++ (block_words b ++ close) → IsChoice ts c b
choice_read End b read behind ts h = let r = behind ts h in (without r.0, r.1, refl, r.2)
choice_read (Next s c) b read behind ts h =
    let list : List Word = block_words (Next s c) ++ close in
    let rest : List Word = block_words b ++ close in
    let o = first (word.Mark mark.Else) (word.Mark mark.BraceOpen ∷ (list ++ rest)) ts h in
    let g = first (word.Mark mark.BraceOpen) (list ++ rest) o.1 o.3 in
    let p = split list rest g.1 g.3 in
    let r = read p.0 p.3 in
    let m = behind p.1 p.4 in (
      otherwise o.0 g.0 r.0 m.0,
      ap (λ v. marked o.0 mark.Else ∷ marked g.0 mark.BraceOpen ∷ v) (joined g.1 p.0 p.1 (statements_tokens r.0) (statements_tokens m.0) r.1 m.1 p.2) ∙ ap (λ v. marked o.0 mark.Else ∷ v) (sym g.2) ∙ sym o.2,
      r.2,
      m.2,
    )

-- both lists, and what follows
abbrev AreLists : List Lexeme → Block → Block → Block → Type 0
AreLists ts a c b =
    (brace : ℕ) × (r : StatementsReading) × (m : AfterChoice) × (marked brace mark.BraceOpen ∷ (statements_tokens r ++ choice_tokens m) ≡ ts) × (bare_block (statements_of r) ≡ bare_block a) × (bare_block (second_of m) ≡ bare_block c) × (bare_block (behind_choice m) ≡ bare_block b)

lists_read : (a c b : Block) → Reader a → Reader c → Reader b → (ts : List Lexeme) → words_of ts ≡ (in_braces (block_words a) ++ else_words c) ++ (block_words b ++ close) → AreLists ts a c b
lists_read a c b one two behind ts h =
    let list : List Word = block_words a ++ close in
    let rest : List Word = block_words b ++ close in
    let g = first (word.Mark mark.BraceOpen) ((list ++ else_words c) ++ rest) ts h in
    let p = split list (else_words c ++ rest) g.1 (g.3 ∙ append_assoc list (else_words c) rest) in
    let r = one p.0 p.3 in
    let m = choice_read c b two behind p.1 p.4 in
    (g.0, r.0, m.0, ap (λ v. marked g.0 mark.BraceOpen ∷ v) (joined g.1 p.0 p.1 (statements_tokens r.0) (choice_tokens m.0) r.1 m.1 p.2) ∙ sym g.2, r.2, m.2, m.3)

if_read : (at : ℕ) (e : tree.Expression) (a : Block) (a_end : ℕ) (c : Block) (c_end : ℕ) (b : Block) → Reader a → Reader c → Reader b → ReadWith (tree.If at e a a_end c c_end) b
if_read at e a a_end c c_end b one two behind ts h =
    let lists : List Word = in_braces (block_words a) ++ else_words c in
    let rest : List Word = block_words b ++ close in
    let o = first (word.Mark mark.If) ((expression_words e ++ lists) ++ rest) ts h in
    let s = split (expression_words e) (lists ++ rest) o.1 (o.3 ∙ append_assoc (expression_words e) lists rest) in
    let v = expression_read e s.0 s.3 in
    let l = lists_read a c b one two behind s.1 s.4 in (
      if_ o.0 v.0 l.0 l.1 l.2,
      ap (λ w. marked o.0 mark.If ∷ w) (joined o.1 s.0 s.1 (expr_tokens v.0) (marked l.0 mark.BraceOpen ∷ (statements_tokens l.1 ++ choice_tokens l.2)) v.1 l.3 s.2) ∙ sym o.2,
      ap (λ w. Next (tree.If 0 w (bare_block (statements_of l.1)) 0 (bare_block (second_of l.2)) 0) (bare_block (behind_choice l.2))) v.2
          ∙ ap (λ w. Next (tree.If 0 (bare_expression e) w 0 (bare_block (second_of l.2)) 0) (bare_block (behind_choice l.2))) l.4
          ∙ ap (λ w. Next (tree.If 0 (bare_expression e) (bare_block a) 0 w 0) (bare_block (behind_choice l.2))) l.5
          ∙ ap (λ w. Next (tree.If 0 (bare_expression e) (bare_block a) 0 (bare_block c) 0) w) l.6,
    )

patch_read : (at id_at : ℕ) (id : tree.Bytes) (a : Block) (a_end : ℕ) (c : Block) (c_end : ℕ) (b : Block) → IsTrue (is_patch_id id) → Reader a → Reader c → Reader b → ReadWith (tree.Patch at id_at id a a_end c c_end) b
patch_read at id_at id a a_end c c_end b fits one two behind ts h =
    let lists : List Word = in_braces (block_words a) ++ else_words c in
    let rest : List Word = block_words b ++ close in
    let o = first (word.Mark mark.Patch) (word.Text id ∷ (lists ++ rest)) ts h in
    let n = first (word.Text id) (lists ++ rest) o.1 o.3 in
    let l = lists_read a c b one two behind n.1 n.3 in (
      patch o.0 n.0 id fits l.0 l.1 l.2,
      ap (λ w. marked o.0 mark.Patch ∷ worded n.0 id ∷ w) l.3 ∙ ap (λ w. marked o.0 mark.Patch ∷ w) (sym n.2) ∙ sym o.2,
      ap (λ w. Next (tree.Patch 0 0 id w 0 (bare_block (second_of l.2)) 0) (bare_block (behind_choice l.2))) l.4
          ∙ ap (λ w. Next (tree.Patch 0 0 id (bare_block a) 0 w 0) (bare_block (behind_choice l.2))) l.5
          ∙ ap (λ w. Next (tree.Patch 0 0 id (bare_block a) 0 (bare_block c) 0) w) l.6,
    )

---- Lists of statements

mutual
  statement_reader : (s : Statement) (b : Block) → IsReadable s → Reader b → ReadWith s b
  statement_reader (tree.Let at name_at x e) b can behind = alone (tree.Let at name_at x e) b (let_read at name_at x e) behind
  statement_reader (tree.Assign at x e) b can behind = alone (tree.Assign at x e) b (assign_read at x e) behind
  statement_reader (tree.Call at x activity_at a es r o) b can behind = alone (tree.Call at x activity_at a es r o) b (call_read at x activity_at a es r o (else_reader o can)) behind
  statement_reader (tree.WaitSignal at x signal_at s) b can behind = alone (tree.WaitSignal at x signal_at s) b (wait_read at x signal_at s) behind
  statement_reader (tree.WaitSignalFor at x signal_at s e late late_end) b can behind =
      alone (tree.WaitSignalFor at x signal_at s e late late_end) b (wait_for_read at x signal_at s e late late_end (block_reader late can)) behind
  statement_reader (tree.Sleep at e) b can behind = alone (tree.Sleep at e) b (sleep_read at e) behind
  statement_reader (tree.If at e a a_end c c_end) b can behind = if_read at e a a_end c c_end b (block_reader a can.0) (block_reader c can.1) behind
  statement_reader (tree.While at e a a_end) b can behind = alone (tree.While at e a a_end) b (while_read at e a a_end (block_reader a can)) behind
  statement_reader (tree.Parallel at NoBranch bs_end) b can behind = absurd can.0
  statement_reader (tree.Parallel at (Branch from a a_end bs) bs_end) b can behind =
      alone (tree.Parallel at (Branch from a a_end bs) bs_end) b (parallel_read at from a a_end bs bs_end (block_reader a can.1.0) (branches_reader bs can.1.1)) behind
  statement_reader (tree.Patch at id_at id a a_end c c_end) b can behind = patch_read at id_at id a a_end c c_end b can.0 (block_reader a can.1.0) (block_reader c can.1.1) behind
  statement_reader (tree.Deprecate at id_at id) b can behind = alone (tree.Deprecate at id_at id) b (deprecate_read at id_at id can) behind
  statement_reader (tree.Return at e) b can behind = alone (tree.Return at e) b (return_read at e) behind
  statement_reader (tree.FailWith at e) b can behind = alone (tree.FailWith at e) b (fail_read at e) behind
  statement_reader (tree.Continue at es) b can behind = alone (tree.Continue at es) b (continue_read at es) behind

  block_reader : (b : Block) → AreReadable b → Reader b
  block_reader End can ts h = let c = only (word.Mark mark.BraceClose) ts h in (no_statement c.0, sym c.1, refl)
  block_reader (Next s b) can ts h = statement_reader s b can.0 (block_reader b can.1) ts (h ∙ append_assoc (statement_words s) (block_words b) close)

  else_reader : (o : Otherwise) → IsReadableElse o → ElseReader o
  else_reader NoElse can = no_else_read
  else_reader (Else b b_end) can = else_read b b_end (block_reader b can)

  branches_reader : (bs : Branches) → AreReadableBranches bs → BranchesReader bs
  branches_reader NoBranch can = no_branch_read
  branches_reader (Branch at b b_end bs) can = branches_read at b b_end bs (block_reader b can.0) (branches_reader bs can.1)

---- Programs

abbrev IsDeclared : List Lexeme → tree.Declared → Type 0
IsDeclared ts d = (r : DeclarationReading) × (declaration_tokens r ≡ ts) × (bare_declared (declaration_of r) ≡ bare_declared d)

declaration_read : (d : tree.Declared) (ts : List Lexeme) → words_of ts ≡ declared_words d → IsDeclared ts d
declaration_read (tree.Activity at name_at b takes gives) ts h =
    let list : List Word = between_commas (map type_words takes) ++ (word.Mark mark.Close ∷ []) in
    let end : List Word = word.Mark mark.Arrow ∷ word.Mark (kind_mark gives) ∷ word.Mark mark.Semicolon ∷ [] in
    let a = first (word.Mark mark.Activity) (word.Name b ∷ word.Mark mark.Open ∷ (list ++ end)) ts h in
    let n = first (word.Name b) (word.Mark mark.Open ∷ (list ++ end)) a.1 a.3 in
    let o = first (word.Mark mark.Open) (list ++ end) n.1 n.3 in
    let s = split list end o.1 o.3 in
    let us = types_read takes s.0 s.3 in
    let w = first (word.Mark mark.Arrow) (word.Mark (kind_mark gives) ∷ word.Mark mark.Semicolon ∷ []) s.1 s.4 in
    let q = split (word.Mark (kind_mark gives) ∷ []) (word.Mark mark.Semicolon ∷ []) w.1 w.3 in
    let t = type_read gives q.0 q.3 in
    let z = only (word.Mark mark.Semicolon) q.1 q.4 in
    let ending : marked w.0 mark.Arrow ∷ (type_tokens t.0 ++ (marked z.0 mark.Semicolon ∷ [])) ≡ s.1 =
    ap (λ v. marked w.0 mark.Arrow ∷ v) (joined w.1 q.0 q.1 (type_tokens t.0) (marked z.0 mark.Semicolon ∷ []) t.1 (sym z.1) q.2) ∙ sym w.2 in (
      activity a.0 n.0 b o.0 us.0 w.0 t.0 z.0,
      ap (λ v. marked a.0 mark.Activity ∷ named n.0 b ∷ marked o.0 mark.Open ∷ v) (joined o.1 s.0 s.1 (types_tokens us.0) (marked w.0 mark.Arrow ∷ (type_tokens t.0 ++ (marked z.0 mark.Semicolon ∷ []))) us.1 ending s.2)
          ∙ ap (λ v. marked a.0 mark.Activity ∷ named n.0 b ∷ v) (sym o.2)
          ∙ ap (λ v. marked a.0 mark.Activity ∷ v) (sym n.2)
          ∙ sym a.2,
      ap (λ v. tree.Activity 0 0 b v (kind_of t.0)) us.2 ∙ ap (λ v. tree.Activity 0 0 b (map bare_type takes) v) t.2,
    )
declaration_read (tree.Signal at name_at b carries) ts h =
    let a = first (word.Mark mark.Signal) (word.Name b ∷ word.Mark mark.Colon ∷ word.Mark (kind_mark carries) ∷ end) ts h in
    let n = first (word.Name b) (word.Mark mark.Colon ∷ word.Mark (kind_mark carries) ∷ end) a.1 a.3 in
    let c = first (word.Mark mark.Colon) (word.Mark (kind_mark carries) ∷ end) n.1 n.3 in
    let q = split (word.Mark (kind_mark carries) ∷ []) end c.1 c.3 in
    let t = type_read carries q.0 q.3 in
    let z = only (word.Mark mark.Semicolon) q.1 q.4 in (
      signal a.0 n.0 b c.0 t.0 z.0,
      ap (λ v. marked a.0 mark.Signal ∷ named n.0 b ∷ marked c.0 mark.Colon ∷ v) (joined c.1 q.0 q.1 (type_tokens t.0) (marked z.0 mark.Semicolon ∷ []) t.1 (sym z.1) q.2)
          ∙ ap (λ v. marked a.0 mark.Signal ∷ named n.0 b ∷ v) (sym c.2)
          ∙ ap (λ v. marked a.0 mark.Signal ∷ v) (sym n.2)
          ∙ sym a.2,
      ap (λ v. tree.Signal 0 0 b v) t.2,
    )

abbrev IsBody : List Lexeme → List tree.Declared → tree.Block → Type 0
IsBody ts ds b =
    (r : BodyReading) × (body_tokens r ≡ ts) × (map bare_declared (declarations_of r) ≡ map bare_declared ds) × (bare_block (statements_of (body_statements r)) ≡ bare_block b)

body_read : (ds : List tree.Declared) (b : Block) → Reader b → (ts : List Lexeme) → words_of ts ≡ declarations_words ds ++ (block_words b ++ (word.Mark mark.BraceClose ∷ [])) → IsBody ts ds b
body_read [] b read ts h = let r = read ts h in (statements r.0, r.1, refl, r.2)
body_read (d ∷ ds) b read ts h =
    let more : List Word = block_words b ++ (word.Mark mark.BraceClose ∷ []) in
    let p = split (declared_words d) (declarations_words ds ++ more) ts (h ∙ append_assoc (declared_words d) (declarations_words ds) more) in
    let here = declaration_read d p.0 p.3 in
    let behind = body_read ds b read p.1 p.4 in (
      declaration here.0 behind.0,
      joined ts p.0 p.1 (declaration_tokens here.0) (body_tokens behind.0) here.1 behind.1 p.2,
      ap (λ v. v ∷ map bare_declared (declarations_of behind.0)) here.2 ∙ ap (λ v. bare_declared d ∷ v) behind.2,
      behind.3,
    )

-- the bare program of these parts
abbrev bare_program : tree.Bytes → List Parameter → List tree.Declared → tree.Block → tree.Program
bare_program x ps ds b = record { at = 0; name = x; parameters = ps; parameters_end = 0; declarations = ds; body = b; body_end = 0 }

-- tokens of what is printed of a program are read as it, up to places
pub program_read : (p : tree.Program) → AreReadable p.body → AreReadAs (program_words p) p
program_read p can ts h =
    let ds : List Word = declarations_words p.declarations in
    let ss : List Word = block_words p.body in
    let list : List Word = between_commas (map parameter_words p.parameters) ++ (word.Mark mark.Close ∷ []) in
    let inside : List Word = word.Mark mark.BraceOpen ∷ ((ds ++ ss) ++ (word.Mark mark.BraceClose ∷ [])) in
    let k = first (word.Mark mark.Workflow) (word.Name p.name ∷ word.Mark mark.Open ∷ (list ++ inside)) ts h in
    let n = first (word.Name p.name) (word.Mark mark.Open ∷ (list ++ inside)) k.1 k.3 in
    let o = first (word.Mark mark.Open) (list ++ inside) n.1 n.3 in
    let s = split list inside o.1 o.3 in
    let ps = parameters_read p.parameters s.0 s.3 in
    let g = first (word.Mark mark.BraceOpen) ((ds ++ ss) ++ (word.Mark mark.BraceClose ∷ [])) s.1 s.4 in
    let b = body_read p.declarations p.body (block_reader p.body can) g.1 (g.3 ∙ append_assoc ds ss (word.Mark mark.BraceClose ∷ [])) in
    let r : ProgramReading = workflow k.0 n.0 p.name o.0 ps.0 g.0 b.0 in
    let read : program_tokens r ≡ ts =
    ap (λ v. marked k.0 mark.Workflow ∷ named n.0 p.name ∷ marked o.0 mark.Open ∷ v) (joined o.1 s.0 s.1 (parameters_tokens ps.0) (marked g.0 mark.BraceOpen ∷ body_tokens b.0) ps.1 (ap (λ v. marked g.0 mark.BraceOpen ∷ v) b.1 ∙ sym g.2) s.2)
    ∙ ap (λ v. marked k.0 mark.Workflow ∷ named n.0 p.name ∷ v) (sym o.2)
    ∙ ap (λ v. marked k.0 mark.Workflow ∷ v) (sym n.2)
    ∙ sym k.2 in (
      program_of r,
      (r, read, refl),
      ap (λ v. bare_program p.name v (map bare_declared (declarations_of b.0)) (bare_block (statements_of (body_statements b.0)))) ps.2
          ∙ ap (λ v. bare_program p.name (map bare_parameter p.parameters) v (bare_block (statements_of (body_statements b.0)))) b.2
          ∙ ap (λ v. bare_program p.name (map bare_parameter p.parameters) (map bare_declared p.declarations) v) b.3,
    )
