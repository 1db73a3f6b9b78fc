-- A program up to places in its text: every place set to 0. Two programs are equal up to places where these are equal.
use Rattle.std.specs.Prelude.{map}
use Rattle.flow_base.specs.declared.syntax.Parameter.{Parameter}
use Rattle.flow_base.specs.declared.syntax.TypeAt.{TypeAt}
use Rattle.flow_base.specs.Syntax.{Expression, Number, Literal, Variable, Now, Apply, Combine, Statement, Let, Assign, Call, WaitSignal, WaitSignalFor, Sleep, If, While, Parallel, Patch, Deprecate, Return, FailWith, Continue, Block, End, Next, Otherwise, NoElse, Else, Branches, NoBranch, Branch, Declared, Activity, Signal, Program}
use Rattle.flow_base.specs.declared.syntax.Retry.{Retry}

abbrev pub bare_expression : Expression → Expression
bare_expression (Number at n) = Number 0 n
bare_expression (Literal at t) = Literal 0 t
bare_expression (Variable at x) = Variable 0 x
bare_expression (Now at) = Now 0
bare_expression (Apply at op e) = Apply 0 op (bare_expression e)
bare_expression (Combine op a b) = Combine op (bare_expression a) (bare_expression b)

abbrev pub bare_retry : Retry → Retry
bare_retry r = record { tries_at = 0; tries = r.tries; every_at = 0; every = r.every }

abbrev mutual
  pub bare_statement : Statement → Statement
  bare_statement (Let at name_at x e) = Let 0 0 x (bare_expression e)
  bare_statement (Assign at x e) = Assign 0 x (bare_expression e)
  bare_statement (Call at x activity_at a es r o) = Call 0 x 0 a (map bare_expression es) (bare_retry r) (bare_otherwise o)
  bare_statement (WaitSignal at x signal_at s) = WaitSignal 0 x 0 s
  bare_statement (WaitSignalFor at x signal_at s e b end) = WaitSignalFor 0 x 0 s (bare_expression e) (bare_block b) 0
  bare_statement (Sleep at e) = Sleep 0 (bare_expression e)
  bare_statement (If at e a a_end b b_end) = If 0 (bare_expression e) (bare_block a) 0 (bare_block b) 0
  bare_statement (While at e b end) = While 0 (bare_expression e) (bare_block b) 0
  bare_statement (Parallel at bs end) = Parallel 0 (bare_branches bs) 0
  bare_statement (Patch at id_at id a a_end b b_end) = Patch 0 0 id (bare_block a) 0 (bare_block b) 0
  bare_statement (Deprecate at id_at id) = Deprecate 0 0 id
  bare_statement (Return at e) = Return 0 (bare_expression e)
  bare_statement (FailWith at e) = FailWith 0 (bare_expression e)
  bare_statement (Continue at es) = Continue 0 (map bare_expression es)

  pub bare_block : Block → Block
  bare_block End = End
  bare_block (Next s b) = Next (bare_statement s) (bare_block b)

  pub bare_otherwise : Otherwise → Otherwise
  bare_otherwise NoElse = NoElse
  bare_otherwise (Else b end) = Else (bare_block b) 0

  pub bare_branches : Branches → Branches
  bare_branches NoBranch = NoBranch
  bare_branches (Branch at b end bs) = Branch 0 (bare_block b) 0 (bare_branches bs)

abbrev pub bare_parameter : Parameter → Parameter
bare_parameter p = record p { at = 0 }

abbrev pub bare_type : TypeAt → TypeAt
bare_type t = record t { at = 0 }

abbrev pub bare_declared : Declared → Declared
bare_declared (Activity at name_at name takes gives) = Activity 0 0 name (map bare_type takes) gives
bare_declared (Signal at name_at name carries) = Signal 0 0 name carries

abbrev pub bare : Program → Program
bare p =
    record {
      at = 0;
      name = p.name;
      parameters = map bare_parameter p.parameters;
      parameters_end = 0;
      declarations = map bare_declared p.declarations;
      body = bare_block p.body;
      body_end = 0;
    }
