-- What the code's programs show of themselves: the trees of Syntax, with pointers left out.
use Rattle.std.specs.Prelude.{ℕ, List, [], ◌∷◌, map, Option, Some, None, option_map}
use Rattle.flow_base.specs.Syntax as tree
use Rattle.flow_base.specs.Syntax.{block_of}
use Rattle.flow_base.specs.declared.syntax.Expr.{Expr}
use Rattle.flow_base.specs.declared.syntax.Expr.TheVariants.{Int, Text, Var, Now, Unary', Binary'}
use Rattle.flow_base.specs.declared.syntax.Stmt.{Stmt}
use Rattle.flow_base.specs.declared.syntax.Block.{Block}
use Rattle.flow_base.specs.declared.syntax.Branch.{Branch}
use Rattle.flow_base.specs.declared.syntax.Stmt.TheOpen.{Stmt-F, Block-F, Branch-F}
use Rattle.flow_base.specs.declared.syntax.Stmt.TheOpen as layer
use Rattle.flow_base.specs.declared.syntax.Stmt.TheFolds.{fold-Stmt, fold-Block, fold-Branch}
use Rattle.flow_base.specs.declared.syntax.Declaration.{Declaration}
use Rattle.flow_base.specs.declared.syntax.Declaration.TheVariants as declaration
use Rattle.flow_base.specs.declared.syntax.Program.{Program}

abbrev pub shown_expr : Expr → tree.Expression
shown_expr (Int at z) = tree.Number at z
shown_expr (Text at t) = tree.Literal at t
shown_expr (Var at x) = tree.Variable at x
shown_expr (Now at) = tree.Now at
shown_expr (Unary' at op p a) = tree.Apply at op (shown_expr a)
shown_expr (Binary' op p a q b) = tree.Combine op (shown_expr a) (shown_expr b)

-- a list of statements with the place of its closing brace; a branch with that of its opening one before
abbrev pub Braced : Type 0
Braced = tree.Block × ℕ

abbrev pub otherwise_of : Option Braced → tree.Otherwise
otherwise_of None = tree.NoElse
otherwise_of (Some b) = tree.Else b.0 b.1

abbrev pub branches_of : List (ℕ × Braced) → tree.Branches
branches_of [] = tree.NoBranch
branches_of (b ∷ bs) = tree.Branch b.0 b.1.0 b.1.1 (branches_of bs)

-- one level of each type, with what the parts within show in their places
abbrev pub stmt_step : Stmt-F tree.Statement Braced (ℕ × Braced) → tree.Statement
stmt_step (layer.Let at name_at x e) = tree.Let at name_at x (shown_expr e)
stmt_step (layer.Assign at x e) = tree.Assign at x (shown_expr e)
stmt_step (layer.Call at x activity_at a es r o) = tree.Call at x activity_at a (map shown_expr es.items) r (otherwise_of o)
stmt_step (layer.WaitSignal at x signal_at n) = tree.WaitSignal at x signal_at n
stmt_step (layer.WaitSignalFor at x signal_at n e late) = tree.WaitSignalFor at x signal_at n (shown_expr e) late.0 late.1
stmt_step (layer.Sleep at e) = tree.Sleep at (shown_expr e)
stmt_step (layer.If at e a b) = tree.If at (shown_expr e) a.0 a.1 b.0 b.1
stmt_step (layer.While at e b) = tree.While at (shown_expr e) b.0 b.1
stmt_step (layer.Parallel at b bs end) = tree.Parallel at (branches_of (b ∷ bs.items)) end
stmt_step (layer.Patch at id_at id a b) = tree.Patch at id_at id a.0 a.1 b.0 b.1
stmt_step (layer.Deprecate at id_at id) = tree.Deprecate at id_at id
stmt_step (layer.Return at e) = tree.Return at (shown_expr e)
stmt_step (layer.FailWith at e) = tree.FailWith at (shown_expr e)
stmt_step (layer.Continue at es) = tree.Continue at (map shown_expr es.items)

abbrev pub block_step : Block-F tree.Statement Braced (ℕ × Braced) → Braced
block_step b = (block_of b.list.value.items, b.end)

abbrev pub branch_step : Branch-F tree.Statement Braced (ℕ × Braced) → ℕ × Braced
branch_step b = (b.at, b.body)

abbrev pub shown_stmt : Stmt → tree.Statement
shown_stmt = fold-Stmt tree.Statement Braced (ℕ × Braced) stmt_step block_step branch_step

abbrev pub shown_braced : Block → Braced
shown_braced = fold-Block tree.Statement Braced (ℕ × Braced) stmt_step block_step branch_step

abbrev pub shown_branch : Branch → ℕ × Braced
shown_branch = fold-Branch tree.Statement Braced (ℕ × Braced) stmt_step block_step branch_step

abbrev pub shown_otherwise : Option Block → tree.Otherwise
shown_otherwise o = otherwise_of (option_map shown_braced o)

-- statements in their order
abbrev pub shown_block : List Stmt → tree.Block
shown_block ss = block_of (map shown_stmt ss)

abbrev pub shown_declaration : Declaration → tree.Declared
shown_declaration (declaration.Activity at name_at name takes gives) = tree.Activity at name_at name takes.items gives
shown_declaration (declaration.Signal at name_at name carries) = tree.Signal at name_at name carries

abbrev pub shown_program : Program → tree.Program
shown_program p =
    record {
      at = p.at;
      name = p.name;
      parameters = p.parameters.items;
      parameters_end = p.parameters_end;
      declarations = map shown_declaration p.declarations.items;
      body = shown_block p.body.value.items;
      body_end = p.body_end;
    }
