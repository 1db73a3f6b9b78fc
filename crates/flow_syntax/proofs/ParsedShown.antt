-- What each statement that the parser builds shows, by one level of the fold.
use Rattle.std.proofs.Common.{◌≡◌, ◌∙◌, ℕ, map, ap, sym, Option, Some, None, Vec}
use Rattle.std.specs.declared.alloc.Global.{Global}
use Rattle.flow_base.specs.Syntax as tree
use Rattle.flow_base.specs.Syntax.{Bytes}
use Rattle.flow_base.specs.Shown.{Braced, stmt_step, block_step, branch_step, shown_expr, shown_stmt, shown_braced, shown_otherwise}
use Rattle.flow_base.specs.declared.syntax.Retry.{Retry}
use Rattle.flow_base.specs.declared.syntax.Expr.{Expr}
use Rattle.flow_base.specs.declared.syntax.Block.{Block}
use Rattle.flow_base.specs.declared.syntax.Stmt.TheVariants as stmt
use Rattle.flow_base.specs.declared.syntax.Stmt.TheOpen.{Stmt-F}
use Rattle.flow_base.specs.declared.syntax.Stmt.TheOpen as layer
use Rattle.flow_base.specs.declared.syntax.Stmt.TheFolds.{fold-roll-Stmt}

pub shown_let : (at name_at : ℕ) (x : Bytes) (e : Expr) → shown_stmt (stmt.Let at name_at x e) ≡ tree.Let at name_at x (shown_expr e)
shown_let at name_at x e = ap shown_stmt (sym (stmt.rolls-Let at name_at x e)) ∙ fold-roll-Stmt tree.Statement Braced (ℕ × Braced) stmt_step block_step branch_step (layer.Let at name_at x e)

pub shown_assign : (at : ℕ) (x : Bytes) (e : Expr) → shown_stmt (stmt.Assign at x e) ≡ tree.Assign at x (shown_expr e)
shown_assign at x e = ap shown_stmt (sym (stmt.rolls-Assign at x e)) ∙ fold-roll-Stmt tree.Statement Braced (ℕ × Braced) stmt_step block_step branch_step (layer.Assign at x e)

pub shown_call : (at : ℕ) (x : Bytes) (activity_at : ℕ) (a : Bytes) (es : Vec Expr Global) (z : Retry) (o : Option Block) → shown_stmt (stmt.Call at x activity_at a es z o) ≡ tree.Call at x activity_at a (map shown_expr es.items) z (shown_otherwise o)
shown_call at x activity_at a es z None = ap shown_stmt (sym (stmt.rolls-Call at x activity_at a es z None)) ∙ fold-roll-Stmt tree.Statement Braced (ℕ × Braced) stmt_step block_step branch_step (layer.Call at x activity_at a es z None)
shown_call at x activity_at a es z (Some b) = ap shown_stmt (sym (stmt.rolls-Call at x activity_at a es z (Some b))) ∙ fold-roll-Stmt tree.Statement Braced (ℕ × Braced) stmt_step block_step branch_step (layer.Call at x activity_at a es z (Some b))

pub shown_wait : (at : ℕ) (x : Bytes) (signal_at : ℕ) (n : Bytes) → shown_stmt (stmt.WaitSignal at x signal_at n) ≡ tree.WaitSignal at x signal_at n
shown_wait at x signal_at n = ap shown_stmt (sym (stmt.rolls-WaitSignal at x signal_at n)) ∙ fold-roll-Stmt tree.Statement Braced (ℕ × Braced) stmt_step block_step branch_step (layer.WaitSignal at x signal_at n)

pub shown_wait_for : (at : ℕ) (x : Bytes) (signal_at : ℕ) (n : Bytes) (e : Expr) (late : Block) → shown_stmt (stmt.WaitSignalFor at x signal_at n e late) ≡ tree.WaitSignalFor at x signal_at n (shown_expr e) (shown_braced late).0 (shown_braced late).1
shown_wait_for at x signal_at n e late = ap shown_stmt (sym (stmt.rolls-WaitSignalFor at x signal_at n e late)) ∙ fold-roll-Stmt tree.Statement Braced (ℕ × Braced) stmt_step block_step branch_step (layer.WaitSignalFor at x signal_at n e late)

pub shown_sleep : (at : ℕ) (e : Expr) → shown_stmt (stmt.Sleep at e) ≡ tree.Sleep at (shown_expr e)
shown_sleep at e = ap shown_stmt (sym (stmt.rolls-Sleep at e)) ∙ fold-roll-Stmt tree.Statement Braced (ℕ × Braced) stmt_step block_step branch_step (layer.Sleep at e)

pub shown_if : (at : ℕ) (e : Expr) (a b : Block) → shown_stmt (stmt.If at e a b) ≡ tree.If at (shown_expr e) (shown_braced a).0 (shown_braced a).1 (shown_braced b).0 (shown_braced b).1
shown_if at e a b = ap shown_stmt (sym (stmt.rolls-If at e a b)) ∙ fold-roll-Stmt tree.Statement Braced (ℕ × Braced) stmt_step block_step branch_step (layer.If at e a b)

pub shown_while : (at : ℕ) (e : Expr) (b : Block) → shown_stmt (stmt.While at e b) ≡ tree.While at (shown_expr e) (shown_braced b).0 (shown_braced b).1
shown_while at e b = ap shown_stmt (sym (stmt.rolls-While at e b)) ∙ fold-roll-Stmt tree.Statement Braced (ℕ × Braced) stmt_step block_step branch_step (layer.While at e b)

pub shown_patch : (at id_at : ℕ) (id : Bytes) (a b : Block) → shown_stmt (stmt.Patch at id_at id a b) ≡ tree.Patch at id_at id (shown_braced a).0 (shown_braced a).1 (shown_braced b).0 (shown_braced b).1
shown_patch at id_at id a b = ap shown_stmt (sym (stmt.rolls-Patch at id_at id a b)) ∙ fold-roll-Stmt tree.Statement Braced (ℕ × Braced) stmt_step block_step branch_step (layer.Patch at id_at id a b)

pub shown_deprecate : (at id_at : ℕ) (id : Bytes) → shown_stmt (stmt.Deprecate at id_at id) ≡ tree.Deprecate at id_at id
shown_deprecate at id_at id = ap shown_stmt (sym (stmt.rolls-Deprecate at id_at id)) ∙ fold-roll-Stmt tree.Statement Braced (ℕ × Braced) stmt_step block_step branch_step (layer.Deprecate at id_at id)

pub shown_return : (at : ℕ) (e : Expr) → shown_stmt (stmt.Return at e) ≡ tree.Return at (shown_expr e)
shown_return at e = ap shown_stmt (sym (stmt.rolls-Return at e)) ∙ fold-roll-Stmt tree.Statement Braced (ℕ × Braced) stmt_step block_step branch_step (layer.Return at e)

pub shown_fail : (at : ℕ) (e : Expr) → shown_stmt (stmt.FailWith at e) ≡ tree.FailWith at (shown_expr e)
shown_fail at e = ap shown_stmt (sym (stmt.rolls-FailWith at e)) ∙ fold-roll-Stmt tree.Statement Braced (ℕ × Braced) stmt_step block_step branch_step (layer.FailWith at e)

pub shown_continue : (at : ℕ) (es : Vec Expr Global) → shown_stmt (stmt.Continue at es) ≡ tree.Continue at (map shown_expr es.items)
shown_continue at es = ap shown_stmt (sym (stmt.rolls-Continue at es)) ∙ fold-roll-Stmt tree.Statement Braced (ℕ × Braced) stmt_step block_step branch_step (layer.Continue at es)
