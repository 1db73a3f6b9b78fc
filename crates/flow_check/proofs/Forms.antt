-- What each form of a statement shows: one level of its tree, with what the lists within show.
use Rattle.std.proofs.Common.{rules, ◌≡◌, ◌∷◌, map, ℕ, Vec, Option}
use Rattle.std.specs.declared.alloc.Global.{Global}
use Rattle.flow_base.specs.Syntax as tree
use Rattle.flow_base.specs.Syntax.{Bytes}
use Rattle.flow_base.specs.Shown.{shown_stmt, shown_braced, shown_branch, shown_expr, shown_block, shown_otherwise, branches_of}
use Rattle.flow_base.specs.declared.syntax.Expr.{Expr}
use Rattle.flow_base.specs.declared.syntax.Retry.{Retry}
use Rattle.flow_base.specs.declared.syntax.Stmt.{Let, Assign, Call, WaitSignal, WaitSignalFor, Sleep, If, While, Parallel, Patch, Deprecate, Return, FailWith, Continue, the_lemmas}
use Rattle.flow_base.specs.declared.syntax.Block.{Block}
use Rattle.flow_base.specs.declared.syntax.Branch.{Branch}

pub shown_let : (at name_at : ℕ) (x : Bytes) (e : Expr) → shown_stmt (Let at name_at x e) ≡ tree.Let at name_at x (shown_expr e)
shown_let at name_at x e = search (rules, the_lemmas)

pub shown_assign : (at : ℕ) (x : Bytes) (e : Expr) → shown_stmt (Assign at x e) ≡ tree.Assign at x (shown_expr e)
shown_assign at x e = search (rules, the_lemmas)

pub shown_call : (at : ℕ) (x : Bytes) (activity_at : ℕ) (a : Bytes) (es : Vec Expr Global) (r : Retry) (o : Option Block)
    → shown_stmt (Call at x activity_at a es r o) ≡ tree.Call at x activity_at a (map shown_expr es.items) r (shown_otherwise o)
shown_call at x activity_at a es r o = search (rules, the_lemmas)

pub shown_wait : (at : ℕ) (x : Bytes) (signal_at : ℕ) (n : Bytes) → shown_stmt (WaitSignal at x signal_at n) ≡ tree.WaitSignal at x signal_at n
shown_wait at x signal_at n = search (rules, the_lemmas)

pub shown_wait_for : (at : ℕ) (x : Bytes) (signal_at : ℕ) (n : Bytes) (e : Expr) (b : Block)
    → shown_stmt (WaitSignalFor at x signal_at n e b) ≡ tree.WaitSignalFor at x signal_at n (shown_expr e) (shown_braced b).0 (shown_braced b).1
shown_wait_for at x signal_at n e b = search (rules, the_lemmas)

pub shown_sleep : (at : ℕ) (e : Expr) → shown_stmt (Sleep at e) ≡ tree.Sleep at (shown_expr e)
shown_sleep at e = search (rules, the_lemmas)

pub shown_if : (at : ℕ) (e : Expr) (a b : Block) → shown_stmt (If at e a b) ≡ tree.If at (shown_expr e) (shown_braced a).0 (shown_braced a).1 (shown_braced b).0 (shown_braced b).1
shown_if at e a b = search (rules, the_lemmas)

pub shown_while : (at : ℕ) (e : Expr) (b : Block) → shown_stmt (While at e b) ≡ tree.While at (shown_expr e) (shown_braced b).0 (shown_braced b).1
shown_while at e b = search (rules, the_lemmas)

pub shown_parallel : (at : ℕ) (b : Branch) (bs : Vec Branch Global) (end : ℕ) → shown_stmt (Parallel at b bs end) ≡ tree.Parallel at (branches_of (shown_branch b ∷ map shown_branch bs.items)) end
shown_parallel at b bs end = search (rules, the_lemmas)

pub shown_patch : (at id_at : ℕ) (id : Bytes) (a b : Block) → shown_stmt (Patch at id_at id a b) ≡ tree.Patch at id_at id (shown_braced a).0 (shown_braced a).1 (shown_braced b).0 (shown_braced b).1
shown_patch at id_at id a b = search (rules, the_lemmas)

pub shown_deprecate : (at id_at : ℕ) (id : Bytes) → shown_stmt (Deprecate at id_at id) ≡ tree.Deprecate at id_at id
shown_deprecate at id_at id = search (rules, the_lemmas)

pub shown_return : (at : ℕ) (e : Expr) → shown_stmt (Return at e) ≡ tree.Return at (shown_expr e)
shown_return at e = search (rules, the_lemmas)

pub shown_fail : (at : ℕ) (e : Expr) → shown_stmt (FailWith at e) ≡ tree.FailWith at (shown_expr e)
shown_fail at e = search (rules, the_lemmas)

pub shown_continue : (at : ℕ) (es : Vec Expr Global) → shown_stmt (Continue at es) ≡ tree.Continue at (map shown_expr es.items)
shown_continue at es = search (rules, the_lemmas)

pub shown_list : (b : Block) → (shown_braced b).0 ≡ shown_block b.list.value.items
shown_list b = search (rules, the_lemmas)

pub shown_place : (b : Branch) → (shown_branch b).0 ≡ b.at
shown_place b = search (rules, the_lemmas)

pub shown_body : (b : Branch) → (shown_branch b).1 ≡ shown_braced b.body
shown_body b = search (rules, the_lemmas)
