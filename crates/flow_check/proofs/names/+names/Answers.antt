use Rattle.std.proofs.Common.{[], ◌∷◌, ◌++◌, ap, sym, subst, ◌∙◌, map}
use Rattle.std.proofs.lemmas.Result.{on_ok_weaker}
use Rattle.flow_base.specs.Syntax.{Statement}
use Rattle.flow_base.specs.Shown.{Braced, shown_stmt, shown_braced, shown_branch, branches_of}
use Rattle.flow_model.specs.WellFormed.{named, patches, names_of_block, names_of_statement, names_of_branches}
use Rattle.flow_check.specs.Tables.{Declares}
use Rattle.flow_check.proofs.Forms.{shown_if, shown_parallel, shown_patch, shown_body}
use Rattle.flow_check.proofs.Declaring.{declares_then, one_more_statement, one_more_branch}
use Rattle.flow_check.proofs.names.+names.Goals as goal

pub statement_names-loop-statement-preserved : goal.statement_names-loop-statement-preserved
statement_names-loop-statement-preserved t c =
    one_more_statement c.args.names.now c.loop-statement.names c.statement_name.new.names c.args.found.now c.loop-statement.found c.statement_name.new.found c.loop-statement.statement-index
    c.args.statements.now c.statement-item.result c.loop-statement-test.true c.statement-item.is c.loop-statement.invariant c.in_ok-statement_name.ensures

pub branch_names-loop-branch-preserved : goal.branch_names-loop-branch-preserved
branch_names-loop-branch-preserved t c =
    one_more_branch c.args.names.now c.loop-branch.names c.block_names.new.names c.args.found.now c.loop-branch.found c.block_names.new.found c.loop-branch.branch-index
    c.args.branches.now c.branch-item.result c.loop-branch-test.true c.branch-item.is c.loop-branch.invariant
    (subst (λ (b : Braced). Declares c.loop-branch.names c.loop-branch.found (names_of_block b.0) c.block_names.new.names c.block_names.new.found) (sym (shown_body c.branch-item.result)) c.in_ok-block_names.ensures)

pub statement_name-returns-in_ok-block_names-in-If : goal.statement_name-returns-in_ok-block_names-in-If
statement_name-returns-in_ok-block_names-in-If t c =
    let n = c.block_names-in-If-2.new.names in
    let o = c.block_names-in-If-2.new.found in
    let a = names_of_block (shown_braced c.in-If.then).0 in
    let b = names_of_block (shown_braced c.in-If.otherwise).0 in
    on_ok_weaker c.block_names-in-If-2.result
    (λ h. subst (λ (s : Statement). Declares c.args.names.now c.args.found.now (names_of_statement s) n o) (sym (ap shown_stmt c.in-If.is ∙ shown_if c.in-If.field-0 c.in-If.field-1 c.in-If.then c.in-If.otherwise))
    (declares_then c.args.names.now c.block_names-in-If.new.names n c.args.found.now c.block_names-in-If.new.found o a b c.in_ok-block_names-in-If.ensures h)) c.block_names-in-If-2.ensures

pub statement_name-returns-in_ok-block_names-in-Patch : goal.statement_name-returns-in_ok-block_names-in-Patch
statement_name-returns-in_ok-block_names-in-Patch t c =
    let n = c.block_names-in-Patch-2.new.names in
    let o = c.block_names-in-Patch-2.new.found in
    let id = named patches c.in-Patch.id_at c.in-Patch.id ∷ [] in
    let a = names_of_block (shown_braced c.in-Patch.since).0 in
    let b = names_of_block (shown_braced c.in-Patch.before).0 in
    on_ok_weaker c.block_names-in-Patch-2.result
    (λ h. subst (λ (s : Statement). Declares c.args.names.now c.args.found.now (names_of_statement s) n o) (sym (ap shown_stmt c.in-Patch.is ∙ shown_patch c.in-Patch.field-0 c.in-Patch.id_at c.in-Patch.id c.in-Patch.since c.in-Patch.before))
    (declares_then c.args.names.now c.patch.new.self n c.args.found.now c.patch.new.found o id (a ++ b) c.in_ok-patch-in-Patch.ensures
    (declares_then c.patch.new.self c.block_names-in-Patch.new.names n c.patch.new.found c.block_names-in-Patch.new.found o a b c.in_ok-block_names-in-Patch.ensures h))) c.block_names-in-Patch-2.ensures

pub statement_name-returns-in_ok-block_names-in-Parallel : goal.statement_name-returns-in_ok-block_names-in-Parallel
statement_name-returns-in_ok-block_names-in-Parallel t c =
    let n = c.branch_names.new.names in
    let o = c.branch_names.new.found in
    let first = c.in-Parallel.first in
    let others = c.in-Parallel.others.items in
    let a = names_of_block (shown_branch first).1.0 in
    let b = names_of_branches (branches_of (map shown_branch others)) in
    on_ok_weaker c.branch_names.result
    (λ h. subst (λ (s : Statement). Declares c.args.names.now c.args.found.now (names_of_statement s) n o) (sym (ap shown_stmt c.in-Parallel.is ∙ shown_parallel c.in-Parallel.field-0 first c.in-Parallel.others c.in-Parallel.field-3))
    (declares_then c.args.names.now c.block_names-in-Parallel.new.names n c.args.found.now c.block_names-in-Parallel.new.found o a b
    (subst (λ (d : Braced). Declares c.args.names.now c.args.found.now (names_of_block d.0) c.block_names-in-Parallel.new.names c.block_names-in-Parallel.new.found) (sym (shown_body first)) c.in_ok-block_names-in-Parallel.ensures)
    h)) (rw c.deref.ensures.value at c.branch_names.ensures)
