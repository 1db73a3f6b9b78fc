use Rattle.std.proofs.Common.{true, map, take}
use Rattle.flow_base.specs.Shown.{shown_block, shown_branch, branches_of}
use Rattle.flow_model.specs.WellFormed.{faults_of_branches}
use Rattle.flow_check.specs.Tables.{shown_scope, Checks, Notes}
use Rattle.flow_check.proofs.statement.+checks.Given as goal

abbrev pub invariant-check_statements-loop-statement : goal.invariant-check_statements-loop-statement
invariant-check_statements-loop-statement l = Checks l.in_parallel l.initial.scope l.initial.found (shown_block (take l.statement-index l.statements)) l.scope l.found

abbrev pub invariant-check_branches-loop-branch : goal.invariant-check_branches-loop-branch
invariant-check_branches-loop-branch l = Notes l.initial.scope l.initial.found (faults_of_branches (shown_scope true l.initial.scope) (branches_of (map shown_branch (take l.branch-index l.branches)))) l.scope l.found
