use Rattle.std.proofs.Common.{map, take}
use Rattle.flow_base.specs.Shown.{shown_block, shown_branch, branches_of}
use Rattle.flow_model.specs.WellFormed.{names_of_block, names_of_branches}
use Rattle.flow_check.specs.Tables.{Declares}
use Rattle.flow_check.proofs.names.+names.Given as goal

abbrev pub invariant-statement_names-loop-statement : goal.invariant-statement_names-loop-statement
invariant-statement_names-loop-statement l = Declares l.initial.names l.initial.found (names_of_block (shown_block (take l.statement-index l.statements))) l.names l.found

abbrev pub invariant-branch_names-loop-branch : goal.invariant-branch_names-loop-branch
invariant-branch_names-loop-branch l = Declares l.initial.names l.initial.found (names_of_branches (branches_of (map shown_branch (take l.branch-index l.branches)))) l.names l.found
