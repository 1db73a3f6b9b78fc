use Rattle.std.proofs.Common.{◌≡◌, ◌++◌, map, drop}
use Rattle.flow_base.specs.Shown.{shown_block, shown_branch, branches_of}
use Rattle.flow_syntax.specs.Print.{spaced, block_words, branches_words}
use Rattle.flow_syntax.proofs.print_statement.+statement.Given as goal

-- what is written, and what is still to be written
abbrev pub invariant-statements-loop-stmt : goal.invariant-statements-loop-stmt
invariant-statements-loop-stmt l = l.out ++ spaced (block_words (shown_block (drop l.stmt-index l.list))) ≡ l.initial.out ++ spaced (block_words (shown_block l.list))

abbrev pub invariant-branches-loop-next : goal.invariant-branches-loop-next
invariant-branches-loop-next l =
    l.out ++ spaced (branches_words (branches_of (map shown_branch (drop l.next-index l.list)))) ≡ l.initial.out ++ spaced (branches_words (branches_of (map shown_branch l.list)))
