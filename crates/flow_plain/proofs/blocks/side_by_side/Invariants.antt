use Rattle.std.proofs.Common.{◌≡◌, ◌≤◌, map, drop, length}
use Rattle.flow_base.specs.Shown.{shown_branch, branches_of}
use Rattle.flow_model.specs.Rest as tree
use Rattle.flow_plain.specs.Shown.{shown_rest}
use Rattle.flow_plain.proofs.blocks.side_by_side.Given as goal

-- what is left are the branches from here on
abbrev pub invariant-loop-i : goal.invariant-loop-i
invariant-loop-i l = (shown_rest l.rest ≡ tree.branches_of (branches_of (map shown_branch (drop l.i l.others)))) × (l.i ≤ length l.others)

abbrev pub decreases-loop-i : goal.decreases-loop-i
decreases-loop-i l = l.i
