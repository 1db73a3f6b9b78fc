use Rattle.std.proofs.Common.{◌≡◌, ◌++◌, map, drop}
use Rattle.flow_syntax.specs.Print.{spaced, behind_commas}
use Rattle.flow_syntax.proofs.listed.print_behind_commas.Given as goal

-- what is written, and what is still to be written
abbrev pub invariant-loop-item : goal.invariant-loop-item
invariant-loop-item g l =
    l.out ++ spaced (behind_commas (map g.T.Item.item_words (drop l.item-index l.items))) ≡ l.initial.out ++ spaced (behind_commas (map g.T.Item.item_words l.items))
