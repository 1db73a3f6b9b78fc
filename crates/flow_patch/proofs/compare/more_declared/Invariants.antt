use Rattle.std.proofs.Common.{◌≡◌, map, drop}
use Rattle.flow_base.specs.Shown.{shown_declaration}
use Rattle.flow_patch.specs.Difference.{difference_of_declarations}
use Rattle.flow_patch.specs.Unsettled.{difference_of_all}
use Rattle.flow_patch.proofs.compare.more_declared.Given as goal

-- what is left answers for the whole, however much of it there may be
abbrev pub invariant-loop-declaration : goal.invariant-loop-declaration
invariant-loop-declaration l =
    (difference_of_declarations (map shown_declaration l.old) (map shown_declaration l.new) l.behind
    ≡ difference_of_declarations (map shown_declaration (drop l.declaration-index l.old)) (map shown_declaration l.rest) l.behind)
    × (difference_of_all (map shown_declaration l.old) (map shown_declaration l.new) l.behind
    ≡ difference_of_all (map shown_declaration (drop l.declaration-index l.old)) (map shown_declaration l.rest) l.behind)
