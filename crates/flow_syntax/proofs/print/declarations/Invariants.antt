use Rattle.std.proofs.Common.{◌≡◌, ◌++◌, map, drop}
use Rattle.flow_base.specs.Shown.{shown_declaration}
use Rattle.flow_syntax.specs.Print.{spaced, declarations_words}
use Rattle.flow_syntax.proofs.print.declarations.Given as goal

-- what is written, and what is still to be written
abbrev pub invariant-loop-next : goal.invariant-loop-next
invariant-loop-next l =
    l.out ++ spaced (declarations_words (map shown_declaration (drop l.next-index l.list))) ≡ l.initial.out ++ spaced (declarations_words (map shown_declaration l.list))
