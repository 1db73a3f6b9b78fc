use Rattle.std.proofs.Common.{◌≡◌, ◌≤◌, length}
use Rattle.std.specs.List.{prefix_len}
use denote.Text.{Utf8}
use denote.Shadow.{shadow}
use Rattle.flow_model.specs.Tokens.{past_gap}
use Rattle.flow_tokens.specs.declared.run.Class.TheVariants.{Blank}
use Rattle.flow_tokens.specs.Classes.{has}
use Rattle.flow_tokens.proofs.gap.past_gap.Given as goal

abbrev pub invariant-loop-rest : goal.invariant-loop-rest
invariant-loop-rest l =
    shadow (Utf8 l.rest) × (length l.rest ≤ length l.text) × (past_gap l.rest ≡ past_gap l.text) × (prefix_len (has Blank) l.rest ≡ 0)

abbrev pub decreases-loop-rest : goal.decreases-loop-rest
decreases-loop-rest l = length l.rest
