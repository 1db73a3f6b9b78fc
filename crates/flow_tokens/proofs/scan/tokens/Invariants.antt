use Rattle.std.proofs.Common.{◌≤◌, length}
use denote.Text.{Utf8}
use denote.Shadow.{shadow}
use Rattle.flow_model.specs.Tokens.{past_gap}
use Rattle.flow_tokens.proofs.Reading.{GoesOn}
use Rattle.flow_tokens.proofs.scan.tokens.Given as goal

abbrev pub invariant-loop-rest : goal.invariant-loop-rest
invariant-loop-rest l =
    shadow (Utf8 l.rest) × (length l.rest ≤ length l.text) × GoesOn (length l.text) (past_gap l.text) l.rest l.list.items

abbrev pub decreases-loop-rest : goal.decreases-loop-rest
decreases-loop-rest l = length l.rest
