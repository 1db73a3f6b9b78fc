use Rattle.std.proofs.Common.{◌≡◌, ◌≤◌, length, string_bytes}
use Rattle.std.specs.List.{prefix_len}
use denote.Text.{Utf8}
use denote.Shadow.{shadow}
use Rattle.flow_model.specs.Tokens.{unquoted}
use Rattle.flow_tokens.specs.declared.run.Class.TheVariants.{Plain}
use Rattle.flow_tokens.specs.Classes.{has}
use Rattle.flow_tokens.specs.Quoted.{goes_on}
use Rattle.flow_tokens.proofs.words.quoted.Given as goal

abbrev pub invariant-loop-value : goal.invariant-loop-value
invariant-loop-value l =
    shadow (Utf8 l.rest) × (length l.rest ≤ length l.text) × (unquoted l.text ≡ goes_on (string_bytes l.value) (unquoted l.rest)) × (prefix_len (has Plain) l.rest ≡ 0)

abbrev pub decreases-loop-value : goal.decreases-loop-value
decreases-loop-value l = length l.rest
