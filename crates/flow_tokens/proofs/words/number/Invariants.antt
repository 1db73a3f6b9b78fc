use Rattle.std.proofs.Common.{◌≡◌, ◌≤◌, take}
use Rattle.flow_model.specs.Tokens.{number_of}
use Rattle.flow_tokens.proofs.words.number.Given as goal

abbrev pub invariant-loop-byte : goal.invariant-loop-byte
invariant-loop-byte l = (l.number ≤ 9223372036854775807) × (l.number ≡ number_of (take l.byte-index l.digits))
