use Rattle.std.proofs.Common.{◌≡◌, ◌+◌, ◌<◌, length, get_or, take, ltb-true, arith}
use Rattle.std.proofs.lemmas.List.Sums.{fold_more}
use Rattle.flow_model.specs.Tokens.{with_digit, number_of}
use Rattle.flow_tokens.proofs.Digits.{number_grows, too_large}
use Rattle.flow_tokens.proofs.words.number.Goals as goal

pub returns-then-number-digit : goal.returns-then-number-digit
returns-then-number-digit c =
    let inside : c.loop-byte.byte-index < length c.args.digits.now = omega arith in
    let more : number_of (take (c.loop-byte.byte-index + 1) c.args.digits.now) ≡ with_digit (number_of (take c.loop-byte.byte-index c.args.digits.now)) (get_or c.args.digits.now c.loop-byte.byte-index 0) =
    fold_more with_digit 0 c.args.digits.now c.loop-byte.byte-index 0 inside in
    too_large c.args.digits.now (omega (arith, ltb-true, more, number_grows c.args.digits.now (c.loop-byte.byte-index + 1)))
