-- Numbers of 64 bits are short in decimal.
use Rattle.std.proofs.Common.{◌≤◌, ◌<◌, ◌+◌, ◌^◌, ℤ, length, arith}
use Rattle.std.specs.Fmt.{signed_decimal}
use Rattle.std.specs.Int.Signed.{mag}
use Rattle.std.proofs.lemmas.Fmt.{length_signed_le}

pub decimal_is_short : (z : ℤ) → mag z < 2 ^ 63 → length (signed_decimal z) ≤ 4096
decimal_is_short z h =
    let few : mag z + 1 < 10 ^ 20 = omega (arith, h) in
    let short : length (signed_decimal z) ≤ 21 = length_signed_le 20 z few h in
    omega (arith, short)
