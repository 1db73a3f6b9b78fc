-- How many failures a store has counted.
use Rattle.std.proofs.Common.{ℕ, ◌+◌, ◌≤◌, arith}
use Rattle.flow_model.specs.Answers.{IsMoreBy}

pub no_fewer : (a : ℕ) → a ≤ a
no_fewer a = omega arith

pub more_none : (a b : ℕ) → a ≤ b → IsMoreBy 0 a b
more_none a b le = omega (arith, le)

pub more_still : (n a b c : ℕ) → IsMoreBy n a b → b ≤ c → IsMoreBy n a c
more_still n a b c more le = omega (arith, more, le)

-- from count to count
pub more_then : (n m a b c : ℕ) → IsMoreBy n a b → IsMoreBy m b c → IsMoreBy (n + m) a c
more_then n m a b c one two = omega (arith, one, two)
