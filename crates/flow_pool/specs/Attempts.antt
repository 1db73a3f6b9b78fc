-- What comes of an attempt of the activities that the program has.
use Rattle.std.specs.Prelude.{ℕ, ℤ, ◌+ℤ◌, List, [], ◌∷◌, nat_lt, codes, if◌then◌else◌}
use Rattle.flow_base.specs.declared.value.Value.{Value}
use Rattle.flow_base.specs.declared.value.Value.TheVariants as v
use Rattle.flow_model.specs.Values.{fits_64}
use Rattle.flow_pool.specs.declared.activity.Attempt.{Attempt}
use Rattle.flow_pool.specs.declared.activity.Attempt.TheVariants.{Done, Failed}

abbrev pub failed_with : List ℕ → Attempt
failed_with reason = Failed reason

abbrev pub bad_arguments : Attempt
bad_arguments = failed_with (codes "bad arguments")

-- `echo`: the first argument
abbrev pub echoed : List Value → Attempt
echoed [] = bad_arguments
echoed (x ∷ xs) = Done x

-- a sum, if it has 64 bits
abbrev pub summed : ℤ → Attempt
summed z = if fits_64 z then Done (v.Int z) else failed_with (codes "arith")

-- `add`: the sum of two ints
abbrev pub added : List Value → Attempt
added (v.Int a ∷ v.Int b ∷ []) = summed (a +ℤ b)
added _ = bad_arguments

-- `flaky`: two attempts fail, and then the first argument
abbrev pub flaked : ℕ → List Value → Attempt
flaked attempt [] = bad_arguments
flaked attempt (x ∷ xs) = if nat_lt attempt 3 then failed_with (codes "flaky") else Done x
