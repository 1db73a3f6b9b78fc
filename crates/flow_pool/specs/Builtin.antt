-- The activities that the program has.
use Rattle.std.specs.Prelude.{ℕ, List, [], ◌∷◌, codes}
use Rattle.flow_base.specs.declared.value.Value.{Value}
use Rattle.flow_pool.specs.declared.activity.Attempt.{Attempt}
use Rattle.flow_pool.specs.declared.builtin.Builtin.{Builtin}
use Rattle.flow_pool.specs.declared.builtin.Builtin.TheVariants as builtin
use Rattle.flow_pool.specs.Attempts.{echoed, added, flaked}

abbrev pub all_builtin : List Builtin
all_builtin = builtin.Echo ∷ builtin.Add ∷ builtin.Flaky ∷ []

-- what programs call it
abbrev pub builtin_name : Builtin → List ℕ
builtin_name builtin.Echo = codes "echo"
builtin_name builtin.Add = codes "add"
builtin_name builtin.Flaky = codes "flaky"

-- what comes of this attempt with these arguments
abbrev pub builtin_given : Builtin → ℕ → List Value → Attempt
builtin_given builtin.Echo attempt args = echoed args
builtin_given builtin.Add attempt args = added args
builtin_given builtin.Flaky attempt args = flaked attempt args
