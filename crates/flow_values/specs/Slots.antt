-- Values by the numbers of names.
use Rattle.std.specs.Prelude.{ℕ, zero, suc, List, [], ◌∷◌, Option, Some, None, bytes_eq, if◌then◌else◌}
use Rattle.flow_base.specs.Syntax.{Bytes}
use Rattle.flow_base.specs.declared.value.Value.{Value}

-- each name with the value of its number
abbrev pub slots : List Bytes → List (Option Value) → List (Bytes × Option Value)
slots [] vs = []
slots (n ∷ ns) [] = (n, None) ∷ slots ns []
slots (n ∷ ns) (v ∷ vs) = (n, v) ∷ slots ns vs

-- what a name has: that of its first number
abbrev pub slot_of : List (Bytes × Option Value) → Bytes → Option Value
slot_of [] name = None
slot_of (s ∷ ss) name = if bytes_eq name s.0 then s.1 else slot_of ss name

-- what a number has
abbrev pub value_at : List (Option Value) → ℕ → Option Value
value_at [] i = None
value_at (v ∷ vs) zero = v
value_at (v ∷ vs) (suc i) = value_at vs i

-- a number gets a value
abbrev pub written : List (Option Value) → ℕ → Value → List (Option Value)
written [] zero v = Some v ∷ []
written [] (suc i) v = None ∷ written [] i v
written (x ∷ xs) zero v = Some v ∷ xs
written (x ∷ xs) (suc i) v = x ∷ written xs i v

abbrev pub one_further : Option ℕ → Option ℕ
one_further None = None
one_further (Some i) = Some (suc i)

-- the first number of a name
abbrev pub number_of : List Bytes → Bytes → Option ℕ
number_of [] name = None
number_of (n ∷ ns) name = if bytes_eq n name then Some 0 else one_further (number_of ns name)
