-- A list that takes no memory where it is empty.
use Rattle.std.specs.Prelude.{List, [], Option, None, Some}

-- what it holds: nothing, or the list that this gives
abbrev pub held : {X A : Type 0} → Option X → (X → List A) → List A
held None items = []
held (Some x) items = items x
