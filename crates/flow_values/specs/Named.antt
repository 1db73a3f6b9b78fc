-- Lists of names with what they have.
use Rattle.std.specs.Prelude.{◌≡◌, ℕ, ◌<◌, List, [], ◌∷◌, ◌++◌, Option, Some, None, bytes_eq, if◌then◌else◌, length, slice_set, slice_index_or, remove}
use Rattle.flow_base.specs.Syntax.{Bytes}
use Rattle.flow_base.specs.declared.value.Value.{Value}
use Rattle.flow_model.specs.Step.{oldest, without_oldest}

-- what a name has in a list of names, the first that stands
abbrev pub look_up : {A : Type 0} → List (Bytes × A) → Bytes → Option A
look_up [] name = None
look_up (e ∷ es) name = if bytes_eq name e.0 then Some e.1 else look_up es name

-- a name gets a value: in its place, or behind all others
abbrev pub put : Bytes → Value → List (Bytes × Value) → List (Bytes × Value)
put name v [] = (name, v) ∷ []
put name v (e ∷ es) = if bytes_eq e.0 name then (e.0, v) ∷ es else e ∷ put name v es

-- where a new value of a name goes
abbrev pub IsPlace : List (Bytes × Value) → Bytes → Option ℕ → Type 0
IsPlace es name None = (v : Value) → put name v es ≡ es ++ (name, v) ∷ []
IsPlace es name (Some i) = (i < length es) × ((v : Value) (d : Bytes × Value) → put name v es ≡ slice_set es i ((slice_index_or es i d).0, v))

-- where the first entry of a name stands
abbrev pub IsOldest : List (Bytes × Value) → Bytes → Option ℕ → Type 0
IsOldest es name None = (oldest name es ≡ None) × (without_oldest name es ≡ es)
IsOldest es name (Some i) =
    (i < length es) × (((d : Bytes × Value) → oldest name es ≡ Some (slice_index_or es i d).1) × (without_oldest name es ≡ remove es i))
