-- A variable of a store gets a value.
use Rattle.std.proofs.Common.{◌≡◌, ℕ, List, ap, ◌∙◌, Option, Bool}
use Rattle.flow_base.specs.Syntax.{Bytes}
use Rattle.flow_base.specs.declared.value.Value.{Value}
use Rattle.flow_model.specs.Values.{Variables}
use Rattle.flow_model.specs.Step.{Store, set_in}
use Rattle.flow_values.specs.Named.{look_up, put}
use Rattle.flow_values.proofs.Lists.{same_variables}

abbrev store_with : List (Bytes × Value) → (Bytes → Option Bool) → Variables → ℕ → Store
store_with b d f n = record { variables = f; buffer = b; decided = d; tests = n }

pub set_store : (b : List (Bytes × Value)) (d : Bytes → Option Bool) (old new : List (Bytes × Value)) (n : ℕ) (name : Bytes) (v : Value) → new ≡ put name v old → store_with b d (look_up new) n ≡ set_in (store_with b d (look_up old) n) name v
set_store b d old new n name v e =
    ap (λ es. store_with b d (look_up es) n) e ∙ ap (λ (f : Variables). store_with b d f n) (same_variables name v old)
