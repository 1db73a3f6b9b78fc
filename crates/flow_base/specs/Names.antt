-- The words that stand for a type and for a cause, one for each.
use Rattle.std.specs.Prelude.{ℕ, List, [], ◌∷◌, Option, Some, None, codes, bytes_eq, if◌then◌else◌}
use Rattle.flow_base.specs.declared.value.Kind.{Kind}
use Rattle.flow_base.specs.declared.value.Kind.TheVariants as kind
use Rattle.flow_base.specs.declared.event.Cause.{Cause}
use Rattle.flow_base.specs.declared.event.Cause.TheVariants as cause

-- the first of the list that has this name
abbrev pub first_named : {A : Type 0} → (A → List ℕ) → List A → List ℕ → Option A
first_named name [] s = None
first_named name (x ∷ xs) s = if bytes_eq s (name x) then Some x else first_named name xs s

abbrev pub kind_name : Kind → List ℕ
kind_name kind.Int = codes "int"
kind_name kind.Text = codes "text"

abbrev pub kinds : List Kind
kinds = kind.Int ∷ kind.Text ∷ []

abbrev pub kind_named : List ℕ → Option Kind
kind_named = first_named kind_name kinds

abbrev pub cause_name : Cause → List ℕ
cause_name cause.Arith = codes "Arith"
cause_name cause.TextLimit = codes "TextLimit"
cause_name cause.BadDelay = codes "BadDelay"
cause_name cause.WaitLimit = codes "WaitLimit"
cause_name cause.TurnBudget = codes "TurnBudget"
cause_name cause.ChainLimit = codes "ChainLimit"
cause_name cause.ActivityFailed = codes "ActivityFailed"
cause_name cause.UserFail = codes "UserFail"

abbrev pub causes : List Cause
causes = cause.Arith ∷ cause.TextLimit ∷ cause.BadDelay ∷ cause.WaitLimit ∷ cause.TurnBudget ∷ cause.ChainLimit ∷ cause.ActivityFailed ∷ cause.UserFail ∷ []

abbrev pub cause_named : List ℕ → Option Cause
cause_named = first_named cause_name causes
