-- What has no type: rows of `HasKind`.
use Rattle.std.proofs.Common.{◌≡◌, ℕ, ℤ, Some, None, sym, ◌∙◌}
use Rattle.flow_base.specs.Syntax.{Bytes, Number, Literal, Variable, Apply, Combine}
use Rattle.flow_base.specs.declared.value.Value.{Value}
use Rattle.flow_base.specs.declared.value.Kind.{Kind}
use Rattle.flow_base.specs.declared.value.Kind.TheVariants.{Int, Text}
use Rattle.flow_base.specs.declared.syntax.Unary.TheVariants.{Negate}
use Rattle.flow_base.specs.declared.syntax.Binary.TheVariants.{Equal}
use Rattle.flow_model.specs.Values.{Variables, none_set}
use Rattle.flow_check.specs.Typed.{HasKind}

none_is_some : (v : Value) → None ≡ Some v → ⊥
none_is_some v e = cc

two_kinds : Int ≡ Text → ⊥
two_kinds e = cc

-- a missing variable
missing : (at : ℕ) (x : Bytes) (k : Kind) → HasKind none_set (Variable at x) k → ⊥
missing at x k h = none_is_some h.0 h.1.0

-- - "t"
negated_text : (vars : Variables) (at : ℕ) (t : Bytes) (k : Kind) → HasKind vars (Apply at Negate (Literal at t)) k → ⊥
negated_text vars at t k h = two_kinds h.0

-- 1 == "t"
compared : (vars : Variables) (at : ℕ) (z : ℤ) (t : Bytes) (k : Kind) → HasKind vars (Combine Equal (Number at z) (Literal at t)) k → ⊥
compared vars at z t k h = two_kinds (sym h.0.1.0 ∙ h.0.1.1)
