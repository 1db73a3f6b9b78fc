-- What reads the right operand of an operator, beside the production that makes it.
use Rattle.std.proofs.Common.{◌≡◌, ◌+◌, refl}
use Rattle.flow_base.specs.declared.syntax.Binary.{Binary}
use Rattle.flow_base.specs.declared.syntax.Binary.TheVariants as binary
use Rattle.flow_syntax.specs.Print.{binary_level, right_level}

pub next_production : (op : Binary) → binary_level op + 1 ≡ right_level op
next_production binary.Or = refl
next_production binary.And = refl
next_production binary.Equal = refl
next_production binary.Differ = refl
next_production binary.Less = refl
next_production binary.AtMost = refl
next_production binary.Greater = refl
next_production binary.AtLeast = refl
next_production binary.Add = refl
next_production binary.Subtract = refl
next_production binary.Join = refl
next_production binary.Multiply = refl
next_production binary.Divide = refl
next_production binary.Remain = refl
