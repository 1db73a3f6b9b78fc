-- Lines that are read one after the other.
use Rattle.std.proofs.Common.{ℕ, List, [], ◌∷◌, ◌++◌, Option, refl, subst}
use Rattle.std.specs.Prelude.{IfSome}
use Rattle.std.specs.List.{AllByRecursion}
use Rattle.flow_work.specs.declared.input.InputMessage.{InputMessage}
use Rattle.flow_work.specs.Inputs.{IsNext, IsALine, Reads}

pub reads_next : (bytes mid left : Option (List ℕ)) (xs : List InputMessage) (x : InputMessage) → Reads bytes xs mid → IfSome mid (λ now. IsNext now x left) → Reads bytes (xs ++ x ∷ []) left
reads_next bytes mid left [] x is one = (left, subst (λ b. IfSome b (λ now. IsNext now x left)) is one, refl)
reads_next bytes mid left (y ∷ ys) x read one = (read.0, read.1, reads_next read.0 mid left ys x read.2 one)

pub lines_next : (xs : List InputMessage) (x : InputMessage) → AllByRecursion IsALine xs → IsALine x → AllByRecursion IsALine (xs ++ x ∷ [])
lines_next [] x all one = (one, tt)
lines_next (y ∷ ys) x all one = (all.0, lines_next ys x all.1 one)
