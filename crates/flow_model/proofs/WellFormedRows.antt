-- The rules on the rows: what they say of small programs, by computation.
use Rattle.std.proofs.Common.{◌≡◌, [], ◌∷◌, Some, None, refl, pos}
use Rattle.flow_base.specs.declared.code.Code.TheVariants as code
use Rattle.flow_base.specs.Syntax.{Program, Block, End, Next, Assign, Let, Patch, Deprecate, Number, Return, Variable}
use Rattle.flow_model.specs.WellFormed.{first_fault}

abbrev program : Block → Program
program b = record { at = 9; name = 120 ∷ []; parameters = []; parameters_end = 11; declarations = []; body = b; body_end = 99 }

-- workflow x() { y = 1; }
not_visible : first_fault (program (Next (Assign 15 (121 ∷ []) (Number 19 (pos 1))) End)) ≡ Some (record { code = code.NotVisible; at = 15 })
not_visible = refl

-- workflow x() { let y = 1; return y; }
visible : first_fault (program (Next (Let 15 19 (121 ∷ []) (Number 23 (pos 1))) (Next (Return 26 (Variable 33 (121 ∷ []))) End))) ≡ None
visible = refl

-- workflow x() { let y = 1; let y = 1; }
twice : first_fault (program (Next (Let 15 19 (121 ∷ []) (Number 23 (pos 1))) (Next (Let 26 30 (121 ∷ []) (Number 34 (pos 1))) End))) ≡ Some (record { code = code.DeclaredTwice; at = 30 })
twice = refl

-- workflow x() { patch "p" { } deprecate "p"; }
deprecated_twice : first_fault (program (Next (Patch 15 21 (112 ∷ []) End 27 End 27) (Next (Deprecate 29 39 (112 ∷ [])) End))) ≡ Some (record { code = code.PatchTwice; at = 39 })
deprecated_twice = refl
