use Rattle.std.proofs.Common.{[], ◌∷◌, refl, sym, subst, rules}
use Rattle.flow_base.specs.declared.code.Code.TheVariants as code
use Rattle.flow_base.specs.Syntax.{Bytes}
use Rattle.flow_model.specs.WellFormed.{named, patches}
use Rattle.flow_check.specs.Tables.{Declares}
use Rattle.flow_check.proofs.Declaring.{Adds, adds, declares_patch}
use Rattle.flow_check.proofs.names.Names.patch.Goals as goal

pub returns : goal.returns
returns c =
    let name = c.as_str.result.now in
    subst (λ (x : Bytes). Declares c.args.self.now c.args.found.now (named patches c.args.at x ∷ []) c.declares.new.self c.declares.new.found) c.as_str.ensures.text
    (declares_patch c.args.self.now c.declares.new.self c.args.found.now c.declares.new.found c.args.at name c.in_ok-is_new.is_new code.PatchTwice c.declares.ensures.count c.declares.ensures.noted refl
    (search rules)
    (subst (λ n. Adds c.args.self.now.patches name n) (sym c.declares.ensures.patches) (adds c.args.self.now.patches c.insert.new.self name c.in_ok-is_new.ensures.updates))
    c.declares.ensures.variables c.declares.ensures.activities c.declares.ensures.signals)
