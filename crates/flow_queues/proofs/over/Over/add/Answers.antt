use Rattle.std.proofs.Common.{rules, ℕ, List, [], ◌∷◌, ◌++◌, subst, sym}
use Rattle.flow_queues.specs.Over.{AreStretches}
use Rattle.flow_queues.proofs.over.Over.add.Goals as goal

pub invariant_of-self : goal.invariant_of-self
invariant_of-self c = c.in-Err.ensures.refused c.self.inside.runs c.self.invariant

pub invariant_of-self-2 : goal.invariant_of-self-2
invariant_of-self-2 c =
    let runs = c.self.inside.runs in
    rw (c.longer.ensures) (subst (λ (n : ℕ). AreStretches c.cover.new.firsts c.cover.new.ends (runs ++ n ∷ [])) c.get.ensures.value (c.in_default.ensures.covered runs c.self.invariant))
