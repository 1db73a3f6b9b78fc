use Rattle.flow_maps.proofs.Names.{ℕ, Option, None, ◌∙◌, sym, subst, Bytes, IsIndex}
use Rattle.flow_maps.proofs.Planning.{same_at}
use Rattle.flow_maps.proofs.index.Index.remove_if.Goals as goal

pub returns-in-Some : goal.returns-in-Some
returns-in-Some c is f run at h = c.remove.ensures is f run (at ∙ c.in-Some.is) h

pub returns-in-None : goal.returns-in-None
returns-in-None c is f run at h = subst (λ (g : ℕ → Option Bytes). IsIndex c.args.self.now g) (λ i n. sym (same_at run None f (at ∙ c.in-None.is) n) i) h
