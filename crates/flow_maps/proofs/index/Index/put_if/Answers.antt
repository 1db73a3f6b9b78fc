use Rattle.flow_maps.proofs.Names.{ℕ, Option, sym, subst, Bytes, IsIndex, replaced}
use Rattle.flow_maps.proofs.Planning.{same_at}
use Rattle.flow_maps.proofs.index.Index.put_if.Goals as goal

pub returns-in-Some : goal.returns-in-Some
returns-in-Some c is f none h = subst (λ o. IsIndex c.put.new.self (replaced c.args.run o f)) (sym c.in-Some.is) (c.put.ensures is f none h)

pub returns-in-None : goal.returns-in-None
returns-in-None c is f none h =
    subst (λ o. IsIndex c.args.self.now (replaced c.args.run o f)) (sym c.in-None.is) (subst (λ (g : ℕ → Option Bytes). IsIndex c.args.self.now g) (λ i n. sym (same_at c.args.run _ f none n) i) h)
