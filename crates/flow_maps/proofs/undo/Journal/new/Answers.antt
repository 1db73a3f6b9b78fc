use Rattle.flow_maps.proofs.Names.{refl, subst, sym, Leads}
use Rattle.flow_maps.proofs.undo.Journal.new.Goals as goal

pub returns : goal.returns
returns c b = subst (λ us. Leads us b b) (sym c.new.ensures.items) refl
