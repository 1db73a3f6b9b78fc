use Rattle.flow_maps.proofs.Names.{refl, subst, sym, Leads}
use Rattle.flow_maps.proofs.undo.Journal.take.Goals as goal

pub returns-clause-anew : goal.returns-clause-anew
returns-clause-anew c b = subst (λ us. Leads us b b) (sym c.new.ensures.items) refl
