use Rattle.flow_tables.proofs.Names.{[], refl, subst, sym}
use Rattle.flow_tables.specs.Unread.{Knows}
use Rattle.flow_tables.proofs.open.blank.Goals as goal

pub returns-clause-knows : goal.returns-clause-knows
returns-clause-knows g c =
    let told = c.count_texts.ensures [] [] refl (c.begin.ensures []) in
    subst (λ b. Knows g.L.Listener.heard b c.count_texts.new.self.maps c.count_texts.new.self.listener) (sym c.none.ensures) (record { serves = told.serves; goes_back = told.goes_back; hears = told.hears })
