use Rattle.flow_maps.proofs.Names.{subst, sym, IfSome, IsUndo, Leads}
use Rattle.flow_maps.proofs.Undone.{known_steps, leads_more, lost_leads}
use Rattle.flow_maps.proofs.undo.Journal.add.Goals as goal

pub returns-then-put : goal.returns-then-put
returns-then-put c k b d is h =
    let it = c.put.ensures c.if-put.true in
    subst (λ us. Leads us k d) (sym it.2) (leads_more c.in-Some.steps.items it.0 k b d (known_steps c.args.self.now c.in-Some.steps k b c.in-Some.is h) (subst (λ o. IfSome o (λ u. IsUndo u b d)) it.1 is))

pub returns : goal.returns
returns c k b d is h = lost_leads c.lose.new.self c.lose.ensures k d
