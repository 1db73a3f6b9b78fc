use Rattle.std.specs.Prelude.{◌≡◌}
use Rattle.flow_maps.proofs.Names.{[], rules, subst, sym, nil_from_length, Book, Serves, Leads}
use Rattle.flow_maps.proofs.Undone.{leads_last}
use Rattle.flow_maps.proofs.maps.Maps.take_all_back.Goals as goal

pub loop-undo-init : goal.loop-undo-init
loop-undo-init c b d leads h = (d, leads, h)

pub loop-undo-preserved : goal.loop-undo-preserved
loop-undo-preserved c b d leads h =
    let was = c.loop-undo.invariant b d leads h in
    let last = leads_last c.pop.new.self.items c.in-Some.undo b was.0 (subst (λ us. Leads us b was.0) c.in-Some.ensures.items was.1) in
    (last.0, last.1, c.take_back.ensures last.0 was.0 last.2 was.2)

pub returns : goal.returns
returns c b d leads h =
    let was = c.loop-undo.invariant b d leads h in
    let empty : c.loop-undo.steps.items ≡ [] = nil_from_length _ (search rules) in
    let same = subst (λ us. Leads us b was.0) empty was.1 in
    subst (λ (x : Book). Serves c.loop-undo.self x) (sym same) was.2
