use Rattle.std.specs.Prelude.{◌&&◌}
use Rattle.flow_maps.proofs.Names.{not, sym, ap, ◌∙◌, contains, slot_cmp, has_slot}
use Rattle.flow_maps.proofs.Slots.{slots_gone}
use Rattle.flow_maps.proofs.time_slots.take_out.Goals as goal

pub returns : goal.returns
returns g c f same h q =
    let before = contains slot_cmp c.args.slots.now q in
    slots_gone g.T.Dated.date f c.args.run q before (contains slot_cmp c.remove_all.new.slots q) (h q)
    (c.remove_all.ensures q ∙ ap (λ xs. before && not (has_slot g.T.Dated.date c.args.run xs q)) (sym same))
