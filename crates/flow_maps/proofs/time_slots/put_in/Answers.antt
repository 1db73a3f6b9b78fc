use Rattle.flow_maps.proofs.Names.{contains, slot_cmp}
use Rattle.flow_maps.proofs.Slots.{slots_more}
use Rattle.flow_maps.proofs.time_slots.put_in.Goals as goal

pub returns : goal.returns
returns g c is f none h q =
    slots_more g.T.Dated.date f c.args.run q c.args.things.now (contains slot_cmp c.args.slots.now q) (contains slot_cmp c.insert_all.new.slots q) none (h q) (c.insert_all.ensures is q)
