use Rattle.std.proofs.Common.{◌∙◌}
use Rattle.flow_values.proofs.Slotted.{set_written}
use Rattle.flow_values.proofs.slots.write_in.Goals as goal

pub returns : goal.returns
returns c =
    set_written c.make_room.new.values.items c.args.i c.args.value c.in_ok-make_room.ensures.there ∙ c.in_ok-make_room.ensures.same c.args.value
