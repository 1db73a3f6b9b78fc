use Rattle.flow_values.proofs.Slotted.{none_slots}
use Rattle.flow_values.proofs.slots.Slots.new.Goals as goal

pub returns : goal.returns
returns c = none_slots c.args.names.value.items
