use Rattle.std.specs.Prelude.{◌≡◌}
use Rattle.flow_maps.proofs.Names.{rules, true, ◌∙◌}
use Rattle.flow_maps.proofs.Calling.{no_calls}
use Rattle.flow_maps.proofs.calls.calls_of.Goals as goal

pub loop-task-init : goal.loop-task-init
loop-task-init c = no_calls c.make_room.new.calls.items (c.make_room.ensures ∙ c.new-calls.ensures.items) c.args.whole.now.history

pub loop-task-preserved : goal.loop-task-preserved
loop-task-preserved c = let added : c.add_read.result ≡ true = search rules in c.add_read.ensures added c.loop-task.invariant

pub returns : goal.returns
returns c = c.loop-task.invariant
