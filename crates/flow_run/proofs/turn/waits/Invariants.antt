use Rattle.std.proofs.Common.{◌≡◌, take}
use Rattle.flow_run.specs.Waiting.{waits_in_all}
use Rattle.flow_run.proofs.turn.waits.Given as goal

abbrev pub invariant-loop-c : goal.invariant-loop-c
invariant-loop-c l = l.list.items ≡ waits_in_all (take l.c-index l.cells)
