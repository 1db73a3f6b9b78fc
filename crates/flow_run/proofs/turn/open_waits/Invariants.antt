use Rattle.std.proofs.Common.{◌≡◌, take}
use Rattle.std.specs.Prelude.{min}
use Rattle.flow_run.specs.Waiting.{opens_in_all}
use Rattle.flow_run.proofs.turn.open_waits.Given as goal

abbrev pub invariant-loop-c : goal.invariant-loop-c
invariant-loop-c l = l.waits ≡ min (opens_in_all (take l.c-index l.cells)) 32
