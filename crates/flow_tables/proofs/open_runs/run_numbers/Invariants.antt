use Rattle.std.specs.Prelude.{◌≡◌, take, map, pos}
use Rattle.flow_tables.proofs.open_runs.run_numbers.Given as goal

-- the numbers read so far
abbrev pub invariant-loop-number : goal.invariant-loop-number
invariant-loop-number l = map pos l.list.items ≡ take l.number-index l.found
