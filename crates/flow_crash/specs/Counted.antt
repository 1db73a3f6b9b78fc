-- What counts calls shows.
use Rattle.std.specs.Prelude.{ℕ}
use Rattle.flow_crash.specs.declared.counting.Counting.{Counting}

-- the number of the last call
abbrev pub last_of : Counting → ℕ
last_of r = r.last
