-- What a text that is being read will give.
use Rattle.std.specs.Prelude.{Option, Some, None, ◌++◌}
use Rattle.flow_base.specs.Syntax.{Bytes}

-- the value so far, before what is found behind it
abbrev pub goes_on : Bytes → Option (Bytes × Bytes) → Option (Bytes × Bytes)
goes_on value None = None
goes_on value (Some found) = Some (value ++ found.0, found.1)
