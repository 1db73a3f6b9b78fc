-- What becomes of a call by its number.
use Rattle.std.specs.Prelude.{ℕ, ◌==◌, if◌then◌else◌, nat_lt, nat_le, Option, Some, None}
use Rattle.flow_crash.specs.declared.calls.Part.{Part}
use Rattle.flow_crash.specs.declared.calls.Part.TheVariants.{Before}
use Rattle.flow_crash.specs.declared.calls.Stop.{Stop}

-- how much of the call with this number is carried out where it is refused. None: it is passed on
abbrev pub refused_by : Stop → ℕ → Option Part
refused_by stop number = if nat_lt number stop.at then None else if number == stop.at then Some stop.part else Some Before

-- the same of a call of one file, whose last call before had the first of the two numbers. Once that is the stop's or above, no
-- call gets a number more
unfoldable pub fate : Stop → ℕ → ℕ → Option Part
fate stop last number = if nat_le stop.at last then Some Before else refused_by stop number

-- the same where one call alone fails
abbrev pub failed_by : ℕ → ℕ → Option Part
failed_by at number = if number == at then Some Before else None
