-- Which command fires what is due.
use Rattle.std.specs.Prelude.{ℕ, Option, Some, None, nat_le, if◌then◌else◌}
use Rattle.flow_base.specs.declared.command.Command.{Command}
use Rattle.flow_base.specs.declared.command.Command.TheVariants.{Tick}

-- A tick at this moment, where a timer is due and not later than now.
abbrev pub due_tick : Option ℕ → ℕ → Option Command
due_tick None now = None
due_tick (Some due) now = if nat_le due now then Some (Tick now) else None
