-- Which changes rows take: at most 256 arguments, 1 to 20 attempts, a pause of at most a day, and no second start of a run.
use Rattle.std.specs.Prelude.{◌≡◌, ◌≤◌, false, All}
use Rattle.flow_base.specs.declared.book.Turn.{Turn}
use Rattle.flow_base.specs.declared.book.Change.{Change}
use Rattle.flow_base.specs.declared.book.Change.TheVariants.{AddText, AddRun, AddTurn, SetAttempt, SetText}
use Rattle.flow_base.specs.declared.command.Command.{Command}
use Rattle.flow_events.specs.Row.{IsInputWithinLimits, IsCommandWithinLimits}
use Rattle.flow_model.specs.Turn.{is_started}
use Rattle.flow_model.specs.Book.{Book}
use Rattle.flow_model.specs.Apply.{Rules, outcome}
use Rattle.flow_model.specs.Sound.{IsSound}
use Rattle.flow_machine.specs.Soundness.{ReadsWellFormed}

abbrev pub IsTurnWithinLimits : Turn → Type 0
IsTurnWithinLimits t = IsInputWithinLimits t.input × All IsCommandWithinLimits t.commands

abbrev pub IsChangeWithinLimits : Change → Type 0
IsChangeWithinLimits (AddText body) = Unit {0}
IsChangeWithinLimits (AddRun flow request text t) = IsTurnWithinLimits t
IsChangeWithinLimits (AddTurn n t) = IsTurnWithinLimits t × (is_started t.input ≡ false)
IsChangeWithinLimits (SetAttempt n event attempt ready) = (1 ≤ attempt) × (attempt ≤ 20)
IsChangeWithinLimits (SetText n text) = Unit {0}

-- Each change that a command makes of a sound book is such a one.
abbrev pub ChangesWithinLimits : Type 0
ChangesWithinLimits = (u : Rules) (b : Book) (c : Command) → ReadsWellFormed u → IsSound u b → All IsChangeWithinLimits (outcome u b c).changes
