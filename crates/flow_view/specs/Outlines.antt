-- How a run stands: all that is told of it without its events.
use Rattle.std.specs.Prelude.{ℕ, List, Option, Some, None}
use Rattle.flow_base.specs.declared.book.Run.{Run}
use Rattle.flow_model.specs.Book.{nth}
use Rattle.flow_model.specs.Open.{state_of, timers_left}
use Rattle.flow_view.specs.Heads.{head_of}
use Rattle.flow_view.specs.declared.outline.Outline.{Outline}

abbrev pub outline_of : Run → Outline
outline_of r = record { head = head_of r; state = state_of r.history; timers = timers_left r.history }

abbrev pub outline_if : Option Run → Option Outline
outline_if None = None
outline_if (Some r) = Some (outline_of r)

-- how the run of a number stands
abbrev pub outline_at : List Run → ℕ → Option Outline
outline_at rs n = outline_if (nth rs n)
