-- The open timers of runs.
use Rattle.std.specs.Prelude.{ℕ, List, [], Option, Some, None}
use Rattle.flow_base.specs.declared.book.Run.{Run}
use Rattle.flow_base.specs.declared.book.Timer.{Timer}
use Rattle.flow_model.specs.Book.{Book, nth}
use Rattle.flow_model.specs.Open.{timers_left}

-- what a run has, if it is there
abbrev pub of_run : {A : Type 0} → (Run → List A) → Option Run → List A
of_run f None = []
of_run f (Some r) = f r

abbrev pub timers_of : Run → List Timer
timers_of r = timers_left r.history

-- the open timers of the run of a number
abbrev pub timers_at : Book → ℕ → List Timer
timers_at b n = of_run timers_of (nth b.runs n)
