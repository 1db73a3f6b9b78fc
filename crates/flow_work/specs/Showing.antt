-- The line that says what is left.
use Rattle.std.specs.Prelude.{ℕ, List, [], ◌++◌, ◌-◌, ◌/◌, codes, decimal, Option, Some, None}
use Rattle.flow_hub.specs.declared.known.BoardSummary.{BoardSummary}

-- in how many whole seconds something is due
abbrev pub pause_text : ℕ → ℕ → List ℕ
pause_text due now = codes ", next in " ++ (decimal ((due - now) / 1_000) ++ codes " s")

abbrev pub next_text : Option ℕ → ℕ → List ℕ
next_text (Some due) now = pause_text due now
next_text None now = []

-- how many runs are open, how many tasks are with workers, and when more is to be done
abbrev pub progress_text : BoardSummary → ℕ → ℕ → List ℕ
progress_text o running now = codes "runs open: " ++ (decimal o.open_runs ++ (codes ", tasks running: " ++ (decimal running ++ next_text o.due now)))
