-- What is told of open runs, by their numbers.
use Rattle.std.specs.Prelude.{◌⊎◌, ◌++◌, ℕ, List, [], ◌∷◌, length, Option, Some, None}
use Rattle.flow_base.specs.Syntax.{Bytes}
use Rattle.flow_base.specs.declared.book.Run.{Run}
use Rattle.flow_base.specs.declared.command.OpenRun.{OpenRun}
use Rattle.flow_model.specs.Book.{Book, nth}
use Rattle.flow_model.specs.Open.{timers_left, moment_of}
use Rattle.flow_model.specs.Apply.{named_tasks, open_run_told}
use Rattle.flow_run.specs.declared.waits.OpenWait.{OpenWait}
use Rattle.flow_run.specs.declared.waits.OpenWait.TheVariants as wait
use Rattle.flow_machine.specs.Reached.{Meaning}
use Rattle.flow_machine.specs.Stuck.{needs, StuckTold}

-- the signal that a wait is for, before others
abbrev pub with_signal : OpenWait → List Bytes → List Bytes
with_signal (wait.Activity n x k) ss = ss
with_signal (wait.Timer n) ss = ss
with_signal (wait.Signal x s) ss = s ∷ ss
with_signal (wait.SignalFor x s n) ss = s ∷ ss

-- The signals among waits.
abbrev pub signals_in : List OpenWait → List Bytes
signals_in [] = []
signals_in (w ∷ ws) = with_signal w (signals_in ws)

-- a run that waits for these signals, told
abbrev pub told_with : ℕ → Run → List Bytes → OpenRun
told_with n r waits =
    record {
      run = n;
      flow = r.flow;
      text = r.text;
      events = length r.history;
      at = moment_of r.history;
      activities = named_tasks r.history r.tasks;
      timers = timers_left r.history;
      waits = waits;
    }

abbrev pub told_if : Meaning → Book → ℕ → Option Run → List OpenRun
told_if m b n None = []
told_if m b n (Some r) = open_run_told m b (n, r) ∷ []

-- the run of a number, told, if there is one
abbrev pub told_at : Meaning → Book → ℕ → List OpenRun
told_at m b n = told_if m b n (nth b.runs n)

-- The runs of several numbers, told.
abbrev pub told_in : Meaning → Book → List ℕ → List OpenRun
told_in m b [] = []
told_in m b (n ∷ ns) = told_at m b n ++ told_in m b ns

-- the run of a number can't be told
abbrev pub StuckAt : Meaning → Book → ℕ → Type 0
StuckAt m b n = needs (nth b.runs n) (StuckTold m b)

-- One of several can't.
abbrev pub StuckIn : Meaning → Book → List ℕ → Type 0
StuckIn m b [] = ⊥
StuckIn m b (n ∷ ns) = StuckAt m b n ⊎ StuckIn m b ns
