-- What a turn makes of a run's head and of its timers.
use Rattle.std.specs.Prelude.{◌≡◌, ◌+◌, ◌∷◌, ◌++◌}
use Rattle.flow_maps.proofs.Names.{suc, List, [], ℕ, length, refl, sym, ap, ◌∙◌, arith, length-append, Cmd, Event, Run, Timer, Turn, with_turn, moment_after, open_timers, timers_after, timers_after_one, traces, turn_events, head_of, events_behind, tasks_behind, timers_behind, head_behind}
use Rattle.flow_model.specs.Open.{moment_of}
use Rattle.flow_maps.proofs.Serving.{turn_open}

traces_long : (n at : ℕ) (cs : List Cmd) → length (traces n at cs) ≡ length cs
traces_long n at [] = refl
traces_long n at (c ∷ cs) = ap suc (traces_long (n + 1) at cs)

moment_on : (at : ℕ) (h es : List Event) → moment_after at (h ++ es) ≡ moment_after (moment_after at h) es
moment_on at [] es = refl
moment_on at (e ∷ h) es = moment_on e.at h es

traces_moment : (n at : ℕ) (cs : List Cmd) → moment_after at (traces n at cs) ≡ at
traces_moment n at [] = refl
traces_moment n at (c ∷ cs) = traces_moment (n + 1) at cs

turn_count : (t : Turn) (r : Run) → length (with_turn t r).history ≡ length r.history + 1 + length t.commands
turn_count t r =
    let n = length r.history + 1 in
    let whole = length-append r.history (turn_events n t.at t.input t.commands) in
    let more = traces_long (n + 1) t.at t.commands in
    omega (arith, whole, more)

turn_moment : (t : Turn) (r : Run) → moment_of (with_turn t r).history ≡ t.at
turn_moment t r = moment_on 0 r.history (turn_events (length r.history + 1) t.at t.input t.commands) ∙ traces_moment (length r.history + 1 + 1) t.at t.commands

pub turned : (t : Turn) (r : Run) → head_of (with_turn t r) ≡ head_behind t (head_of r)
turned t r = λ i. record {
  flow = r.flow;
  request = r.request;
  text = r.text;
  events = turn_count t r i;
  moment = turn_moment t r i;
  is_open = turn_open t r i;
  tasks = tasks_behind (length r.history) t r.tasks;
}

timers_appended : (ts : List Timer) (h es : List Event) → timers_after ts (h ++ es) ≡ timers_after (timers_after ts h) es
timers_appended ts [] es = refl
timers_appended ts (e ∷ h) es = timers_appended (timers_after_one ts e) h es

pub timers_turned : (t : Turn) (r : Run) → open_timers (with_turn t r).history ≡ timers_behind (length r.history) t (open_timers r.history)
timers_turned t r = timers_appended [] r.history (events_behind (length r.history) t)
