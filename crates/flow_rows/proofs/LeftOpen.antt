-- Timers and tasks that don't differ are rows of what is left open.
use Rattle.std.proofs.Common.{◌≡◌, ℕ, ℤ, pos, negsuc, List, [], ◌∷◌, map, Bool, true, false, ◌&&◌, Some, None, refl, sym, ap, ◌∙◌}
use Rattle.std.specs.Prelude.{int_le}
use Rattle.std.specs.List.{AllByRecursion}
use Rattle.std.specs.Ordering.{int_eq}
use Rattle.std.proofs.lemmas.Bool.{leb-true}
use Rattle.std.proofs.lemmas.Bool.Decides.{Decides-int_eq}
use Rattle.flow_base.specs.Limits.{Within, IsMoment}
use Rattle.flow_base.specs.declared.event.Event.{Event}
use Rattle.flow_base.specs.declared.book.OpenActivity.{OpenActivity}
use Rattle.flow_base.specs.declared.book.Timer.{Timer}
use Rattle.flow_rows.specs.declared.rows.TimerRow.{TimerRow}
use Rattle.flow_rows.specs.declared.rows.OutboxRow.{OutboxRow}
use Rattle.flow_rows.specs.Rows.{timers_of, tasks_of, timer_row, task_row}
use Rattle.flow_rows.specs.Damages.{timer_fits, timer_difference, tries_at, last_moment, attempt_fits, task_fits, task_difference}
use Rattle.flow_rows.specs.Standing.{AreTasks}
use Rattle.flow_rows.specs.Told.{whole, task_of}
use Rattle.flow_rows.proofs.BookTexts.{both_left, both_right}

timer_named : (run : ℤ) (r : TimerRow) (rs : List TimerRow) (b : Bool) → int_eq r.run run ≡ b → AllByRecursion (λ r. r.run ≡ run) (timers_of rs run)
    → AllByRecursion (λ r. r.run ≡ run) (timers_of (r ∷ rs) run)
timer_named run r rs true is more = rw is ((Decides-int_eq r.run run).0 is, more)
timer_named run r rs false is more = rw is more

pub timers_named : (run : ℤ) (rs : List TimerRow) → AllByRecursion (λ r. r.run ≡ run) (timers_of rs run)
timers_named run [] = tt
timers_named run (r ∷ rs) = timer_named run r rs (int_eq r.run run) refl (timers_named run rs)

task_named : (run : ℤ) (r : OutboxRow) (rs : List OutboxRow) (b : Bool) → int_eq r.run run ≡ b → AllByRecursion (λ r. r.run ≡ run) (tasks_of rs run)
    → AllByRecursion (λ r. r.run ≡ run) (tasks_of (r ∷ rs) run)
task_named run r rs true is more = rw is ((Decides-int_eq r.run run).0 is, more)
task_named run r rs false is more = rw is more

pub tasks_named : (run : ℤ) (rs : List OutboxRow) → AllByRecursion (λ r. r.run ≡ run) (tasks_of rs run)
tasks_named run [] = tt
tasks_named run (r ∷ rs) = task_named run r rs (int_eq r.run run) refl (tasks_named run rs)

a_difference : (id : ℤ) → Some id ≡ None → ⊥
a_difference id h = let same = h in cc

abbrev timer_cells : ℤ → ℤ → ℤ → TimerRow
timer_cells run id due = record { run = run; id = id; due = due }

timer_is : (run : ℤ) (r : TimerRow) (t : Timer) → r.run ≡ run → timer_fits r t ≡ true → r ≡ timer_row run t
timer_is run r t named fits =
    ap (λ z. timer_cells z r.id r.due) named
    ∙ ap (λ z. timer_cells run z r.due) ((Decides-int_eq r.id (pos t.id)).0 (both_left _ (int_eq r.due (pos t.due)) fits))
    ∙ ap (λ z. timer_cells run (pos t.id) z) ((Decides-int_eq r.due (pos t.due)).0 (both_right (int_eq r.id (pos t.id)) _ fits))

-- a first timer that fits, and others that don't differ
timer_step : (rs : List TimerRow) (ts : List Timer) (r : TimerRow) (t : Timer) (b : Bool) → timer_fits r t ≡ b → timer_difference (r ∷ rs) (t ∷ ts) ≡ None
    → (timer_fits r t ≡ true) × (timer_difference rs ts ≡ None)
timer_step rs ts r t true is none = (is, rw is at none)
timer_step rs ts r t false is none = absurd (a_difference _ (rw is at none))

pub timers_are : (run : ℤ) (rs : List TimerRow) (ts : List Timer) → AllByRecursion (λ r. r.run ≡ run) rs → timer_difference rs ts ≡ None → rs ≡ map (timer_row run) ts
timers_are run [] [] names none = refl
timers_are run [] (t ∷ ts) names none = absurd (a_difference (pos t.id) none)
timers_are run (r ∷ rs) [] names none = absurd (a_difference r.id none)
timers_are run (r ∷ rs) (t ∷ ts) names none =
    let step = timer_step rs ts r t (timer_fits r t) refl none in
    ap (λ x. x ∷ rs) (timer_is run r t names.0 step.0) ∙ ap (λ xs. timer_row run t ∷ xs) (timers_are run rs ts names.1 step.1)

-- a number in a range is whole
pub in_range : (low high : ℕ) (z : ℤ) → int_le (pos low) z ≡ true → int_le z (pos high) ≡ true → (pos (whole z) ≡ z) × Within low high (whole z)
in_range low high (pos n) least most = (refl, (leb-true low n least, leb-true n high most))
in_range low high (negsuc n) least most = absurd (let same = least in cc)

record IsTask (h : List Event) (run : ℤ) (r : OutboxRow) (a : OpenActivity) : Type 0 where
  same : task_row run (task_of r) ≡ r
  event : (task_of r).event ≡ a.event
  attempt : Within 1 (tries_at h a.event) (task_of r).attempt
  ready : IsMoment (task_of r).ready

abbrev task_cells : ℤ → ℤ → ℤ → ℤ → OutboxRow
task_cells run id attempt ready = record { run = run; id = id; attempt = attempt; ready = ready }

task_is : (h : List Event) (run : ℤ) (r : OutboxRow) (a : OpenActivity) → r.run ≡ run → task_fits h r a ≡ true → IsTask h run r a
task_is h run r a named fits =
    let id : r.id ≡ pos a.event = (Decides-int_eq r.id (pos a.event)).0 (both_left _ (attempt_fits (tries_at h a.event) r) fits) in
    let cells = both_right (int_eq r.id (pos a.event)) _ fits in
    let most_ready = both_right (int_le (pos 1) r.attempt && int_le r.attempt (pos (tries_at h a.event)) && int_le (pos 0) r.ready) (int_le r.ready last_moment) cells in
    let three = both_left (int_le (pos 1) r.attempt && int_le r.attempt (pos (tries_at h a.event)) && int_le (pos 0) r.ready) (int_le r.ready last_moment) cells in
    let least_ready = both_right (int_le (pos 1) r.attempt && int_le r.attempt (pos (tries_at h a.event))) (int_le (pos 0) r.ready) three in
    let two = both_left (int_le (pos 1) r.attempt && int_le r.attempt (pos (tries_at h a.event))) (int_le (pos 0) r.ready) three in
    let attempt = in_range 1 (tries_at h a.event) r.attempt (both_left _ (int_le r.attempt (pos (tries_at h a.event))) two) (both_right (int_le (pos 1) r.attempt) _ two) in
    let ready = in_range 0 1000000000000000 r.ready least_ready most_ready in
    let event : whole r.id ≡ a.event = ap whole id in
    record {
      same =
          ap (λ n. task_cells run (pos n) (pos (whole r.attempt)) (pos (whole r.ready))) event
          ∙ ap (λ z. task_cells run z (pos (whole r.attempt)) (pos (whole r.ready))) (sym id)
          ∙ ap (λ z. task_cells run r.id z (pos (whole r.ready))) attempt.0
          ∙ ap (λ z. task_cells run r.id r.attempt z) ready.0
          ∙ ap (λ z. task_cells z r.id r.attempt r.ready) (sym named);
      event = event;
      attempt = attempt.1;
      ready = ready.1;
    }

task_step : (h : List Event) (rs : List OutboxRow) (others : List OpenActivity) (r : OutboxRow) (a : OpenActivity) (b : Bool) → task_fits h r a ≡ b → task_difference h (r ∷ rs) (a ∷ others) ≡ None
    → (task_fits h r a ≡ true) × (task_difference h rs others ≡ None)
task_step h rs others r a true is none = (is, rw is at none)
task_step h rs others r a false is none = absurd (a_difference _ (rw is at none))

pub tasks_are : (h : List Event) (run : ℤ) (rs : List OutboxRow) (others : List OpenActivity) → AllByRecursion (λ r. r.run ≡ run) rs → task_difference h rs others ≡ None
    → (map (task_row run) (map task_of rs) ≡ rs) × AreTasks h (map task_of rs) others
tasks_are h run [] [] names none = (refl, tt)
tasks_are h run [] (a ∷ others) names none = absurd (a_difference (pos a.event) none)
tasks_are h run (r ∷ rs) [] names none = absurd (a_difference r.id none)
tasks_are h run (r ∷ rs) (a ∷ others) names none =
    let step = task_step h rs others r a (task_fits h r a) refl none in
    let one = task_is h run r a names.0 step.0 in
    let more = tasks_are h run rs others names.1 step.1 in
    (ap (λ x. x ∷ map (task_row run) (map task_of rs)) one.same ∙ ap (λ xs. r ∷ xs) more.0, (one.event, one.attempt, one.ready, more.1))
