-- What changes of a run beside its turns: the text that it goes on under, and the attempt at an activity.
use Rattle.std.specs.Prelude.{◌≡◌, ◌∷◌, ◌&&◌, nat_eq}
use Rattle.std.proofs.Common.{eqb-true}
use Rattle.std.proofs.lemmas.Bool.{and_parts}
use Rattle.flow_tables.proofs.Names.{Book, Tells, OpenActivity, task_row, with_task, without_task, is_other_task, Tables, OutboxRow, State, AllByRecursion, List, Option, false, filter, int_eq, pos, true, ℕ, ℤ, [], refl, Result, Some, None, Changes, IsStill, tables_in, HasTables, nth, Run, subst, ◌∙◌, sym, ap, inl, inr, true≢false}
use Rattle.flow_tables.proofs.Names.{OrCut, list_any, cases_Bool, Decides-int_eq, HasRun, IsWelcomeTask}
use Rattle.flow_rows.specs.Changes.{with_task_in_place}
use Rattle.flow_rows.proofs.Behind.{run_there, no_rows_yet}
use Rattle.flow_sql.proofs.InPlace.{task_in_place, no_task_in_place}
use Rattle.flow_tables.specs.Known.{HasOnly, OfRun, is_only, is_single}
use Rattle.flow_tables.specs.Puts.{is_task_at, has_task}
use Rattle.flow_tables.specs.declared.known.KnownRun.{KnownRun}
use Rattle.flow_tables.specs.declared.known.OpenTasks.{OpenTasks}
use Rattle.flow_tables.specs.declared.known.OpenTasks.TheVariants as tasks
use Rattle.flow_tables.proofs.Parts.{behind_put, still_changes}
use Rattle.flow_tables.proofs.Wholes.{still_then}

---- An activity goes, and comes again

no_other : (id : ℤ) (rows : List OutboxRow) → AllByRecursion (λ (x : OutboxRow). int_eq x.id id ≡ false) (filter (is_other_task id) rows)
no_other id [] = tt
no_other id (x ∷ rows) = elim (cases_Bool (int_eq x.id id)) [
  | inl same ↦ rw same (no_other id rows)
  | inr other ↦ rw other (other, no_other id rows)
]

left_new : (run id : ℤ) (t : Tables) → AllByRecursion (λ (x : OutboxRow). int_eq x.id id ≡ false) ((without_task run id t).outbox run)
left_new run id t = let here : int_eq run run ≡ true = (Decides-int_eq run run).1 refl in rw here (no_other id (t.outbox run))

-- its row is new once it has gone
pub comes_again : (run : ℤ) (task : OpenActivity) (row : OutboxRow) (t u : Tables) → row ≡ task_row run task → u ≡ without_task run (pos task.event) t → HasRun run t → IsWelcomeTask row u
comes_again run task row t u is left has =
    subst (λ x. IsWelcomeTask x u) (sym is) (subst (λ v. IsWelcomeTask (task_row run task) v) (sym left) (record { parent = has; fresh = left_new run (pos task.event) t }))

---- An activity that is looked for

-- the run of an activity is there
pub run_of_task : (t : Tables) (b : Book) (n : ℕ) (id : ℤ) → Tells t b → true ≡ has_task (pos n) id t → HasRun (pos n) t
run_of_task t b n id tells there = by_run (nth b.runs n) refl
  where
    by_run : (o : Option Run) → nth b.runs n ≡ o → HasRun (pos n) t
    by_run (Some r) is = run_there t b n r tells is
    by_run None is = absurd (true≢false (there ∙ ap (λ rows. list_any (is_task_at id) rows) (no_rows_yet t b n tells is).2))

-- one that is known to be its run's only one is there
single_by : (k : OpenTasks) (n run event : ℕ) (t : Tables) → (nat_eq n run && is_only k event) ≡ true → HasOnly k (t.outbox (pos n)) → true ≡ has_task (pos run) (pos event) t
single_by (tasks.Single only) n run event t is has =
    let both = and_parts (nat_eq n run) (nat_eq only event) is in
    let here : list_any (is_task_at (pos only)) (t.outbox (pos run)) ≡ true = subst (λ z. list_any (is_task_at (pos only)) (t.outbox (pos z)) ≡ true) (eqb-true n run both.0) has.1 in
    sym (subst (λ z. list_any (is_task_at (pos z)) (t.outbox (pos run)) ≡ true) (eqb-true only event both.1) here)
single_by tasks.Gone n run event t is has = absurd (true≢false (sym (and_parts (nat_eq n run) false is).1))
single_by tasks.Unsure n run event t is has = absurd (true≢false (sym (and_parts (nat_eq n run) false is).1))

pub single_there : (o : Option KnownRun) (run event : ℕ) (t : Tables) → is_single o run event ≡ true → OfRun o t → true ≡ has_task (pos run) (pos event) t
single_there None run event t is known = absurd (true≢false (sym is))
single_there (Some k) run event t is known = single_by k.standing.tasks k.number run event t is known.stands.tasks

-- nothing changes where it isn't there
pub no_task_set : (old mid : State) (run : ℤ) (task : OpenActivity) → IsStill true old mid → false ≡ has_task run (pos task.event) (tables_in old.now) → Changes old mid (with_task_in_place (task_row run task) (tables_in old.now))
no_task_set old mid run task still none = subst (Changes old mid) (sym (no_task_in_place (tables_in old.now) (task_row run task) (sym none))) (still_changes old mid still)

-- and where it is there, its row is in its place
pub task_set : {E : Type 0} (old mid new : State) (run : ℤ) (task : OpenActivity) (r : Result Unit E) → HasTables old.now → IsStill true old mid → true ≡ has_task run (pos task.event) (tables_in old.now)
    → OrCut mid new r (Changes mid new (with_task (task_row run task) (without_task run (pos task.event) (tables_in mid.now)))) → OrCut old new r (Unit {0} × Changes old new (with_task_in_place (task_row run task) (tables_in old.now)))
task_set old mid new run task r has still there = behind_put old mid new _ r (still_changes old mid still) (λ done.
    let whole = still_then old mid new (λ t. with_task (task_row run task) (without_task run (pos task.event) t)) still done in
    (tt, subst (Changes old new) (task_in_place old.now has (task_row run task) (sym there)) whole))
