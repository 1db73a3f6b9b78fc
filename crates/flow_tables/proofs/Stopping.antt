-- What stands behind E80, from call to call.
use Rattle.std.specs.Prelude.{◌≡◌, ◌⊎◌, ◌≢◌, ◌≤◌}
use Rattle.flow_tables.proofs.Names.{error_leaves, IsStopped, IsHindering, Because, view_fault, StopsWith, refusal_of, Fault, format_sql, no_schema, Database, Held, state, Kind, Row, Executes, HasCleanDisk, State, Survives, Error, Ghosts, IfErr, IsTrue, List, MatchResult, Option, codes, false, true, ℕ, HasCommitted, HasTables, Holds, IsOver, tables_in, Refusal, StoreFault, ViewFault, SqliteFailure, Err, Ok, [], refl, Result, OutOfMemory, QueriesRow, IsSome, FailsToQuery, subst, ◌∙◌, sym, ap, inl, inr, arith, true≢false}
use Rattle.std.proofs.lemmas.Bool.{cases_Bool}
use Rattle.flow_sql.proofs.Leaves.{left_open}
use Rattle.sqlite_disk.specs.Disk.{MoreFaults}
use Rattle.sqlite.specs.Tree.{Trees}
use Rattle.sqlite.specs.declared.error.Error.TheVariants.{QueryReturnedNoRows}
use Rattle.flow_view.specs.Reading.{Caused}
use Rattle.flow_view.specs.declared.fault.ViewFault.TheVariants as view
use Rattle.flow_sql.specs.Coming.{IsFull}
use Rattle.flow_sql.proofs.Finding.{format_refused, blank_refused}
use Rattle.flow_base.specs.declared.fault.Fault.TheVariants as fault
use Rattle.flow_tables.specs.Opening.{opening_fault, StopsMaking, StopsTables}
use Rattle.flow_sql.proofs.Transactions.{begin_refused, commit_refused, rollback_refused, rollback_fails}
use Rattle.flow_sql.proofs.Refusing.{told_since}
use Rattle.flow_sql.specs.States.{IsStoreError, TellsFailure}
use Rattle.sqlite.specs.State.{store_error}
use Rattle.sqlite_trees.specs.declared.error.StoreError.{StoreError}
use Rattle.sqlite_trees.specs.declared.error.StoreError.TheVariants as failure
use Rattle.flow_sql.specs.Stored.{HasOddText}
use Rattle.flow_tables.specs.Asking.{StopsAsk, IsQuiet, IsOfColumn}
use Rattle.flow_tables.specs.Reads.{IsReadFault}
use Rattle.flow_tables.specs.Faults.{Since, fault_of, read_refusal, told_fault, HasFailed, IsCutOff, IsKeptOut}
use Rattle.flow_tables.specs.declared.fault.StoreFault.TheVariants.{NoMemory, Refused}
use Rattle.flow_tables.proofs.Causes.{all_because}
use Rattle.flow_tables.proofs.Stops.{quiet_then}
use Rattle.std.proofs.lemmas.Result.{MatchResult-weaker}

pub since_self : (s : State) → Since s s
since_self s = (omega arith, refl)

pub since_then : (a b c : State) → Since a b → Since b c → Since a c
since_then a b c one two = (omega (arith, one.0, two.0), two.1 ∙ one.1)

-- no call forgets a failure, and none sets a limit
pub survived : (a b : State) (P : Trees → Type 0) → Survives a b P → Since a b
survived a b P h = (h.counts, h.limit)

pub more_after : (a b c : ℕ) → a ≤ b → MoreFaults b c → MoreFaults a c
more_after a b c le more = omega (arith, le, more)

module _ {S : Type 0} (g : Ghosts S) where
  pub hindering_after : (a b c : State) → Since a b → IsHindering g b c → IsHindering g a c
  hindering_after a b c since (inl more) = inl (more_after a.faults b.faults c.faults since.0 more)
  hindering_after a b c since (inr (inl limit)) = inr (inl (subst (λ (o : Option ℕ). IsSome o) since.1 limit))
  hindering_after a b c since (inr (inr (mid, later, over, full))) = inr (inr (mid, since_then a b (state g mid) since later, over, full))

  pub stopped_after : (a b c : State) → Since a b → IsStopped g b c → IsStopped g a c
  stopped_after a b c since (inl hinders) = inl (hindering_after a b c since hinders)
  stopped_after a b c since (inr odd) = inr odd

  -- statements behind others, of which the last may be refused
  module _ (a b c : Held S) (before : IsQuiet g a b) where
    pub stops_then : {A U V : Type 0} (r : Result A Refusal) → Holds true (state g a) → (U → V) → IfErr r (λ f. Because f (IsStopped g (state g b) (state g c)) U) → IfErr r (λ f. Because f (IsStopped g (state g a) (state g c)) V)
    stops_then r holds unfit h = all_because r h (stopped_after (state g a) (state g b) (state g c) (survived (state g a) (state g b) _ (before.1 holds))) unfit

    pub quiet_both : (Holds true (state g a) → Holds true (state g b)) → IsQuiet g b c → IsQuiet g a c
    quiet_both on after = (λ clean. before.0 (after.0 clean), λ holds. quiet_then (state g a) (state g b) (state g c) (before.1 holds) (after.1 (on holds)))

  -- an error of a statement, told as a refusal
  pub by_error : (a b : Held S) (U : Type 0) (f : Refusal) (e : Error) → f ≡ refusal_of e → StopsWith g a b e → Because f (IsStopped g (state g a) (state g b)) U
  by_error a b U f (SqliteFailure OutOfMemory) is h = subst (λ x. Because x (IsStopped g (state g a) (state g b)) U) (sym is) tt
  by_error a b U f e is h = subst (λ x. Because x (IsStopped g (state g a) (state g b)) U) (sym is) (h (λ same. let clash = ap refusal_of same in cc))

  ---- Reads

  module _ (old new : Held S) where
    -- one that failed by more than the want of memory
    pub read_stopped : (f : StoreFault) → StopsAsk true (state g old) (state g new) f → view_fault f ≡ view.StoreRefused → IsStopped g (state g old) (state g new)
    read_stopped (NoMemory _) h same = absurd (let clash = same in cc)
    read_stopped (Refused e) (inl (inl more)) same = inl (inl more.1)
    read_stopped (Refused e) (inl (inr limit)) same = inl (inr (inl limit))
    read_stopped (Refused e) (inr odd) same = inr (odd.0.0, subst (λ (d : Database). HasOddText (tables_in d)) (sym odd.0.1) odd.1)

    pub read_because : (f : StoreFault) (x : Refusal) (U : Type 0) → x ≡ read_refusal f → StopsAsk true (state g old) (state g new) f → Because x (IsStopped g (state g old) (state g new)) U
    read_because (NoMemory _) x U is h = subst (λ y. Because y (IsStopped g (state g old) (state g new)) U) (sym is) tt
    read_because (Refused e) x U is h = subst (λ y. Because y (IsStopped g (state g old) (state g new)) U) (sym is) (read_stopped (Refused e) h refl)

  -- a change of rows that the store's failure or a limit refused
  pub change_stopped : (old new : Held S) → IsOver true (state g old) → MoreFaults (state g old).faults (state g new).faults ⊎ (IsSome (state g old).step_limit ⊎ IsFull (state g old).now)
      → IsStopped g (state g old) (state g new)
  change_stopped old new over (inl more) = inl (inl more)
  change_stopped old new over (inr (inl limit)) = inl (inr (inl limit))
  change_stopped old new over (inr (inr full)) = inl (inr (inr (old, since_self (state g old), over, full)))

-- an error of the store, told as a fault of a read
pub fault_told : (kinds : List Kind) (sql : List ℕ) (params : Row) (old new : State) (e : Error) → FailsToQuery sql params old new e → IsReadFault kinds sql params old new (fault_of e)
fault_told kinds sql params old new (SqliteFailure OutOfMemory) h = inl (_, h)
fault_told kinds sql params old new e h = inl (λ same. let clash = ap fault_of same in cc, h)

---- Transactions

-- what refuses a BEGIN, a COMMIT or a ROLLBACK in its place: the disk, or the want of memory
module _ (sql : List ℕ) (old new : State) (e : Error) (ran : Executes sql [] old new (Err e))
    (refused : e ≢ SqliteFailure OutOfMemory → IsTrue old.is_open → MoreFaults old.faults new.faults) (f : ViewFault) (told : f ≡ told_fault (refusal_of e)) where
  cut_failed : f ≡ view.StoreRefused → HasFailed old new
  cut_failed is = elim (cases_Bool old.is_open) [
    | inl up ↦ inl (refused (λ same. let clash = sym is ∙ told ∙ ap (λ x. told_fault (refusal_of x)) same in cc) up)
    | inr shut ↦ inr (elim (cases_Bool new.is_open) [
      | inl up ↦ absurd (true≢false (sym (left_open old new (error_leaves old new sql [] e ran) up) ∙ shut))
      | inr down ↦ down
    ])
  ]

  cut_off : old.in_transaction ≡ true → IsCutOff sql old new f
  cut_off inside = record { error = e; inside = inside; refused = ran; told = told; failed = cut_failed }

-- a refused statement leaves no transaction running that didn't run
pub outside_still : (old new : State) (sql : List ℕ) (e : Error) → old.in_transaction ≡ false → Executes sql [] old new (Err e) → new.in_transaction ≡ false
outside_still old new sql e outside ran = elim (error_leaves old new sql [] e ran) [ inl same ↦ same.0.mode ∙ outside | inr back ↦ back.autocommit ]

module _ (old new : State) (e : Error) (f : ViewFault) (told : f ≡ told_fault (refusal_of e)) where
  pub commit_cut : old.in_transaction ≡ true → Executes (codes "COMMIT") [] old new (Err e) → IsCutOff (codes "COMMIT") old new f
  commit_cut inside ran = cut_off (codes "COMMIT") old new e ran (λ other up. (commit_refused old new e other up inside ran).1) f told inside

  pub rollback_cut : old.in_transaction ≡ true → Executes (codes "ROLLBACK") [] old new (Err e) → IsCutOff (codes "ROLLBACK") old new f
  rollback_cut inside ran = cut_off (codes "ROLLBACK") old new e ran (λ other up. (rollback_refused old new e other up inside ran).1) f told inside

  pub begin_kept_out : Executes (codes "BEGIN") [] old new (Err e) → Caused {A = Unit} (Err f) (IsKeptOut old new)
  begin_kept_out ran = caused_so f (λ is. elim (cases_Bool old.in_transaction) [
    | inl inside ↦ inl inside
    | inr outside ↦ inr (cut_failed (codes "BEGIN") old new e ran (λ other up. (begin_refused old new e other up outside ran).1) f told is)
  ])
    where
      caused_so : (f : ViewFault) → (f ≡ view.StoreRefused → IsKeptOut old new) → Caused {A = Unit} (Err f) (IsKeptOut old new)
      caused_so (view.NoMemory _) h = tt
      caused_so view.StoreRefused h = h refl

---- Opening

-- what is told as E81 is no failure of the store
told_otherwise : (kind : StoreError) → opening_fault (store_error kind) ≢ fault.NotOurs
told_otherwise failure.OutOfMemory is = let e = is in cc
told_otherwise _ is = let e = is in cc

pub never_told : (e : Error) → IsStoreError e → opening_fault e ≢ fault.NotOurs
never_told e (kind, same) told = told_otherwise kind (sym (ap opening_fault same) ∙ told)

-- and what can't be read isn't told as E80
misread_told : (e : Error) → IsOfColumn e → opening_fault e ≢ fault.StoreRefused
misread_told e (at, v, inl is) told = let clash = sym told ∙ ap opening_fault is in cc
misread_told e (at, v, inr (inl is)) told = let clash = sym told ∙ ap opening_fault is in cc
misread_told e (at, v, inr (inr (inl is))) told = let clash = sym told ∙ ap opening_fault is in cc
misread_told e (at, v, inr (inr (inr (inl is)))) told = let clash = sym told ∙ ap opening_fault is in cc
misread_told e (at, v, inr (inr (inr (inr is)))) told = let clash = sym told ∙ ap opening_fault is in cc

limit_before : (a b : State) → Since a b → IsSome b.step_limit → IsSome a.step_limit
limit_before a b since limit = subst (λ (o : Option ℕ). IsSome o) since.1 limit

module _ {S : Type 0} (g : Ghosts S) where
  -- the statements that make the tables, behind others and before others
  pub making_stopped : (a b c d : Held S) (e : Error) → Since (state g a) (state g b) → (state g c).faults ≤ (state g d).faults → StopsMaking g b c e → StopsMaking g a d e
  making_stopped a b c d e since le h other = elim (h other) [
    | inl fails ↦ inl (told_since e (state g a) (state g b) (state g c) (state g d) since.0 le fails)
    | inr limit ↦ inr (limit_before (state g a) (state g b) since limit)
  ]

  pub commit_stopped : (a b c : Held S) (r : Result Unit Error) → Since (state g a) (state g b) → IsTrue (state g b).is_open → (state g b).in_transaction ≡ true
      → MatchResult r (λ _. HasCommitted (state g b) (state g c)) (λ e. Executes (codes "COMMIT") [] (state g b) (state g c) (Err e)) → IfErr r (StopsMaking g a c)
  commit_stopped a b c r since up inside h = MatchResult-weaker r h (λ _ _. tt) (λ e ran. making_stopped a b c c e since (omega arith) (λ other. inl (commit_refused (state g b) (state g c) e other up inside ran)))

  ---- A fault of an opening

  -- a limit on steps may be told as either
  pub limit_told : (first new : State) (f : Fault) → IsSome first.step_limit → StopsTables g first new f
  limit_told first new fault.StoreRefused limit = inr (inr limit)
  limit_told first new fault.NotOurs limit = inl limit
  limit_told first new _ limit = tt

  -- the disk as E80 alone
  pub stop_told : (first new : State) (f : Fault) (e : Error) → f ≡ opening_fault e → (e ≢ SqliteFailure OutOfMemory → TellsFailure e first new ⊎ IsSome first.step_limit) → StopsTables g first new f
  stop_told first new fault.StoreRefused e is why = elim (why (λ same. let clash = is ∙ ap opening_fault same in cc)) [
    | inl fails ↦ inr (inl fails.1)
    | inr limit ↦ inr (inr limit)
  ]
  stop_told first new fault.NotOurs e is why = elim (why (λ same. let clash = is ∙ ap opening_fault same in cc)) [
    | inl fails ↦ absurd (never_told e fails.0 (sym is))
    | inr limit ↦ inl limit
  ]
  stop_told first new _ e is why = tt

  -- and so is an error of the store
  fails_told : (first new : State) (f : Fault) (e : Error) → f ≡ opening_fault e → IsStoreError e → StopsTables g first new fault.StoreRefused → StopsTables g first new f
  fails_told first new fault.StoreRefused e is of why = why
  fails_told first new fault.NotOurs e is of why = absurd (never_told e of (sym is))
  fails_told first new _ e is of why = tt

  -- a question to the tables that were found
  pub rows_told : (old new : Held S) (f : Fault) (e : Error) → f ≡ opening_fault e → IsOver false (state g old) → (state g old).now ≡ (state g old).committed → StopsAsk false (state g old) (state g new) (Refused e)
      → StopsTables g (state g old) (state g new) f
  rows_told old new f e is over rest (inl stop) = stop_told (state g old) (state g new) f e is (λ _. stop)
  rows_told old new f e is over rest (inr odd) = by_fault f is
    where
      by_fault : (f : Fault) → f ≡ opening_fault e → StopsTables g (state g old) (state g new) f
      by_fault fault.StoreRefused is = absurd (misread_told e odd.2 (sym is))
      by_fault fault.NotOurs is = inr (over.committed, subst (λ (d : Database). HasOddText (tables_in d)) rest odd.1)
      by_fault _ is = tt

  -- behind a call that left the connection open, and committed nothing
  module _ (a b c : State) (since : Since a b) (up : IsTrue b.is_open) (same : b.committed ≡ a.committed) where
    pub told_after : {V : Type 0} (r : Result V Fault) → IfErr r (StopsTables g b c) → IfErr r (StopsTables g a c)
    told_after (Ok v) h = tt
    told_after (Err fault.StoreRefused) (inl shut) = absurd (true≢false (sym up ∙ shut))
    told_after (Err fault.StoreRefused) (inr (inl more)) = inr (inl (more_after a.faults b.faults c.faults since.0 more))
    told_after (Err fault.StoreRefused) (inr (inr limit)) = inr (inr (limit_before a b since limit))
    told_after (Err fault.NotOurs) (inl limit) = inl (limit_before a b since limit)
    told_after (Err fault.NotOurs) (inr odd) = inr (subst (λ (d : Database). HasTables d × HasOddText (tables_in d)) same odd)
    told_after (Err _) h = tt

  -- an error of a statement behind such a call, which may have shut the connection
  pub error_after : (a b c : State) → Since a b → (b.is_open ≡ false → StopsTables g a c fault.StoreRefused) → (f : Fault) (e : Error) → f ≡ opening_fault e → (b.is_open ≡ false → IsStoreError e)
      → (e ≢ SqliteFailure OutOfMemory → IsTrue b.is_open → TellsFailure e b c ⊎ IsSome b.step_limit) → StopsTables g a c f
  error_after a b c since shut f e is fails why = elim (cases_Bool b.is_open) [
    | inl up ↦ stop_told a c f e is (λ other. elim (why other up) [
      | inl more ↦ inl (told_since e a b c c since.0 (omega arith) more)
      | inr limit ↦ inr (limit_before a b since limit)
    ])
    | inr down ↦ fails_told a c f e is (fails down) (shut down)
  ]

  pub rollback_told : (old new : State) (f : Fault) (e : Error) → f ≡ opening_fault e → old.in_transaction ≡ true → Executes (codes "ROLLBACK") [] old new (Err e) → StopsTables g old new f
  rollback_told old new f e is inside h =
      error_after old old new (since_self old) (λ shut. inl shut) f e is (λ _. rollback_fails old new e inside h) (λ other up. inl (rollback_refused old new e other up inside h))

  -- what was shut since, was so by a failure
  pub was_shut : (a b c : State) (P : Trees → Type 0) → Survives a b P → HasCleanDisk b → b.faults ≤ c.faults → b.is_open ≡ false → StopsTables g a c fault.StoreRefused
  was_shut a b c P survives clean le shut = elim (cases_Bool a.is_open) [
    | inl up ↦ inr (inl (elim (survives.closes clean up) [
      | inl still_up ↦ absurd (true≢false (sym still_up ∙ shut))
      | inr more ↦ omega (arith, more, le)
    ]))
    | inr shut_before ↦ inl shut_before
  ]

-- the question for the format: over our tables it fails for the disk or a limit, and where there are none for the disk alone
module _ (old new : State) (e : Error) (asked : QueriesRow format_sql [] old new (Err e)) where
  pub format_cut : (IsTrue old.is_open → HasTables old.now ⊎ (old.now.schema ≡ no_schema)) → (e ≡ QueryReturnedNoRows) ⊎ (opening_fault e ≢ fault.NotOurs)
      → e ≢ SqliteFailure OutOfMemory → IsTrue old.is_open → TellsFailure e old new ⊎ IsSome old.step_limit
  format_cut ours told other up = elim (ours up) [
    | inl has ↦ format_refused old new e other up has asked
    | inr none ↦ elim (blank_refused old new e other up none asked) [
      | inl fails ↦ inl fails
      | inr missing ↦ absurd (elim told [
        | inl no_rows ↦ (let clash = sym no_rows ∙ missing.1 in cc)
        | inr store ↦ store (ap opening_fault missing.1)
      ])
    ]
  ]

  -- where it says of our tables that there is no such table
  pub ours_limited : IsTrue old.is_open → HasTables old.now → opening_fault e ≡ fault.NotOurs → IsSome old.step_limit
  ours_limited up has told = elim (format_refused old new e (λ same. let clash = sym told ∙ ap opening_fault same in cc) up has asked) [
    | inl fails ↦ absurd (never_told e fails.0 told)
    | inr limit ↦ limit
  ]
