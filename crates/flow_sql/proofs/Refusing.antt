-- Why a statement of ours is refused: the store failed, or its database declines what is asked.
use Rattle.sqlite_trees.specs.declared.error.StoreError.TheVariants as store
use Rattle.sqlite.specs.Command.TheVariants as command
use Rattle.flow_sql.proofs.Names.{Layout, schema_of, IsReadOver, write_takes, IsPlain, command_of, timed, Command, Does, Database, Row, overlay, Query, Executes, RunsCommand, State, mode_of, shows_rows, text_of, Trees, Error, Compiled, IsTrue, List, false, true, ℕ, [], refl, None}
use Rattle.flow_sql.proofs.Names.{Err, length, Some, reads_listing, Fails, IsMisplaced, sym, ap, ◌∙◌, subst, inl, inr, arith, true≢false, append-nil, Schema, IsDeclined, Read, read_sql, query_of, Write, write_sql, IsWrite, TellsFailure, OutOfMemory, QueryOverflows, RefusesToRead, SqliteFailure}
use Rattle.flow_sql.proofs.Names.{accepts_program, read_takes, IsSome, Any, ◌≡◌, ◌⊎◌, ◌≢◌, ◌≤◌, Begin, Commit, Rollback, Release, RollbackTo}
use Rattle.sqlite.specs.Listing.{understood, IsSourceOf}
use Rattle.sqlite.specs.State.{FailsToQuery, IsNotRun, IsNoStatement, ExecutesIn, IsStatement}
use Rattle.flow_sql.proofs.Texts.{IsWhole, read_whole, is_write}

-- a query over one table has no sum
pub never_sums : (rows : List Row) → ⊥ ⊎ Any (λ r. ⊥) rows → ⊥
never_sums rows (inl none) = none
never_sums rows (inr it) = it.4

pub unsummed : (l : Layout) (r : Read) (db : Trees) (params : Row) → ¬ QueryOverflows (query_of l r) db params
unsummed l Read.all_texts db params = never_sums _
unsummed l _ db params = never_sums _

---- Our texts are whole, and take so many values

pub whole_read : (l : Layout) (r : Read) (params : Row) → read_takes r ≡ length params → IsWhole (read_sql r) (length params) (understood (schema_of l) (read_sql r))
whole_read l r params takes = subst (λ n. IsWhole (read_sql r) n (understood (schema_of l) (read_sql r))) takes (read_whole l r)

pub whole_write : (l : Layout) (w : Write) (params : Row) → write_takes w ≡ length params → IsWhole (write_sql w) (length params) (understood (schema_of l) (write_sql w))
whole_write l w params takes = subst (λ n. IsWhole (write_sql w) n (understood (schema_of l) (write_sql w))) takes (is_write l w).1

---- Why one is refused

-- a text of ours that is whole, with as many values as it takes, is a statement
module _ (old : State) (e : Error) (s : Schema) (laid : old.now.schema ≡ s) (sql : List ℕ) (params : Row) (whole : IsWhole sql (length params) (understood s sql)) (plain : IsPlain (understood s sql)) where
  known : understood s sql ≡ understood old.now.schema sql
  known = ap (λ t. understood t sql) (sym laid)

  pub never_no_statement : IsNoStatement old sql params e → ⊥
  never_no_statement (inl none) = subst IsPlain (known ∙ none.1) plain
  never_no_statement (inr (c, is, inl long)) = long.0 (subst (IsWhole sql (length params)) (known ∙ is) whole).0
  never_no_statement (inr (c, is, inr (inl few))) = few.0 (sym (subst (IsWhole sql (length params)) (known ∙ is) whole).1)
  never_no_statement (inr (c, is, inr (inr timed'))) = timed'.0 (subst IsPlain (known ∙ is) plain).1

module _ (old new : State) (e : Error) (other : e ≢ SqliteFailure OutOfMemory) (up : IsTrue old.is_open) where
  pub failed : (W : Type 0) → Fails old new W e → TellsFailure e old new ⊎ W
  failed W (store.OutOfMemory, is, why, _, _) = absurd (other is)
  failed W (store.Broken, is, why, _, _) = absurd (let open_then = up in cc)
  failed W (store.Unstorable, is, why, _, _) = inr why
  failed W (store.Io, is, why, _, _) = inl ((store.Io, is), why)
  failed W (store.Corrupt, is, why, _, _) = inl ((store.Corrupt, is), why)
  failed W (store.Full, is, why, _, _) = inl ((store.Full, is), why)

  pub only_failed : Fails old new ⊥ e → TellsFailure e old new
  only_failed fails = elim (failed ⊥ fails) [
    | inl more ↦ more
    | inr none ↦ absurd none
  ]

-- what has failed between two calls has failed from before them to behind them
pub told_since : (e : Error) (a b c d : State) → a.faults ≤ b.faults → c.faults ≤ d.faults → TellsFailure e b c → TellsFailure e a d
told_since e a b c d before after (is, more) = (is, omega (arith, before, more, after))

-- A question: the store failed, or a limit is set on the steps of a query.
module _ (old new : State) (e : Error) (other : e ≢ SqliteFailure OutOfMemory) (up : IsTrue old.is_open) (s : Schema) (laid : old.now.schema ≡ s) (sql : List ℕ) (q : Query) (names : List (List ℕ)) (it : IsReadOver s sql q names) (params : Row)
    (whole : IsWhole sql (length params) (understood s sql)) (typed : accepts_program s [] q params ≡ true) (summed : (db : Trees) → ¬ QueryOverflows q db params) where
  refuses : (db : Database) → db ≡ old.now → RefusesToRead old.step_limit (command.Select (record { lets = []; body = q }) names) db params e → IsSome old.step_limit
  refuses db is (inl mistyped) = absurd (let same = ap (λ (d : Database). accepts_program d.schema [] q params) is in let has = ap (λ t. accepts_program t [] q params) laid in true≢false (sym typed ∙ sym has ∙ sym same ∙ mistyped.1))
  refuses db is (inr (inl summed')) = absurd (summed (overlay db.trees []) summed'.1)
  refuses db is (inr (inr limit)) = limit.1

  pub question_refused : FailsToQuery sql params old new e → TellsFailure e old new ⊎ IsSome old.step_limit
  unfolding FailsToQuery IsNotRun
  question_refused (inl (inl none)) = absurd (never_no_statement old e s laid sql params whole it.plain none.0)
  question_refused (inl (inr fails)) = inl (only_failed old new e other up fails)
  question_refused (inr h) =
      let known = sym h.1.is ∙ ap (λ t. understood t sql) laid in
      let bare = subst IsPlain (sym known) it.plain in
      let found = rw (bare.0, bare.1, append-nil params) at h.2 in
      let db : found.0 ≡ old.now = subst (λ b. IsSourceOf b old.now found.0) (ap (λ t. reads_listing t sql) laid ∙ it.unlisted) found.1 in
      inr (refuses found.0 db (subst (λ k. RefusesToRead old.step_limit k found.0 params e) (ap command_of known ∙ it.is) found.2))

-- A statement of one command that shows no rows has failed with the store, or has run as that.
module _ (old new : State) (e : Error) (s : Schema) (laid : old.now.schema ≡ s) (sql : List ℕ) (params : Row) (k : Command) (is : command_of (understood s sql) ≡ k) (plain : IsPlain (understood s sql))
    (whole : IsWhole sql (length params) (understood s sql)) (hidden : (c : Compiled) → shows_rows false (record c { command = k; returning = None }) ≡ false) where
  pub fails_or_runs : Executes sql params old new (Err e)
      → Fails old new ⊥ e ⊎ ((c : Compiled) × (it : IsStatement old sql params c) × (c.command ≡ k) × (c.returning ≡ None) × RunsCommand old new sql c (timed params c.formats it.now) (Err e))
  unfolding ExecutesIn IsNotRun
  fails_or_runs (inl (inl none)) = absurd (never_no_statement old e s laid sql params whole plain none.0)
  fails_or_runs (inl (inr fails)) = inl fails
  fails_or_runs (inr h) =
      let known = sym h.1.is ∙ ap (λ t. understood t sql) laid in
      let same : h.0.command ≡ k = ap command_of known ∙ is in
      let bare = subst IsPlain (sym known) plain in
      let shows : shows_rows false h.0 ≡ false = (λ i. shows_rows false (record h.0 { command = same i; returning = bare.0 i })) ∙ hidden h.0 in
      inr (h.0, h.1, same, bare.0, rw shows at h.2)

hides : (k : Command) → IsWrite k → (c : Compiled) → shows_rows false (record c { command = k; returning = None }) ≡ false
hides (command.Select q names) w c = absurd w
hides (command.Rows values width names) w c = absurd w
hides _ w c = refl

-- what isn't one of the transaction, or stands where it may, is in its place
pub never_misplaced : (s : State) (k : Command) (e : Error) (P : Command → Type 0) → P k → (P Begin → s.in_transaction ≡ false) → (P Commit → s.in_transaction ≡ true) → (P Rollback → s.in_transaction ≡ true)
    → ((name : List ℕ) → ¬ P (Release name)) → ((name : List ℕ) → ¬ P (RollbackTo name)) → ¬ IsMisplaced s k e
never_misplaced s k e P its begin commit rollback release back (inl (_, inl (is, inside))) = true≢false (sym inside ∙ begin (subst P is its))
never_misplaced s k e P its begin commit rollback release back (inl (_, inr (inl is, outside))) = true≢false (sym (commit (subst P is its)) ∙ outside)
never_misplaced s k e P its begin commit rollback release back (inl (_, inr (inr is, outside))) = true≢false (sym (rollback (subst P is its)) ∙ outside)
never_misplaced s k e P its begin commit rollback release back (inr (_, name, inl is, _)) = release name (subst P is its)
never_misplaced s k e P its begin commit rollback release back (inr (_, name, inr is, _)) = back name (subst P is its)

-- A row of the statement is too big to be stored.
abbrev pub IsTooBig : List ℕ → Row → State → Type 0
IsTooBig sql params s =
    (c : Compiled) × (it : IsStatement s sql params c) × Does s.step_limit (mode_of s) (timed params c.formats it.now) s.now (text_of sql c) c.returning c.command (Err None)

-- A change: the store failed, or its database declines it.
module _ (old new : State) (e : Error) (other : e ≢ SqliteFailure OutOfMemory) (up : IsTrue old.is_open) (s : Schema) (laid : old.now.schema ≡ s) (sql : List ℕ) (params : Row) (k : Command) (is : command_of (understood s sql) ≡ k) (writes : IsWrite k)
    (plain : IsPlain (understood s sql)) (whole : IsWhole sql (length params) (understood s sql)) where
  pub change_refused : Executes sql params old new (Err e) → TellsFailure e old new ⊎ IsDeclined sql params old
  change_refused h = elim (fails_or_runs old new e s laid sql params k is plain whole (hides k writes) h) [
    | inl fails ↦ inl (only_failed old new e other up fails)
    | inr (c, it, same, _, inl (inl misplaced, _)) ↦ absurd (never_misplaced old c.command e IsWrite (subst IsWrite (sym same) writes) (λ h. absurd h) (λ h. absurd h) (λ h. absurd h) (λ _ h. h) (λ _ h. h) misplaced)
    | inr (c, it, _, _, inl (inr declined, _)) ↦ inr (Some e, c, it, declined.1)
    | inr (c, it, _, _, inr fails) ↦ elim (failed old new e other up _ fails) [ inl more ↦ inl more | inr big ↦ inr (None, c, it, big) ]
  ]

  -- One that has ended the transaction: the store failed, or a row of it is too big to be stored.
  pub change_ended : old.in_transaction ≡ true → new.in_transaction ≡ false → Executes sql params old new (Err e) → TellsFailure e old new ⊎ IsTooBig sql params old
  change_ended inside outside h = elim (fails_or_runs old new e s laid sql params k is plain whole (hides k writes) h) [
    | inl fails ↦ inl (only_failed old new e other up fails)
    | inr (c, it, _, _, inl refused) ↦ absurd (true≢false (sym inside ∙ sym refused.1.0.mode ∙ outside))
    | inr (c, it, _, _, inr fails) ↦ elim (failed old new e other up _ fails) [ inl more ↦ inl more | inr big ↦ inr (c, it, big) ]
  ]
