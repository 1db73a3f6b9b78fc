-- What BEGIN, COMMIT and ROLLBACK mean, under any schema.
use Rattle.flow_sql.proofs.Names.{Layout, schema_of, Write, write_sql, IsPlain, command_of, runs_as, statement_of, survives_weaker, timed, Command, Begin, Commit, Rollback, Does, Row, Schema, Executes, IsRolledBack, Runs, State, Survives, mode_of, shows_rows, text_of, Trees, Error, Compiled, Bool, IfErr, IsTrue, List, MatchResult, codes, false, true, ℕ, [], refl, Ok, None, Err, Result, ⊤, Fails, IsMisplaced, IsOver, RunsTo, HasEnded, IsStill, GoesOn, IsUndone, HasBegun, HasCommitted, sym, ap, ◌∙◌, subst, inl, inr, arith, true≢false}
use Rattle.flow_sql.proofs.Names.{Holds, IsStoreError, IsWrite, OnOk, TellsFailure, OutOfMemory, SqliteFailure, ◌≡◌, ◌≢◌}
use Rattle.sqlite_tied.specs.Compute.{everything}
use Rattle.sqlite.specs.Listing.{understood}
use Rattle.sqlite.specs.State.{CommitsBy, MayWrite}
use Rattle.flow_sql.proofs.Refusing.{failed, fails_or_runs, never_misplaced}
use Rattle.flow_sql.proofs.Leaves.{was_clean, over_both, rolled_back_ended, ended_undone}
use Rattle.flow_sql.proofs.Texts.{IsWhole, is_write, write_of, writes}

-- the text is this command, and nothing else, whatever tables there are
pub record Controls (sql : List ℕ) (command : Command) : Type 1 where
  is : (s : Schema) → command_of (understood s sql) ≡ command
  plain : (s : Schema) → IsPlain (understood s sql)
  whole : (s : Schema) → IsWhole sql 0 (understood s sql)
  -- it is no write, shows nothing, and has no row that could be too big
  writes : ¬ IsWrite command
  hidden : (c : Compiled) → shows_rows false (record c { command = command; returning = None }) ≡ false
  small : (s : State) (params : Row) (text : List ℕ) → ¬ Does s.step_limit (mode_of s) params s.now text None command (Err None)

pub begin_text : Controls (codes "BEGIN") Begin
unfolding understood everything
begin_text = record { is = λ s. refl; plain = λ s. (refl, refl); whole = λ s. (omega arith, refl); writes = λ h. h; hidden = λ c. refl; small = λ s params text h. let e = h in cc }

commit_text : Controls (codes "COMMIT") Commit
unfolding understood everything
commit_text = record { is = λ s. refl; plain = λ s. (refl, refl); whole = λ s. (omega arith, refl); writes = λ h. h; hidden = λ c. refl; small = λ s params text h. let e = h in cc }

pub rollback_text : Controls (codes "ROLLBACK") Rollback
unfolding understood everything
rollback_text = record { is = λ s. refl; plain = λ s. (refl, refl); whole = λ s. (omega arith, refl); writes = λ h. h; hidden = λ c. refl; small = λ s params text h. let e = h in cc }

---- What they may commit

abbrev pub IsControl : Command → Type 0
IsControl Begin = ⊤
IsControl Rollback = ⊤
IsControl _ = ⊥

changes_nothing : (command : Command) → IsControl command → (s : State) (text : List ℕ) (params : Row) (db : Trees) → ¬ MayWrite s None command text params db
changes_nothing Begin control s text params db h = absurd (let e = h.3 in cc)
changes_nothing Rollback control s text params db h = absurd (let e = h.3 in cc)
changes_nothing _ control s text params db h = absurd control

module _ (sql : List ℕ) (old : State) (command : Command) (it : Controls sql command) where
  -- a statement that neither writes nor ends a transaction commits nothing
  control_commits_nothing : IsControl command → (db : Trees) → ¬ CommitsBy sql [] old db
  unfolding CommitsBy
  control_commits_nothing control db h =
      let same : command ≡ h.0.command = sym (it.is old.now.schema) ∙ ap command_of h.1.is in
      let bare = subst IsPlain h.1.is (it.plain old.now.schema) in
      let control = subst IsControl same control in
      elim h.2 [
        | inl (inl commits, _) ↦ absurd (rw commits at control)
        | inl (inr release, _) ↦ absurd (rw release.2 at control)
        | inr outside ↦ changes_nothing h.0.command control old (text_of sql h.0) (timed [] h.0.formats h.1.now) db (rw bare.0 at outside)
      ]

  -- a COMMIT commits what the transaction shows
  commit_commits : command ≡ Commit → (db : Trees) → CommitsBy sql [] old db → db ≡ old.now.trees
  unfolding CommitsBy
  commit_commits commit db h =
      let same : h.0.command ≡ Commit = sym (ap command_of h.1.is) ∙ it.is old.now.schema ∙ commit in
      let bare = subst IsPlain h.1.is (it.plain old.now.schema) in
      elim h.2 [
        | inl (_, now) ↦ now
        | inr outside ↦ absurd (let e = rw (bare.0, same) at outside.3 in cc)
      ]

-- a change commits nothing within a transaction
module _ (l : Layout) (sql : List ℕ) (command : Command) (is : command_of (understood (schema_of l) sql) ≡ command) (write : IsWrite command) where
  commits_nothing : (old : State) (params : Row) → old.now.schema ≡ schema_of l → old.in_transaction ≡ true → (db : Trees) → ¬ CommitsBy sql params old db
  unfolding CommitsBy
  commits_nothing old params has inside db h =
      let known = sym h.1.is ∙ ap (λ s. understood s sql) has in
      let same : command ≡ h.0.command = sym (ap command_of known ∙ is) in
      let writes = subst IsWrite same write in
      elim h.2 [
        | inl (inl commits, _) ↦ absurd (rw commits at writes)
        | inl (inr release, _) ↦ absurd (rw release.2 at writes)
        | inr outside ↦ absurd (let e = outside.0 in cc)
      ]

-- nor does one of ours
pub write_survives : (w : Write) (old new : State) (params : Row) → Holds true old → Survives old new (CommitsBy (write_sql w) params old) → Survives old new (λ _. ⊥)
write_survives w old new params was h =
    survives_weaker old new _ _ (λ clean db.
    let over = was (was_clean old new _ h clean) in
    let l = over.now.layout in
    commits_nothing l (write_sql w) (write_of l w) (is_write l w).0.is (writes l w) old params over.now.lie.laid_out over.mode db) h

---- Why one of the three is refused

-- a BEGIN where no transaction runs, an end where one does
abbrev IsPlaced : Command → Bool → Type 0
IsPlaced Begin inside = inside ≡ false
IsPlaced Commit inside = inside ≡ true
IsPlaced Rollback inside = inside ≡ true
IsPlaced _ inside = ⊥

module _ (sql : List ℕ) (old new : State) (e : Error) (command : Command) (it : Controls sql command) (placed : IsPlaced command old.in_transaction) where
  -- only a failure of the store refuses it, with nothing that could be too big
  fails_alone : (P : Type 0) → ((W : Type 0) → ¬ W → Fails old new W e → P) → Executes sql [] old new (Err e) → P
  fails_alone P so h = elim (fails_or_runs old new e old.now.schema refl sql [] command (it.is old.now.schema) (it.plain old.now.schema) (it.whole old.now.schema) it.hidden h) [
    | inl fails ↦ so ⊥ (λ none. none) fails
    | inr (c, _, same, _, inl (inl misplaced, _)) ↦ absurd (never_misplaced old command e (λ k. IsPlaced k old.in_transaction) placed (λ h. h) (λ h. h) (λ h. h) (λ _ h. h) (λ _ h. h) (subst (λ k. IsMisplaced old k e) same misplaced))
    | inr (c, _, same, _, inl (inr (inl write, _), _)) ↦ absurd (it.writes (subst IsWrite same write))
    | inr (c, _, same, bare, inl (inr (inr some, _), _)) ↦ absurd (let e = rw bare at some in true≢false (sym e))
    | inr (c, at, same, bare, inr fails) ↦
        so _ (λ big. it.small old (timed [] c.formats at.now) (text_of sql c) (subst (λ k. Does old.step_limit (mode_of old) (timed [] c.formats at.now) old.now (text_of sql c) None k (Err None)) same (rw bare at big))) fails
  ]

  -- but for the want of memory the disk has failed once more
  control_refused : e ≢ SqliteFailure OutOfMemory → IsTrue old.is_open → Executes sql [] old new (Err e) → TellsFailure e old new
  control_refused other up h = fails_alone (TellsFailure e old new) (λ W none fails. elim (failed old new e other up W fails) [
    | inl more ↦ more
    | inr big ↦ absurd (none big)
  ]) h

-- whatever is wrong, the error of a ROLLBACK within a transaction is one of the store
pub rollback_fails : (old new : State) (e : Error) → old.in_transaction ≡ true → Executes (codes "ROLLBACK") [] old new (Err e) → IsStoreError e
rollback_fails old new e inside h = fails_alone (codes "ROLLBACK") old new e Rollback rollback_text inside (IsStoreError e) (λ W none fails. (fails.0, fails.1)) h

module _ (old new : State) (e : Error) (other : e ≢ SqliteFailure OutOfMemory) (up : IsTrue old.is_open) where
  pub begin_refused : old.in_transaction ≡ false → Executes (codes "BEGIN") [] old new (Err e) → TellsFailure e old new
  begin_refused outside h = control_refused (codes "BEGIN") old new e Begin begin_text outside other up h

  pub commit_refused : old.in_transaction ≡ true → Executes (codes "COMMIT") [] old new (Err e) → TellsFailure e old new
  commit_refused inside h = control_refused (codes "COMMIT") old new e Commit commit_text inside other up h

  pub rollback_refused : old.in_transaction ≡ true → Executes (codes "ROLLBACK") [] old new (Err e) → TellsFailure e old new
  rollback_refused inside h = control_refused (codes "ROLLBACK") old new e Rollback rollback_text inside other up h

---- What the three do to a state

module _ (old new : State) where
  abbrev ran_as : (sql : List ℕ) (command : Command) → Controls sql command → (count : ℕ) → Executes sql [] old new (Ok count) → Runs old new None command (statement_of sql (understood old.now.schema sql)) [] count
  ran_as sql command it count h = runs_as sql [] old new old.now.schema refl command (it.is old.now.schema) (it.plain old.now.schema) count h

  pub begins : (count : ℕ) → Executes (codes "BEGIN") [] old new (Ok count) → HasBegun old new
  begins count h = let r = ran_as (codes "BEGIN") Begin begin_text count h in (r.0, r.1)

  pub commits : (count : ℕ) → Executes (codes "COMMIT") [] old new (Ok count) → HasCommitted old new
  commits count h = let r = ran_as (codes "COMMIT") Commit commit_text count h in (r.0, r.1)

  pub rolls_back : (count : ℕ) → Executes (codes "ROLLBACK") [] old new (Ok count) → IsTrue old.in_transaction × HasEnded old new
  rolls_back count h = let r = ran_as (codes "ROLLBACK") Rollback rollback_text count h in (r.0, rolled_back_ended old new r.1)

  -- a refusal within a transaction has ended it
  ended_by : (sql : List ℕ) (command : Command) → Controls sql command → IsPlaced command old.in_transaction → (e : Error) → Executes sql [] old new (Err e) → HasEnded old new
  ended_by sql command it placed e h = rolled_back_ended old new (fails_alone sql old new e command it placed (IsRolledBack old new) (λ W none fails. fails.3) h)

  pub begun_still : HasBegun old new → IsOver false old → IsStill true old new
  begun_still h was = over_both true new old.now old.committed h.1.is_open h.1.mode h.1.now_is h.1.committed_is was.now was.committed

  pub committed_over : HasCommitted old new → IsOver true old → IsOver false new × (new.now ≡ old.now) × (new.committed ≡ old.now)
  committed_over h was = over_both false new old.now old.now h.1.is_open h.1.mode h.1.now_is h.1.committed_is was.now was.now

  pub begun_goes_on : HasBegun old new → GoesOn old new
  begun_goes_on h = record { was_open = h.1.was_open; is_open = h.1.is_open; mode = h.1.mode; committed = h.1.committed_is }

  pub control_survives : (sql : List ℕ) (command : Command) → Controls sql command → IsControl command → Survives old new (CommitsBy sql [] old) → Survives old new (λ _. ⊥)
  control_survives sql command it control h = survives_weaker old new _ _ (λ _ db. control_commits_nothing sql old command it control db) h

  pub commit_survives : Survives old new (CommitsBy (codes "COMMIT") [] old) → Survives old new (λ db. db ≡ old.now.trees)
  commit_survives h = survives_weaker old new _ _ (λ _ db. commit_commits (codes "COMMIT") old Commit commit_text refl db) h

  -- what their results say
  pub ran_to : (sql : List ℕ) (P : Type 0) (Q : Error → Type 0) (r : Result (Unit {0}) Error) → RunsTo sql old new r → ((count : ℕ) → Executes sql [] old new (Ok count) → P) → ((e : Error) → Executes sql [] old new (Err e) → Q e) → MatchResult r (λ _. P) Q
  ran_to sql P Q (Ok x) h f g = f h.0 h.1
  ran_to sql P Q (Err e) h f g = g e h

  pub ran_ok : (sql : List ℕ) (P : Type 0) (r : Result (Unit {0}) Error) → RunsTo sql old new r → ((count : ℕ) → Executes sql [] old new (Ok count) → P) → OnOk r P
  ran_ok sql P (Ok x) h f = f h.0 h.1
  ran_ok sql P (Err e) h f = tt

  pub committed_or_ended : (r : Result (Unit {0}) Error) → RunsTo (codes "COMMIT") old new r → IsTrue old.in_transaction → IfErr r (λ _. HasEnded old new)
  committed_or_ended (Ok x) h inside = tt
  committed_or_ended (Err e) h inside = ended_by (codes "COMMIT") Commit commit_text inside e h

  pub committed_or_undone : (r : Result (Unit {0}) Error) → RunsTo (codes "COMMIT") old new r → IsOver true old → MatchResult r (λ _. IsOver false new × (new.now ≡ old.now) × (new.committed ≡ old.now)) (λ _. IsUndone old new)
  committed_or_undone r h was = ran_to (codes "COMMIT") _ (λ _. IsUndone old new) r h (λ count ran. committed_over (commits count ran) was) (λ e ran. ended_undone old new was.committed (ended_by (codes "COMMIT") Commit commit_text was.mode e ran))

  pub rolled_back : (r : Result (Unit {0}) Error) → RunsTo (codes "ROLLBACK") old new r → IsTrue old.in_transaction → HasEnded old new
  rolled_back (Ok x) h inside = (rolls_back h.0 h.1).1
  rolled_back (Err e) h inside = ended_by (codes "ROLLBACK") Rollback rollback_text inside e h

-- What was begun and goes on, and then ends, has ended.
pub goes_on_then : (a b c : State) → GoesOn a b → GoesOn b c → GoesOn a c
goes_on_then a b c one two = record { was_open = one.was_open; is_open = two.is_open; mode = two.mode; committed = two.committed ∙ one.committed }

pub goes_on_ends : (a b c : State) → GoesOn a b → HasEnded b c → HasEnded a c
goes_on_ends a b c one two = record { was_open = λ up. one.was_open; mode = two.mode; back = λ up. ((two.back up).0 ∙ one.committed, (two.back up).1 ∙ one.committed) }

pub ends_again : (a b c : State) → HasEnded a b → HasEnded b c → HasEnded a c
ends_again a b c one two = record {
  was_open = λ up. one.was_open (two.was_open up);
  mode = two.mode;
  back = λ up. let first = one.back (two.was_open up) in ((two.back up).0 ∙ first.1, (two.back up).1 ∙ first.1);
}
