-- What becomes of a question.
use Rattle.std.specs.Prelude.{◌≡◌, ◌⊎◌}
use Rattle.flow_tables.proofs.Names.{AllByRecursion, Holds, was_clean, rest_ended, IsStopped, view_fault, Book, Tells as TellsBook, Fresh, Layout, schema_of, Tables, Held, state, Row, Executes, HasCleanDisk, State, Survives, Error, Ghosts, Bool, IfErr, List, MatchResult, map, true, ℕ, HasEnded, IsAtRest, IsOver, IsRefused, IsStill, tables_in, StoreFault, ViewFault, Err, IfOk, Ok, [], Result, CommitsBy, FirstIs, subst, ◌∙◌, sym, inl, inr, Kind}
use Rattle.sqlite.specs.State.{CommitsShowing, IsUnchanged, IsRolledBack}
use Rattle.sqlite_resolve.specs.Compile.{first as first_statement}
use Rattle.sqlite.specs.Query.{Query, IsAnswer}
use Rattle.sqlite.specs.Program.{overlay}
use Rattle.flow_view.specs.declared.fault.ViewFault.TheVariants as view
use Rattle.flow_tables.specs.declared.fault.StoreFault.TheVariants.{NoMemory, Refused}
use Rattle.flow_tables.specs.Asking.{IsAsked, IsValue, IsRecalled, IsChanged, StopsAsk, AreAsked}
use Rattle.flow_sql.specs.Meaning.{IsRead, IsText, Asks, IsReadSo, Alters, IsRowChange}
use Rattle.flow_sql.specs.Layout.{query_of, read_sql, write_sql}
use Rattle.flow_sql.specs.States.{IsReading}
use Rattle.flow_tables.specs.Reads.{Tells, IsReadFault}
use Rattle.flow_sql.specs.Stored.{AreUtf8, AreReadAs}
use Rattle.flow_tables.proofs.Misreading.{misread_error, never_misread}
use Rattle.flow_sql.proofs.Places.{tables_are}
use Rattle.flow_sql.proofs.Leaves.{error_refused, left_refused}
use Rattle.flow_sql.proofs.Transactions.{write_survives}
use Rattle.flow_tables.proofs.Stopping.{read_stopped, change_stopped}
use Rattle.flow_sql.proofs.Texts.{is_read, is_write, writes, write_of}
use Rattle.flow_sql.proofs.Readable.{are_readable}
use Rattle.flow_sql.proofs.Refusing.{unsummed, whole_read, whole_write, question_refused, change_refused}
use Rattle.flow_sql.proofs.Reading.{answer, still}
use Rattle.std.proofs.lemmas.Result.{MatchResult-weaker}
use Rattle.flow_sql.proofs.Compiling.{commits_none, failed, answered}

---- What a read leaves, over any file

module _ (kinds : List Kind) (sql : List ℕ) (reading : FirstIs IsReading (first_statement sql)) (params : Row) (old new : State) where
  fault_leaves : (f : StoreFault) → IsReadFault kinds sql params old new f → IsUnchanged old new ⊎ IsRolledBack old new
  fault_leaves (NoMemory _) (inl it) = failed sql reading params old new it.0 it.1
  fault_leaves (NoMemory _) (inr it) = inl (answered sql reading params old new it.0 it.1)
  fault_leaves (Refused e) (inl it) = failed sql reading params old new e it.1
  fault_leaves (Refused e) (inr it) = inl (answered sql reading params old new it.0 it.1)

  -- where no transaction runs, a read ends with what the last commit left
  pub read_rests : {V A : Type 0} (said : Row → A) (items : V → List A) (r : Result V StoreFault) → IfOk r (λ v. Tells said sql params old new (items v)) → IfErr r (IsReadFault kinds sql params old new)
      → IsAtRest old → HasEnded old new
  read_rests said items (Ok v) ok err rest = rest_ended old new rest (inl (answered sql reading params old new ok.0 ok.1))
  read_rests said items (Err f) ok err rest = rest_ended old new rest (fault_leaves f err)

---- What it tells of our tables

module _ (l : Layout) (sql : List ℕ) (q : Query) (names : List (List ℕ)) (it : IsRead l sql q names) (params : Row) (kinds : List Kind) (old new : State) (inside : Bool) (over : IsOver inside old) (laid : old.now.schema ≡ schema_of l) where
  -- what an answer says holds of what is found
  pub reads_what : {V A : Type 0} (said : Row → A) (items : V → List A) (P : List A → Type 0) → ((rows : List Row) → IsAnswer q (overlay old.now.trees []) params rows → P (map said rows))
      → (r : Result V StoreFault) → IfOk r (λ v. Tells said sql params old new (items v)) → IfErr r (IsReadFault kinds sql params old new)
      → MatchResult r (λ v. IsStill inside old new × P (items v)) (λ _. IsRefused inside old new)
  reads_what said items P found (Ok v) ok err = (still (schema_of l) sql q names it params old new inside over ok.0 ok.1, subst P (sym ok.2) (found ok.0 (answer (schema_of l) sql q names it params old new laid ok.0 ok.1)))
  reads_what said items P found (Err f) ok err = left_refused old new inside over (fault_leaves kinds sql it.reading params old new f err)

module _ {A : Type 0} (asks : Asks A) (said : Row → A) (kinds : List Kind) (so : IsReadSo asks said kinds) (old new : State) where
  abbrev sql : List ℕ
  sql = read_sql asks.read

  is : (l : Layout) → IsRead l sql (query_of l asks.read) (is_read l asks.read).0
  is l = (is_read l asks.read).1

  -- whatever the layout
  reading : FirstIs IsReading (first_statement sql)
  reading = (is Fresh).reading

  pub asked : {V : Type 0} (items : V → List A) (r : Result V StoreFault) → (HasCleanDisk new → IfOk r (λ v. Tells said sql asks.params old new (items v)))
      → (HasCleanDisk new → IfErr r (IsReadFault kinds sql asks.params old new)) → Survives old new (CommitsShowing sql asks.params old) → IsAsked sql asks.params kinds old new r (λ t v. asks.tells t (items v))
  asked {V} items r ok err h = record {
    reads = λ inside was clean.
        let over = was (was_clean old new _ h clean) in
        let l = over.now.layout in
        let lie = over.now.lie in
        reads_what l sql (query_of l asks.read) (is_read l asks.read).0 (is l) asks.params kinds old new inside over lie.laid_out said items (asks.tells (tables_in old.now))
        (λ rows a. subst (λ (f : Row → A). asks.tells (tables_in old.now) (map f rows)) so.0
        (subst (λ t. asks.tells t (map asks.said rows)) (sym (tables_are l old.now lie)) (asks.found l old.now.trees lie.ours rows a))) r (ok clean) (err clean);
    clean = λ clean. was_clean old new _ h clean;
    cause = err;
    stops = λ inside was clean. stops_so inside (was (was_clean old new _ h clean)) r (err clean);
    ended = λ clean rest. read_rests kinds sql reading asks.params old new said items r (ok clean) (err clean) rest;
    survives = commits_none sql reading asks.params old new h;
  }
    where
      stops_so : (inside : Bool) → IsOver inside old → (r : Result V StoreFault) → IfErr r (IsReadFault kinds sql asks.params old new) → IfErr r (StopsAsk inside old new)
      stops_so inside over (Ok v) h = tt
      stops_so inside over (Err (NoMemory _)) h = tt
      stops_so inside over (Err (Refused e)) (inl fails) =
          let l = over.now.layout in
          inl (question_refused old new e fails.0 over.is_open (schema_of l) over.now.lie.laid_out sql (query_of l asks.read) (is_read l asks.read).0 (is l) asks.params (whole_read l asks.read asks.params asks.takes) (asks.typed l) (λ db. unsummed l asks.read db asks.params) fails.1)
      stops_so inside over (Err (Refused e)) (inr rows) =
          let l = over.now.layout in
          let lie = over.now.lie in
          let shown = answer (schema_of l) sql (query_of l asks.read) (is_read l asks.read).0 (is l) asks.params old new lie.laid_out rows.0 rows.1 in
          inr (
            still (schema_of l) sql (query_of l asks.read) (is_read l asks.read).0 (is l) asks.params old new inside over rows.0 rows.1,
            λ utf8. never_misread kinds rows.0 e (subst (λ ks. AllByRecursion (AreReadAs ks) rows.0) so.1 (are_readable l old.now.trees lie.ours (subst AreUtf8 (tables_are l old.now lie) utf8) asks.params rows.0 asks.read shown)) rows.2,
            misread_error kinds rows.0 e rows.2,
          )

---- A value of the book

module _ {S A V : Type 0} (g : Ghosts S) (old new : Held S) {why : StoreFault → Type 0} {tells : Tables → V → Type 0} (value : Book → A) where
  pub valued : (v : V) (r : Result A ViewFault) → AreAsked why (state g old) (state g new) (Ok v) tells → ((t : Tables) (b : Book) → TellsBook t b → tells t v → IsValue r (value b)) → IsRecalled g old new r value
  valued v r it is = record {
    reads = λ clean b told was. let read = it.reads true was clean in go b r (is (tables_in (state g old).now) b told read.1) read.0;
    clean = it.clean;
    cause = λ clean b told was. stops b r (is (tables_in (state g old).now) b told (it.reads true was clean).1);
    survives = it.survives;
  }
    where
      go : (b : Book) → (r : Result A ViewFault) → IsValue r (value b) → IsStill true (state g old) (state g new) → MatchResult r (λ x. IsStill true (state g old) (state g new) × (x ≡ value b)) (λ _. IsRefused true (state g old) (state g new))
      go b (Ok x) h still = (still, h)
      go b (Err f) h still = inl still

      stops : (b : Book) → (r : Result A ViewFault) → IsValue r (value b) → IfErr r (λ f. f ≡ view.StoreRefused → IsStopped g (state g old) (state g new))
      stops b (Ok x) h = tt
      stops b (Err f) h = λ same. absurd (h same)

  pub unvalued : (f : StoreFault) (k : ViewFault) → k ≡ view_fault f → AreAsked why (state g old) (state g new) (Err f) tells → IsRecalled {A = A} g old new (Err k) value
  unvalued f k same it = record {
    reads = λ clean b told was. it.reads true was clean;
    clean = it.clean;
    cause = λ clean b told was e. read_stopped g old new f (it.stops true was clean) (sym same ∙ e);
    survives = it.survives;
  }

---- Changes

-- the same answer, without its count
abbrev pub IsUncounted : Result ℕ Error → Result Unit Error → Type 0
IsUncounted (Ok count) (Ok done) = Unit {0}
IsUncounted (Err f) (Err e) = f ≡ e
IsUncounted _ _ = ⊥

module _ {S : Type 0} (g : Ghosts S) (does : Alters) (sure : does.sure) (old new : Held S) (h : Survives (state g old) (state g new) (CommitsBy (write_sql does.write) does.params (state g old))) where
  it : IsRowChange does.write does.params does.fits does.welcome does.after
  it = does.means sure

  text : (l : Layout) → IsText l (write_sql does.write) (write_of l does.write)
  text l = (is_write l does.write).0

  abbrev Ran : Result ℕ Error → Type 0
  Ran r = Executes (write_sql does.write) does.params (state g old) (state g new) r

  pub changed : (r : Result ℕ Error) → (HasCleanDisk (state g new) → Executes (write_sql does.write) does.params (state g old) (state g new) r) → (x : Result Unit Error) → IsUncounted r x → IsChanged g (write_sql does.write) does.params old new x does.fits does.welcome does.after
  changed r ran x same = record {
    put = λ was fits clean. MatchResult-weaker x (did r (ran clean) x same)
        (λ _ ran.
        let done = it.put (state g old) (state g new) ran.0 (over was clean) fits ran.1 in
        record { over = done.over; tables = done.tables; committed = done.committed; utf8 = λ u. subst AreUtf8 (sym done.tables) (it.utf8 (tables_in (state g old).now) u) })
        (λ e ran. error_refused (state g old) (state g new) (write_sql does.write) does.params e true (over was clean) ran);
    clean = λ clean. was_clean (state g old) (state g new) _ h clean;
    ran = λ clean. MatchResult-weaker x (did r (ran clean) x same) (λ _ _. tt) (λ e ran. ran);
    cause = λ was welcome clean. MatchResult-weaker x (did r (ran clean) x same) (λ _ _. tt) (λ e ran other.
        let over = over was clean in
        let l = over.now.layout in
        change_stopped g old new over (elim (change_refused (state g old) (state g new) e other over.is_open (schema_of l) over.now.lie.laid_out (write_sql does.write) does.params (write_of l does.write) (text l).is (writes l does.write) (text l).plain (whole_write l does.write does.params it.takes) ran) [
          | inl more ↦ inl more.1
          | inr declined ↦ inr (it.taken (state g old) over welcome declined)
        ]));
    survives = λ was. write_survives does.write (state g old) (state g new) does.params was h;
  }
    where
      over : Holds true (state g old) → HasCleanDisk (state g new) → IsOver true (state g old)
      over was clean = was (was_clean (state g old) (state g new) _ h clean)

      did : (r : Result ℕ Error) → Ran r → (x : Result Unit Error) → IsUncounted r x → MatchResult x (λ _. (count : ℕ) × Ran (Ok count)) (λ e. Ran (Err e))
      did (Ok count) ran (Ok done) same = (count, ran)
      did (Ok count) ran (Err e) same = absurd same
      did (Err f) ran (Ok done) same = absurd same
      did (Err f) ran (Err e) same = subst (λ k. Ran (Err k)) same ran
