-- What reading the format leaves, and what it tells.
use Rattle.flow_sql.proofs.Names.{Fresh, schema_of, format_sql, no_schema, format_query, one_permutation, Database, Row, overlay, IsAnswer, Output, end, inner, output, IsUnchanged, State, Survives, Trees, Error, Int, Null, Compiled, CompileError, IsPermutation, IsTrue, List, false, map, pos, [], refl, Ok, Err, Result, Fails, IsOver, HasTables, HasEnded, IsAtRest, IsBlank, format_row, sym, ap, ◌∙◌, subst, inl, inr, true≢false, IsStoreError, TellsFailure, OutOfMemory}
use Rattle.flow_sql.proofs.Names.{IsReadOver, Layout, Moved, Schema, Words, arith, codes, accepts_program, true, ℕ, ℤ, SqlInputError, SqliteFailure, first_as, IsSome, ◌≡◌, ◌∷◌, ◌⊎◌, ◌≢◌}
use Rattle.sqlite.specs.Order.{value_cmp}
use Rattle.sqlite.specs.Ops.{binary}
use Rattle.sqlite.specs.Query.{page, matches_as}
use Rattle.sqlite.specs.Listing.{understood, listing_schema}
use Rattle.sqlite.specs.State.{CommitsShowing, QueriesRow, FailsToQuery, Shown, Begins, IsNotRun}
use Rattle.sqlite_tied.specs.Compute.{everything}
use Rattle.flow_sql.proofs.Leaves.{over_both}
use Rattle.flow_sql.proofs.Compiling.{bare, commits_none}
use Rattle.flow_sql.proofs.Reading.{answer}
use Rattle.flow_sql.proofs.Refusing.{only_failed, question_refused, never_sums}
use Rattle.flow_sql.proofs.Texts.{IsWhole, format_read}
use Rattle.flow_sql.specs.Past.{HasPast, past_schema}

---- Under any schema

pub read_survives : (old new : State) → Survives old new (CommitsShowing format_sql [] old) → Survives old new (λ _. ⊥)
read_survives old new h = commits_none format_sql (format_read Fresh).0.reading [] old new h

-- a query that is refused changes nothing, or fails with the store
pub read_leaves : (old new : State) (r : Result Row Error) → QueriesRow format_sql [] old new r → IsUnchanged old new ⊎ ((e : Error) × (r ≡ Err e) × Fails old new ⊥ e)
unfolding QueriesRow FailsToQuery Shown IsNotRun
read_leaves old new (Ok row) (inl h) = inl h.1
read_leaves old new (Ok row) (inr h) = inl (rw (bare format_sql (format_read Fresh).0.reading [] old new h.1.0 h.1.1.is) at h.1.2).3
read_leaves old new (Err e) (inl (inl (inl refused))) = inl refused.1
read_leaves old new (Err e) (inl (inl (inr fails))) = inr (e, refl, fails)
read_leaves old new (Err e) (inl (inr h)) = inl (rw (bare format_sql (format_read Fresh).0.reading [] old new h.0 h.1.is) at h.2).3
read_leaves old new (Err e) (inr h) = inl (rw (bare format_sql (format_read Fresh).0.reading [] old new h.1.0 h.1.1.is) at h.1.2).3

module _ (start old new : State) (ended : HasEnded start old) where
  -- what the last commit left is shown behind a query that was answered
  pub read_over : IsUnchanged old new → HasTables start.committed → IsOver false new × (new.now ≡ start.committed) × (new.committed ≡ start.committed)
  read_over same committed =
      let now = ended.back same.0.was_open in
      over_both false new start.committed start.committed same.0.is_open (same.0.mode ∙ ended.mode) (same.0.now_is ∙ now.0) (same.0.committed_is ∙ now.1) committed committed

  pub read_blank : IsUnchanged old new → start.committed.schema ≡ no_schema → IsBlank false new
  read_blank same none =
      let now = ended.back same.0.was_open in
      let is : new.now.schema ≡ no_schema = ap (λ (d : Database). d.schema) (same.0.now_is ∙ now.0) ∙ none in
      record { is_open = same.0.is_open; mode = same.0.mode ∙ ended.mode; laid_out = is; empty = tt }

pub at_rest : (start s : State) → HasEnded start s → IsAtRest s
at_rest start s ended = (ended.mode, λ up. let both = ended.back up in both.0 ∙ sym both.1)

pub answered : (old new : State) (row : Row) → QueriesRow format_sql [] old new (Ok row) → IsUnchanged old new
answered old new row h = elim (read_leaves old new (Ok row) h) [
  | inl same ↦ same
  | inr failed ↦ absurd (let e = failed.1 in cc)
]

-- what is no failure of the store changed nothing
pub refused : (old new : State) (e : Error) → QueriesRow format_sql [] old new (Err e) → ((x : Error) → e ≡ x → ¬ Fails old new ⊥ x) → IsUnchanged old new
refused old new e h none = elim (read_leaves old new (Err e) h) [
  | inl same ↦ same
  | inr failed ↦ absurd (none failed.0 (let same = failed.1 in cc) failed.2)
]

-- so is the error of a connection that was shut
pub shut_fails : (old new : State) (e : Error) → old.is_open ≡ false → QueriesRow format_sql [] old new (Err e) → IsStoreError e
shut_fails old new e shut h = elim (read_leaves old new (Err e) h) [
  | inl same ↦ absurd (true≢false (sym same.0.was_open ∙ shut))
  | inr failed ↦ (failed.2.0, (let same : e ≡ failed.0 = (let both = failed.1 in cc) in same ∙ failed.2.1))
]

---- Without the tables

-- without the tables the format can't be read
never_understood : (s : State) (c : Compiled) → s.now.schema ≡ no_schema → understood s.now.schema format_sql ≡ Ok c → ⊥
unfolding understood everything listing_schema
never_understood s c has is = let e = sym is ∙ ap (λ t. understood t format_sql) has in cc

pub blank_never_reads : (old new : State) (row : Row) → old.now.schema ≡ no_schema → QueriesRow format_sql [] old new (Ok row) → ⊥
unfolding QueriesRow Begins Shown
blank_never_reads old new row none (inl h) = never_understood old h.0.0 none h.0.1.is
blank_never_reads old new row none (inr h) = never_understood old h.1.0 none h.1.1.is

-- the refusal is that there is no such table, or the disk's
pub blank_refused : (old new : State) (e : Error) → e ≢ SqliteFailure OutOfMemory → IsTrue old.is_open → old.now.schema ≡ no_schema → QueriesRow format_sql [] old new (Err e)
    → TellsFailure e old new ⊎ ((f : CompileError) × (e ≡ SqlInputError f))
unfolding QueriesRow FailsToQuery Shown IsNotRun
blank_refused old new e other up none (inl (inl (inl (inl broken, _)))) = inr (broken.0, broken.2)
blank_refused old new e other up none (inl (inl (inl (inr odd, _)))) = absurd (never_understood old odd.0 none odd.1)
blank_refused old new e other up none (inl (inl (inr fails))) = inl (only_failed old new e other up fails)
blank_refused old new e other up none (inl (inr h)) = absurd (never_understood old h.0 none h.1.is)
blank_refused old new e other up none (inr h) = absurd (never_understood old h.1.0 none h.1.1.is)

---- Over our tables, and those of before

-- the one row of `meta`, with this number
abbrev numbered : ℤ → Row
numbered n = Int (pos 1) ∷ Words (codes "format") ∷ Int n ∷ []

met : (n : ℤ) (db : Trees) → db 0 ≡ numbered n ∷ [] → matches_as Null db format_query.filter (inner 0 end) ([] ∷ []) ≡ ([] ∷ numbered n ∷ []) ∷ []
unfolding binary value_cmp lib.Ieee.is_nan lib.Ieee.lt
met n db one = rw one refl

format_rows : (n : ℤ) (db : Trees) → db 0 ≡ numbered n ∷ [] → (rows : List Row) → IsAnswer format_query (overlay db []) [] rows → rows ≡ (Int n ∷ []) ∷ []
format_rows n db format rows a =
    let o : Output = ([], Int n ∷ []) in
    let kept : a.kept ≡ o ∷ [] = a.distinct ∙ ap (map (output format_query)) (a.grouped ∙ met n (overlay db []) format) in
    let ordered = one_permutation o a.ordered (subst (λ k. IsPermutation k a.ordered) kept a.same) in
    a.shown ∙ ap (λ os. page format_query [] (map (λ (p : Output). p.1) os)) ordered

abbrev value_name : List (List ℕ)
value_name = codes "value" ∷ []

-- over tables of a schema in which the text is this query
module _ (s : Schema) (n : ℤ) (is : IsReadOver s format_sql format_query value_name) (old new : State) (has : old.now.schema ≡ s) (format : old.now.trees 0 ≡ numbered n ∷ []) where
  number_read : (row : Row) → QueriesRow format_sql [] old new (Ok row) → row ≡ Int n ∷ []
  number_read row h =
      let got = (first_as format_sql [] old new s has _ is.is is.plain is.unlisted row h).1 in
      let rows = format_rows n old.now.trees format (row ∷ got.0) (got.1 Null) in
      cc

  -- it is refused by the disk or a limit alone
  number_refused : (e : Error) → e ≢ SqliteFailure OutOfMemory → IsTrue old.is_open → IsWhole format_sql 0 (understood s format_sql) → accepts_program s [] format_query [] ≡ true → QueriesRow format_sql [] old new (Err e)
      → TellsFailure e old new ⊎ IsSome old.step_limit
  unfolding QueriesRow
  number_refused e other up whole typed (inl fails) = question_refused old new e other up s has format_sql format_query value_name is [] whole typed (λ db. never_sums (db 0)) fails
  number_refused e other up whole typed (inr none) =
      absurd (let rows = format_rows n old.now.trees format [] (answer s format_sql format_query value_name is [] old new has [] none.1) in cc)

pub format_answer : (old new : State) (row : Row) → HasTables old.now → QueriesRow format_sql [] old new (Ok row) → row ≡ Int (pos 2) ∷ []
format_answer old new row has h = number_read (schema_of has.layout) (pos 2) (format_read has.layout).0 old new has.lie.laid_out has.lie.ours.format row h

format_typed : (l : Layout) → accepts_program (schema_of l) [] format_query [] ≡ true
format_typed Fresh = refl
format_typed Moved = refl

pub format_refused : (old new : State) (e : Error) → e ≢ SqliteFailure OutOfMemory → IsTrue old.is_open → HasTables old.now → QueriesRow format_sql [] old new (Err e) → TellsFailure e old new ⊎ IsSome old.step_limit
format_refused old new e other up has h =
    let l = has.layout in
    number_refused (schema_of l) (pos 2) (format_read l).0 old new has.lie.laid_out has.lie.ours.format e other up (format_read l).1 (format_typed l) h

past_format_read : IsReadOver past_schema format_sql format_query value_name × IsWhole format_sql 0 (understood past_schema format_sql)
unfolding understood everything
past_format_read = (record { is = refl; plain = (refl, refl); unlisted = refl; reading = tt }, (omega arith, refl))

-- over those of before their number is read
pub past_format_answer : (old new : State) (row : Row) → HasPast old.now → QueriesRow format_sql [] old new (Ok row) → row ≡ Int (pos 1) ∷ []
past_format_answer old new row has h = number_read past_schema (pos 1) past_format_read.0 old new has.laid_out has.past.format row h

pub past_format_refused : (old new : State) (e : Error) → e ≢ SqliteFailure OutOfMemory → IsTrue old.is_open → HasPast old.now → QueriesRow format_sql [] old new (Err e) → TellsFailure e old new ⊎ IsSome old.step_limit
past_format_refused old new e other up has h = number_refused past_schema (pos 1) past_format_read.0 old new has.laid_out has.past.format e other up past_format_read.1 refl h
