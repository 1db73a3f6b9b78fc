-- What opening finds, and why it is refused.
use Rattle.std.specs.Prelude.{◌≡◌, ◌∷◌, ◌⊎◌, ◌≢◌, ◌≤◌}
use Rattle.flow_tables.proofs.Names.{Bytes, Bool, Run, Fault, Damaged, NoMemory, NotOurs, StoreRefused, Book, no_book, event_row, of_run, task_row, timer_row, timers_left, Tells, format_sql, no_schema, Database, Held, state, HasCleanDisk, Survives, Row, State, Error, Int, Ghosts, IsSome, IsTrue, IsUnchanged, List, Option, map, pos, false, true, HasEnded, HasTables, IsAtRest, no_tables, tables_in, SqliteFailure, Err, Ok, ℕ, ℤ, [], refl, column, eqb as nat_eq, negsuc, QueriesRow, subst, ◌∙◌, sym, ap, inl, inr}
use Rattle.flow_tables.specs.Names.{QueryReturnedNoRows}
use Rattle.sqlite.specs.declared.error.ErrorCode.TheVariants as code
use Rattle.flow_rows.specs.Rows.{run_at}
use Rattle.flow_sql.proofs.Transactions.{ends_again}
use Rattle.flow_sql.proofs.Finding.{answered, blank_never_reads, format_answer, past_format_answer, read_over, read_blank, refused, shut_fails, at_rest}
use Rattle.flow_sql.proofs.Places.{never_none}
use Rattle.flow_rows.specs.Rows.{Two}
use Rattle.flow_rows.proofs.Laws.{book_undamaged}
use Rattle.flow_tables.proofs.Stopping.{error_after, format_cut, never_told, ours_limited, survived, was_shut}
use Rattle.sqlite.specs.declared.types.Value.{Value}
use Rattle.std.proofs.Common.{true≢false}
use Rattle.std.specs.Ordering.{int_eq}
use Rattle.flow_sql.specs.Past.{HasPast}
use Rattle.flow_sql.specs.Stored.{number_of}
use Rattle.std.proofs.lemmas.Bool.{cases_Bool}
use Rattle.flow_tables.specs.Opening.{opening_fault, IsOfStore, IsOfTables, IsOfRows, IsFirstDamage, IsToldOf, StandFor, IsMet, HasCause, HasFormat, StopsTables, IsFoundSo}

---- The faults of the store

pub of_store : (e : Error) → IsOfTables (opening_fault e)
of_store (SqliteFailure code.OutOfMemory) = tt
of_store _ = tt

-- a store is refused so too
pub of_tables : (f : Fault) → IsOfTables f → IsOfStore f
of_tables (NoMemory _) of = tt
of_tables StoreRefused of = tt
of_tables NotOurs of = tt
of_tables _ of = absurd of

pub caused : {S : Type 0} (g : Ghosts S) (e : Error) → IsMet g e → HasCause g (opening_fault e)
caused g e met = by_fault (opening_fault e) refl
  where
    by_fault : (f : Fault) → opening_fault e ≡ f → HasCause g f
    by_fault (NoMemory _) is = tt
    by_fault StoreRefused is = (e, met, is)
    by_fault NotOurs is = (e, met, is)
    by_fault _ is = tt

---- Damages

-- there are our tables, or none
pub never_both : {A : Type 0} (db : Database) → HasTables db → db.schema ≡ no_schema → A
never_both db has none = absurd (never_none has.layout (sym has.lie.laid_out ∙ none))

module _ (is_program : Bytes → Bool) (db : Database) (f : Fault) where
  pub told_blank : db.schema ≡ no_schema → IsToldOf is_program db f → IsOfTables f
  told_blank none (inl of) = of
  told_blank none (inr damage) = never_both db damage.0 none

  pub told_first : IsToldOf is_program db f → IsFirstDamage is_program (tables_in db) f
  told_first (inl of) = harmless f of
    where
      harmless : (f : Fault) → IsOfTables f → IsFirstDamage is_program (tables_in db) f
      harmless (Damaged d) of = absurd of
      harmless _ of = tt
  told_first (inr damage) = subst (IsFirstDamage is_program (tables_in db)) (sym damage.2.1) (damage.1, damage.3, damage.2.2)

  -- tables that stand for a book have none
  pub told_whole : (b : Book) → StandFor is_program (tables_in db) b → IsToldOf is_program db f → IsOfTables f
  told_whole b stand (inl of) = of
  told_whole b stand (inr damage) =
      absurd (let some = damage.2.2 in let none = book_undamaged is_program Two damage.1 b stand.texts stand.runs (damage.3.0 ∙ stand.same) in cc)

---- One call after another

pub rests_on : (a b c : State) → HasEnded a b → (IsAtRest b → HasEnded b c) → HasEnded a c
rests_on a b c one two = ends_again a b c one (two (at_rest a b one))

other_number : ◌≡◌ {A = Value} (Int (pos 1)) (Int (pos 2)) → ⊥
other_number e = true≢false (ap (λ v. int_eq (number_of v) (pos 1)) e)

-- what is found by the question for the format
module _ {S : Type 0} (g : Ghosts S) (old : State) (mid new : Held S) (ended : HasEnded old (state g mid)) where
  -- what was there when it was asked
  pub had : HasTables old.committed ⊎ (old.committed.schema ≡ no_schema) → IsTrue (state g mid).is_open → HasTables (state g mid).now ⊎ ((state g mid).now.schema ≡ no_schema)
  had ours up = subst (λ (db : Database). HasTables db ⊎ (db.schema ≡ no_schema)) (sym (ended.back up).0) ours

  module _ (row : Row) (asked : QueriesRow format_sql [] (state g mid) (state g new) (Ok row)) where
    same : IsUnchanged (state g mid) (state g new)
    same = answered (state g mid) (state g new) row asked

    pub found_there : Survives old (state g mid) (λ _. ⊥) → column row 0 ≡ Int (pos 2) → HasFormat g old true × IsFoundSo g old (state g new) true
    found_there quiet is = (
      (mid, new, ended, survived old (state g mid) _ quiet, (row, asked, is)),
      (
        read_over old (state g mid) (state g new) ended same,
        λ none. blank_never_reads (state g mid) (state g new) row (ap (λ (d : Database). d.schema) (ended.back same.0.was_open).0 ∙ none) asked,
        λ past. other_number (sym (ap (λ r. column r 0) (past_format_answer (state g mid) (state g new) row (subst HasPast (sym (ended.back same.0.was_open).0) past) asked)) ∙ is),
      ),
    )

    pub row_ours : HasTables old.committed ⊎ (old.committed.schema ≡ no_schema) → row ≡ Int (pos 2) ∷ []
    row_ours ours = elim (had ours same.0.was_open) [
      | inl has ↦ format_answer (state g mid) (state g new) row has asked
      | inr none ↦ absurd (blank_never_reads (state g mid) (state g new) row none asked)
    ]

  module _ (quiet : Survives old (state g mid) (λ _. ⊥)) (clean : HasCleanDisk (state g mid)) (le : (state g mid).faults ≤ (state g new).faults) (e : Error) (asked : QueriesRow format_sql [] (state g mid) (state g new) (Err e)) where
    pub found_missing : e ≢ QueryReturnedNoRows → opening_fault e ≡ NotOurs → HasFormat g old false × IsFoundSo g old (state g new) false
    found_missing other told =
        let same = refused (state g mid) (state g new) e asked (λ x is fails. never_told e (fails.0, is ∙ fails.1) told) in (
          (mid, new, ended, survived old (state g mid) _ quiet, (e, asked, other, told)),
          (
            λ has. (
              (let now = (read_over old (state g mid) (state g new) ended same has).0.now in (now.layout, now.lie.laid_out)),
              subst (λ (o : Option ℕ). IsSome o) quiet.limit (ours_limited (state g mid) (state g new) e asked same.0.was_open (subst HasTables (sym (ended.back same.0.was_open).0) has) told),
            ),
            read_blank old (state g mid) (state g new) ended same,
            λ past. ap (λ (d : Database). d.schema) (same.0.now_is ∙ (ended.back same.0.was_open).0) ∙ past.laid_out,
          ),
        )

    pub format_stopped : HasTables old.committed ⊎ (old.committed.schema ≡ no_schema) → (f : Fault) → (f ≡ opening_fault e) × ((e ≡ QueryReturnedNoRows) ⊎ (opening_fault e ≢ NotOurs)) → IsOfTables f × StopsTables g old (state g new) f
    format_stopped ours f is = (
      subst IsOfTables (sym is.0) (of_store e),
      error_after g old (state g mid) (state g new) (survived old (state g mid) _ quiet) (was_shut g old (state g mid) (state g new) _ quiet clean le) f e is.0
          (λ down. shut_fails (state g mid) (state g new) e down asked) (format_cut (state g mid) (state g new) e asked (had ours) is.1),
    )

---- No tables

pub empty_of_rows : (is_program : Bytes → Bool) → IsOfRows is_program no_book
empty_of_rows is_program = record { texts = tt; runs = tt; same = refl }

none_there : {A : Type 0} (f : Run → List A) (z : ℤ) → [] ≡ of_run (run_at no_book z) f
none_there f (pos n) = elim (cases_Bool (nat_eq n 0)) [ inl zeroth ↦ rw zeroth refl | inr other ↦ rw other refl ]
none_there f (negsuc n) = refl

-- Tables without rows tell the empty book.
pub none_tell : Tells no_tables no_book
none_tell = record {
  same = λ i. record {
    texts = [];
    runs = [];
    events = λ z. none_there (λ r. map (event_row z) r.history) z i;
    timers = λ z. none_there (λ r. map (timer_row z) (timers_left r.history)) z i;
    outbox = λ z. none_there (λ r. map (task_row z) r.tasks) z i;
  };
  runs = tt;
}
