-- The rows of some runs: those up to a number, those behind one up to another, and those behind one.
use Rattle.std.specs.Prelude.{◌≡◌, ◌&&◌, int_le}
use Rattle.flow_sql.specs.Names.{Bool, EventRow, IsAscending, List, RunRow, Tables, events_of, false, filter, int_lt, true, ℤ, []}
use Rattle.flow_sql.specs.Stored.{LieByRun}
use Rattle.flow_rows.specs.Damages.{event_place}
use Rattle.flow_rows.specs.Rising.{of_run}

pub data Span : Type 0 where
  Until : ℤ → Span
  Within : ℤ → ℤ → Span
  After : ℤ → Span

abbrev pub is_in : Span → ℤ → Bool
is_in (Until high) n = int_le n high
is_in (Within low high) n = int_lt low n && int_le n high
is_in (After low) n = int_lt low n

abbrev pub is_run_in : Span → RunRow → Bool
is_run_in s r = is_in s r.num

-- the rows of runs lie by rising number, so that those of one span lie behind those of the span before it
abbrev pub IsBelow : RunRow → RunRow → Type 0
IsBelow a b = int_lt a.num b.num ≡ true

-- the rows of these runs
pub record AreRunsIn (s : Span) (t : Tables) (rows : List RunRow) : Type 0 where
  pub rise : IsAscending IsBelow t.runs
  pub are : rows ≡ filter (is_run_in s) t.runs

-- the rows of what these runs have, and of no others
pub record AreOfRuns {A : Type 0} (place : A → ℤ × ℤ) (s : Span) (theirs : ℤ → List A) (rows : List A) : Type 0 where
  pub own : (run : ℤ) → is_in s run ≡ true → of_run place run rows ≡ theirs run
  pub others : (run : ℤ) → is_in s run ≡ false → of_run place run rows ≡ []
  pub lie : LieByRun place rows

-- the rows of events of these runs, and of no others
pub record AreEventsIn (s : Span) (t : Tables) (rows : List EventRow) : Type 0 where
  pub own : (run : ℤ) → is_in s run ≡ true → events_of rows run ≡ t.events run
  pub others : (run : ℤ) → is_in s run ≡ false → events_of rows run ≡ []
  pub lie : LieByRun event_place rows
