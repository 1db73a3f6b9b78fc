-- The timer that is due first, by the rows of timers. They may lie in any order.
use Rattle.std.specs.Prelude.{ℕ, pos, Bool, ◌&&◌, List, [], ◌∷◌, Option, Some, None, option_map, int_le, nat_le, if◌then◌else◌}
use Rattle.flow_base.specs.declared.book.Due.{Due}
use Rattle.flow_model.specs.Book.{Book, lesser, least_due}
use Rattle.flow_rows.specs.declared.rows.TimerRow.{TimerRow}
use Rattle.flow_rows.specs.Damages.{last_moment}
use Rattle.flow_rows.specs.Told.{whole}

-- a row whose numbers are those of a timer
abbrev pub is_timer : TimerRow → Bool
is_timer r = int_le (pos 1) r.run && int_le (pos 1) r.id && int_le (pos 0) r.due && int_le r.due last_moment

abbrev pub due_of : TimerRow → Due
due_of r = record { due = whole r.due; run = whole r.run; id = whole r.id }

abbrev pub due_in : TimerRow → Option Due
due_in r = if is_timer r then Some (due_of r) else None

-- the lesser of what was found before and of a timer, where it is due by a moment
abbrev pub with_due : ℕ → Option Due → Option Due → Option Due
with_due at best None = best
with_due at best (Some d) = if nat_le d.due at then Some (lesser best d) else best

abbrev pub least_of_rows : ℕ → Option Due → List TimerRow → Option Due
least_of_rows at best [] = best
least_of_rows at best (r ∷ rs) = least_of_rows at (with_due at best (due_in r)) rs

abbrev pub moment_of : Due → ℕ
moment_of d = d.due

-- when the first of all open timers is due
abbrev pub next_moment : Book → Option ℕ
next_moment b = option_map moment_of (least_due b 1000000000000000)
