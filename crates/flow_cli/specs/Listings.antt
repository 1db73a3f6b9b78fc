-- What `flow open` writes of a store.
use Rattle.std.specs.Prelude.{◌≡◌, List, [], ◌∷◌, ◌++◌, ℕ, Option, map, take, drop}
use Rattle.std.specs.Io.KnownBytes.{Appends}
use Rattle.flow_base.specs.declared.book.Run.{Run}
use Rattle.flow_base.specs.declared.command.OpenRun.{OpenRun}
use Rattle.flow_base.specs.declared.command.Reply.{Reply}
use Rattle.flow_base.specs.declared.command.Reply.TheVariants as reply
use Rattle.flow_model.specs.Apply.{Rules, open_run_told, first_number}
use Rattle.flow_model.specs.Book.{Book, open_runs}
use Rattle.flow_lines.specs.Replies.{open_run_text}
use Rattle.flow_cli.specs.Lines.{lines_written}

-- each open run on a line of its own
abbrev pub listing_written : List OpenRun → List ℕ
listing_written rs = lines_written open_run_text rs

abbrev pub runs_written : Rules → Book → List (ℕ × Run) → List ℕ
runs_written u b rs = listing_written (map (open_run_told u.program_of b) rs)

-- The lines of the open runs of a book from a number on, in the order of their numbers.
abbrev pub open_lines : Rules → Book → ℕ → List ℕ
open_lines u b from = runs_written u b (open_runs b from)

-- those of the first so many
abbrev pub page_lines : Rules → Book → ℕ → ℕ → List ℕ
page_lines u b from most = runs_written u b (take most (open_runs b from))

-- the number of the open run behind them
abbrev pub next_open : Book → ℕ → ℕ → Option ℕ
next_open b from most = first_number (drop most (open_runs b from))

-- A line was written for each open run of the book, which is as it was.
abbrev pub TellsOpen : Rules → Book → Book → Option (List ℕ) → Option (List ℕ) → Type 0
TellsOpen u b b1 old new = (b1 ≡ b) × Appends old new (open_lines u b 1)

-- ---- so many at once

-- these are the first so many, and this is the number of the next one; the book is as it was
pub record ListsPage (u : Rules) (b b1 : Book) (from most : ℕ) (runs : List OpenRun) (next : Option ℕ) : Type 0 where
  pub same : b1 ≡ b
  pub runs_are : runs ≡ map (open_run_told u.program_of b) (take most (open_runs b from))
  pub next_is : next ≡ next_open b from most

-- their lines were written
pub record TellsPage (u : Rules) (b b1 : Book) (from most : ℕ) (next : Option ℕ) (old new : Option (List ℕ)) : Type 0 where
  pub same : b1 ≡ b
  pub written_are : Appends old new (page_lines u b from most)
  pub next_is : next ≡ next_open b from most

-- the reply lists no open runs
abbrev pub IsUnlisted : Reply → Type 0
IsUnlisted (reply.Open rs next) = ⊥
IsUnlisted r = Unit {0}
