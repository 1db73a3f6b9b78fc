-- Lines in, lines out.
use Rattle.std.specs.Prelude.{◌≡◌, ℕ, List, [], ◌∷◌, ◌++◌, max, Option, if◌then◌else◌, ◌==◌}
use Rattle.std.specs.Io.KnownBytes.{Appends}
use Rattle.flow_lines.specs.Replies.{line_text}
use Rattle.flow_lines.specs.declared.reply.Line.{Line}
use Rattle.flow_lines.specs.declared.reply.Line.TheVariants as line

-- ---- the lines of some bytes: each ends before a line feed, the last one perhaps with the bytes

abbrev pub begins_with : ℕ → List (List ℕ) → List (List ℕ)
begins_with b [] = (b ∷ []) ∷ []
begins_with b (l ∷ ls) = (b ∷ l) ∷ ls

abbrev pub lines_of : List ℕ → List (List ℕ)
lines_of [] = []
lines_of (b ∷ bs) = if b == 10 then [] ∷ lines_of bs else begins_with b (lines_of bs)

-- ---- what is written

-- the bytes that are written: each answer on a line of its own
abbrev pub written : List Line → List ℕ
written [] = []
written (a ∷ later) = (line_text a ++ 10 ∷ []) ++ written later

-- ---- the final status

abbrev pub answer_status : Line → ℕ
answer_status (line.Of r) = 0
answer_status line.Bad = 1
answer_status (line.NotApplied c) = 3

abbrev pub final_status : List Line → ℕ
final_status [] = 0
final_status (a ∷ later) = max (answer_status a) (final_status later)

-- ---- where answering ended before the input did

-- a beginning of these bytes was written
pub record WritesBeginning (old new : Option (List ℕ)) (bytes : List ℕ) : Type 0 where
  pub front : List ℕ
  pub back : List ℕ
  pub bytes_are : bytes ≡ front ++ back
  pub written_are : Appends old new front
