-- Lines that are printed.
use Rattle.std.specs.Prelude.{◌≡◌, ℕ, List, [], ◌∷◌, ◌++◌, Bool, true, false, Option, max, if◌then◌else◌, refl}
use Rattle.std.specs.Coded.{Coded, code_by, coded×, coded_ℕ, coded_bool, coded_list, coded_option}
use Rattle.std.specs.Io.KnownBytes.{Appends}
use Rattle.flow_lines.specs.Driving.{WritesBeginning, answer_status}
use Rattle.flow_lines.specs.Replies.{line_text}
use Rattle.flow_lines.specs.Tasks.{task_text}
use Rattle.flow_lines.specs.declared.reply.Line.{Line}
use Rattle.flow_base.specs.declared.task.Task.{Task}
use Rattle.flow_work.specs.declared.shown.Shown.{Shown}
use Rattle.flow_work.specs.declared.shown.Shown.TheVariants as shown
use Rattle.flow_work.specs.contracts.shown.Shown as shown_row

-- what is printed of it, without its end
abbrev pub shown_text : Shown → List ℕ
shown_text (shown.Reply line) = line_text line
shown_text (shown.Task task) = task_text task

-- on a line of its own
abbrev pub shown_line : Shown → List ℕ
shown_line x = shown_text x ++ 10 ∷ []

-- What was printed so far: whether a write has failed, the status, what the writer holds, where that is known, and the lines that were
-- printed whole.
pub record Printed : Type 0 where
  pub is_mute : Bool
  pub status : ℕ
  pub bytes : Option (List ℕ)
  pub shown : List Shown

abbrev pub printed_code : Coded Printed
printed_code =
    code_by (Bool × (ℕ × (Option (List ℕ) × List Shown))) (coded× coded_bool (coded× coded_ℕ (coded× (coded_option (coded_list coded_ℕ)) (coded_list shown_row.the_row.coded))))
    (λ p. (p.is_mute, (p.status, (p.bytes, p.shown)))) (λ p. record { is_mute = p.0; status = p.1.0; bytes = p.1.1.0; shown = p.1.1.1 }) (λ _. refl)

-- nothing is printed yet where the writer holds this
abbrev pub blank : Option (List ℕ) → Printed
blank bytes = record { is_mute = false; status = 0; bytes = bytes; shown = [] }

-- all of these bytes are written, or a beginning of them
abbrev pub Writes : Bool → Option (List ℕ) → Option (List ℕ) → List ℕ → Type 0
Writes true old new bytes = Appends old new bytes
Writes false old new bytes = WritesBeginning old new bytes

-- All of the line is printed; or a beginning of it, and from now on nothing.
abbrev pub PrintsNow : Shown → Bool → Printed → Printed → Type 0
PrintsNow x false old new = Appends old.bytes new.bytes (shown_line x) × (new.shown ≡ old.shown ++ x ∷ [])
PrintsNow x true old new = WritesBeginning old.bytes new.bytes (shown_line x) × (new.shown ≡ old.shown)

-- Once a write has failed nothing more is printed.
abbrev pub PrintsBy : Shown → Bool → Printed → Printed → Type 0
PrintsBy x false old new = PrintsNow x new.is_mute old new
PrintsBy x true old new = (new.is_mute ≡ true) × (new.bytes ≡ old.bytes) × (new.shown ≡ old.shown)

-- a line is printed, unless a write has failed before or fails now
abbrev pub Prints : Shown → Printed → Printed → Type 0
Prints x old new = PrintsBy x old.is_mute old new

-- the greatest status with that of one line more; 3 once a write has failed
abbrev pub status_with : ℕ → Line → Bool → ℕ
status_with status line is_mute = if is_mute then 3 else max status (answer_status line)

-- a line's answer is printed, and counts for the status
abbrev pub PrintsLine : Line → Printed → Printed → Type 0
PrintsLine line old new = Prints (shown.Reply line) old new × (new.status ≡ status_with old.status line new.is_mute)

-- the status is as it was; 3 once a write has failed
abbrev pub status_by : ℕ → Bool → ℕ
status_by status is_mute = if is_mute then 3 else status

-- a task's line is printed
abbrev pub PrintsTask : Task → Printed → Printed → Type 0
PrintsTask task old new = Prints (shown.Task task) old new × (new.status ≡ status_by old.status new.is_mute)
