-- A reader of lines that gives what a JSON value is gives what the line is.
use Rattle.std.proofs.Common.{◌≡◌, ℕ, List, Bool, true, false, Some, None, Option, option_and_then, refl, Result, Ok, Err}
use Rattle.std.specs.Prelude.{IfOk, IsUtf8, if◌then◌else◌}
use Rattle.std.proofs.lemmas.Str.{IsUtf8-from_is_utf8, is_utf8-from_IsUtf8}
use Rattle.std.specs.Str.{is_utf8}
use Rattle.serde_json.specs.Read.{read}
use Rattle.flow_base.specs.declared.command.Command.{Command}
use Rattle.flow_lines.specs.Asks.{asked_in, line_asked}
use Rattle.flow_lines.specs.Faults.{GivesLine}
use Rattle.flow_lines.specs.declared.command.LineFault.{LineFault}
use Rattle.flow_lines.specs.declared.command.LineFault.TheVariants as fault

none_asked : (b : Bool) (line : List ℕ) → is_utf8 line ≡ b → (IsUtf8 line → option_and_then asked_in (read line) ≡ None) → line_asked line ≡ None
none_asked true line is h = rw is (h (IsUtf8-from_is_utf8 line is))
none_asked false line is h = rw is refl

pub exactly_asked : (r : Result Command LineFault) (line : List ℕ) → IfOk r (λ c. IsUtf8 line × (option_and_then asked_in (read line) ≡ Some c))
    → (r ≡ Err fault.NotACommand → IsUtf8 line → option_and_then asked_in (read line) ≡ None) → GivesLine r (line_asked line)
exactly_asked (Ok c) line ok unfit = rw (is_utf8-from_IsUtf8 line ok.0) ok.1
exactly_asked (Err (fault.NoMemory _)) line ok unfit = tt
exactly_asked (Err fault.NotACommand) line ok unfit = none_asked (is_utf8 line) line refl (unfit refl)
