-- What is told of texts: a line, marks on standard error, and a status.
use Rattle.std.specs.Prelude.{◌≡◌, ◌⊎◌, ◌++◌, ◌∷◌, [], ℕ, Bool, List, Result, IfOk, IfErr}
use Rattle.std.specs.Io.KnownBytes.{Appends}
use Rattle.flow_base.specs.declared.fault.Fault.{Fault}
use Rattle.flow_base.specs.declared.fault.Fault.TheVariants as fault
use Rattle.flow_lines.specs.Answering.{WritesPart}
use Rattle.flow_lines.specs.Ends.{input_failed, output_failed}
use Rattle.flow_lines.specs.Faults.{fault_status}
use Rattle.flow_lines.specs.declared.output.Output.{Ghosts}
use Rattle.flow_cli.specs.Places.{IsMarked}
use Rattle.flow_cli.specs.Safety.{safety_marks, safety_status, safety_text}
use Rattle.flow_cli.specs.Settlements.{settlement_marks, settlement_status, settlement_text}
use Rattle.flow_cli.specs.Verdicts.{verdict_mark, verdict_status, verdict_text}
use Rattle.flow_cli.specs.declared.check.Verdict.{Verdict}
use Rattle.flow_cli.specs.declared.safety.Safety.{Safety}
use Rattle.flow_cli.specs.declared.settlement.Settlement.{Settlement}

-- ---- one answer: its line without an end, what is marked, and its status

pub record Told : Type 0 where
  pub line : List ℕ
  pub marks : List ℕ
  pub status : ℕ

abbrev pub telling : List ℕ → List ℕ → ℕ → Told
telling line marks status = record { line = line; marks = marks; status = status }

abbrev pub verdict_told : List ℕ → Verdict → Told
verdict_told text v = telling (verdict_text v) (verdict_mark text v) (verdict_status v)

abbrev pub safety_told : List ℕ → List ℕ → Safety → Told
safety_told old new s = telling (safety_text s) (safety_marks old new s) (safety_status s)

abbrev pub settlement_told : List ℕ → List ℕ → Settlement → Told
settlement_told old new s = telling (settlement_text s) (settlement_marks old new s) (settlement_status s)

-- ---- how it is told

-- Its line is written, its marks as errors, and its status is given; or a write failed behind a beginning of the line, or memory ran out
-- before one.
pub record Tells {O P : Type 0} (o : Ghosts O) (p : Ghosts P) (t : Told) (old new : O) (before behind : P) (r : Result ℕ Fault) : Type 0 where
  pub told : IfOk r (λ n. Appends (o.contents old) (o.contents new) (t.line ++ 10 ∷ []))
  pub status : IfOk r (λ n. n ≡ t.status)
  pub stopped : IfErr r (λ e. WritesPart e (o.contents old) (o.contents new) (t.line ++ 10 ∷ []))
  pub early : IfErr r (λ e. fault_status e ≡ 3)
  -- E95 where the output failed, and only there; else memory ran out
  pub output : o.failed new ≡ output_failed r (o.failed old)
  pub input : (was : Bool) → input_failed r was ≡ was
  pub cause : IfErr r (λ e. (e ≡ fault.NoMemory _) ⊎ (e ≡ fault.OutputFailed))
  -- that the marks can't be written changes nothing
  pub marked : IfOk r (λ n. IsMarked (p.contents before) (p.contents behind) (p.failed behind) (p.ran_out behind) t.marks)
  pub unmarked : IfErr r (λ e. behind ≡ before)
