-- What `flow check` says of a text.
use Rattle.std.specs.Prelude.{ℕ, List, [], ◌++◌, codes, decimal, Result, Ok, Err}
use Rattle.flow_base.specs.Codes.{code_text}
use Rattle.flow_base.specs.Syntax.{Program}
use Rattle.flow_base.specs.declared.command.TextFault.{TextFault}
use Rattle.flow_cli.specs.Places.{mark_text}
use Rattle.flow_cli.specs.declared.check.Verdict.{Verdict}
use Rattle.flow_cli.specs.declared.check.Verdict.TheVariants as verdict

-- by which program the text is, or why it is none
abbrev pub verdict_of : Result Program TextFault → Verdict
verdict_of (Ok p) = verdict.Good
verdict_of (Err f) = verdict.Broken f

abbrev pub verdict_text : Verdict → List ℕ
verdict_text verdict.Good = codes "ok"
verdict_text (verdict.Broken f) = code_text f.code ++ (codes " at " ++ decimal f.at)

abbrev pub verdict_status : Verdict → ℕ
verdict_status verdict.Good = 0
verdict_status (verdict.Broken f) = 1

-- where the text is no program
abbrev pub verdict_mark : List ℕ → Verdict → List ℕ
verdict_mark text verdict.Good = []
verdict_mark text (verdict.Broken f) = mark_text [] text f.at
