-- What `flow safe` says of two texts.
use Rattle.std.specs.Prelude.{◌≡◌, ℕ, List, [], ◌++◌, codes, decimal, Option, Some, None, Result, Ok, Err}
use Rattle.flow_base.specs.Codes.{code_text}
use Rattle.flow_base.specs.Syntax.{Program}
use Rattle.flow_base.specs.declared.code.Code.TheVariants.{NotAWrap}
use Rattle.flow_base.specs.declared.command.TextFault.{TextFault}
use Rattle.flow_cli.specs.Changes.{both_of, broken_marks, broken_text}
use Rattle.flow_cli.specs.Places.{mark_text}
use Rattle.flow_cli.specs.declared.change.Broken.{Broken}
use Rattle.flow_cli.specs.declared.safety.Safety.{Safety}
use Rattle.flow_cli.specs.declared.safety.Safety.TheVariants as safety
use Rattle.flow_patch.specs.Wrap.{Wrap}
use Rattle.flow_patch.specs.Difference.{first_difference}

abbrev pub of_difference : Option ℕ → Safety
of_difference None = safety.Safe
of_difference (Some at) = safety.Differs (record { at = at; code = NotAWrap })

abbrev pub of_both : Result (Program × Program) Broken → Safety
of_both (Ok ps) = of_difference (first_difference ps.0 ps.1)
of_both (Err b) = safety.Broken b

-- by which programs the texts are, or why they are none
abbrev pub safety_of : Result Program TextFault → Result Program TextFault → Safety
safety_of m m' = of_both (both_of m m')

-- a line for each text that is no program
abbrev pub safety_text : Safety → List ℕ
safety_text safety.Safe = codes "safe"
safety_text (safety.Differs u) = code_text u.code ++ (codes " at " ++ decimal u.at)
safety_text (safety.Broken b) = broken_text b

-- where the new text differs, or a text is no program
abbrev pub safety_marks : List ℕ → List ℕ → Safety → List ℕ
safety_marks old new safety.Safe = []
safety_marks old new (safety.Differs u) = mark_text (codes "new: ") new u.at
safety_marks old new (safety.Broken b) = broken_marks old new b

abbrev pub safety_status : Safety → ℕ
safety_status safety.Safe = 0
safety_status s = 1

-- both texts are programs, and the second wraps the first
abbrev pub MeansWrap : Result Program TextFault → Result Program TextFault → Type 0
MeansWrap m m' = (p : Program) × ((p' : Program) × ((m ≡ Ok p) × (m' ≡ Ok p') × Wrap p p'))
