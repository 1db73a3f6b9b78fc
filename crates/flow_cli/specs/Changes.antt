-- The two texts of a change, where one of them is no program.
use Rattle.std.specs.Prelude.{ℕ, List, ◌∷◌, ◌++◌, codes, decimal, Result, Ok, Err}
use Rattle.flow_base.specs.Codes.{code_text}
use Rattle.flow_base.specs.Syntax.{Program}
use Rattle.flow_base.specs.declared.command.TextFault.{TextFault}
use Rattle.flow_cli.specs.Places.{mark_text}
use Rattle.flow_cli.specs.declared.change.Broken.{Broken}
use Rattle.flow_cli.specs.declared.change.Broken.TheVariants as broken

-- the programs that the texts are, or why they aren't two
abbrev pub both_of : Result Program TextFault → Result Program TextFault → Result (Program × Program) Broken
both_of (Ok p) (Ok p') = Ok (p, p')
both_of (Err f) (Ok p') = Err (broken.Old f)
both_of (Ok p) (Err f') = Err (broken.New f')
both_of (Err f) (Err f') = Err (broken.Both f f')

abbrev pub place_text : TextFault → List ℕ
place_text f = code_text f.code ++ (codes " at " ++ decimal f.at)

-- a line for each text that is no program
abbrev pub broken_text : Broken → List ℕ
broken_text (broken.Old f) = codes "old: " ++ place_text f
broken_text (broken.New f) = codes "new: " ++ place_text f
broken_text (broken.Both f f') = (codes "old: " ++ place_text f) ++ (10 ∷ (codes "new: " ++ place_text f'))

-- where in each of these texts it is no program
abbrev pub broken_marks : List ℕ → List ℕ → Broken → List ℕ
broken_marks old new (broken.Old f) = mark_text (codes "old: ") old f.at
broken_marks old new (broken.New f) = mark_text (codes "new: ") new f.at
broken_marks old new (broken.Both f f') = mark_text (codes "old: ") old f.at ++ mark_text (codes "new: ") new f'.at
