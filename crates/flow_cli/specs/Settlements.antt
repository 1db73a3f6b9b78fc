-- What `flow settle` says of two texts.
use Rattle.std.specs.Prelude.{◌≡◌, ℕ, List, [], ◌++◌, map, codes, Option, Some, None, Result, Ok, Err}
use Rattle.serde_json.specs.Data.{Data, array, string}
use Rattle.serde_json.specs.View.{items_of}
use Rattle.serde_json.specs.Written.{compact_text}
use Rattle.flow_base.specs.Syntax.{Bytes, Program}
use Rattle.flow_base.specs.declared.code.Code.TheVariants.{NotSettled}
use Rattle.flow_base.specs.declared.command.TextFault.{TextFault}
use Rattle.flow_cli.specs.Changes.{both_of, broken_marks, broken_text}
use Rattle.flow_cli.specs.declared.change.Broken.{Broken}
use Rattle.flow_cli.specs.declared.safety.Safety.TheVariants as safety
use Rattle.flow_cli.specs.declared.settlement.Settlement.{Settlement}
use Rattle.flow_cli.specs.declared.settlement.Settlement.TheVariants as settlement
use Rattle.flow_cli.specs.Safety.{safety_marks, safety_text}
use Rattle.flow_patch.specs.Settle.{is_among, settled_ids, Settles}
use Rattle.flow_patch.specs.Unsettled.{first_unsettled}

abbrev pub of_unsettled : Program → Program → Option ℕ → Settlement
of_unsettled p p' None = settlement.Settles (settled_ids p p')
of_unsettled p p' (Some at) = settlement.Differs (record { at = at; code = NotSettled })

abbrev pub of_both : Result (Program × Program) Broken → Settlement
of_both (Ok ps) = of_unsettled ps.0 ps.1 (first_unsettled (is_among (settled_ids ps.0 ps.1)) ps.0 ps.1)
of_both (Err b) = settlement.Broken b

-- by which programs the texts are, or why they are none
abbrev pub settlement_of : Result Program TextFault → Result Program TextFault → Settlement
settlement_of m m' = of_both (both_of m m')

-- the ids as a list of JSON
abbrev pub ids_out : List Bytes → Data
ids_out ids = array (items_of (map string ids))

-- a text that is no program is named as by `flow safe`
abbrev pub settlement_text : Settlement → List ℕ
settlement_text (settlement.Settles ids) = codes "settles " ++ compact_text (ids_out ids)
settlement_text (settlement.Differs u) = safety_text (safety.Differs u)
settlement_text (settlement.Broken b) = broken_text b

-- where the new text differs, or a text is no program
abbrev pub settlement_marks : List ℕ → List ℕ → Settlement → List ℕ
settlement_marks old new (settlement.Settles ids) = []
settlement_marks old new (settlement.Differs u) = safety_marks old new (safety.Differs u)
settlement_marks old new (settlement.Broken b) = broken_marks old new b

abbrev pub settlement_status : Settlement → ℕ
settlement_status (settlement.Settles ids) = 0
settlement_status s = 1

-- both texts are programs, and the second settles the patches of the first whose ids stand there under `deprecate`
abbrev pub MeansSettled : Result Program TextFault → Result Program TextFault → Type 0
MeansSettled m m' = (p : Program) × ((p' : Program) × ((m ≡ Ok p) × (m' ≡ Ok p') × Settles (is_among (settled_ids p p')) p p'))
