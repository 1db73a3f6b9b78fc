-- What is told of the texts of files.
use Rattle.std.specs.Prelude.{ℕ, List}
use Rattle.flow_check.specs.Language.{meaning_of}
use Rattle.flow_cli.specs.Safety.{safety_of}
use Rattle.flow_cli.specs.Settlements.{settlement_of}
use Rattle.flow_cli.specs.Telling.{Told, safety_told, settlement_told, verdict_told}
use Rattle.flow_cli.specs.Verdicts.{verdict_of}

abbrev pub tells_verdict : List ℕ → Told
tells_verdict text = verdict_told text (verdict_of (meaning_of text))

abbrev pub tells_safety : List ℕ → List ℕ → Told
tells_safety old new = safety_told old new (safety_of (meaning_of old) (meaning_of new))

abbrev pub tells_settlement : List ℕ → List ℕ → Told
tells_settlement old new = settlement_told old new (settlement_of (meaning_of old) (meaning_of new))
