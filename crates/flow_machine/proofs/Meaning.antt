-- The rules of the product read well-formed programs alone, of 65,536 bytes at most.
use Rattle.std.proofs.Common.{subst}
use Rattle.flow_model.specs.Apply.{rules_of}
use Rattle.flow_model.specs.Meaning.{Means}
use Rattle.flow_check.specs.Language.{meaning_of}
use Rattle.flow_check.proofs.Meaning.{meaning_is}
use Rattle.flow_machine.specs.Soundness.{ReadsWellFormed}
use Rattle.flow_machine.specs.Welcome.{ReadsShort}

pub reads_well_formed : ReadsWellFormed (rules_of meaning_of)
reads_well_formed text p e = (subst (Means text) e (meaning_is text)).1

pub reads_short : ReadsShort (rules_of meaning_of)
reads_short text p e = (subst (Means text) e (meaning_is text)).0.0
