use Rattle.flow_model.specs.Apply.{rules_of}
use Rattle.flow_check.specs.Language.{meaning_of}
use Rattle.flow_machine.proofs.Meaning.{reads_well_formed}
use Rattle.flow_world.proofs.Invariant.{safe, opens_well}
use Rattle.flow_world.proofs.safety.world_is_safe.Goals as goal

pub returns-clause-safe : goal.returns-clause-safe
returns-clause-safe c = safe (rules_of meaning_of) reads_well_formed

pub returns-clause-opens : goal.returns-clause-opens
returns-clause-opens c = opens_well (rules_of meaning_of)

pub returns-clause-any_rules : goal.returns-clause-any_rules
returns-clause-any_rules c = safe
