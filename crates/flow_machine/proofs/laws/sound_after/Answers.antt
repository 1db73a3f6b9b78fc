use Rattle.flow_machine.proofs.Keeps.{nothing_sound, after_keeps}
use Rattle.flow_machine.proofs.Meaning.{reads_well_formed}
use Rattle.flow_machine.proofs.laws.sound_after.Goals as goal

pub returns-clause-nothing : goal.returns-clause-nothing
returns-clause-nothing c = nothing_sound

pub returns-clause-after : goal.returns-clause-after
returns-clause-after c = after_keeps

pub returns-clause-language : goal.returns-clause-language
returns-clause-language c = reads_well_formed
