use Rattle.flow_machine.proofs.Reading.{no_text_unread, after_reads}
use Rattle.flow_machine.proofs.Unstuck.{sound_decides}
use Rattle.flow_machine.proofs.Unnumbered.{stuck_unnumbered}
use Rattle.flow_machine.proofs.laws.sound_decides.Goals as goal

pub returns-clause-nothing : goal.returns-clause-nothing
returns-clause-nothing c = no_text_unread

pub returns-clause-after : goal.returns-clause-after
returns-clause-after c = after_reads

pub returns-clause-decides : goal.returns-clause-decides
returns-clause-decides c = sound_decides

pub returns-clause-unnumbered : goal.returns-clause-unnumbered
returns-clause-unnumbered c = stuck_unnumbered
