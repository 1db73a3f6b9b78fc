use Rattle.flow_machine.proofs.Meaning.{reads_short}
use Rattle.flow_machine.proofs.Welcomed.{changes_welcome}
use Rattle.flow_machine.proofs.laws.changes_are_welcome.Goals as goal

pub returns-clause-welcome : goal.returns-clause-welcome
returns-clause-welcome c = changes_welcome

pub returns-clause-short : goal.returns-clause-short
returns-clause-short c = reads_short
