use Rattle.flow_patch.proofs.Words.{wrapped_never_fails, wrapped_stands}
use Rattle.flow_patch.proofs.laws.wrapped_stands.Goals as goal

pub returns-clause-stands : goal.returns-clause-stands
returns-clause-stands c = wrapped_stands

pub returns-clause-never_fails : goal.returns-clause-never_fails
returns-clause-never_fails c = wrapped_never_fails
