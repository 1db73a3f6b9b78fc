use Rattle.flow_model.proofs.Verdicts.{verdict_of_standing, verdict_of_mismatch, stands_or_fails, one_mismatch}
use Rattle.flow_model.proofs.laws.verdicts_are_computed.Goals as goal

pub returns-clause-standing : goal.returns-clause-standing
returns-clause-standing c = verdict_of_standing

pub returns-clause-mismatch : goal.returns-clause-mismatch
returns-clause-mismatch c = verdict_of_mismatch

pub returns-clause-each : goal.returns-clause-each
returns-clause-each c = stands_or_fails

pub returns-clause-one : goal.returns-clause-one
returns-clause-one c = one_mismatch
