use Rattle.flow_check.proofs.HavingKinds.{value_has_kind}
use Rattle.flow_check.proofs.Beginnings.{only_next}
use Rattle.flow_check.proofs.Moments.{nothing_missing, one_kind, commands_fit, stands_reached}
use Rattle.flow_check.proofs.laws.checked_programs_fit.Goals as goal

pub returns-clause-nothing_missing : goal.returns-clause-nothing_missing
returns-clause-nothing_missing c = nothing_missing

pub returns-clause-only_next : goal.returns-clause-only_next
returns-clause-only_next c = only_next

pub returns-clause-one_kind : goal.returns-clause-one_kind
returns-clause-one_kind c = one_kind

pub returns-clause-commands : goal.returns-clause-commands
returns-clause-commands c = commands_fit

pub returns-clause-values : goal.returns-clause-values
returns-clause-values c = value_has_kind

pub returns-clause-stands : goal.returns-clause-stands
returns-clause-stands c = stands_reached
