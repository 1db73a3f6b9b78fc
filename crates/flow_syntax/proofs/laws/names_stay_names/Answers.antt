use Rattle.flow_syntax.proofs.Deprecated.{no_name_no_statement}
use Rattle.flow_syntax.proofs.laws.names_stay_names.Goals as goal

pub returns : goal.returns
returns c = no_name_no_statement
