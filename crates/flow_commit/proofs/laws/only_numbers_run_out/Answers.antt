use Rattle.flow_commit.proofs.RunningOut.{only_numbers}
use Rattle.flow_commit.proofs.laws.only_numbers_run_out.Goals as goal

pub returns : goal.returns
returns c = only_numbers
