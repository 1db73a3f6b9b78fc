use Rattle.std.proofs.Common.{◌∙◌}
use Rattle.flow_tokens.proofs.Runs.{digits_pass}
use Rattle.flow_tokens.proofs.scan.next_number.Goals as goal

pub number-requires : goal.number-requires
number-requires c = digits_pass c.args.rest.now _ (c.as_bytes.ensures.value ∙ c.split_run.ensures.front)
