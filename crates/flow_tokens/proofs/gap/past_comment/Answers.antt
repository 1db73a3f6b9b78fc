use Rattle.std.proofs.Common.{sym, ap, ◌∙◌}
use Rattle.flow_model.specs.Tokens.{past_gap}
use Rattle.flow_tokens.proofs.Gaps.{gap_past_comment}
use Rattle.flow_tokens.proofs.gap.past_comment.Goals as goal

pub returns-clause-same : goal.returns-clause-same
returns-clause-same c = c.past_blanks.ensures.same ∙ ap past_gap c.split_run.ensures.back ∙ sym (gap_past_comment c.args.text.now c.requires)
