use Rattle.std.proofs.Common.{sym, ap, ◌∙◌}
use Rattle.std.specs.List.{prefix_len}
use Rattle.flow_model.specs.Tokens.{past_gap}
use Rattle.flow_tokens.specs.declared.run.Class.TheVariants.{Blank}
use Rattle.flow_tokens.specs.Classes.{has}
use Rattle.flow_tokens.proofs.Gaps.{gap_past_blanks, nothing_left}
use Rattle.flow_tokens.proofs.gap.past_blanks.Goals as goal

pub returns-clause-same : goal.returns-clause-same
returns-clause-same c = ap past_gap c.split_run.ensures.back ∙ sym (gap_past_blanks c.args.text.now)

pub returns-clause-all : goal.returns-clause-all
returns-clause-all c = ap (prefix_len (has Blank)) c.split_run.ensures.back ∙ nothing_left (has Blank) c.args.text.now
