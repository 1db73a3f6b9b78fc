use Rattle.std.proofs.Common.{ap, ◌∙◌, string_bytes}
use Rattle.std.specs.List.{prefix_len}
use Rattle.flow_model.specs.Tokens.{unquoted}
use Rattle.flow_tokens.specs.declared.run.Class.TheVariants.{Plain}
use Rattle.flow_tokens.specs.Classes.{has}
use Rattle.flow_tokens.specs.Quoted.{goes_on}
use Rattle.flow_tokens.proofs.Gaps.{nothing_left}
use Rattle.flow_tokens.proofs.Quotes.{run_pushed}
use Rattle.flow_tokens.proofs.words.push_plain.Goals as goal

pub returns-clause-same : goal.returns-clause-same
returns-clause-same c =
    ap (λ v. goes_on v (unquoted c.split_run.result.1.now)) c.in_ok-push_str.ensures.bytes
    ∙ run_pushed (string_bytes c.args.value.now) c.split_run.result.0.now c.args.text.now c.split_run.result.1.now c.split_run.ensures.front c.split_run.ensures.back

pub returns-clause-all : goal.returns-clause-all
returns-clause-all c = ap (prefix_len (has Plain)) c.split_run.ensures.back ∙ nothing_left (has Plain) c.args.text.now
