use Rattle.std.proofs.Common.{sym, subst, ap, ◌∙◌}
use Rattle.std.specs.Str.{IsCharBoundary}
use Rattle.std.specs.List.{prefix_len}
use Rattle.flow_tokens.specs.Classes.{has}
use Rattle.flow_tokens.proofs.Runs.{cut_behind_run}
use Rattle.flow_tokens.proofs.run.split_run.Goals as goal

pub split_at-requires : goal.split_at-requires
split_at-requires c =
    subst (IsCharBoundary c.args.text.now)
    (sym (c.run_len.ensures ∙ ap (λ bs. prefix_len (has c.args.class) bs) c.as_bytes.ensures.value))
    (cut_behind_run c.args.text.now c.utf8.text c.args.class)
