use Rattle.std.proofs.Common.{◌∙◌, ◌++◌, refl, ap, subst, append_assoc, List}
use Rattle.flow_base.specs.declared.command.Command.{Command}
use Rattle.flow_pool.specs.Reports.{Telling, Tells}
use Rattle.flow_pool.proofs.worker.work.Goals as goal

pub returns-clause-reported : goal.returns-clause-reported
returns-clause-reported g c =
    let first = c.tell-heard.ensures in
    let more = c.follow.ensures in (
      first.0 ++ more.0,
      more.1 ∙ ap (λ (l : List Telling). l ++ more.0) first.1 ∙ append_assoc (g.S.Reports.told c.args.reports.now) first.0 more.0,
      (
        c.attempt-attempt.result,
        c.attempt-attempt.ensures.comes,
        c.now.result,
        c.now.ensures,
        first.0,
        c.tell-heard.result,
        more.0,
        refl,
        subst (λ (k : Command). Tells k first.0 c.tell-heard.result) c.report.ensures first.2,
        more.2,
      ),
    )
