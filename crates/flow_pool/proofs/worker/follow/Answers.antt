use Rattle.std.proofs.Common.{◌≡◌, ◌∙◌, true, sym, ap, subst, codes}
use Rattle.flow_base.specs.declared.command.Command.{Command}
use Rattle.flow_pool.specs.declared.activity.Attempt.{Attempt}
use Rattle.flow_pool.specs.Attempts.{failed_with}
use Rattle.flow_pool.specs.Reports.{Tells, report_of, is_wrong_type}
use Rattle.flow_pool.proofs.worker.follow.Goals as goal

pub returns : goal.returns
returns g c =
    let is : is_wrong_type c.args.heard ≡ true = sym c.has_wrong_type.ensures ∙ c.if-not-has_wrong_type.false in
    let told = c.tell.ensures in
    let same : c.report.result ≡ report_of c.args.task.now (failed_with (codes "wrong type")) c.now.result = c.report.ensures ∙ ap (λ (a : Attempt). report_of c.args.task.now a c.now.result) c.failure-failed.ensures in
    (told.0, told.1, rw is (c.now.result, c.now.ensures, c.tell.result, subst (λ (k : Command). Tells k told.0 c.tell.result) same told.2, c.is_err-2.ensures.value))
