use Rattle.std.proofs.Common.{rules}
use Rattle.std.proofs.lemmas.Result.{err_from_is_err_and}
use Rattle.flow_work.proofs.Ran.{not_run}
use Rattle.flow_work.proofs.running.work_shown.Goals as goal

pub returns-in_err-group-clause-ran : goal.returns-in_err-group-clause-ran
returns-in_err-group-clause-ran g c =
    let p = err_from_is_err_and c.from_residual.result c.from_residual.ensures.1 in
    rw p.1 (not_run g.S.Store c.args.engine.now _ p.0 p.2)

pub returns-clause-ran : goal.returns-clause-ran
returns-clause-ran g c = c.work_in.ensures.ran

pub returns-clause-printed : goal.returns-clause-printed
returns-clause-printed g c = c.work_in.ensures.printed
