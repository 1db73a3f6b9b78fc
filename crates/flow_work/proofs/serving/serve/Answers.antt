use Rattle.std.proofs.Common.{rules}
use Rattle.std.proofs.lemmas.Result.{err_from_is_err_and}
use Rattle.flow_work.proofs.Ran.{not_run}
use Rattle.flow_work.proofs.serving.serve.Goals as goal

pub returns-in_err-group-clause-ran : goal.returns-in_err-group-clause-ran
returns-in_err-group-clause-ran g c =
    let p = err_from_is_err_and c.from_residual.result c.from_residual.ensures.1 in
    rw p.1 (not_run g.S.Store c.args.engine.now _ p.0 p.2)

pub returns-clause-ran : goal.returns-clause-ran
returns-clause-ran g c = c.serve_in.ensures.ran

pub returns-clause-shown : goal.returns-clause-shown
returns-clause-shown g c = c.serve_in.ensures.shown

pub returns-clause-status : goal.returns-clause-status
returns-clause-status g c = c.serve_in.ensures.status
