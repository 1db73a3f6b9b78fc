use Rattle.flow.proofs.Causes.{of_other}
use Rattle.flow.proofs.store.unopened.Goals as goal

pub returns-in_default : goal.returns-in_default
returns-in_default g c = of_other (g.H.System.finds c.args.system.now) c.args.file.now c.args.error c.unopened.result c.in_default.not-SqliteFailure c.unopened.ensures
