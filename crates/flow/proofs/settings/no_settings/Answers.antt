use Rattle.flow.proofs.Causes.{unread_settings}
use Rattle.flow.proofs.settings.no_settings.Goals as goal

pub returns-in-Err : goal.returns-in-Err
returns-in-Err g c = unread_settings c.args.file.now c.kind.result c.unread.result c.unread.ensures
