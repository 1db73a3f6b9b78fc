use Rattle.flow.proofs.Causes as causes
use Rattle.flow.proofs.settings.bad_settings.Goals as goal

pub returns-in-Ok-Some : goal.returns-in-Ok-Some
returns-in-Ok-Some c = causes.bad_settings c.args.file.now c.in-Ok-Some.why c.no_settings.result c.no_settings.ensures

pub returns-in_default : goal.returns-in_default
returns-in_default c = causes.bare_settings c.args.file.now c.from.result c.from.ensures
