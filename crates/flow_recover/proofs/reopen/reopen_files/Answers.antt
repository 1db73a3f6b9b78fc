use Rattle.sqlite.specs.Files.{file_state, image_of, HoldsDatabase}
use Rattle.flow_recover.proofs.Recovering.{held_opened}
use Rattle.flow_recover.proofs.reopen.reopen_files.Goals as goal

pub returns-in-Ok-clause-opened : goal.returns-in-Ok-clause-opened
returns-in-Ok-clause-opened g c clean db held =
    held_opened (file_state c.in-Ok.opened) (HoldsDatabase (image_of g.D.Disk c.args.files)) db (c.in-Ok.ensures.opened clean) (c.in-Ok.ensures.found clean).holds held
