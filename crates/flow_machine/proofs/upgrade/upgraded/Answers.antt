use Rattle.std.proofs.Common.{refl}
use Rattle.flow_machine.proofs.upgrade.upgraded.Goals as goal

pub returns-in-Ok-clause-leads : goal.returns-in-Ok-clause-leads
returns-in-Ok-clause-leads c = record { its_run = refl; its_text = refl; stands = c.in-Ok.ensures.stands }
