use Rattle.flow_recover.proofs.Recovering.{refused_by_disk}
use Rattle.flow_recover.proofs.reopen.reopen.Goals as goal

pub returns-in-Ok-clause-opened : goal.returns-in-Ok-clause-opened
returns-in-Ok-clause-opened g c clean =
    let it = c.in-Ok.ensures.opens clean in
    record { opens = it.0; live = it.1; trees = c.in-Ok.ensures.trees clean }

pub returns-in-Err-clause-own : goal.returns-in-Err-clause-own
returns-in-Err-clause-own g c clean b held = refused_by_disk g.S.Store c.args.store c.in-Err.store c.in-Err.error b (c.in-Err.ensures.err clean) held

pub returns-in-Err-clause-stops : goal.returns-in-Err-clause-stops
returns-in-Err-clause-stops g c = c.in-Err.ensures.unharmed.outcomes
