use Rattle.flow_tables.proofs.Succession.{made_asked, not_asked}
use Rattle.flow_tables.proofs.ask.ask_first.Goals as goal

pub returns-in-Ok : goal.returns-in-Ok
returns-in-Ok g c = made_asked c.in-Ok.items c.first_of.result (λ t told. (c.in-Ok.items.items, told, c.first_of.ensures)) c.in-Ok.ensures

pub returns-in-Err : goal.returns-in-Err
returns-in-Err g c = not_asked c.in-Err.fault (λ h. h) c.in-Err.ensures
