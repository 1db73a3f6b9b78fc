use Rattle.std.proofs.Common.{List, Contains, inl, subst}
use Rattle.flow_machine.specs.declared.seats.Led.{Led}
use Rattle.flow_machine.proofs.seats.Seats.lead_or_end.Goals as goal

pub returns-in-None-clause-grown : goal.returns-in-None-clause-grown
returns-in-None-clause-grown c = λ l there. inl (subst (λ (ls : List Led). Contains ls l) c.end.ensures.ahead there)
