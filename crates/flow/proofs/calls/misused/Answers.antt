use Rattle.flow.proofs.calls.misused.Goals as goal

pub returns-in-BadUsage : goal.returns-in-BadUsage
returns-in-BadUsage c = record { usage = λ _. (c.misused.ensures.fault, c.misused.ensures.reason); other = λ not. absurd (not c.in-BadUsage.is) }

pub returns-in_default : goal.returns-in_default
returns-in_default c = record { usage = λ is. absurd (c.in_default.not-BadUsage is); other = λ _. c.from.ensures }
