use Rattle.flow_machine.proofs.Seating.{alike_as}
use Rattle.flow_machine.proofs.seats.kept_at.Goals as goal

pub returns-in_err-copied-in-Some-clause-alike : goal.returns-in_err-copied-in-Some-clause-alike
returns-in_err-copied-in-Some-clause-alike c = alike_as c.args.run c.args.kept.now c.find.follows.lender-at-none c.find.follows.holds-at-none

pub returns-in_ok-copied-in-Some-clause-alike : goal.returns-in_ok-copied-in-Some-clause-alike
returns-in_ok-copied-in-Some-clause-alike c = alike_as c.args.run c.args.kept.now c.find.follows.lender-at-none c.find.follows.holds-at-none

pub returns-in-None-clause-alike : goal.returns-in-None-clause-alike
returns-in-None-clause-alike c = alike_as c.args.run c.args.kept.now c.find.follows.lender-at-none c.find.follows.holds-at-none
