use Rattle.std.proofs.Common.{◌≡◌, drop}
use Rattle.flow_pool.specs.Reports.{first_named}
use Rattle.flow_pool.proofs.attempts.place_of.Given as goal

abbrev pub invariant-places : goal.invariant-places
invariant-places g l = first_named g.A.Activity.named l.name (drop l.i l.activities) ≡ first_named g.A.Activity.named l.name l.activities
