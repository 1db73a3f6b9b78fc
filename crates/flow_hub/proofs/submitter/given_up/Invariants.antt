use Rattle.std.proofs.Common.{◌≡◌, ◌≤◌, ◌+◌, length}
use Rattle.std.specs.Vec.{vec_capacity}
use Rattle.flow_hub.specs.Knowing.{IsBefore}
use Rattle.flow_hub.specs.Seating.{IsSubmitters}
use Rattle.flow_hub.proofs.submitter.given_up.Given as goal

abbrev pub invariant-loop-mine : goal.invariant-loop-mine
invariant-loop-mine g l =
    IsBefore l.initial.me.was l.me.was × IsSubmitters l.me × (length l.mine.items ≡ l.me.owed) ×
    (l.initial.me.was.fetched + length l.initial.mine.items ≤ l.me.was.fetched + length l.mine.items) × (vec_capacity l.mine ≡ vec_capacity l.initial.mine)

abbrev pub decreases-loop-mine : goal.decreases-loop-mine
decreases-loop-mine g l = length l.mine.items
