use Rattle.std.proofs.Common.{rules, ◌∙◌}
use Rattle.flow_hub.specs.Knowing.{IsSamePart}
use Rattle.flow_hub.proofs.Growing.{ends_on, grows_by}
use Rattle.flow_hub.proofs.Moves.{was_of}
use Rattle.flow_hub.proofs.Sound.{ends, ended_by, has_ended}
use Rattle.flow_hub.proofs.state.State.end.Goals as goal

pub invariant_of-self : goal.invariant_of-self
invariant_of-self g c = (
  rw c.finish.ensures (ends _ c.self.invariant.0),
  search rules,
  search rules,
  search rules,
  search rules,
  search rules,
  search rules,
  search rules,
  search rules,
  search rules,
  search rules,
  search rules,
  search rules,
  search rules,
  search rules,
)

pub tell-seat-requires-clause-grows : goal.tell-seat-requires-clause-grows
tell-seat-requires-clause-grows g c = grows_by c.self.inside.keeper.all c.self.inside.known _ c.finish.new.self c.self.invariant.13 c.finish.ensures (ends_on c.self.inside.known)

pub returns-clause-seen : goal.returns-clause-seen
returns-clause-seen g c =
    let i = c.self.inside in
    let same : IsSamePart c.args.me.was i.known = search rules in
    let was = was_of c.tell-seat.result _ _ c.finish.new.self c.tell-seat.ensures.told ∙ c.finish.ensures in
    ended_by c.args.me.was c.tell-seat.result.was _ was (has_ended i.known c.args.me.was same)
