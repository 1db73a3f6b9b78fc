use Rattle.std.proofs.Common.{rules, arith}
use Rattle.flow_hub.proofs.Fetching.{fetched_fewer}
use Rattle.flow_hub.proofs.Growing.{before_trans}
use Rattle.flow_hub.proofs.submitter.given_up.Goals as goal

pub loop-mine-preserved : goal.loop-mine-preserved
loop-mine-preserved g c =
    let fewer = fetched_fewer c.loop-mine.mine.items c.awaited-seen.new.mine.items _ c.awaited-seen.ensures.mine in
    let more = c.awaited-seen.ensures.one_more in
    let before = c.loop-mine.invariant.3 in (
      before_trans c.args.seat.was c.loop-mine.me.was c.awaited-seen.result.0.was c.loop-mine.invariant.0 c.awaited-seen.ensures.grows,
      search rules,
      c.awaited-seen.ensures.owed,
      omega (arith, fewer, more, before),
      search rules,
    )

pub loop-mine-smaller : goal.loop-mine-smaller
loop-mine-smaller g c =
    let fewer = fetched_fewer c.loop-mine.mine.items c.awaited-seen.new.mine.items _ c.awaited-seen.ensures.mine in
    omega (arith, fewer)
