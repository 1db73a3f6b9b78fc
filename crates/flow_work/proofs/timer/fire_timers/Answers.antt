use Rattle.std.proofs.Common.{rules}
use Rattle.flow_work.proofs.Firing.{fires_end, fires_more}
use Rattle.flow_work.proofs.timer.fire_timers.Goals as goal

pub returns-then-not-fire : goal.returns-then-not-fire
returns-then-not-fire g c =
    let old = c.ticks.reports in
    let new = c.fire.new.self in
    fires_end (g.C.Clock.tells c.args.clock.now) old.submitter.was new.submitter.was c.args.reports.told old.told new.told c.fire.result c.if-not-fire.true c.fire.ensures.grows c.ticks.invariant.2 c.fire.ensures.fires

pub ticks-preserved : goal.ticks-preserved
ticks-preserved g c =
    let old = c.ticks.reports in
    let new = c.fire.new.self in (
      search rules,
      search rules,
      fires_more (g.C.Clock.tells c.args.clock.now) old.submitter.was new.submitter.was c.args.reports.told old.told new.told c.fire.result c.if-not-fire.false c.fire.ensures.grows c.ticks.invariant.2 c.fire.ensures.fires,
    )
