use Rattle.std.proofs.Common.{[], ◌∷◌, ◌++◌, ap, sym, ◌∙◌}
use Rattle.flow_pool.specs.Reports.{came_of}
use Rattle.flow_timers.specs.Pausing.{pause_after}
use Rattle.flow_work.proofs.Firing.{fires_last, fires_one}
use Rattle.flow_work.proofs.reports.Reporter.fire.Goals as goal

pub returns-then-ends-clause-fires : goal.returns-then-ends-clause-fires
returns-then-ends-clause-fires g c =
    let asked = c.next_tick.new.self in
    let behind = c.report-heard.new.self in
    let told = c.report-heard.ensures.told ∙ ap (λ w. w ++ (c.in-Some.tick, came_of c.report-heard.result) ∷ []) c.next_tick.ensures.told in
    fires_last (g.C.Clock.tells c.args.clock.now) asked.submitter behind.submitter c.in-Some.tick c.report-heard.result c.args.self.now.told behind.told (c.in-Some.ensures {u = tt}).tick c.report-heard.ensures.heard told
    (sym c.is_last-ends.ensures ∙ c.if-ends.true)

pub returns-clause-fires : goal.returns-clause-fires
returns-clause-fires g c =
    let asked = c.next_tick.new.self in
    let behind = c.report-heard.new.self in
    let told = c.report-heard.ensures.told ∙ ap (λ w. w ++ (c.in-Some.tick, came_of c.report-heard.result) ∷ []) c.next_tick.ensures.told in
    fires_one (g.C.Clock.tells c.args.clock.now) asked.submitter behind.submitter c.in-Some.tick c.report-heard.result c.args.self.now.told behind.told (c.in-Some.ensures {u = tt}).tick c.report-heard.ensures.heard told
    (sym c.is_last-ends.ensures ∙ c.if-ends.false)

pub returns-clause-pauses : goal.returns-clause-pauses
returns-clause-pauses g c on =
    let tick = c.in-Some.tick in
    let told = c.report-heard.ensures.told ∙ ap (λ w. w ++ (tick, came_of c.report-heard.result) ∷ []) c.next_tick.ensures.told in
    ((tick, came_of c.report-heard.result), told, c.wait_unless.ensures ∙ ap (λ b. pause_after b c.args.pause.now) c.is_replied-replied.ensures)
