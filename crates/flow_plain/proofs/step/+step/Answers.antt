use Rattle.std.proofs.Common.{rules}
use Rattle.flow_plain.specs.Shown.{shown_rest, KeepsRest}
use Rattle.flow_plain.proofs.step.+step.Goals as goal

pub returns-in_ok-n-in-Then-clause-kept : goal.returns-in_ok-n-in-Then-clause-kept
returns-in_ok-n-in-Then-clause-kept t c =
    let kept : KeepsRest c.args.t.now (shown_rest c.in-Then.r.value) c.step.new.t c.in_ok-m-in-Then.m = search rules in
    rw c.in-Then.is (c.in_ok-n-in-Then.ensures.kept c.args.t.now c.step.new.t (shown_rest c.in-Then.r.value) kept)

pub returns-in-OnSignal-clause-step : goal.returns-in-OnSignal-clause-step
returns-in-OnSignal-clause-step t c = rw c.in-OnSignal.is c.hear.ensures.step
