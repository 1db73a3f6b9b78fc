use Rattle.std.proofs.Common.{◌≡◌, ◌∙◌, List, ap, length, rules}
use Rattle.std.specs.Prelude.{min}
use Rattle.flow_base.specs.declared.event.Cmd.{Cmd}
use Rattle.flow_model.specs.Turn.{ended}
use Rattle.flow_run.specs.Position.{setting_with, shown_frame, shown_progress}
use Rattle.flow_run.specs.Waiting.{opens_in_all}
use Rattle.flow_run.proofs.Turning.{progress_at, step_asks, step_ends, step_goes, step_keeps, step_stays, whole_asks, whole_goes, whole_stays}
use Rattle.flow_run.proofs.turn.step_on.Goals as goal

pub stepped-requires-clause-sound : goal.stepped-requires-clause-sound
stepped-requires-clause-sound c = c.requires.whole.sound

pub returns-in-Stays-clause-step : goal.returns-in-Stays-clause-step
returns-in-Stays-clause-step c =
    let p = c.args.p.now in
    let f = shown_frame c.args.f.now in
    let waits = min (opens_in_all p.cells.items) 32 in
    let is = ap (λ (xs : List Cmd). setting_with f waits (length xs)) c.deref.ensures.value in
    step_stays c.args.table.now.lists.items f (setting_with f waits (length c.deref.result.now)) p.cells.items c.stepped.new.cells.items p.store c.stepped.new.t p.asked.items p.state c.requires.whole c.requires.is_open c.requires.going is (rw c.in-Stays.is at c.in_ok-stepped.ensures.step)

pub returns-in-Stays-clause-kept : goal.returns-in-Stays-clause-kept
returns-in-Stays-clause-kept c = λ _.
    let p = c.args.p.now in
    let f = shown_frame c.args.f.now in
    let waits = min (opens_in_all p.cells.items) 32 in
    let is = ap (λ (xs : List Cmd). setting_with f waits (length xs)) c.deref.ensures.value in
    step_keeps c.args.table.now.lists.items f (setting_with f waits (length c.deref.result.now)) p.cells.items c.stepped.new.cells.items p.store c.stepped.new.t p.asked.items p.state c.requires.whole c.requires.is_open c.requires.going is (rw c.in-Stays.is at c.in_ok-stepped.ensures.step)

pub returns-in-Stays-clause-whole : goal.returns-in-Stays-clause-whole
returns-in-Stays-clause-whole c =
    let p = c.args.p.now in
    let f = shown_frame c.args.f.now in
    let waits = min (opens_in_all p.cells.items) 32 in
    let is = ap (λ (xs : List Cmd). setting_with f waits (length xs)) c.deref.ensures.value in
    whole_stays c.args.table.now.lists.items f (setting_with f waits (length c.deref.result.now)) p.cells.items c.stepped.new.cells.items p.store c.stepped.new.t p.asked.items p.state c.requires.whole c.requires.is_open c.requires.going is (rw c.in-Stays.is at c.in_ok-stepped.ensures.step) (rw c.in-Stays.is at c.in_ok-stepped.ensures.sound)

pub returns-in-Goes-clause-step : goal.returns-in-Goes-clause-step
returns-in-Goes-clause-step c =
    let p = c.args.p.now in
    let f = shown_frame c.args.f.now in
    let waits = min (opens_in_all p.cells.items) 32 in
    let is = ap (λ (xs : List Cmd). setting_with f waits (length xs)) c.deref.ensures.value in
    step_goes c.args.table.now.lists.items f (setting_with f waits (length c.deref.result.now)) p.cells.items c.stepped.new.cells.items p.store c.stepped.new.t p.asked.items p.state c.requires.whole c.requires.is_open c.requires.going is (rw c.in-Goes.is at c.in_ok-stepped.ensures.step)

pub returns-in-Goes-clause-whole : goal.returns-in-Goes-clause-whole
returns-in-Goes-clause-whole c =
    let p = c.args.p.now in
    let f = shown_frame c.args.f.now in
    let waits = min (opens_in_all p.cells.items) 32 in
    let is = ap (λ (xs : List Cmd). setting_with f waits (length xs)) c.deref.ensures.value in
    whole_goes c.args.table.now.lists.items f (setting_with f waits (length c.deref.result.now)) p.cells.items c.stepped.new.cells.items p.store c.stepped.new.t p.asked.items p.state c.requires.whole c.requires.is_open c.requires.going is (rw c.in-Goes.is at c.in_ok-stepped.ensures.step) (rw c.in-Goes.is at c.in_ok-stepped.ensures.sound)

pub returns-in_ok-push-in-Asks-clause-step : goal.returns-in_ok-push-in-Asks-clause-step
returns-in_ok-push-in-Asks-clause-step c =
    let p = c.args.p.now in
    let f = shown_frame c.args.f.now in
    let waits = min (opens_in_all p.cells.items) 32 in
    let is = ap (λ (xs : List Cmd). setting_with f waits (length xs)) c.deref.ensures.value in
    step_asks c.args.table.now.lists.items f (setting_with f waits (length c.deref.result.now)) p.cells.items c.stepped.new.cells.items p.store c.stepped.new.t p.asked.items p.state c.requires.whole c.requires.is_open c.requires.going is c.in-Asks.c.value c.push.new.self.items (search rules) (rw c.in-Asks.is at c.in_ok-stepped.ensures.step)

pub returns-in_ok-push-in-Asks-clause-whole : goal.returns-in_ok-push-in-Asks-clause-whole
returns-in_ok-push-in-Asks-clause-whole c =
    let p = c.args.p.now in
    let f = shown_frame c.args.f.now in
    let waits = min (opens_in_all p.cells.items) 32 in
    let is = ap (λ (xs : List Cmd). setting_with f waits (length xs)) c.deref.ensures.value in
    whole_asks c.args.table.now.lists.items f (setting_with f waits (length c.deref.result.now)) p.cells.items c.stepped.new.cells.items p.store c.stepped.new.t p.asked.items p.state c.requires.whole c.requires.is_open c.requires.going is c.in-Asks.c.value (rw c.in-Asks.is at c.in_ok-stepped.ensures.step) (rw c.in-Asks.is at c.in_ok-stepped.ensures.sound)

pub returns-in_ok-ends-in-Ends-clause-step : goal.returns-in_ok-ends-in-Ends-clause-step
returns-in_ok-ends-in-Ends-clause-step c =
    let p = c.args.p.now in
    let ls = c.args.table.now.lists.items in
    let f = shown_frame c.args.f.now in
    let waits = min (opens_in_all p.cells.items) 32 in
    let is = ap (λ (xs : List Cmd). setting_with f waits (length xs)) c.deref.ensures.value in
    let same : c.into_inner-in-Ends.result ≡ c.in-Ends.c.value = search rules in
    let closed = c.in_ok-ends-in-Ends.ensures.ends ls ∙ ap (λ (x : Cmd). ended (progress_at ls c.stepped.new.cells.items c.stepped.new.t p.asked.items p.state) x) same in
    step_ends ls f (setting_with f waits (length c.deref.result.now)) p.cells.items c.stepped.new.cells.items p.store c.stepped.new.t p.asked.items p.state c.requires.whole c.requires.is_open c.requires.going is c.in-Ends.c.value (shown_progress ls c.ends.new.p) closed (rw c.in-Ends.is at c.in_ok-stepped.ensures.step)

pub returns-in_ok-ends-in-Ends-clause-whole : goal.returns-in_ok-ends-in-Ends-clause-whole
returns-in_ok-ends-in-Ends-clause-whole c = c.in_ok-ends-in-Ends.ensures.whole c.args.table.now.lists.items
