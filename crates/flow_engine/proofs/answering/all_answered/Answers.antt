use Rattle.std.proofs.Common.{◌≡◌, ◌+◌, ◌≤◌, length, sym, ap, arith, vec_len, vec_capacity, ◌∙◌}
use Rattle.std.proofs.lemmas.Result.{IfOk-weaker, IfErr-weaker}
use Rattle.flow_engine.specs.Driving.{commands_in}
use Rattle.flow_engine.proofs.Singly.{driven_alone, are_single, all_sure, all_kept, all_there, all_caused, ends_early, leaves_early, alone_commands, both_parts}
use Rattle.flow_engine.proofs.answering.all_answered.Goals as goal

pub all_answers-requires-clause-room : goal.all_answers-requires-clause-room
all_answers-requires-clause-room g c =
    let many : length c.in-Ok.dones.items ≡ length c.args.batches.items = c.in-Ok.ensures.count in
    let room : vec_len c.args.answers + length c.args.batches.items ≤ vec_capacity c.args.answers = c.requires.room in
    omega (arith, many, room)

pub all_answers-requires-clause-single : goal.all_answers-requires-clause-single
all_answers-requires-clause-single g c =
    let d = c.in-Ok.ensures in
    are_single g.S.Store c.args.engine.now c.drive.new.engine c.requires.alone.taken c.in-Ok.dones.items
    (driven_alone g.S.Store c.args.engine.now c.drive.new.engine c.args.batches.items c.in-Ok.dones.items c.requires.alone.taken c.requires.alone.are
    d.drives d.noted d.halted d.later d.count d.fit d.up d.own d.given_up)

pub returns-in-Ok-clause-answers : goal.returns-in-Ok-clause-answers
returns-in-Ok-clause-answers g c =
    let d = c.in-Ok.ensures in
    IfOk-weaker c.all_answers.result _ _
    (λ l h sure ts are. all_sure g.S.Store c.args.engine.now c.drive.new.engine ts c.in-Ok.dones.items
    (driven_alone g.S.Store c.args.engine.now c.drive.new.engine c.args.batches.items c.in-Ok.dones.items ts are
    d.drives d.noted d.halted d.later d.count d.fit d.up d.own d.given_up) c.args.answers.items c.requires.none l.items h.0 h.1 sure)
    c.all_answers.ensures.given

pub returns-in-Ok-clause-kept : goal.returns-in-Ok-clause-kept
returns-in-Ok-clause-kept g c =
    let d = c.in-Ok.ensures in
    IfOk-weaker c.all_answers.result _ _
    (λ l h fit b keeps ts are. all_kept g.S.Store c.args.engine.now c.drive.new.engine ts c.in-Ok.dones.items
    (driven_alone g.S.Store c.args.engine.now c.drive.new.engine c.args.batches.items c.in-Ok.dones.items ts are
    d.drives d.noted d.halted d.later d.count d.fit d.up d.own d.given_up) c.args.answers.items c.requires.none l.items h.0 h.1 fit b keeps)
    c.all_answers.ensures.given

pub returns-in-Ok-clause-count : goal.returns-in-Ok-clause-count
returns-in-Ok-clause-count g c =
    let d = c.in-Ok.ensures in
    IfOk-weaker c.all_answers.result _ _
    (λ l h. all_there g.S.Store c.args.engine.now c.drive.new.engine c.requires.alone.taken c.in-Ok.dones.items
    (driven_alone g.S.Store c.args.engine.now c.drive.new.engine c.args.batches.items c.in-Ok.dones.items c.requires.alone.taken c.requires.alone.are
    d.drives d.noted d.halted d.later d.count d.fit d.up d.own d.given_up) c.args.answers.items c.requires.none l.items h.0 h.1 ∙ d.count)
    c.all_answers.ensures.given

pub returns-in-Ok-clause-given_up : goal.returns-in-Ok-clause-given_up
returns-in-Ok-clause-given_up g c =
    let d = c.in-Ok.ensures in
    IfOk-weaker c.all_answers.result _ _
    (λ l h ts are. all_caused g.S.Store c.args.engine.now c.drive.new.engine ts c.in-Ok.dones.items
    (driven_alone g.S.Store c.args.engine.now c.drive.new.engine c.args.batches.items c.in-Ok.dones.items ts are
    d.drives d.noted d.halted d.later d.count d.fit d.up d.own d.given_up) c.args.answers.items c.requires.none l.items h.0)
    c.all_answers.ensures.given

pub returns-in-Ok-clause-early : goal.returns-in-Ok-clause-early
returns-in-Ok-clause-early g c =
    let d = c.in-Ok.ensures in
    IfErr-weaker c.all_answers.result _ _
    (λ u h ts are. ends_early g.S.Store c.args.engine.now c.drive.new.engine ts c.in-Ok.dones.items
    (driven_alone g.S.Store c.args.engine.now c.drive.new.engine c.args.batches.items c.in-Ok.dones.items ts are
    d.drives d.noted d.halted d.later d.count d.fit d.up d.own d.given_up) c.args.answers.items c.requires.none u h)
    c.all_answers.ensures.stops

pub returns-in-Ok-clause-leaves : goal.returns-in-Ok-clause-leaves
returns-in-Ok-clause-leaves g c =
    let d = c.in-Ok.ensures in
    IfErr-weaker c.all_answers.result _ _
    (λ u h fit b keeps ts are. leaves_early g.S.Store c.args.engine.now c.drive.new.engine ts c.in-Ok.dones.items
    (driven_alone g.S.Store c.args.engine.now c.drive.new.engine c.args.batches.items c.in-Ok.dones.items ts are
    d.drives d.noted d.halted d.later d.count d.fit d.up d.own d.given_up) c.args.answers.items c.requires.none u h fit b keeps)
    c.all_answers.ensures.stops

pub returns-in-Ok-clause-part : goal.returns-in-Ok-clause-part
returns-in-Ok-clause-part g c ts are =
    let its = alone_commands ts ∙ ap commands_in (sym are) in
    both_parts g.S.Store c.args.engine.now c.drive.new.engine c.args.batches.items c.in-Ok.dones.items _ its c.in-Ok.ensures.runs
    c.in-Ok.ensures.counted (λ l. l.items) c.args.answers.items c.requires.none
    c.all_answers.result c.all_answers.ensures.given c.all_answers.ensures.stops

pub returns-in-Ok-clause-sure : goal.returns-in-Ok-clause-sure
returns-in-Ok-clause-sure g c sure = record { fit = c.in-Ok.ensures.fit sure.fit; up = c.in-Ok.ensures.up sure.fit sure.up }
