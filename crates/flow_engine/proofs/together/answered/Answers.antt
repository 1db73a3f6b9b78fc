use Rattle.std.proofs.Common.{◌≡◌, ◌+◌, ◌≤◌, length, arith, vec_len, vec_capacity, Ok, sym, subst}
use Rattle.flow_model.specs.declared.answer.Together.TheVariants.{NotApplied}
use Rattle.flow_commit.specs.Keeping.{commands_of}
use Rattle.flow_engine.specs.Together.{IsTogether, are_kept}
use Rattle.flow_engine.proofs.AtOnce.{driven_one, few_kept, first_of, none_done, all_together}
use Rattle.flow_engine.proofs.Singly.{one_of}
use Rattle.flow_engine.proofs.together.answered.Goals as goal

pub told_of-requires-clause-room : goal.told_of-requires-clause-room
told_of-requires-clause-room g c =
    let d = c.in-Ok.ensures in
    let (batch, is) = one_of c.args.batches.items c.requires.one in
    let long : length c.in-Ok.dones.items ≡ length c.args.batches.items = d.count in
    let one : length c.args.batches.items ≡ 1 = c.requires.one in
    let alone = first_of c.in-Ok.dones.items c.remove.result (omega (arith, long, one)) c.remove.ensures.value in
    let few : are_kept c.remove.result ≤ length batch =
    few_kept g.S.Store c.args.engine.now c.drive.new.engine batch c.remove.result
    (driven_one g.S.Store c.args.engine.now c.drive.new.engine c.args.batches.items c.in-Ok.dones.items batch c.remove.result is alone (c.requires.some batch is) d.runs d.noted d.up d.own d.given_up d.counted d.goes_on) in
    let room : vec_len c.args.replies + length batch ≤ vec_capacity c.args.replies = c.requires.room batch is in
    omega (arith, few, room)

pub returns-in-Ok : goal.returns-in-Ok
returns-in-Ok g c batch is =
    let d = c.in-Ok.ensures in
    let long : length c.in-Ok.dones.items ≡ length c.args.batches.items = d.count in
    let one : length c.args.batches.items ≡ 1 = c.requires.one in
    let alone = first_of c.in-Ok.dones.items c.remove.result (omega (arith, long, one)) c.remove.ensures.value in
    all_together g.S.Store c.args.engine.now c.drive.new.engine batch c.remove.result c.told_of.result
    (driven_one g.S.Store c.args.engine.now c.drive.new.engine c.args.batches.items c.in-Ok.dones.items batch c.remove.result is alone (c.requires.some batch is) d.runs d.noted d.up d.own d.given_up d.counted d.goes_on) c.told_of.ensures

pub returns-in-Err : goal.returns-in-Err
returns-in-Err g c batch is =
    let old = c.args.engine.now in
    let new = c.drive.new.engine in
    subst (λ k. IsTogether g.S.Store old new (commands_of batch) (Ok (NotApplied k))) (sym c.code.ensures) (none_done g.S.Store old new batch (commands_of batch) c.in-Err.ensures.same)
