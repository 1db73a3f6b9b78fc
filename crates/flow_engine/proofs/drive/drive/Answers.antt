use Rattle.std.proofs.Common.{rules, sym, ◌∙◌, subst}
use Rattle.std.specs.Vec.Iter.{into_iter_items}
use Rattle.flow_machine.proofs.Keeps.{after_keeps}
use Rattle.flow_machine.proofs.Meaning.{reads_well_formed}
use Rattle.flow_commit.specs.Keeping as keeping
use Rattle.flow_engine.proofs.Filling.{room_more}
use Rattle.flow_engine.proofs.OneMore.{Drove, none_yet, drove_more, drives, all_given_up, all_failures, all_later, none_left, after_well, left_well}
use Rattle.flow_engine.proofs.drive.drive.Goals as goal

pub loop-batch-init : goal.loop-batch-init
loop-batch-init g c =
    let gives = c.into_iter-batch-iterator.ensures.into_iter_gives in
    record {
      left = search rules;
      room = search rules;
      drove = none_yet g.S.Store c.args.engine.now c.args.batches.items (into_iter_items c.into_iter-batch-iterator.result) c.reserve.new.self.items (sym gives.0) (c.reserve.ensures.items ∙ c.new-dones.ensures.items);
    }

pub loop-batch-preserved : goal.loop-batch-preserved
loop-batch-preserved g c =
    let was = c.loop-batch.invariant in
    let next = c.in-Some.ensures.steps in
    let pushed = c.push_reserved.ensures in
    let room = room_more _ _ _ _ _ _ _ _ _ next.0 next.1 pushed.len pushed.capacity was.left was.room in
    record {
      left = room.0;
      room = room.1;
      drove =
          subst (Drove g.S.Store c.args.engine.now c.done_with.new.engine c.args.batches.items (into_iter_items c.next.new.self)) (sym pushed.items)
          (drove_more g.S.Store c.args.engine.now c.loop-batch.engine c.done_with.new.engine c.args.batches.items (into_iter_items c.loop-batch.batch-iterator) (into_iter_items c.next.new.self) c.loop-batch.dones.items c.in-Some.batch c.done_with.result next.0 was.drove
          c.done_with.ensures.fit c.done_with.ensures.does c.done_with.ensures.cause c.done_with.ensures.halted c.done_with.ensures.later
          c.done_with.ensures.noted c.done_with.ensures.same c.done_with.ensures.up c.done_with.ensures.own c.done_with.ensures.goes_on c.done_with.ensures.why);
    }

pub returns-clause-drives : goal.returns-clause-drives
returns-clause-drives g c =
    drives g.S.Store c.args.engine.now c.loop-batch.engine c.args.batches.items (into_iter_items c.loop-batch.batch-iterator) c.loop-batch.dones.items c.loop-batch.invariant.drove
    (none_left (into_iter_items c.loop-batch.batch-iterator) (sym c.loop-batch.invariant.left ∙ c.in-None.ensures.steps.0))

pub returns-clause-sound : goal.returns-clause-sound
returns-clause-sound g c b sound l m e = after_keeps keeping.rules b l reads_well_formed sound

pub returns-clause-well : goal.returns-clause-well
returns-clause-well g c b well l m e = after_well b l well

pub returns-clause-leaves : goal.returns-clause-leaves
returns-clause-leaves g c fit b well keeps goes_on =
    left_well g.S.Store c.args.engine.now c.loop-batch.engine b c.args.batches.items c.loop-batch.dones.items well
    (returns-clause-drives g c fit b keeps goes_on).leads

pub returns-clause-given_up : goal.returns-clause-given_up
returns-clause-given_up g c =
    all_given_up g.S.Store c.args.engine.now c.loop-batch.engine c.args.batches.items (into_iter_items c.loop-batch.batch-iterator) c.loop-batch.dones.items c.loop-batch.invariant.drove
    (none_left (into_iter_items c.loop-batch.batch-iterator) (sym c.loop-batch.invariant.left ∙ c.in-None.ensures.steps.0))

pub returns-clause-counted : goal.returns-clause-counted
returns-clause-counted g c =
    all_failures g.S.Store c.args.engine.now c.loop-batch.engine c.args.batches.items (into_iter_items c.loop-batch.batch-iterator)
    c.loop-batch.dones.items c.loop-batch.invariant.drove
    (none_left (into_iter_items c.loop-batch.batch-iterator) (sym c.loop-batch.invariant.left ∙ c.in-None.ensures.steps.0))

-- This is what a life has of these batches.
pub returns-clause-runs : goal.returns-clause-runs
returns-clause-runs g c =
    let drove = c.loop-batch.invariant.drove in
    let none = none_left (into_iter_items c.loop-batch.batch-iterator) (sym c.loop-batch.invariant.left ∙ c.in-None.ensures.steps.0) in
    record {
      opened = drove.opened;
      fit = drove.fit;
      drives = returns-clause-drives g c;
      still = λ h. (drove.halted h, all_later g.S.Store c.args.engine.now c.loop-batch.engine c.args.batches.items (into_iter_items c.loop-batch.batch-iterator) c.loop-batch.dones.items drove none h);
    }
