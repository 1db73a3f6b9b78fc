use Rattle.std.proofs.Common.{sym, ◌∙◌, subst}
use Rattle.std.specs.Vec.Iter.{into_iter_items}
use Rattle.flow_engine.specs.Answering.{AreSingle}
use Rattle.flow_engine.proofs.Filling.{room_more}
use Rattle.flow_engine.proofs.OneMore.{none_left}
use Rattle.flow_engine.proofs.Singly.{Answering, answering_more, answering_stops, answering_done}
use Rattle.flow_engine.proofs.answering.all_answers.Goals as goal

pub answer_of-requires : goal.answer_of-requires
answer_of-requires c = (subst AreSingle c.in-Some.ensures.steps.0 c.loop-done.invariant.answering.single).0

pub loop-done-preserved : goal.loop-done-preserved
loop-done-preserved c =
    let was = c.loop-done.invariant in
    let next = c.in-Some.ensures.steps in
    let pushed = c.push_reserved.ensures in
    let room = room_more _ _ _ _ _ _ _ _ _ next.0 next.1 pushed.len pushed.capacity was.left was.room in
    record {
      left = room.0;
      room = room.1;
      answering =
          subst (λ l. Answering c.args.answers.items c.args.dones.items l (into_iter_items c.next.new.self)) (sym pushed.items)
          (answering_more c.args.answers.items c.args.dones.items c.loop-done.answers.items (into_iter_items c.loop-done.done-iterator) (into_iter_items c.next.new.self) c.in-Some.done c.in-Ok.answer next.0 was.answering c.in-Ok.ensures.given);
    }

pub returns-in-Err-clause-stops : goal.returns-in-Err-clause-stops
returns-in-Err-clause-stops c =
    answering_stops c.args.answers.items c.args.dones.items c.loop-done.answers.items (into_iter_items c.loop-done.done-iterator) (into_iter_items c.next.new.self) c.in-Some.done c.in-Err.stop c.in-Some.ensures.steps.0 c.loop-done.invariant.answering c.in-Err.ensures.stops.1

pub returns-clause-given : goal.returns-clause-given
returns-clause-given c =
    answering_done c.args.answers.items c.args.dones.items c.loop-done.answers.items (into_iter_items c.loop-done.done-iterator) c.loop-done.invariant.answering
    (none_left (into_iter_items c.loop-done.done-iterator) (sym c.loop-done.invariant.left ∙ c.in-None.ensures.steps.0))
