use Rattle.std.proofs.Common.{◌≡◌, ◌+◌, ◌≤◌, sym, ap, ◌∙◌, subst, arith, vec_len, vec_capacity, ◌++◌, ◌∷◌, []}
use Rattle.std.specs.Vec.Iter.{into_iter_items, into_iter_len}
use Rattle.flow_base.specs.declared.submission.Taken.{Taken}
use Rattle.flow_engine.proofs.Filling.{room_more}
use Rattle.flow_engine.proofs.OneMore.{none_left}
use Rattle.flow_engine.proofs.Singly.{Cutting, cutting_more, cutting_done}
use Rattle.flow_engine.proofs.answering.cut.Goals as goal

pub push_reserved-requires : goal.push_reserved-requires
push_reserved-requires c =
    let shorter : into_iter_len c.next.new.self + 1 ≡ into_iter_len c.loop-command.command-iterator = c.in-Some.ensures.steps.1 in
    let room : vec_len c.loop-command.batches + into_iter_len c.loop-command.command-iterator ≤ vec_capacity c.loop-command.batches = c.loop-command.invariant.room in
    omega (arith, shorter, room)

pub loop-command-preserved : goal.loop-command-preserved
loop-command-preserved c =
    let was = c.loop-command.invariant in
    let next = c.in-Some.ensures.steps in
    let pushed = c.push_reserved.ensures in
    let t : Taken = record { ticket = c.loop-command.ticket; command = c.in-Some.command } in
    let room = room_more _ _ _ _ _ _ _ _ _ next.0 next.1 pushed.len pushed.capacity was.left was.room in
    record {
      left = room.0;
      room = room.1;
      cutting =
          subst (λ l. Cutting c.args.commands.items (into_iter_items c.next.new.self) l) (sym (pushed.items ∙ ap (λ b. c.loop-command.batches.items ++ b ∷ []) c.in-Ok.ensures.one))
          (cutting_more c.args.commands.items (into_iter_items c.loop-command.command-iterator) (into_iter_items c.next.new.self) c.loop-command.batches.items t next.0 was.cutting);
    }

pub returns : goal.returns
returns c =
    cutting_done c.args.commands.items (into_iter_items c.loop-command.command-iterator) c.loop-command.batches.items c.loop-command.invariant.cutting
    (none_left (into_iter_items c.loop-command.command-iterator) (sym c.loop-command.invariant.left ∙ c.in-None.ensures.steps.0))
