use Rattle.std.proofs.Common.{◌≡◌, ◌++◌, sym, ap, ◌∙◌, subst, append-nil}
use Rattle.std.specs.Vec.Iter.{into_iter_items}
use Rattle.flow_commit.specs.Keeping.{commands_of}
use Rattle.flow_base.specs.declared.submission.Taken.{Taken}
use Rattle.flow_engine.proofs.Filling.{room_more}
use Rattle.flow_engine.proofs.AtOnce.{taken_more}
use Rattle.flow_engine.proofs.OneMore.{none_left}
use Rattle.flow_engine.proofs.together.taken_of.Goals as goal

pub loop-command-preserved : goal.loop-command-preserved
loop-command-preserved c =
    let was = c.loop-command.invariant in
    let next = c.in-Some.ensures.steps in
    let pushed = c.push_reserved.ensures in
    let t : Taken = record { ticket = c.loop-command.ticket; command = c.in-Some.command } in
    let room = room_more _ _ _ _ _ _ _ _ _ next.0 next.1 pushed.len pushed.capacity was.left was.room in
    record {
      left = room.0;
      room = room.1;
      split =
          subst (λ l. c.args.commands.items ≡ commands_of l ++ into_iter_items c.next.new.self) (sym pushed.items)
          (taken_more c.args.commands.items (into_iter_items c.loop-command.command-iterator) (into_iter_items c.next.new.self) c.loop-command.all.items t next.0 was.split);
    }

pub returns : goal.returns
returns c =
    let none = none_left (into_iter_items c.loop-command.command-iterator) (sym c.loop-command.invariant.left ∙ c.in-None.ensures.steps.0) in
    sym (c.loop-command.invariant.split ∙ ap (λ l. commands_of c.loop-command.all.items ++ l) none ∙ append-nil (commands_of c.loop-command.all.items))
