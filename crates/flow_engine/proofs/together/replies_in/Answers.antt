use Rattle.std.proofs.Common.{◌≡◌, ◌++◌, map, sym, ap, ◌∙◌, subst, append-nil}
use Rattle.std.specs.Vec.Iter.{into_iter_items}
use Rattle.flow_engine.specs.Driving.{reply_of}
use Rattle.flow_engine.proofs.Filling.{room_more}
use Rattle.flow_engine.proofs.AtOnce.{replies_more}
use Rattle.flow_engine.proofs.OneMore.{none_left}
use Rattle.flow_engine.proofs.together.replies_in.Goals as goal

pub loop-receipt-preserved : goal.loop-receipt-preserved
loop-receipt-preserved c =
    let was = c.loop-receipt.invariant in
    let next = c.in-Some.ensures.steps in
    let pushed = c.push_reserved.ensures in
    let room = room_more _ _ _ _ _ _ _ _ _ next.0 next.1 pushed.len pushed.capacity was.left was.room in
    record {
      left = room.0;
      room = room.1;
      told =
          subst (λ l. l ++ map reply_of (into_iter_items c.next.new.self) ≡ map reply_of c.args.receipts.items) (sym pushed.items)
          (replies_more c.args.receipts.items (into_iter_items c.loop-receipt.receipt-iterator) (into_iter_items c.next.new.self) c.loop-receipt.replies.items c.in-Some.receipt next.0 was.told);
    }

pub returns : goal.returns
returns c =
    let none = none_left (into_iter_items c.loop-receipt.receipt-iterator) (sym c.loop-receipt.invariant.left ∙ c.in-None.ensures.steps.0) in
    sym (append-nil c.loop-receipt.replies.items) ∙ ap (λ l. c.loop-receipt.replies.items ++ map reply_of l) (sym none) ∙ c.loop-receipt.invariant.told
