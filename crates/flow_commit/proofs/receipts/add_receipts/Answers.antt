use Rattle.std.proofs.Common.{◌≡◌, ◌⊎◌, inl, inr, [], ◌++◌, length, append-nil, sym, ap, ◌∙◌}
use Rattle.std.specs.Vec.Iter.{into_iter_items}
use Rattle.std.specs.Iterator.Adapters.{zip_first, zip_second}
use Rattle.flow_commit.specs.Keeping.{receipts_with}
use Rattle.flow_commit.proofs.Ends.{none_more}
use Rattle.flow_commit.proofs.receipts.add_receipts.Goals as goal

pub returns : goal.returns
returns c =
    let l = c.loop-taken in
    let batch = into_iter_items (zip_first l.taken-iterator) in
    let replies = into_iter_items (zip_second l.taken-iterator) in
    let left : (length batch ≡ 0) ⊎ (length replies ≡ 0) = elim c.in-None.ensures.steps [
      | inl ended ↦ inl (sym l.invariant.left ∙ ended.1.0)
      | inr ended ↦ inr (sym l.invariant.answered ∙ ended.1.0)
    ] in
    let ended : receipts_with l.place batch replies ≡ [] = none_more l.place batch replies left in
    sym (append-nil l.receipts.items) ∙ ap (λ rs. l.receipts.items ++ rs) (sym ended) ∙ l.invariant.made
