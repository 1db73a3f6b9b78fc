use Rattle.std.proofs.Common.{◌≡◌, ◌⊎◌, inl, inr, [], ◌++◌, length, append-nil, sym, ap, ◌∙◌}
use Rattle.std.specs.Vec.Iter.{into_iter_items}
use Rattle.std.specs.Iterator.Adapters.{zip_first, zip_second}
use Rattle.flow_queues.specs.Posting.{chosen}
use Rattle.flow_queues.proofs.Chosen.{chosen_ended}
use Rattle.flow_queues.proofs.posting.push_marked.Goals as goal

pub returns : goal.returns
returns c =
    let l = c.loop-task in
    let tasks = into_iter_items (zip_first l.task-iterator) in
    let marks = into_iter_items (zip_second l.task-iterator) in
    let left : (length tasks ≡ 0) ⊎ (length marks ≡ 0) = elim c.in-None.ensures.steps [
      | inl ended ↦ inl (sym l.invariant.left ∙ ended.1.0)
      | inr ended ↦ inr (sym l.invariant.marked ∙ ended.1.0)
    ] in
    let ended : chosen tasks marks ≡ [] = chosen_ended tasks marks left in
    record { items = sym (append-nil l.waiting.items) ∙ ap (λ ts. l.waiting.items ++ ts) (sym ended) ∙ l.invariant.moved }
