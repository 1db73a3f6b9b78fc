use Rattle.std.proofs.Common.{rules, ◌≡◌, ◌∷◌, [], sym, ap, ◌∙◌, subst, length, drop, ◌+◌, List, Bool}
use Rattle.std.proofs.lemmas.List.{drop_all}
use Rattle.flow_queues.proofs.Chosen.{IsMarked, drop_at, marked_all, marks_next}
use Rattle.flow_queues.proofs.posting.add_all.Goals as goal

pub loop-task-preserved : goal.loop-task-preserved
loop-task-preserved c =
    let l = c.loop-task in
    let ts = c.args.tasks.now in
    let i = l.task-index in
    let t = c.task-item.result in
    let here : drop i ts ≡ t ∷ drop (i + 1) ts = drop_at ts i t (search rules) (search rules) in
    let count : length l.marks.items ≡ i = sym l.marks.ok.0 ∙ l.invariant.1 in
    let at : drop (length l.marks.items) ts ≡ t ∷ drop (i + 1) ts = ap (λ n. drop n ts) count ∙ here in (
      subst (λ (ms : List Bool). IsMarked c.args.gone.now c.args.keys.now c.add_apart.new.keys ts ms) (sym c.push_reserved.ensures.items) (marks_next c.args.gone.now c.args.keys.now l.keys c.add_apart.new.keys ts l.marks.items t (drop (i + 1) ts) c.in-Ok.new at c.in-Ok.ensures.new c.in-Ok.ensures.added l.invariant.0),
      search rules,
      search rules,
    )

pub returns-clause-marked : goal.returns-clause-marked
returns-clause-marked c posted h =
    let l = c.loop-task in
    let ts = c.args.tasks.now in
    let count : length l.marks.items ≡ l.task-index = sym l.marks.ok.0 ∙ l.invariant.1 in
    let over : drop (length l.marks.items) ts ≡ [] = ap (λ n. drop n ts) count ∙ drop_all l.task-index ts (search rules) in
    marked_all c.args.gone.now c.args.keys.now l.keys ts l.marks.items posted over l.invariant.0 h
