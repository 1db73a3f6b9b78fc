use Rattle.std.proofs.Common.{rules, ◌≡◌, ◌++◌, refl, sym, ap, ◌∙◌, subst, ℕ, List}
use Rattle.flow_base.specs.declared.task.Task.{Task}
use Rattle.flow_hub.specs.Knowing.{IsSamePart, with_posted}
use Rattle.flow_hub.specs.Publishing.{HasRest, left_on}
use Rattle.flow_queues.specs.Posting.{HasStill, apart_of, chosen, new_ones}
use Rattle.flow_queues.proofs.Still.{still_alike}
use Rattle.flow_hub.proofs.Keys.{left_posted, rest_same, whole_posted}
use Rattle.flow_hub.proofs.Moves.{was_of}
use Rattle.flow_queues.proofs.Once.{still_once}
use Rattle.flow_hub.proofs.Sound.{posts, has_posted, posted_by, once_by}
use Rattle.flow_hub.proofs.state.State.post.Goals as goal

pub invariant_of-self-2 : goal.invariant_of-self-2
invariant_of-self-2 g c =
    let i = c.self.inside in
    let posted = i.known.posted in
    let gone = i.known.gone in
    let ts = apart_of gone c.args.board.tasks in
    let into = c.into_parts-tasks in
    let same : IsSamePart c.args.me.was i.known = search rules in
    let before : HasRest c.args.keys.now c.args.gone.now i.known = rest_same c.args.keys.now c.args.gone.now c.args.me.was c.args.me.was i.known refl same c.requires.keys in
    let keys : HasStill c.args.gone.now c.args.keys.now posted = subst (λ (runs : List ℕ). HasStill runs c.args.keys.now posted) (sym before.1) before.0 in
    let marked = subst (λ (runs : List ℕ). (chosen c.args.board.tasks c.in-Ok.marks.items ≡ new_ones posted (apart_of runs c.args.board.tasks)) × HasStill runs c.add_all.new.keys (posted ++ new_ones posted (apart_of runs c.args.board.tasks))) before.1
    (subst (λ (us : List Task). (chosen us c.in-Ok.marks.items ≡ new_ones posted (apart_of c.args.gone.now us)) × HasStill c.args.gone.now c.add_all.new.keys (posted ++ new_ones posted (apart_of c.args.gone.now us))) c.tasks-2.ensures (c.in-Ok.ensures.marked posted keys)) in
    let chose : chosen into.result.0.items c.in-Ok.marks.items ≡ new_ones posted ts = ap (λ us. chosen us c.in-Ok.marks.items) into.ensures.tasks ∙ marked.0 in
    let known : c.post.new.self ≡ with_posted i.known (new_ones posted ts) (record { due = c.args.board.due; open_runs = c.args.board.open_runs }) =
    c.post.ensures ∙ (λ j. with_posted i.known (chose j) (record { due = into.ensures.due j; open_runs = into.ensures.open_runs j })) in
    let was : c.tell-me.result.was ≡ _ = was_of c.tell-me.result _ _ c.post.new.self c.tell-me.ensures.told ∙ known in
    let queue : c.push_marked.new.waiting.items ≡ i.tasks.items ++ new_ones posted ts = c.push_marked.ensures.items ∙ (ap (λ us. us ++ chosen into.result.0.items c.in-Ok.marks.items) c.reserve.ensures.items ∙ ap (λ us. i.tasks.items ++ us) chose) in (
      rw (known, queue) (posts _ ts _ c.self.invariant.0),
      search rules,
      search rules,
      search rules,
      search rules,
      search rules,
      search rules,
      search rules,
      search rules,
      search rules,
      search rules,
      search rules,
      search rules,
      search rules,
      search rules,
    )

pub returns-clause-posted : goal.returns-clause-posted
returns-clause-posted g c =
    let i = c.self.inside in
    let posted = i.known.posted in
    let gone = i.known.gone in
    let ts = apart_of gone c.args.board.tasks in
    let into = c.into_parts-tasks in
    let same : IsSamePart c.args.me.was i.known = search rules in
    let before : HasRest c.args.keys.now c.args.gone.now i.known = rest_same c.args.keys.now c.args.gone.now c.args.me.was c.args.me.was i.known refl same c.requires.keys in
    let keys : HasStill c.args.gone.now c.args.keys.now posted = subst (λ (runs : List ℕ). HasStill runs c.args.keys.now posted) (sym before.1) before.0 in
    let marked = subst (λ (runs : List ℕ). (chosen c.args.board.tasks c.in-Ok.marks.items ≡ new_ones posted (apart_of runs c.args.board.tasks)) × HasStill runs c.add_all.new.keys (posted ++ new_ones posted (apart_of runs c.args.board.tasks))) before.1
    (subst (λ (us : List Task). (chosen us c.in-Ok.marks.items ≡ new_ones posted (apart_of c.args.gone.now us)) × HasStill c.args.gone.now c.add_all.new.keys (posted ++ new_ones posted (apart_of c.args.gone.now us))) c.tasks-2.ensures (c.in-Ok.ensures.marked posted keys)) in
    let chose : chosen into.result.0.items c.in-Ok.marks.items ≡ new_ones posted ts = ap (λ us. chosen us c.in-Ok.marks.items) into.ensures.tasks ∙ marked.0 in
    let known : c.post.new.self ≡ with_posted i.known (new_ones posted ts) (record { due = c.args.board.due; open_runs = c.args.board.open_runs }) =
    c.post.ensures ∙ (λ j. with_posted i.known (chose j) (record { due = into.ensures.due j; open_runs = into.ensures.open_runs j })) in
    let was : c.tell-me.result.was ≡ _ = was_of c.tell-me.result _ _ c.post.new.self c.tell-me.ensures.told ∙ known in
    let queue : c.push_marked.new.waiting.items ≡ i.tasks.items ++ new_ones posted ts = c.push_marked.ensures.items ∙ (ap (λ us. us ++ chosen into.result.0.items c.in-Ok.marks.items) c.reserve.ensures.items ∙ ap (λ us. i.tasks.items ++ us) chose) in
    rw (known, queue) (search rules)

pub returns-clause-keys : goal.returns-clause-keys
returns-clause-keys g c =
    let i = c.self.inside in
    let posted = i.known.posted in
    let gone = i.known.gone in
    let ts = apart_of gone c.args.board.tasks in
    let into = c.into_parts-tasks in
    let same : IsSamePart c.args.me.was i.known = search rules in
    let before : HasRest c.args.keys.now c.args.gone.now i.known = rest_same c.args.keys.now c.args.gone.now c.args.me.was c.args.me.was i.known refl same c.requires.keys in
    let keys : HasStill c.args.gone.now c.args.keys.now posted = subst (λ (runs : List ℕ). HasStill runs c.args.keys.now posted) (sym before.1) before.0 in
    let marked = subst (λ (runs : List ℕ). (chosen c.args.board.tasks c.in-Ok.marks.items ≡ new_ones posted (apart_of runs c.args.board.tasks)) × HasStill runs c.add_all.new.keys (posted ++ new_ones posted (apart_of runs c.args.board.tasks))) before.1
    (subst (λ (us : List Task). (chosen us c.in-Ok.marks.items ≡ new_ones posted (apart_of c.args.gone.now us)) × HasStill c.args.gone.now c.add_all.new.keys (posted ++ new_ones posted (apart_of c.args.gone.now us))) c.tasks-2.ensures (c.in-Ok.ensures.marked posted keys)) in
    let chose : chosen into.result.0.items c.in-Ok.marks.items ≡ new_ones posted ts = ap (λ us. chosen us c.in-Ok.marks.items) into.ensures.tasks ∙ marked.0 in
    let known : c.post.new.self ≡ with_posted i.known (new_ones posted ts) (record { due = c.args.board.due; open_runs = c.args.board.open_runs }) =
    c.post.ensures ∙ (λ j. with_posted i.known (chose j) (record { due = into.ensures.due j; open_runs = into.ensures.open_runs j })) in
    let was : c.tell-me.result.was ≡ _ = was_of c.tell-me.result _ _ c.post.new.self c.tell-me.ensures.told ∙ known in
    let queue : c.push_marked.new.waiting.items ≡ i.tasks.items ++ new_ones posted ts = c.push_marked.ensures.items ∙ (ap (λ us. us ++ chosen into.result.0.items c.in-Ok.marks.items) c.reserve.ensures.items ∙ ap (λ us. i.tasks.items ++ us) chose) in
    subst (HasRest c.add_all.new.keys c.args.gone.now) (sym was) (marked.1, before.1)

pub returns-clause-seen : goal.returns-clause-seen
returns-clause-seen g c =
    let i = c.self.inside in
    let posted = i.known.posted in
    let gone = i.known.gone in
    let ts = apart_of gone c.args.board.tasks in
    let into = c.into_parts-tasks in
    let same : IsSamePart c.args.me.was i.known = search rules in
    let before : HasRest c.args.keys.now c.args.gone.now i.known = rest_same c.args.keys.now c.args.gone.now c.args.me.was c.args.me.was i.known refl same c.requires.keys in
    let keys : HasStill c.args.gone.now c.args.keys.now posted = subst (λ (runs : List ℕ). HasStill runs c.args.keys.now posted) (sym before.1) before.0 in
    let marked = subst (λ (runs : List ℕ). (chosen c.args.board.tasks c.in-Ok.marks.items ≡ new_ones posted (apart_of runs c.args.board.tasks)) × HasStill runs c.add_all.new.keys (posted ++ new_ones posted (apart_of runs c.args.board.tasks))) before.1
    (subst (λ (us : List Task). (chosen us c.in-Ok.marks.items ≡ new_ones posted (apart_of c.args.gone.now us)) × HasStill c.args.gone.now c.add_all.new.keys (posted ++ new_ones posted (apart_of c.args.gone.now us))) c.tasks-2.ensures (c.in-Ok.ensures.marked posted keys)) in
    let chose : chosen into.result.0.items c.in-Ok.marks.items ≡ new_ones posted ts = ap (λ us. chosen us c.in-Ok.marks.items) into.ensures.tasks ∙ marked.0 in
    let known : c.post.new.self ≡ with_posted i.known (new_ones posted ts) (record { due = c.args.board.due; open_runs = c.args.board.open_runs }) =
    c.post.ensures ∙ (λ j. with_posted i.known (chose j) (record { due = into.ensures.due j; open_runs = into.ensures.open_runs j })) in
    let was : c.tell-me.result.was ≡ _ = was_of c.tell-me.result _ _ c.post.new.self c.tell-me.ensures.told ∙ known in
    let queue : c.push_marked.new.waiting.items ≡ i.tasks.items ++ new_ones posted ts = c.push_marked.ensures.items ∙ (ap (λ us. us ++ chosen into.result.0.items c.in-Ok.marks.items) c.reserve.ensures.items ∙ ap (λ us. i.tasks.items ++ us) chose) in
    posted_by c.args.me.was c.tell-me.result.was _ (left_on c.args.me.was c.args.board) was
    (left_posted i.known c.args.me.was _ c.args.board same.gone (has_posted i.known c.args.me.was (left_on i.known c.args.board) same))

pub returns-clause-once : goal.returns-clause-once
returns-clause-once g c =
    let i = c.self.inside in
    let posted = i.known.posted in
    let gone = i.known.gone in
    let ts = apart_of gone c.args.board.tasks in
    let into = c.into_parts-tasks in
    let same : IsSamePart c.args.me.was i.known = search rules in
    let before : HasRest c.args.keys.now c.args.gone.now i.known = rest_same c.args.keys.now c.args.gone.now c.args.me.was c.args.me.was i.known refl same c.requires.keys in
    let keys : HasStill c.args.gone.now c.args.keys.now posted = subst (λ (runs : List ℕ). HasStill runs c.args.keys.now posted) (sym before.1) before.0 in
    let marked = subst (λ (runs : List ℕ). (chosen c.args.board.tasks c.in-Ok.marks.items ≡ new_ones posted (apart_of runs c.args.board.tasks)) × HasStill runs c.add_all.new.keys (posted ++ new_ones posted (apart_of runs c.args.board.tasks))) before.1
    (subst (λ (us : List Task). (chosen us c.in-Ok.marks.items ≡ new_ones posted (apart_of c.args.gone.now us)) × HasStill c.args.gone.now c.add_all.new.keys (posted ++ new_ones posted (apart_of c.args.gone.now us))) c.tasks-2.ensures (c.in-Ok.ensures.marked posted keys)) in
    let chose : chosen into.result.0.items c.in-Ok.marks.items ≡ new_ones posted ts = ap (λ us. chosen us c.in-Ok.marks.items) into.ensures.tasks ∙ marked.0 in
    let known : c.post.new.self ≡ with_posted i.known (new_ones posted ts) (record { due = c.args.board.due; open_runs = c.args.board.open_runs }) =
    c.post.ensures ∙ (λ j. with_posted i.known (chose j) (record { due = into.ensures.due j; open_runs = into.ensures.open_runs j })) in
    let was : c.tell-me.result.was ≡ _ = was_of c.tell-me.result _ _ c.post.new.self c.tell-me.ensures.told ∙ known in
    let queue : c.push_marked.new.waiting.items ≡ i.tasks.items ++ new_ones posted ts = c.push_marked.ensures.items ∙ (ap (λ us. us ++ chosen into.result.0.items c.in-Ok.marks.items) c.reserve.ensures.items ∙ ap (λ us. i.tasks.items ++ us) chose) in
    once_by c.tell-me.result.was _ was (still_once posted ts c.self.invariant.0.once)

-- if room is refused the keys are as before
pub returns-in-Err-clause-keys : goal.returns-in-Err-clause-keys
returns-in-Err-clause-keys g c = rest_same c.args.keys.now c.args.gone.now c.args.me.was c.args.me.was c.see-me.result.was refl (c.see-me.ensures.part c.requires.seat.1) c.requires.keys

pub returns-in-Err-add_all-clause-keys : goal.returns-in-Err-add_all-clause-keys
returns-in-Err-add_all-clause-keys g c =
    let seen = c.see-me.result.was in
    let before : HasRest c.args.keys.now c.args.gone.now seen = rest_same c.args.keys.now c.args.gone.now c.args.me.was c.args.me.was seen refl (c.see-me.ensures.part c.requires.seat.1) c.requires.keys in
    (still_alike seen.gone c.args.keys.now c.add_all.new.keys seen.posted c.in-Err-add_all.ensures.refused before.0, before.1)

-- and if the board names nothing of these runs, it is the whole of it
pub returns-clause-whole : goal.returns-clause-whole
returns-clause-whole g c apart = whole_posted c.args.me.was c.tell-me.result.was c.args.board (returns-clause-seen g c) apart
