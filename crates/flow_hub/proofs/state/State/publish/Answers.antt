use Rattle.std.proofs.Common.{rules, ◌≡◌, ◌+◌, ◌++◌, ℕ, List, take, length, refl, ap, sym, ◌∙◌, arith, length-append, vec_len}
use Rattle.flow_commit.specs.Committing.{taken_of}
use Rattle.flow_hub.specs.declared.known.HubFacts.{HubFacts}
use Rattle.flow_hub.specs.Knowing.{IsSamePart}
use Rattle.flow_hub.specs.Publishing.{Answers}
use Rattle.flow_hub.proofs.Growing.{before_self, publishes_on, grows_by}
use Rattle.flow_hub.proofs.Lists.{length-mapped}
use Rattle.flow_hub.proofs.Moves.{all_of, was_of}
use Rattle.flow_hub.proofs.Sound.{publishes, published_history, has_published, published_by, history_by, same_answers}
use Rattle.flow_hub.proofs.state.State.publish.Goals as goal

pub invariant_of-self : goal.invariant_of-self
invariant_of-self g c =
    let rs = c.args.receipts.items in
    let i = c.self.inside in
    let same : IsSamePart c.args.me.was i.known = search rules in
    let asked : Answers i.known c.args.stamp rs = same_answers c.args.me.was i.known c.args.stamp rs same c.requires.answers in
    let answered : c.push_receipts.new.answered.items ≡ i.answered.items ++ rs = search rules in
    let count : c.len.result ≡ length rs = search rules in
    let len : vec_len c.push_receipts.new.answered ≡ vec_len i.answered + length rs = search rules in
    let held : length i.known.held ≡ length rs = sym (ap length asked.asked) ∙ length-mapped taken_of rs in
    let longer : length (i.known.history ++ rs) ≡ length i.known.history + length rs = length-append i.known.history rs in (
      rw (c.publish.ensures, answered) (publishes _ c.args.stamp c.args.count rs c.self.invariant.0 asked c.spend.ensures.lawful),
      search rules,
      rw c.publish.ensures (omega (arith, c.self.invariant.2, count, longer)),
      search rules,
      search rules,
      search rules,
      search rules,
      omega (arith, len, held, c.self.invariant.1, c.self.invariant.7),
      search rules,
      search rules,
      search rules,
      search rules,
      search rules,
      search rules,
      search rules,
    )

pub tell-seen-requires-clause-grows : goal.tell-seen-requires-clause-grows
tell-seen-requires-clause-grows g c = grows_by c.self.inside.keeper.all c.self.inside.known _ _ c.self.invariant.13 refl (before_self c.self.inside.known)

pub tell-me-requires-clause-grows : goal.tell-me-requires-clause-grows
tell-me-requires-clause-grows g c =
    let i = c.self.inside in
    let same : IsSamePart c.args.me.was i.known = search rules in
    let asked : Answers i.known c.args.stamp c.args.receipts.items = same_answers c.args.me.was i.known c.args.stamp c.args.receipts.items same c.requires.answers in
    grows_by c.tell-seen.new.keeper.all i.known _ c.publish.new.self (all_of c.tell-seen.new.keeper i.known c.tell-seen.ensures.keeper) c.publish.ensures (publishes_on i.known c.args.stamp c.args.count c.args.receipts.items asked.over)

pub returns-clause-legal : goal.returns-clause-legal
returns-clause-legal g c =
    let i = c.self.inside in
    let rs = c.args.receipts.items in
    let same : IsSamePart c.args.me.was i.known = search rules in
    let asked : Answers i.known c.args.stamp rs = same_answers c.args.me.was i.known c.args.stamp rs same c.requires.answers in
    let was = was_of c.tell-me.result _ _ c.publish.new.self c.tell-me.ensures.told ∙ c.publish.ensures in
    history_by c.tell-me.result.was _ was (published_history _ c.args.stamp c.args.count rs c.self.invariant.0 asked c.spend.ensures.lawful)

pub returns-clause-seen : goal.returns-clause-seen
returns-clause-seen g c =
    let i = c.self.inside in
    let rs = c.args.receipts.items in
    let same : IsSamePart c.args.me.was i.known = search rules in
    let was = was_of c.tell-me.result _ _ c.publish.new.self c.tell-me.ensures.told ∙ c.publish.ensures in
    published_by c.args.me.was c.tell-me.result.was _ c.args.stamp rs was (has_published i.known c.args.me.was c.args.stamp c.args.count rs same c.requires.answers)

pub returns-clause-gone : goal.returns-clause-gone
returns-clause-gone g c =
    let same : IsSamePart c.args.me.was c.self.inside.known = search rules in
    let was = was_of c.tell-me.result _ _ c.publish.new.self c.tell-me.ensures.told ∙ c.publish.ensures in
    ap (λ (k : HubFacts). k.gone) was ∙ ap (λ (runs : List ℕ). runs ++ take c.args.count c.args.stamp.closed) (sym same.gone)
