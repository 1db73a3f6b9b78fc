use Rattle.std.proofs.Common.{rules, ◌≡◌, ap, ◌∙◌, None}
use Rattle.flow_hub.specs.declared.known.HubFacts.{HubFacts}
use Rattle.flow_hub.proofs.Sound.{gives, has_given_none, given_by}
use Rattle.flow_hub.proofs.state.State.give.Goals as goal

pub returns-then-self-clause-seen : goal.returns-then-self-clause-seen
returns-then-self-clause-seen g c =
    let is : c.see.result.was ≡ c.self.inside.known = search rules in
    let same : c.args.me.was.given ≡ c.self.inside.known.given = c.see.ensures.given c.requires.seat.2 ∙ ap (λ (k : HubFacts). k.given) is in
    given_by c.args.me.was c.see.result.was _ None is (has_given_none _ c.args.me.was c.self.invariant.0 same)

pub returns-in_default-clause-seen : goal.returns-in_default-clause-seen
returns-in_default-clause-seen g c =
    let is : c.see-in_default.result.was ≡ c.self.inside.known = search rules in
    let same : c.args.me.was.given ≡ c.self.inside.known.given = c.see-in_default.ensures.given c.requires.seat.2 ∙ ap (λ (k : HubFacts). k.given) is in
    given_by c.args.me.was c.see-in_default.result.was _ None is (has_given_none _ c.args.me.was c.self.invariant.0 same)

pub invariant_of-self-2 : goal.invariant_of-self-2
invariant_of-self-2 g c = (
  rw c.give.ensures (gives _ c.in-Some.task c.pop_front.new.self.items c.in-Some.ensures.items c.self.invariant.0),
  search rules,
  search rules,
  search rules,
  search rules,
  search rules,
  search rules,
  search rules,
  search rules,
  search rules,
  search rules,
  search rules,
  search rules,
  search rules,
  search rules,
)
