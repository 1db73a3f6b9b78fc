use Rattle.std.proofs.Common.{rules, ◌≡◌, inr, ◌+◌, length, sym, ap, ◌∙◌, arith, length-append}
use Rattle.flow_hub.proofs.Growing.{asks_on, asks_part, grows_by, part_by}
use Rattle.flow_hub.proofs.Moves.{owing_more, owed_more}
use Rattle.flow_hub.proofs.Sound.{submits}
use Rattle.flow_hub.specs.declared.known.HubFacts.{HubFacts}
use Rattle.flow_hub.specs.declared.seats.Sight.{Sight}
use Rattle.flow_hub.specs.Submitting.{IsOpen}
use Rattle.flow_hub.proofs.state.State.submit.Goals as goal

pub invariant_of-self : goal.invariant_of-self
invariant_of-self g c = (
  rw (c.ask.ensures, c.push_back_reserved.ensures.items, c.add.ensures.total) (submits _ c.args.command c.self.invariant.0),
  search rules,
  search rules,
  search rules,
  search rules,
  search rules,
  search rules,
  search rules,
  search rules,
  search rules,
  search rules,
  search rules,
  search rules,
  search rules,
  search rules,
)

pub told-me-requires-clause-may : goal.told-me-requires-clause-may
told-me-requires-clause-may g c = inr (part_by c.self.inside.keeper.all c.self.inside.known _ c.ask.new.self c.self.invariant.13 c.ask.ensures (asks_part c.self.inside.known _))

pub told-me-requires-clause-grows : goal.told-me-requires-clause-grows
told-me-requires-clause-grows g c = grows_by c.self.inside.keeper.all c.self.inside.known _ c.ask.new.self c.self.invariant.13 c.ask.ensures (asks_on c.self.inside.known _)

pub told-me-requires-clause-owing : goal.told-me-requires-clause-owing
told-me-requires-clause-owing g c =
    let old = c.self.inside.keeper.all in
    let new = c.ask.new.self in
    let asked : length new.asked ≡ length old.asked + 1 = ap (λ (k : HubFacts). length k.asked) c.ask.ensures ∙ (length-append c.self.inside.known.asked _ ∙ ap (λ (k : HubFacts). length k.asked + 1) (sym c.self.invariant.13)) in
    let fetched : new.fetched ≡ old.fetched = ap (λ (k : HubFacts). k.fetched) c.ask.ensures ∙ ap (λ (k : HubFacts). k.fetched) (sym c.self.invariant.13) in
    owing_more c.args.me.owed old new asked fetched

pub returns-clause-owed : goal.returns-clause-owed
returns-clause-owed g c =
    let known = c.self.inside.known in
    let old = c.self.inside.keeper.all in
    let new = c.ask.new.self in
    let same = c.self.invariant.13 in
    let asked : length new.asked ≡ length old.asked + 1 = ap (λ (k : HubFacts). length k.asked) c.ask.ensures ∙ (length-append known.asked _ ∙ ap (λ (k : HubFacts). length k.asked + 1) (sym same)) in
    let fetched : new.fetched ≡ old.fetched = ap (λ (k : HubFacts). k.fetched) c.ask.ensures ∙ ap (λ (k : HubFacts). k.fetched) (sym same) in
    let is-open : IsOpen known = search rules in
    let below = c.told-me.ensures.owed in
    let long = ap (λ (k : HubFacts). length k.asked) same in
    let count = ap (λ (k : HubFacts). k.fetched) same in
    (ap (λ (v : Sight). v.owed) c.told-me.ensures.told ∙ owed_more c.args.me.owed old new asked fetched, omega (arith, below, long, count, is-open.room))
