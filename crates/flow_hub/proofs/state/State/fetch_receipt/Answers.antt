use Rattle.std.proofs.Common.{rules, inr, refl, arith, ap, sym, ◌∙◌, ◌+◌}
use Rattle.flow_hub.proofs.Growing.{fetches_on, fetches_more, fetches_part, grows_by, part_by}
use Rattle.flow_hub.specs.Asks.{ticket_of}
use Rattle.flow_hub.specs.Knowing.{answered_in, with_fetched}
use Rattle.flow_hub.specs.declared.known.HubFacts.{HubFacts}
use Rattle.flow_hub.specs.declared.seats.Sight.{Sight}
use Rattle.flow_hub.proofs.Moves.{owing_less, owed_less, was_of}
use Rattle.flow_hub.proofs.Searching.{in_order}
use Rattle.flow_hub.proofs.Sound.{fetches}
use Rattle.flow_hub.proofs.state.State.fetch_receipt.Goals as goal

pub ticket_at-requires : goal.ticket_at-requires
ticket_at-requires g c = record { rising = rw c.as_slice.ensures.value (in_order ticket_of 0 (answered_in c.self.inside.known) c.self.inside.answered.items c.self.invariant.0.rises) }

pub invariant_of-self : goal.invariant_of-self
invariant_of-self g c = (
  fetches _ c.take_receipt-receipt.new.answered.items c.in-Some.k c.take_receipt-receipt.ensures.parts
      (omega (arith, c.take_receipt-receipt.ensures.len, c.take_receipt-receipt.new.answered.ok.0, c.self.inside.answered.ok.0)) c.self.invariant.0,
  search rules,
  search rules,
  search rules,
  search rules,
  search rules,
  search rules,
  search rules,
  search rules,
  search rules,
  search rules,
  search rules,
  search rules,
  search rules,
  search rules,
)

pub told-me-requires-clause-may : goal.told-me-requires-clause-may
told-me-requires-clause-may g c = inr (part_by c.self.inside.keeper.all c.self.inside.known _ _ c.self.invariant.13 refl (fetches_part c.self.inside.known))

pub told-me-requires-clause-grows : goal.told-me-requires-clause-grows
told-me-requires-clause-grows g c = grows_by c.self.inside.keeper.all c.self.inside.known _ _ c.self.invariant.13 refl (fetches_on c.self.inside.known)

pub returns-clause-one_more : goal.returns-clause-one_more
returns-clause-one_more g c = fetches_more c.args.me.was c.self.inside.keeper.all c.self.inside.known c.told-me.result.was c.told-me.ensures.before c.self.invariant.13 (was_of c.told-me.result _ _ _ c.told-me.ensures.told)

pub told-me-requires-clause-owing : goal.told-me-requires-clause-owing
told-me-requires-clause-owing g c =
    let known = c.self.inside.known in
    let same = sym c.self.invariant.13 in
    owing_less c.args.me.owed c.self.inside.keeper.all (with_fetched known) c.requires.owed (ap (λ (k : HubFacts). k.asked) same) (ap (λ (k : HubFacts). k.fetched + 1) same)

pub returns-clause-owed : goal.returns-clause-owed
returns-clause-owed g c =
    let known = c.self.inside.known in
    let same = sym c.self.invariant.13 in
    ap (λ (v : Sight). v.owed + 1) c.told-me.ensures.told
    ∙ owed_less c.args.me.owed c.self.inside.keeper.all (with_fetched known) c.requires.owed (ap (λ (k : HubFacts). k.asked) same) (ap (λ (k : HubFacts). k.fetched + 1) same)
