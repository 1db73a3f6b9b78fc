use Rattle.std.proofs.Common.{rules, inr, refl, arith, ap, sym, ◌∙◌, ◌+◌}
use Rattle.flow_hub.proofs.Growing.{fetches_on, fetches_more, fetches_part, grows_by, part_by}
use Rattle.flow_hub.specs.Asks.{ticket_gone}
use Rattle.flow_hub.specs.Knowing.{answered_in, with_fetched}
use Rattle.flow_hub.specs.declared.known.HubFacts.{HubFacts}
use Rattle.flow_hub.specs.declared.seats.Sight.{Sight}
use Rattle.flow_hub.proofs.Moves.{owing_less, owed_less, was_of}
use Rattle.flow_hub.proofs.Searching.{in_order}
use Rattle.flow_hub.proofs.Sound.{lets_go}
use Rattle.flow_hub.proofs.state.State.fetch_refusal.Goals as goal

pub refused_at-requires : goal.refused_at-requires
refused_at-requires g c = record { rising = rw c.as_slice.ensures.value (in_order ticket_gone 0 (answered_in c.self.inside.known) c.self.inside.refused.items c.self.invariant.0.gone_rises) }

pub invariant_of-self : goal.invariant_of-self
invariant_of-self g c = (
  lets_go _ c.remove-refused.new.self.items c.in-Some.k c.remove-refused.ensures.by_index.2
      (omega (arith, c.remove-refused.ensures.len, c.remove-refused.new.self.ok.0, c.self.inside.refused.ok.0)) c.self.invariant.0,
  search rules,
  search rules,
  search rules,
  search rules,
  search rules,
  search rules,
  search rules,
  search rules,
  search rules,
  search rules,
  search rules,
  search rules,
  search rules,
  search rules,
)

pub told-me-requires-clause-may : goal.told-me-requires-clause-may
told-me-requires-clause-may g c = inr (part_by c.self.inside.keeper.all c.self.inside.known _ _ c.self.invariant.13 refl (fetches_part c.self.inside.known))

pub told-me-requires-clause-grows : goal.told-me-requires-clause-grows
told-me-requires-clause-grows g c = grows_by c.self.inside.keeper.all c.self.inside.known _ _ c.self.invariant.13 refl (fetches_on c.self.inside.known)

pub returns-clause-one_more : goal.returns-clause-one_more
returns-clause-one_more g c = fetches_more c.args.me.was c.self.inside.keeper.all c.self.inside.known c.told-me.result.was c.told-me.ensures.before c.self.invariant.13 (was_of c.told-me.result _ _ _ c.told-me.ensures.told)

pub told-me-requires-clause-owing : goal.told-me-requires-clause-owing
told-me-requires-clause-owing g c =
    let known = c.self.inside.known in
    let same = sym c.self.invariant.13 in
    owing_less c.args.me.owed c.self.inside.keeper.all (with_fetched known) c.requires.owed (ap (λ (k : HubFacts). k.asked) same) (ap (λ (k : HubFacts). k.fetched + 1) same)

pub returns-clause-owed : goal.returns-clause-owed
returns-clause-owed g c =
    let known = c.self.inside.known in
    let same = sym c.self.invariant.13 in
    ap (λ (v : Sight). v.owed + 1) c.told-me.ensures.told
    ∙ owed_less c.args.me.owed c.self.inside.keeper.all (with_fetched known) c.requires.owed (ap (λ (k : HubFacts). k.asked) same) (ap (λ (k : HubFacts). k.fetched + 1) same)
