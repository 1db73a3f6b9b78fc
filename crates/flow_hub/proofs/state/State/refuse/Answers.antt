use Rattle.std.proofs.Common.{rules, ◌≡◌, ◌+◌, ◌++◌, length, ap, sym, ◌∙◌, arith, map, length-append, vec_len}
use Rattle.flow_queues.specs.Refusing.{refused_by}
use Rattle.flow_hub.specs.Knowing.{IsSamePart}
use Rattle.flow_hub.proofs.Growing.{refuses_on, grows_by}
use Rattle.flow_hub.proofs.Lists.{length-mapped}
use Rattle.flow_hub.proofs.Sound.{refuses}
use Rattle.flow_hub.proofs.state.State.refuse.Goals as goal

pub invariant_of-self : goal.invariant_of-self
invariant_of-self g c =
    let i = c.self.inside in
    let held = i.known.held in
    let by = refused_by c.args.code in
    let same : IsSamePart c.args.me.was i.known = search rules in
    let all : c.args.all.items ≡ held = c.requires.all ∙ same.held in
    let count : c.len.result ≡ length held = (search rules) in
    let refused : c.refuse_all.new.refused.items ≡ i.refused.items ++ map by held = c.refuse_all.ensures.items ∙ ap (λ l. i.refused.items ++ map by l) all in
    let size : length c.refuse_all.new.refused.items ≡ length i.refused.items + length held = ap length refused ∙ (length-append i.refused.items (map by held) ∙ ap (λ n. length i.refused.items + n) (length-mapped by held)) in
    let len : vec_len c.refuse_all.new.refused ≡ vec_len i.refused + length held = c.refuse_all.new.refused.ok.0 ∙ (size ∙ ap (λ n. n + length held) (sym i.refused.ok.0)) in
    let longer : length (i.known.refused ++ map by held) ≡ length i.known.refused + length held = length-append i.known.refused (map by held) ∙ ap (λ n. length i.known.refused + n) (length-mapped by held) in (
      rw (c.refuse.ensures, all, refused) (refuses _ c.args.code c.self.invariant.0),
      search rules,
      search rules,
      rw (c.refuse.ensures, all) (omega (arith, c.self.invariant.3, count, longer)),
      search rules,
      search rules,
      search rules,
      omega (arith, len, c.self.invariant.1, c.self.invariant.7),
      search rules,
      search rules,
      search rules,
      search rules,
      search rules,
      search rules,
      search rules,
    )

pub tell-me-requires-clause-grows : goal.tell-me-requires-clause-grows
tell-me-requires-clause-grows g c = grows_by c.self.inside.keeper.all c.self.inside.known _ c.refuse.new.self c.self.invariant.13 c.refuse.ensures (refuses_on c.self.inside.known _ _)
