use Rattle.std.proofs.Common.{rules, ◌≡◌, ◌+◌, [], ◌++◌, length, ◌∙◌, arith, length-append}
use Rattle.flow_hub.proofs.Growing.{takes_on, grows_by}
use Rattle.flow_hub.specs.Knowing.{IsSamePart}
use Rattle.flow_hub.proofs.Moves.{was_of}
use Rattle.flow_hub.proofs.Sound.{takes, has_taken, taken_by, takes_all, takes_all_by, all_taken, all_taken_by}
use Rattle.flow_hub.proofs.state.State.take.Goals as goal

pub invariant_of-self : goal.invariant_of-self
invariant_of-self g c =
    let xs = c.move_front.new.into.items in
    let held = c.self.inside.known.held in
    let parts : c.self.inside.waiting.items ≡ xs ++ c.move_front.new.waiting.items = search rules in
    let longer : length (held ++ xs) ≡ length held + length xs = length-append held xs in
    let count : c.len.result ≡ length xs = search rules in (
      rw c.take.ensures (takes _ xs c.move_front.new.waiting.items parts c.self.invariant.0),
      rw c.take.ensures (omega (arith, longer, c.self.invariant.1, count)),
      search rules,
      search rules,
      search rules,
      search rules,
      search rules,
      omega (arith, count, c.move_front.ensures.lengths.0, c.self.invariant.7),
      search rules,
      search rules,
      search rules,
      search rules,
      search rules,
      search rules,
      search rules,
    )

pub tell-requires-clause-grows : goal.tell-requires-clause-grows
tell-requires-clause-grows g c = grows_by c.self.inside.keeper.all c.self.inside.known _ c.take.new.self c.self.invariant.13 c.take.ensures (takes_on c.self.inside.known _ _)

pub returns-clause-seen : goal.returns-clause-seen
returns-clause-seen g c =
    let i = c.self.inside in
    let xs = c.move_front.new.into.items in
    let same : IsSamePart c.args.me.was i.known = search rules in
    let parts : i.waiting.items ≡ xs ++ c.move_front.new.waiting.items = search rules in
    let was = was_of c.tell.result _ _ c.take.new.self c.tell.ensures.told ∙ c.take.ensures in
    taken_by c.args.me.was c.tell.result.was _ xs was (has_taken _ c.args.me.was xs c.move_front.new.waiting.items parts c.self.invariant.0 same)

pub returns-clause-all : goal.returns-clause-all
returns-clause-all g c less =
    let xs = c.move_front.new.into.items in
    let rest = c.move_front.new.waiting.items in
    let parts : c.self.inside.waiting.items ≡ xs ++ rest = search rules in
    let none : rest ≡ [] = c.move_front.ensures.all less in
    let was = was_of c.tell.result _ _ c.take.new.self c.tell.ensures.told ∙ c.take.ensures in
    all_taken_by c.tell.result.was _ was (all_taken _ none (takes _ xs rest parts c.self.invariant.0))

pub returns-clause-whole : goal.returns-clause-whole
returns-clause-whole g c =
    let i = c.self.inside in
    let same : IsSamePart c.args.me.was i.known = search rules in
    let was = was_of c.tell.result _ _ c.take.new.self c.tell.ensures.told ∙ c.take.ensures in
    takes_all_by c.args.most c.args.me.was c.tell.result.was _ was
    (takes_all c.args.most c.args.me.was i.known c.move_front.new.into.items c.move_front.new.waiting.items same c.move_front.ensures.all)
