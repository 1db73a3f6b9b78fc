use Rattle.std.proofs.Common.{rules, ◌≡◌, ◌∙◌, ◌++◌, ℕ, List, ap, take, sym}
use Rattle.flow_hub.specs.declared.seats.Sight.{Sight}
use Rattle.flow_hub.proofs.Keys.{all_gone, rest_published}
use Rattle.flow_hub.proofs.publisher.Publisher.publish.Goals as goal

-- the keys of the runs that the stamp names as closed are gone
pub invariant_of-self : goal.invariant_of-self
invariant_of-self g c =
    let n = c.let_go-count.result.0 in
    let same : c.closed.result.now ≡ c.args.stamp.closed = c.closed.ensures in (
      search rules,
      rest_published c.self.inside.keys c.let_go-count.new.keys c.self.inside.gone c.let_go-count.new.gone c.self.inside.seat.was c.leave-me.result.was c.publish-me.result.0.was (take n c.closed.result.now)
          (ap (λ (v : Sight). v.was) c.leave-me.ensures.0) c.publish-me.ensures.seen.posted (c.publish-me.ensures.gone ∙ ap (λ (runs : List ℕ). c.leave-me.result.was.gone ++ take n runs) (sym same)) c.let_go-count.ensures.gone
          c.let_go-count.ensures.keys c.self.invariant.1,
    )

pub returns-clause-gone : goal.returns-clause-gone
returns-clause-gone g c =
    rw (← c.self.view_is) (all_gone c.let_go-count.result.1 c.let_go-count.result.0 c.self.inside.seat.was.gone c.leave-me.result.was.gone c.publish-me.result.0.was.gone c.args.stamp.closed c.closed.result.now
    (ap (λ (v : Sight). v.was.gone) c.leave-me.ensures.0) c.publish-me.ensures.gone c.closed.ensures c.let_go-count.ensures.all)
