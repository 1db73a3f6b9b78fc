use Rattle.std.proofs.Common.{rules, ◌≡◌, ◌++◌, ◌∷◌, [], List, ℕ, sym, subst}
use Rattle.flow_work.specs.Questions.{line_served}
use Rattle.flow_work.specs.Counting.{Goes}
use Rattle.flow_work.proofs.Counting.{quits, taken_goes}
use Rattle.flow_work.proofs.counter.Counter.take.Goals as goal

pub returns-clause-counted : goal.returns-clause-counted
returns-clause-counted g c =
    let old = c.args.self.now in
    let tells = g.C.Clock.tells c.args.clock.now in
    let taken = c.take_line-goes_on in
    let new = taken.new.self in
    let lines : c.with_line-lines.result ≡ old.lines ++ c.args.line.items ∷ [] = search rules in
    λ first k. subst (λ (l : List (List ℕ)). Goes line_served tells first taken.result old.feed new.submitter new.pending.lines.items l new.page) (sym lines)
    (taken_goes line_served tells first old.feed old.desk.submitter new.submitter taken.result old.desk.pending.lines.items new.pending.lines.items old.lines c.args.line.items old.desk.page new.page taken.ensures.same taken.ensures.grows
    taken.ensures.taken taken.ensures.not_taken k)

pub returns-clause-quits : goal.returns-clause-quits
returns-clause-quits g c =
    let old = c.args.self.now in
    let tells = g.C.Clock.tells c.args.clock.now in
    let taken = c.take_line-goes_on in
    λ first k off. quits line_served tells first old.feed old.desk.submitter taken.new.self.submitter old.desk.pending.lines.items old.lines old.desk.page taken.ensures.same taken.ensures.grows (taken.ensures.silent off) k

pub returns-clause-lines : goal.returns-clause-lines
returns-clause-lines g c = search rules
