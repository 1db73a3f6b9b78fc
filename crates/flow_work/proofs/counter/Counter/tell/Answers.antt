use Rattle.std.proofs.Common.{inl, inr}
use Rattle.flow_work.specs.Questions.{line_served}
use Rattle.flow_work.proofs.Counting.{goes_told, quits}
use Rattle.flow_work.proofs.Silence.{fewer, silent_first}
use Rattle.flow_work.proofs.counter.Counter.tell.Goals as goal

pub returns-then-has_pending-clause-counted : goal.returns-then-has_pending-clause-counted
returns-then-has_pending-clause-counted g c =
    let old = c.args.self.now in
    let tells = g.C.Clock.tells c.args.clock.now in
    let told = c.tell_oldest in
    let new = told.new.self in
    λ first k. goes_told line_served tells first old.feed old.desk.submitter new.submitter told.result old.desk.pending.lines.items new.pending.lines.items old.lines old.desk.page new.page told.ensures.same told.ensures.grows told.ensures.told k

pub returns-then-has_pending-clause-shut : goal.returns-then-has_pending-clause-shut
returns-then-has_pending-clause-shut g c =
    let old = c.args.self.now in
    let tells = g.C.Clock.tells c.args.clock.now in
    let told = c.tell_oldest in
    let new = told.new.self in
    let oldest = told.ensures.oldest in
    λ first k off. inl (quits line_served tells first old.feed old.desk.submitter new.submitter old.desk.pending.lines.items old.lines old.desk.page told.ensures.same told.ensures.grows
    (silent_first new.submitter old.desk.pending.lines.items new.pending.lines.items oldest.0 told.result oldest.1 off) k)

pub returns-clause-counted : goal.returns-clause-counted
returns-clause-counted g c = c.listen.ensures.counted

pub returns-clause-shut : goal.returns-clause-shut
returns-clause-shut g c = λ first k off. inr (c.listen.ensures.closed off)

pub returns-then-has_pending-clause-does : goal.returns-then-has_pending-clause-does
returns-then-has_pending-clause-does g c =
    let told = c.tell_oldest in
    let new = told.new.self in
    let oldest = told.ensures.oldest in
    inl (c.has_pending.ensures.some c.if-has_pending.true, fewer new.submitter c.args.self.now.desk.pending.lines.items new.pending.lines.items oldest.0 told.result oldest.1)

pub returns-clause-does : goal.returns-clause-does
returns-clause-does g c = inr c.listen.ensures.listens
