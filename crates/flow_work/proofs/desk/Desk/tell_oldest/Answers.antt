use Rattle.std.proofs.Common.{ap, subst, sym}
use Rattle.flow_work.specs.Telling.{IsAnswer}
use Rattle.flow_work.proofs.Telling.{told_next}
use Rattle.flow_work.proofs.desk.Desk.tell_oldest.Goals as goal

pub returns-clause-told : goal.returns-clause-told
returns-clause-told g c =
    let old = c.args.self.now in
    let new = c.print_answer.new.self in
    let answer = c.answer_of-answer.result in
    let is = subst (λ m. IsAnswer m c.in-Some.pending answer) (sym c.print_answer.ensures.submitter) c.answer_of-answer.ensures.answer in
    told_next new.submitter c.in-Some.pending answer c.print_answer.result old.page new.page
    (c.in-Some.ensures {u = tt}) (ap (λ q. q.lines.items) c.print_answer.ensures.pending) is c.print_answer.ensures.goes_on c.print_answer.ensures.printed
