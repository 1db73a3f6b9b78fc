use Rattle.std.proofs.Common.{refl}
use Rattle.flow_queues.proofs.Stretches.{alike, joined, taken_back}
use Rattle.flow_queues.proofs.over.join.Goals as goal

pub returns-in-Err-clause-refused : goal.returns-in-Err-clause-refused
returns-in-Err-clause-refused c runs h out = alike c.args.firsts.now c.args.ends.now runs h c.put_if.new.set c.args.ends.now c.in-Err.ensures.refused (λ q. refl)

-- what was put into the first set is taken out of it
pub returns-in-Err-put_if-clause-refused : goal.returns-in-Err-put_if-clause-refused
returns-in-Err-put_if-clause-refused c runs h out =
    let firsts = c.args.firsts.now in
    let ends = c.args.ends.now in
    alike firsts ends runs h c.take_if.new.set c.put_if-2.new.set
    (taken_back firsts ends runs h c.args.run c.lacks-begins.result c.put_if.new.set c.take_if.new.set out c.in_default.ensures.put c.take_if.ensures)
    c.in-Err-put_if.ensures.refused

pub returns-clause-joined : goal.returns-clause-joined
returns-clause-joined c runs h out =
    joined c.args.firsts.now c.args.ends.now runs h c.args.run out c.lacks-begins.result c.lacks-closes.result c.lacks-begins.ensures c.lacks-closes.ensures
    c.put_if.new.set c.merge.new.firsts c.put_if-2.new.set c.merge.new.ends
    c.in_default.ensures.put c.in_default-put_if.ensures.put c.merge.ensures.ends c.merge.ensures.firsts
