use Rattle.std.proofs.Common.{◌≡◌, ◌<◌, Some, None, length, arith}
use Rattle.flow_model.specs.Tokens.{front, past_gap}
use Rattle.flow_tokens.proofs.Reading.{reads_on, ends, stops}
use Rattle.flow_tokens.proofs.Relation.{reads_of_scans}
use Rattle.flow_tokens.proofs.scan.tokens.Goals as goal

pub returns-in_default : goal.returns-in_default
returns-in_default c =
    let some : 0 < length c.loop-rest.rest.now = omega arith in
    let found : front c.loop-rest.rest.now ≡ None = rw c.in_default.is at c.in_ok-word.ensures.value in
    reads_of_scans (length c.args.text.now) (past_gap c.args.text.now) c.loop-rest.list.items _
    (stops (length c.args.text.now) (past_gap c.args.text.now) c.loop-rest.rest.now c.loop-rest.list.items c.loop-rest.invariant.2 some found)

pub loop-rest-preserved : goal.loop-rest-preserved
loop-rest-preserved c =
    let found : front c.loop-rest.rest.now ≡ Some (c.in-Some.word, c.in-Some.after.now) = rw c.in-Some.is at c.in_ok-word.ensures.value in
    let shorter : length c.in-Some.after.now < length c.loop-rest.rest.now = rw c.in-Some.is at c.in_ok-word.ensures.shorter in (
      c.past_gap-rest-in-loop-rest.utf8,
      omega (arith, shorter, c.past_gap-rest-in-loop-rest.ensures.shorter, c.loop-rest.invariant.1),
      reads_on (length c.args.text.now) (past_gap c.args.text.now) c.loop-rest.rest.now c.in-Some.after.now c.past_gap-rest-in-loop-rest.result.now
          c.loop-rest.list.items c.push.new.self.items c.in-Some.word c.loop-rest.invariant.2 found c.past_gap-rest-in-loop-rest.ensures.value c.in_ok-push.ensures.items,
    )

pub returns : goal.returns
returns c =
    reads_of_scans (length c.args.text.now) (past_gap c.args.text.now) c.loop-rest.list.items None
    (ends (length c.args.text.now) (past_gap c.args.text.now) c.loop-rest.rest.now c.loop-rest.list.items c.loop-rest.invariant.2 (omega arith))
