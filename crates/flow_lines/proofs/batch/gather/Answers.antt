use Rattle.std.proofs.Common.{arith, rules, false, inr, refl, ap, ◌∙◌}
use Rattle.flow_lines.specs.Answering.{last_or}
use Rattle.flow_lines.proofs.Batches.{ended_on, ends_full, gathered_on, as_begun}
use Rattle.flow_lines.proofs.Ends.{gives_none, gives_on}
use Rattle.flow_lines.proofs.batch.gather.Goals as goal

pub loop-init : goal.loop-init
loop-init g c = record {
  gathered = as_begun _ _ _ _ _ c.in_ok-begun.ensures.commands c.in_ok-begun.ensures.marks;
  some = search rules;
  few = search rules;
  ends = λ all. ap (last_or false) c.in_ok-begun.ensures.marks;
  counted = search rules;
  given = gives_none _;
  failed = refl;
}

pub loop-preserved : goal.loop-preserved
loop-preserved g c = record {
  gathered = gathered_on _ _ _ _ _ _ _ _ _ c.loop.invariant.gathered c.in-Ok-true.ensures.gathered;
  some = search rules;
  few = search rules;
  ends = ends_full _ _ _ c.put_next.new.begun.marks.items (search rules) c.in-Ok-true.ensures.last;
  counted = search rules;
  given = gives_on 0 0 0 _ _ _ (omega arith) c.loop.invariant.given c.in-Ok-true.ensures.given;
  failed = c.in-Ok-true.ensures.input ∙ c.loop.invariant.failed;
}

pub returns-in-Ok-false-clause-gathered : goal.returns-in-Ok-false-clause-gathered
returns-in-Ok-false-clause-gathered g c = gathered_on _ _ _ _ _ _ _ _ _ c.loop.invariant.gathered c.in-Ok-false.ensures.gathered

pub returns-in-Ok-false-clause-full : goal.returns-in-Ok-false-clause-full
returns-in-Ok-false-clause-full g c =
    inr (inr (ended_on _ _ _ _ _ _ _ c.loop.invariant.gathered (c.in-Ok-false.ensures.left c.in-Ok-false.field-0-test)))

pub returns-in-Ok-false-clause-given : goal.returns-in-Ok-false-clause-given
returns-in-Ok-false-clause-given g c = gives_on 0 0 0 _ _ _ (omega arith) c.loop.invariant.given c.in-Ok-false.ensures.given

pub returns-in-Ok-false-clause-ends : goal.returns-in-Ok-false-clause-ends
returns-in-Ok-false-clause-ends g c = ends_full _ _ _ c.put_next.new.begun.marks.items (search rules) c.in-Ok-false.ensures.last
