use Rattle.std.specs.Prelude.{◌≡◌, []}
use Rattle.flow_work_tests.proofs.refusing.refuse_often.Given as goal

abbrev pub invariant-loop-time : goal.invariant-loop-time
invariant-loop-time g l = l.publisher.held ≡ []
