use Rattle.std.proofs.Common.{◌≡◌, ◌∙◌, subst}
use Rattle.std.specs.Prelude.{◌⊎◌}
use Rattle.std.specs.declared.io.ErrorKind.TheVariants.{OutOfMemory}
use Rattle.flow_base.specs.declared.fault.Fault.TheVariants.{BadUsage}
use Rattle.flow.proofs.calls.words_of.Goals as goal

pub returns-in-Err-clause-unknown : goal.returns-in-Err-clause-unknown
returns-in-Err-clause-unknown g c = record {
  error = c.in-Err.error;
  called = c.in-Err.ensures;
  fault = c.fault_of_error.result;
  is = c.from.ensures;
  memory = λ out. c.fault_of_error.ensures.memory (c.kind.ensures ∙ out);
  other = subst (λ k. (c.fault_of_error.result ≡ BadUsage) ⊎ (k ≡ OutOfMemory)) c.kind.ensures c.fault_of_error.ensures.other;
}
