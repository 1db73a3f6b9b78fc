-- Commands by their fields, in order, for worked rows.
use Rattle.std.proofs.Common.{ℕ, List}
use Rattle.flow_base.specs.Syntax.{Bytes}
use Rattle.flow_base.specs.declared.value.Value.{Value}
use Rattle.flow_base.specs.declared.command.Command.{Command}
use Rattle.flow_base.specs.declared.command.Command.TheVariants as command

abbrev pub start_of : Bytes → Bytes → ℕ → List Value → ℕ → Command
start_of request flow text vs at = command.Start (record { request = request; flow = flow; text = text; arguments = vs; at = at })

abbrev pub complete_of : ℕ → ℕ → ℕ → Value → ℕ → Command
complete_of run event attempt v at = command.Complete (record { run = run; event = event; attempt = attempt; value = v; at = at })

abbrev pub fail_of : ℕ → ℕ → ℕ → Bytes → ℕ → Command
fail_of run event attempt reason at = command.Fail (record { run = run; event = event; attempt = attempt; reason = reason; at = at })
