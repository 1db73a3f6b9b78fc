use Rattle.std.proofs.Common.{inr, refl}
use Rattle.flow_base.specs.declared.code.Code.TheVariants.{BadBody}
use Rattle.flow_cli.specs.declared.replaying.Replayed.TheVariants.{BadLine}
use Rattle.flow.proofs.Replays.{ran_out}
use Rattle.flow.proofs.replaying.replay_reply.Goals as goal

-- nothing was told, so it may be of either
pub returns-in-Err-NoMemory : goal.returns-in-Err-NoMemory
returns-in-Err-NoMemory g c = ran_out _ _ _ (BadLine 1 BadBody) _ _ (inr (1, (BadBody, refl)))
