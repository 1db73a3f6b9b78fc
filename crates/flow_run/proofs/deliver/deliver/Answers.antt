use Rattle.std.proofs.lemmas.Bool.{true≢false}
use Rattle.flow_run.proofs.deliver.deliver.Goals as goal

pub returns-in-Unbegun-clause-started : goal.returns-in-Unbegun-clause-started
returns-in-Unbegun-clause-started c = absurd (true≢false (rw c.in-Unbegun.is at c.requires.whole.begun))
