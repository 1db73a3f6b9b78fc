use Rattle.std.proofs.Common.{refl}
use Rattle.flow_engine.proofs.Singly.{kept_given}
use Rattle.flow_engine.proofs.answering.answer_of.Goals as goal

pub returns-in-Kept-clause-given : goal.returns-in-Kept-clause-given
returns-in-Kept-clause-given c = rw c.in-Kept.is (kept_given c.in-Kept.receipts.items c.reply_of.result (rw c.in-Kept.is at c.requires) c.reply_of.ensures, refl)
