-- Lines of which nothing is printed yet, as plain data.
use Rattle.std.specs.Coded.{Coded}
use Rattle.flow_work.specs.declared.queue.Pending.{Pending}
use Rattle.flow_work.specs.declared.queue.Pending.TheVariants as pending
use Rattle.flow_work.specs.contracts.queue.Pending as pending_row
use Rattle.flow_work.specs.declared.queue.Waiting.{Waiting}
use Rattle.flow_work.specs.declared.queue.Waiting.TheVariants as waiting

abbrev pub pending_code : Coded Pending
pending_code = pending_row.the_row.coded

abbrev pub pending_of : {B : Type 0} → Waiting B → Pending
pending_of (waiting.Submitted ticket) = pending.Submitted ticket
pending_of (waiting.Known line) = pending.Known line
