-- What comes of a submission that has no receipt.
use Rattle.std.specs.Prelude.{◌≡◌, ◌⊎◌, List, [], Option, Some, None, Result, IfOk, IfErr, OnOk}
use Rattle.sqlite_trees.specs.declared.store.Store.{Ghosts}
use Rattle.flow_base.specs.declared.code.Code.TheVariants as code
use Rattle.flow_base.specs.declared.fault.Fault.{Fault}
use Rattle.flow_base.specs.declared.fault.Fault.TheVariants as fault
use Rattle.flow_base.specs.declared.submission.Receipt.{Receipt}
use Rattle.flow_base.specs.declared.submission.Taken.{Taken}
use Rattle.flow_lines.specs.declared.reply.Line.{Line}
use Rattle.flow_lines.specs.declared.reply.Line.TheVariants as line
use Rattle.flow_commit.specs.Keeping.{Keeping}
use Rattle.flow_engine.specs.Answering.{Follows}
use Rattle.flow_serve.specs.Serving.{EndsFor, GivesUp, HasServed}
use Rattle.flow_hub.specs.declared.denied.Denied.{Denied}
use Rattle.flow_hub.specs.declared.denied.Denied.TheVariants as denied
use Rattle.flow_queues.specs.declared.refused.Refused.{Refused}
use Rattle.flow_hub.specs.declared.ticket.NotDoneFacts.{NotDoneFacts}
use Rattle.flow_hub.specs.declared.ticket.TicketFacts.{TicketFacts}
use Rattle.flow_hub.specs.declared.ticket.Why.{Why}
use Rattle.flow_hub.specs.declared.ticket.Why.TheVariants as why
use Rattle.flow_hub.specs.Submitting.{Member, IsReceipt, IsNotDone}
use Rattle.flow_pool.specs.declared.report.Unheard.{Unheard}
use Rattle.flow_pool.specs.declared.report.Unheard.TheVariants as unheard

-- why a report isn't taken in
abbrev pub unheard_denied : Denied → Unheard
unheard_denied denied.InboxFull = unheard.InboxFull
unheard_denied denied.HubClosed = unheard.HubClosed

-- why a report has no receipt; behind another code nothing is told any more
abbrev pub unheard_why : Why → Unheard
unheard_why (why.Refused code.NoMemory) = unheard.NoMemory
unheard_why (why.Refused code.StoreRefused) = unheard.StoreRefused
unheard_why (why.Refused code.Unknown) = unheard.Unknown
unheard_why _ = unheard.Halted

-- What is printed of a command that has no receipt: E01 and E80 as they are, and of another code nothing, since nothing is answered
-- behind it.
abbrev pub line_instead : Why → Option Line
line_instead (why.Refused code.NoMemory) = Some (line.NotApplied code.NoMemory)
line_instead (why.Refused code.StoreRefused) = Some (line.NotApplied code.StoreRefused)
line_instead _ = None

-- The line is that of the ticket's receipt; or the ticket has none, and the line says why.
abbrev pub IsToldOf : Member → TicketFacts → Option Line → Type 0
IsToldOf m ticket told =
    ((r : Receipt) × IsReceipt m ticket r × (told ≡ Some (line.Of r.reply)))
    ⊎ ((n : NotDoneFacts) × IsNotDone m ticket n × (told ≡ line_instead n.code))

-- An engine that ran has served to the end: what it took was committed batch by batch, each over the book that those before it left,
-- a batch that wasn't applied was answered E80 or E01, and nothing else was answered by a code.
pub record HasServedAll {S : Type 0} (g : Ghosts S) (old new : Keeping S) : Type 0 where
  pub now : List Refused
  pub given_up : GivesUp [] now
  pub served : HasServed g old new [] now []

-- Why an engine that ran serves no more, and what has answered what was submitted: what it had taken was committed batch by batch, each
-- over the book that those before it left, which says what is kept and what a stop leaves.
pub record EndsServing {S : Type 0} (g : Ghosts S) (old new : Keeping S) (f : Fault) : Type 0 where
  pub now : List Refused
  pub how : (waiting : List Taken) × EndsFor old new [] now waiting f
  pub served : (waiting : List Taken) × HasServed g old new [] now waiting

-- What came of an engine that ran: it has served to the end, or this fault has ended it; or nothing was served, and all is as before.
pub record HasRun {S A U : Type 0} (g : Ghosts S) (old new : Keeping S) (r : Result A Fault) (ended : A → Result U Fault) : Type 0 where
  pub served : IfOk r (λ a. OnOk (ended a) (HasServedAll g old new))
  pub ends : IfOk r (λ a. IfErr (ended a) (EndsServing g old new))
  pub goes_on : IfOk r (λ a. OnOk (ended a) (new.halted ≡ old.halted))
  pub unserved : IfErr r (λ f. (f ≡ fault.NoMemory _) × (new ≡ old))
  pub found : new.found ≡ old.found
  pub follows : Follows g old new
