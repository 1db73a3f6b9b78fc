-- What comes of a command that is submitted and waited for.
use Rattle.std.specs.Prelude.{◌≡◌, ◌⊎◌, ◌≤◌, length, Some, Result, Ok, Err}
use Rattle.flow_base.specs.declared.command.Command.{Command}
use Rattle.flow_base.specs.declared.command.Reply.{Reply}
use Rattle.flow_base.specs.declared.submission.Receipt.{Receipt}
use Rattle.flow_hub.specs.declared.denied.Denied.{Denied}
use Rattle.flow_hub.specs.declared.ticket.NotDoneFacts.{NotDoneFacts}
use Rattle.flow_hub.specs.declared.ticket.TicketFacts.{TicketFacts}
use Rattle.flow_hub.specs.Submitting.{Member, IsDenied, IsReceipt, IsNotDone}
use Rattle.flow_pool.specs.declared.report.Unheard.{Unheard}
use Rattle.flow_work.specs.Endings.{unheard_denied, unheard_why}

-- The reply is that of a receipt of this command, whose ticket was given meanwhile.
pub record HasReply (old new : Member) (c : Command) (reply : Reply) : Type 0 where
  pub ticket : TicketFacts
  pub receipt : Receipt
  pub meanwhile : length old.was.asked ≤ ticket.number
  pub is : IsReceipt new ticket receipt
  pub command : receipt.command ≡ c
  pub told : reply ≡ receipt.reply

-- A ticket that was given meanwhile for this command was answered by a code, which says why.
pub record HasCode (old new : Member) (c : Command) (why : Unheard) : Type 0 where
  pub ticket : TicketFacts
  pub instead : NotDoneFacts
  pub meanwhile : length old.was.asked ≤ ticket.number
  pub is : IsNotDone new ticket instead
  pub command : instead.command ≡ Some c
  pub told : why ≡ unheard_why instead.code

-- it wasn't taken in, by what was seen then
pub record HasNoTicket (new : Member) (why : Unheard) : Type 0 where
  pub denied : Denied
  pub is : IsDenied new.was denied
  pub told : why ≡ unheard_denied denied

-- What comes of a command by a submitter, as it was before and is behind: its reply; or it comes back, and why.
abbrev pub IsHeard : Member → Member → Command → Result Reply (Command × Unheard) → Type 0
IsHeard old new c (Ok reply) = HasReply old new c reply
IsHeard old new c (Err e) = (e.0 ≡ c) × (HasNoTicket new e.1 ⊎ HasCode old new c e.1)
