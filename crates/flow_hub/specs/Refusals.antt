-- The numbers of what a hub refuses.
use Rattle.std.specs.Prelude.{ℕ, Bool, true, false}
use Rattle.flow_base.specs.Codes.{code_number}
use Rattle.flow_hub.specs.declared.denied.Denied.{Denied}
use Rattle.flow_hub.specs.declared.denied.Denied.TheVariants as denied
use Rattle.flow_hub.specs.declared.denied.Unseated.{Unseated}
use Rattle.flow_hub.specs.declared.denied.Unseated.TheVariants as unseated
use Rattle.flow_hub.specs.declared.ticket.NotDoneFacts.{NotDoneFacts}
use Rattle.flow_hub.specs.declared.ticket.Why.{Why}
use Rattle.flow_hub.specs.declared.ticket.Why.TheVariants as why

abbrev pub denied_number : Denied → ℕ
denied_number denied.InboxFull = 90
denied_number denied.HubClosed = 91

abbrev pub unseated_number : Unseated → ℕ
unseated_number (unseated.NoMemory _) = 1
unseated_number (unseated.InboxFull _) = 90

abbrev pub why_number : Why → ℕ
why_number why.NotMine = 92
why_number (why.Refused code) = code_number code

---- Whether a ticket has had its answer

abbrev pub spent_by : Why → Bool
spent_by why.NotMine = false
spent_by (why.Refused code) = true

abbrev pub is_spent : NotDoneFacts → Bool
is_spent n = spent_by n.code
