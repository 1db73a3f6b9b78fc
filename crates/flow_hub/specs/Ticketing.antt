-- What tickets say, as plain data.
use Rattle.std.specs.Coded.{Coded}
use Rattle.flow_hub.specs.declared.ticket.TicketFacts.{TicketFacts}
use Rattle.flow_hub.specs.declared.ticket.NotDoneFacts.{NotDoneFacts}
use Rattle.flow_hub.specs.contracts.ticket.TicketFacts as ticket_row
use Rattle.flow_hub.specs.contracts.ticket.NotDoneFacts as not_done_row

abbrev pub ticket_code : Coded TicketFacts
ticket_code = ticket_row.the_row.coded

abbrev pub not_done_code : Coded NotDoneFacts
not_done_code = not_done_row.the_row.coded
