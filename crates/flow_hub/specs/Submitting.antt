-- What submitters are, and what they are told.
use Rattle.std.specs.Prelude.{ℕ, ◌≡◌, ◌≢◌, ◌⊎◌, ◌+◌, ◌<◌, ◌≤◌, ◌^◌, true, false, List, length, Some, None, slice_get, remove, refl}
use Rattle.std.specs.Coded.{Coded, code_by, coded×, coded_ℕ, coded_list}
use Rattle.flow_base.specs.declared.command.Command.{Command}
use Rattle.flow_base.specs.declared.submission.Receipt.{Receipt}
use Rattle.flow_hub.specs.declared.denied.Denied.{Denied}
use Rattle.flow_hub.specs.declared.denied.Denied.TheVariants as denied
use Rattle.flow_hub.specs.declared.known.HubFacts.{HubFacts}
use Rattle.flow_queues.specs.declared.refused.Refused.{Refused}
use Rattle.flow_hub.specs.declared.settled.Settled.{Settled}
use Rattle.flow_hub.specs.declared.ticket.NotDoneFacts.{NotDoneFacts}
use Rattle.flow_hub.specs.declared.ticket.TicketFacts.{TicketFacts}
use Rattle.flow_hub.specs.declared.ticket.Why.{Why}
use Rattle.flow_hub.specs.declared.ticket.Why.TheVariants as why
use Rattle.flow_hub.specs.Asks.{IsAsked, IsOwn, IsTold, Stands}
use Rattle.flow_hub.specs.Knowing.{IsHistory, known_code}

-- The value of a submitter: its number, what it has seen of the hub, its share of the tickets given (of how many submitters, itself and
-- those that it has gathered, and how many tickets), and those of its own tickets whose answer it hasn't fetched.
pub record Member : Type 0 where
  pub id : ℕ
  pub was : HubFacts
  pub parts : ℕ
  pub amount : ℕ
  pub unfetched : List ℕ

abbrev pub member_code : Coded Member
member_code =
    code_by (ℕ × (HubFacts × (ℕ × (ℕ × List ℕ)))) (coded× coded_ℕ (coded× known_code (coded× coded_ℕ (coded× coded_ℕ (coded_list coded_ℕ)))))
    (λ m. (m.id, (m.was, (m.parts, (m.amount, m.unfetched)))))
    (λ p. record { id = p.0; was = p.1.0; parts = p.1.1.0; amount = p.1.1.1.0; unfetched = p.1.1.1.1 }) (λ _. refl)

-- as many answers were not fetched as there is room for, or as many tickets were given
abbrev pub IsFull : HubFacts → Type 0
IsFull k = (k.fetched + 1024 ≤ length k.asked) ⊎ (2 ^ 62 ≤ length k.asked)

-- it takes one more submission in
pub record IsOpen (k : HubFacts) : Type 0 where
  pub goes_on : k.closed ≡ false
  pub room : length k.asked < k.fetched + 1024
  pub tickets : length k.asked < 2 ^ 62

-- it has just taken one more in: it isn't closed, and there was room for that one
pub record HasTakenIn (k : HubFacts) : Type 0 where
  pub goes_on : k.closed ≡ false
  pub room : length k.asked ≤ k.fetched + 1024
  pub tickets : length k.asked ≤ 2 ^ 62

-- why a command isn't taken in; closing is asked first
abbrev pub IsDenied : HubFacts → Denied → Type 0
IsDenied k denied.HubClosed = k.closed ≡ true
IsDenied k denied.InboxFull = (k.closed ≡ false) × IsFull k

-- The ticket is this submitter's own, and names what it submitted.
pub record IsTicket (old new : Member) (command : Command) (t : TicketFacts) : Type 0 where
  pub owner : t.owner ≡ old.id
  pub asked : slice_get new.was.asked t.number ≡ Some (record { ticket = t.number; command = command })
  pub rises : length old.was.asked ≤ t.number
  pub last : length new.was.asked ≡ t.number + 1
  pub share : new.amount ≡ old.amount + 1

-- The one is one of these no more, and all others are as before.
pub record IsFetched (old new : List ℕ) (ticket : ℕ) : Type 0 where
  pub at : ℕ
  pub is : slice_get old at ≡ Some ticket
  pub rest : new ≡ remove old at

-- The receipt is the ticket's, repeats what was submitted at it, and stands at its place in the one history.
pub record IsReceipt (m : Member) (ticket : TicketFacts) (r : Receipt) : Type 0 where
  pub mine : ticket.owner ≡ m.id
  pub number : r.ticket ≡ ticket.number
  pub own : IsOwn m.was.asked r
  pub stands : Stands m.was.history r
  pub legal : IsHistory m.was

-- Another submitter's ticket comes back; or the submitter's own was answered by this code, and its command comes back.
abbrev pub IsFor : Member → TicketFacts → NotDoneFacts → Why → Type 0
IsFor m ticket n why.NotMine = (ticket.owner ≢ m.id) × (n.command ≡ None)
IsFor m ticket n (why.Refused code) =
    (ticket.owner ≡ m.id) × ((r : Refused) × (r.code ≡ code) × (r.asked.ticket ≡ ticket.number) × (n.command ≡ Some r.asked.command) × IsAsked m.was.asked r.asked × IsTold m.was.refused r)

abbrev pub IsNotDone : Member → TicketFacts → NotDoneFacts → Type 0
IsNotDone m ticket n = (n.ticket ≡ ticket) × IsFor m ticket n n.code

-- Of the tickets given so many are answered by a receipt, answered by a code, taken and waiting.
pub record IsSettled (k : HubFacts) (s : Settled) : Type 0 where
  pub split : s.given ≡ s.by_receipt + s.by_code + s.taken + s.waiting
  pub given : s.given ≡ length k.asked
  pub by_receipt : s.by_receipt ≡ length k.history
  pub by_code : s.by_code ≡ length k.refused
  pub taken : s.taken ≡ length k.held
