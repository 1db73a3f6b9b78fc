-- What comes of a command that is submitted and waited for.
use Rattle.std.proofs.Common.{◌≡◌, refl, ap, sym, ◌∙◌, subst, Option, Some, slice_get}
use Rattle.flow_base.specs.declared.command.Command.{Command}
use Rattle.flow_base.specs.declared.submission.Receipt.{Receipt}
use Rattle.flow_base.specs.declared.submission.Taken.{Taken}
use Rattle.flow_hub.specs.declared.ticket.NotDoneFacts.{NotDoneFacts}
use Rattle.flow_hub.specs.declared.ticket.TicketFacts.{TicketFacts}
use Rattle.flow_hub.specs.declared.ticket.Why.{Why}
use Rattle.flow_hub.specs.declared.ticket.Why.TheVariants as why
use Rattle.flow_hub.specs.Knowing.{IsBefore}
use Rattle.flow_hub.specs.Submitting.{Member, IsTicket, IsReceipt, IsFor, IsNotDone}
use Rattle.flow_hub.proofs.Lists.{get_front}
use Rattle.flow_work.specs.Endings.{unheard_why}
use Rattle.flow_work.specs.Hearing.{HasReply, HasCode}

-- two submissions at one place have one command
same_command : (o : Option Taken) (x y : Taken) → o ≡ Some x → o ≡ Some y → x.command ≡ y.command
same_command o x y p q = let same : x ≡ y = cc (p, q) in ap (λ (t : Taken). t.command) same

-- what was submitted at a ticket stands there still
still_asked : (old mid new : Member) (c : Command) (t : TicketFacts) → IsTicket old mid c t → IsBefore mid.was new.was → slice_get new.was.asked t.number ≡ Some (record { ticket = t.number; command = c })
still_asked old mid new c t given later =
    let x : Taken = record { ticket = t.number; command = c } in
    subst (λ l. slice_get l t.number ≡ Some x) later.asked.1 (get_front mid.was.asked later.asked.0 t.number x given.asked)

pub has_reply : (old mid new : Member) (c : Command) (t : TicketFacts) (r : Receipt) → IsTicket old mid c t → IsBefore mid.was new.was → IsReceipt new t r → HasReply old new c r.reply
has_reply old mid new c t r given later is =
    let there = still_asked old mid new c t given later in
    let own : slice_get new.was.asked t.number ≡ Some (record { ticket = r.ticket; command = r.command }) = subst (λ n. slice_get new.was.asked n ≡ Some (record { ticket = r.ticket; command = r.command })) is.number is.own in
    record {
      ticket = t;
      receipt = r;
      meanwhile = given.rises;
      is = is;
      command = sym (same_command (slice_get new.was.asked t.number) (record { ticket = t.number; command = c }) (record { ticket = r.ticket; command = r.command }) there own);
      told = refl;
    }

by_code : (old mid new : Member) (c b : Command) (t : TicketFacts) (n : NotDoneFacts) (w : Why) → IsTicket old mid c t → new.id ≡ old.id → IsBefore mid.was new.was → n.command ≡ Some b → IsFor new t n w → b ≡ c
by_code old mid new c b t n why.NotMine given same later back is = absurd (is.0 (given.owner ∙ sym same))
by_code old mid new c b t n (why.Refused code) given same later back is =
    let r = is.1.0 in
    let there = still_asked old mid new c t given later in
    let own : slice_get new.was.asked t.number ≡ Some r.asked = subst (λ k. slice_get new.was.asked k ≡ Some r.asked) is.1.2 is.1.4 in
    let named : Some b ≡ Some r.asked.command = sym back ∙ is.1.3 in
    let same : b ≡ r.asked.command = cc named in
    same ∙ sym (same_command (slice_get new.was.asked t.number) (record { ticket = t.number; command = c }) r.asked there own)

-- the command that comes back is the one that was submitted
pub comes_back : (old mid new : Member) (c b : Command) (t : TicketFacts) (n : NotDoneFacts) → IsTicket old mid c t → new.id ≡ old.id → IsBefore mid.was new.was → n.command ≡ Some b → IsNotDone new t n → b ≡ c
comes_back old mid new c b t n given same later back is = by_code old mid new c b t n n.code given same later back is.1

pub has_code : (old mid new : Member) (c b : Command) (t : TicketFacts) (n : NotDoneFacts) → IsTicket old mid c t → new.id ≡ old.id → IsBefore mid.was new.was → n.command ≡ Some b → IsNotDone new t n → HasCode old new c (unheard_why n.code)
has_code old mid new c b t n given same later back is = record {
  ticket = t;
  instead = n;
  meanwhile = given.rises;
  is = is;
  command = back ∙ ap Some (comes_back old mid new c b t n given same later back is);
  told = refl;
}
