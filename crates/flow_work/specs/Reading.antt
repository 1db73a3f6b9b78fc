-- What becomes of a line that was read.
use Rattle.std.specs.Prelude.{◌≡◌, ◌⊎◌, ℕ, List, Option, Some, None, slice_get}
use Rattle.flow_base.specs.declared.code.Code.TheVariants as code
use Rattle.flow_base.specs.declared.command.Command.{Command}
use Rattle.flow_lines.specs.declared.reply.Line.{Line}
use Rattle.flow_lines.specs.declared.reply.Line.TheVariants as line
use Rattle.flow_hub.specs.declared.ticket.TicketFacts.{TicketFacts}
use Rattle.flow_hub.specs.Submitting.{Member}
use Rattle.flow_work.specs.Moments.{command_at}
use Rattle.flow_work.specs.declared.queue.Pending.{Pending}
use Rattle.flow_work.specs.declared.queue.Pending.TheVariants as pending

-- the ticket is this submitter's own, and this was submitted at it
abbrev pub IsOf : Member → Command → TicketFacts → Type 0
IsOf m c t = (t.owner ≡ m.id) × (slice_get m.was.asked t.number ≡ Some (record { ticket = t.number; command = c }))

-- the line is read as this command, which was submitted with a moment that the clock told
pub record IsSubmitted (reads : List ℕ → Option Command) (tells : ℕ → Type 0) (m : Member) (bytes : List ℕ) (t : TicketFacts) : Type 0 where
  pub command : Command
  pub at : ℕ
  pub told : tells at
  pub is : reads bytes ≡ Some command
  pub ticket : IsOf m (command_at command at) t

-- the line isn't read as one, and that is told; or memory ran out
abbrev pub IsKnown : (List ℕ → Option Command) → List ℕ → Line → Type 0
IsKnown reads bytes told = ((told ≡ line.Bad) × (reads bytes ≡ None)) ⊎ (told ≡ line.NotApplied code.NoMemory)

-- what is waited for behind a line
abbrev pub IsPendingOf : (List ℕ → Option Command) → (ℕ → Type 0) → Member → List ℕ → Pending → Type 0
IsPendingOf reads tells m bytes (pending.Submitted ticket) = IsSubmitted reads tells m bytes ticket
IsPendingOf reads tells m bytes (pending.Known told) = IsKnown reads bytes told
