-- What is told of the lines that wait.
use Rattle.std.specs.Prelude.{◌≡◌, List, [], ◌∷◌, ◌++◌, Bool, true, Option, Some, None, is_some}
use Rattle.flow_lines.specs.declared.reply.Line.{Line}
use Rattle.flow_hub.specs.Knowing.{IsBefore}
use Rattle.flow_hub.specs.Submitting.{Member}
use Rattle.flow_work.specs.Endings.{IsToldOf}
use Rattle.flow_work.specs.Printing.{Printed, PrintsLine}
use Rattle.flow_work.specs.declared.queue.Pending.{Pending}
use Rattle.flow_work.specs.declared.queue.Pending.TheVariants as pending

-- what a line is answered: by its ticket, or as it was known when the line was read
abbrev pub IsAnswer : Member → Pending → Option Line → Type 0
IsAnswer m (pending.Submitted ticket) told = IsToldOf m ticket told
IsAnswer m (pending.Known known) told = told ≡ Some known

-- Of the lines that waited the oldest is answered, and the others wait on; it goes on where there is an answer. Where none waited
-- there is nothing to tell.
abbrev pub AnswersFirst : Member → (was now : List Pending) → Option Line → Bool → Type 0
AnswersFirst m [] now told goes_on = (now ≡ []) × (told ≡ None) × (goes_on ≡ true)
AnswersFirst m (p ∷ ps) now told goes_on = (now ≡ ps) × IsAnswer m p told × (goes_on ≡ is_some told)

-- the answer is printed, if there is one
abbrev pub PrintsAnswer : Option Line → Printed → Printed → Type 0
PrintsAnswer (Some line) old new = PrintsLine line old new
PrintsAnswer None old new = new ≡ old

-- A line is answered by what was seen then, a beginning of what is seen now, and the answer is printed.
pub record Tells (m : Member) (p : Pending) (old new : Printed) : Type 0 where
  pub seen : Member
  pub line : Line
  pub same : seen.id ≡ m.id
  pub before : IsBefore seen.was m.was
  pub answer : IsAnswer seen p (Some line)
  pub printed : PrintsLine line old new

-- these lines are, one after the other, and nothing else is printed
abbrev pub TellsAll : Member → List Pending → Printed → Printed → Type 0
TellsAll m [] old new = new ≡ old
TellsAll m (p ∷ ps) old new = (mid : Printed) × Tells m p old mid × TellsAll m ps mid new

-- Of the lines that waited the oldest were told of, and these wait on. Where it doesn't go on the next ones may have no answer.
pub record HasTold (m : Member) (goes_on : Bool) (was now : List Pending) (old new : Printed) : Type 0 where
  pub told : List Pending
  pub silent : List Pending
  pub rest : told ++ (silent ++ now) ≡ was
  pub all : goes_on ≡ true → silent ≡ []
  pub printed : TellsAll m told old new
