-- What the threads owe that answer lines.
use Rattle.std.specs.Prelude.{◌≡◌, ℕ, List, [], Option}
use Rattle.flow_lines.specs.Commands.{line_command}
use Rattle.flow_hub.specs.declared.known.HubFacts.{HubFacts}
use Rattle.flow_hub.specs.Knowing.{nothing}
use Rattle.flow_hub.specs.Submitting.{Member}
use Rattle.flow_work.specs.Counting.{Owes}
use Rattle.flow_work.specs.Inputs.{lines_in}
use Rattle.flow_work.specs.Printing.{Printed, blank}
use Rattle.flow_work.specs.Questions.{line_served}
use Rattle.flow_work.specs.Resting.{HasRested}
use Rattle.flow_work.specs.Silence.{HasEnded, HasShut}
use Rattle.flow_work.specs.declared.input.InputMessage.{InputMessage}
use Rattle.flow_work.specs.declared.queue.Pending.{Pending}

-- What it has printed, why it ended, and that it took in the lines of all that it was given; and at its end no run is open, or the hub is
-- closed.
pub record OwesReplies (tells : ℕ → Type 0) (page : Printed) (pending : List Pending) (was given : List InputMessage) (m : Member) (lines : List (List ℕ)) (now : Printed) : Type 0 where
  pub owes : Owes line_command tells page pending nothing nothing m lines now
  pub ended : (first : Option (List ℕ)) → page ≡ blank first → pending ≡ [] → HasEnded line_command tells m now.status given
  pub took : was ≡ [] → lines ≡ lines_in given
  pub rested : HasRested m.was

-- The same of one who prints tasks too, and ends where the input does.
pub record OwesLines (tells : ℕ → Type 0) (page : Printed) (pending : List Pending) (fed : HubFacts) (was given : List InputMessage) (feed : HubFacts) (m : Member) (lines : List (List ℕ)) (now : Printed) : Type 0 where
  pub owes : Owes line_served tells page pending fed feed m lines now
  pub ended : (first : Option (List ℕ)) → page ≡ blank first → pending ≡ [] → fed ≡ nothing → HasShut line_served tells m feed now.status given
  pub took : was ≡ [] → lines ≡ lines_in given
