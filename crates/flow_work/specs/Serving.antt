-- What a running engine has printed whose activities are outside.
use Rattle.std.specs.Prelude.{◌≡◌, ◌⊎◌, ◌++◌, ℕ, List, [], ◌∷◌, Bool, Option, Some}
use mathlib.Core.List.{IsPrefix}
use Rattle.sqlite_trees.specs.declared.store.Store.{Ghosts}
use Rattle.flow_base.specs.declared.command.Command.{Command}
use Rattle.flow_lines.specs.Commands.{line_command}
use Rattle.flow_lines.specs.declared.reply.Line.{Line}
use Rattle.flow_lines.specs.declared.reply.Line.TheVariants as line
use Rattle.flow_base.specs.declared.submission.Receipt.{Receipt}
use Rattle.flow_base.specs.declared.submission.Taken.{Taken}
use Rattle.flow_base.specs.declared.task.Task.{Task}
use Rattle.flow_commit.specs.Keeping.{Keeping}
use Rattle.flow_queues.specs.Posting.{IsOnce}
use Rattle.flow_queues.specs.declared.refused.Refused.{Refused}
use Rattle.flow_hub.specs.Asks.{IsTold, Stands}
use Rattle.flow_hub.specs.declared.known.HubFacts.{HubFacts}
use Rattle.flow_hub.specs.declared.ticket.Why.TheVariants as why
use Rattle.flow_serve.specs.Posting.{Posts}
use Rattle.flow_serve.specs.Serving.{HasServed}
use Rattle.flow_work.specs.Counting.{AreShown, Holds, IsStatusOf, replies_in, tasks_in}
use Rattle.flow_work.specs.Endings.{line_instead}
use Rattle.flow_work.specs.Moments.{command_at}
use Rattle.flow_work.specs.Questions.{line_served}
use Rattle.flow_work.specs.Reading.{IsKnown}
use Rattle.flow_work.specs.declared.shown.Shown.{Shown}

-- The line is read as a command, which was kept with a moment that the clock told, and is told its reply.
pub record IsReply (reads : List ℕ → Option Command) (tells : ℕ → Type 0) (log : List Receipt) (bytes : List ℕ) (printed : Line) : Type 0 where
  pub receipt : Receipt
  pub command : Command
  pub at : ℕ
  pub clock : tells at
  pub is : reads bytes ≡ Some command
  pub kept : receipt.command ≡ command_at command at
  pub stands : Stands log receipt
  pub told : printed ≡ line.Of receipt.reply

-- The line is read as a command, which was answered by a code with such a moment, and is told as not applied.
pub record IsUnapplied (reads : List ℕ → Option Command) (tells : ℕ → Type 0) (refused : List Refused) (bytes : List ℕ) (printed : Line) : Type 0 where
  pub answer : Refused
  pub command : Command
  pub at : ℕ
  pub clock : tells at
  pub is : reads bytes ≡ Some command
  pub asked : answer.asked.command ≡ command_at command at
  pub stands : IsTold refused answer
  pub told : Some printed ≡ line_instead (why.Refused answer.code)

-- What a line is told, by what was kept and what was answered by a code; or it is no command, or memory ran out before it was asked for.
abbrev pub IsTelling : (List ℕ → Option Command) → (ℕ → Type 0) → List Receipt → List Refused → List ℕ → Line → Type 0
IsTelling reads tells log refused bytes told = IsReply reads tells log bytes told ⊎ (IsUnapplied reads tells refused bytes told ⊎ IsKnown reads bytes told)

-- these were told to the first of the lines, one to each, in their order
abbrev pub AreTold : (List ℕ → Option Command) → (ℕ → Type 0) → List Receipt → List Refused → List Line → List (List ℕ) → Type 0
AreTold reads tells log refused [] lines = Unit {0}
AreTold reads tells log refused (x ∷ xs) [] = ⊥
AreTold reads tells log refused (x ∷ xs) (l ∷ ls) = IsTelling reads tells log refused l x × AreTold reads tells log refused xs ls

-- An engine has served a hub since both were made: all that is kept is in the history, and what else was answered by a code; and what is
-- posted is what boards of the kept book named.
pub record ServedBy {S : Type 0} (g : Ghosts S) (tells : ℕ → Type 0) (old now : Keeping S) (hub : HubFacts) : Type 0 where
  pub log : now.log ≡ hub.history
  pub waiting : List Taken
  pub served : HasServed g old now [] hub.refused waiting
  pub posts : Posts g tells now [] hub.posted

-- What was printed since the writer held `first`: whole lines, and once a write had failed perhaps a beginning of one more. They are replies
-- to the lines that were taken in, and tasks: those that the hub gave out, the first of those that were posted, none twice. What is posted is
-- what boards of the kept book named.
pub record Shows {S : Type 0} (g : Ghosts S) (tells : ℕ → Type 0) (old now : Keeping S) (first last : Option (List ℕ)) (is_mute : Bool) (lines : List (List ℕ)) (shown : List Shown) : Type 0 where
  pub bytes : Holds first is_mute last shown
  pub refused : List Refused
  pub waiting : List Taken
  pub served : HasServed g old now [] refused waiting
  pub told : AreTold line_served tells now.log refused (replies_in shown) lines
  pub given : List Task
  pub posted : List Task
  pub posts : Posts g tells now [] posted
  pub first_given : IsPrefix given posted
  pub once : IsOnce given
  pub tasks : AreShown is_mute given shown

-- What was printed of an engine whose activities are its own, since the writer held `first`: whole lines, and once a write had failed perhaps
-- a beginning of one more. They are replies to lines that were taken in, in their order, by what was kept and what was answered by a code. The
-- status is theirs.
pub record PrintsReplies {S : Type 0} (g : Ghosts S) (tells : ℕ → Type 0) (old now : Keeping S) (first last : Option (List ℕ)) (status : ℕ) : Type 0 where
  pub is_mute : Bool
  pub shown : List Shown
  pub bytes : Holds first is_mute last shown
  pub are : IsStatusOf is_mute shown status
  pub none : tasks_in shown ≡ []
  pub lines : List (List ℕ)
  pub refused : List Refused
  pub waiting : List Taken
  pub served : HasServed g old now [] refused waiting
  pub told : AreTold line_command tells now.log refused (replies_in shown) lines
