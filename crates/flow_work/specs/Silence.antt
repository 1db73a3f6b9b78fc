-- Why nothing is answered any more.
use Rattle.std.specs.Prelude.{◌≡◌, ◌⊎◌, ◌<◌, ◌≤◌, ℕ, List, [], ◌∷◌, ◌++◌, true, length, Option, None}
use Rattle.flow_base.specs.declared.command.Command.{Command}
use Rattle.flow_hub.specs.declared.fed.Fed.{Fed}
use Rattle.flow_hub.specs.declared.known.HubFacts.{HubFacts}
use Rattle.flow_hub.specs.Feeding.{HasFed}
use Rattle.flow_hub.specs.Knowing.{IsBefore}
use Rattle.flow_hub.specs.Submitting.{Member}
use Rattle.flow_work.specs.Reading.{IsPendingOf}
use Rattle.flow_work.specs.Telling.{IsAnswer}
use Rattle.flow_work.specs.declared.input.InputMessage.{InputMessage}
use Rattle.flow_work.specs.declared.input.InputMessage.TheVariants as input
use Rattle.flow_work.specs.declared.queue.Pending.{Pending}

-- One of these lines that waited has no answer, by what was seen then, a beginning of what is seen now.
pub record IsUnanswered (m : Member) (ps : List Pending) : Type 0 where
  pub front : List Pending
  pub line : Pending
  pub back : List Pending
  pub are : ps ≡ front ++ line ∷ back
  pub seen : Member
  pub same : seen.id ≡ m.id
  pub before : IsBefore seen.was m.was
  pub without : IsAnswer seen line None

-- The hub is closed, or one of them has none.
abbrev pub IsSilent : Member → List Pending → Type 0
IsSilent m ps = (m.was.closed ≡ true) ⊎ IsUnanswered m ps

-- A line was taken in that has no answer, by what was seen then, a beginning of what is seen now.
pub record HasNoAnswer (reads : List ℕ → Option Command) (tells : ℕ → Type 0) (m : Member) : Type 0 where
  pub bytes : List ℕ
  pub line : Pending
  pub waits : IsPendingOf reads tells m bytes line
  pub seen : Member
  pub same : seen.id ≡ m.id
  pub before : IsBefore seen.was m.was
  pub without : IsAnswer seen line None

-- Nothing is answered any more: the hub is closed, or such a line has no answer.
abbrev pub Quits : (List ℕ → Option Command) → (ℕ → Type 0) → Member → Type 0
Quits reads tells m = (m.was.closed ≡ true) ⊎ HasNoAnswer reads tells m

-- It is no line, and behind the end of the input, or where it can't be read, no line waits. Where it can't be read the status is 3.
abbrev pub IsOver : InputMessage → List Pending → ℕ → Type 0
IsOver (input.Line line) ps n = ⊥
IsOver input.Ended ps n = ps ≡ []
IsOver input.Failed ps n = (ps ≡ []) × (n ≡ 3)
IsOver input.Stopped ps n = Unit {0}

-- Why no line is taken in any more: what was given last is none, and no line waits behind the end; or nothing is answered any more.
abbrev pub EndsTaking : (List ℕ → Option Command) → (ℕ → Type 0) → Member → List Pending → ℕ → List InputMessage → Type 0
EndsTaking reads tells m ps n given =
    ((before : List InputMessage) × (last : InputMessage) × (given ≡ before ++ last ∷ []) × IsOver last ps n) ⊎ Quits reads tells m

-- It is no line; where the input can't be read the status is 3.
abbrev pub IsNoLine : InputMessage → ℕ → Type 0
IsNoLine (input.Line line) n = ⊥
IsNoLine input.Ended n = Unit {0}
IsNoLine input.Failed n = n ≡ 3
IsNoLine input.Stopped n = Unit {0}

-- What was given last is no line; or nothing is answered any more.
abbrev pub HasEnded : (List ℕ → Option Command) → (ℕ → Type 0) → Member → ℕ → List InputMessage → Type 0
HasEnded reads tells m n given = ((before : List InputMessage) × (last : InputMessage) × (given ≡ before ++ last ∷ []) × IsNoLine last n) ⊎ Quits reads tells m

-- The oldest of these lines waits no more.
abbrev pub IsFewer : (was now : List Pending) → Type 0
IsFewer [] now = now ≡ []
IsFewer (p ∷ ps) now = now ≡ ps

-- A line waited, and the oldest has its answer.
abbrev pub AnswersOldest : (was now : List Pending) → Type 0
AnswersOldest was now = (0 < length was) × IsFewer was now

-- So many lines wait that no more is taken in, or nothing is there to be read.
abbrev pub IsHeldUp : List Pending → Type 0 → Type 0
IsHeldUp ps lacks = (64 ≤ length ps) ⊎ lacks

-- What was given next is dealt with; or nothing was given, and that was done.
abbrev pub IsStep : (was now : List InputMessage) → Type 0 → Type 0
IsStep was now does = ((x : InputMessage) × (now ≡ was ++ x ∷ [])) ⊎ ((now ≡ was) × does)

-- ---- where tasks are printed too

-- It was asked what is given out next.
abbrev pub Listens : (old new : HubFacts) → Type 0
Listens old new = (f : Fed) × HasFed old new f

-- All tasks that were posted are given out, and a board was posted or left out since all that was taken was answered; or the hub is closed.
abbrev pub HasAll : HubFacts → Type 0
HasAll feed = ((feed.given ≡ feed.posted) × (feed.boarded ≡ true)) ⊎ (feed.closed ≡ true)

-- As `IsOver`, and behind the end of the input all tasks are given out too.
abbrev pub IsServed : InputMessage → List Pending → HubFacts → ℕ → Type 0
IsServed (input.Line line) ps feed n = ⊥
IsServed input.Ended ps feed n = (ps ≡ []) × HasAll feed
IsServed input.Failed ps feed n = (ps ≡ []) × HasAll feed × (n ≡ 3)
IsServed input.Stopped ps feed n = Unit {0}

-- Nothing is answered any more, or no task is given out any more, since the hub is closed.
abbrev pub IsShut : (List ℕ → Option Command) → (ℕ → Type 0) → Member → HubFacts → Type 0
IsShut reads tells m feed = Quits reads tells m ⊎ (feed.closed ≡ true)

-- Why no line is taken in any more: what was given last is none, and behind the end all is printed; or nothing is to be printed any more.
abbrev pub EndsServed : (List ℕ → Option Command) → (ℕ → Type 0) → Member → List Pending → HubFacts → ℕ → List InputMessage → Type 0
EndsServed reads tells m ps feed n given =
    ((before : List InputMessage) × (last : InputMessage) × (given ≡ before ++ last ∷ []) × IsServed last ps feed n) ⊎ IsShut reads tells m feed

-- As `IsNoLine`, and behind the end of the input all tasks are given out too.
abbrev pub IsLast : InputMessage → HubFacts → ℕ → Type 0
IsLast (input.Line line) feed n = ⊥
IsLast input.Ended feed n = HasAll feed
IsLast input.Failed feed n = HasAll feed × (n ≡ 3)
IsLast input.Stopped feed n = Unit {0}

-- What was given last is no line; or nothing is to be printed any more.
abbrev pub HasShut : (List ℕ → Option Command) → (ℕ → Type 0) → Member → HubFacts → ℕ → List InputMessage → Type 0
HasShut reads tells m feed n given = ((before : List InputMessage) × (last : InputMessage) × (given ≡ before ++ last ∷ []) × IsLast last feed n) ⊎ IsShut reads tells m feed
