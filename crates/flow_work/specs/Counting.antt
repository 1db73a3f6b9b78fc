-- What is printed of lines and tasks, by what their submitter and who gave the tasks out have seen.
use Rattle.std.specs.Prelude.{◌≡◌, ◌⊎◌, ℕ, List, [], ◌∷◌, ◌++◌, Bool, true, false, Option, Some}
use Rattle.std.specs.Io.KnownBytes.{Appends}
use mathlib.Core.List.{IsPrefix}
use Rattle.flow_base.specs.declared.command.Command.{Command}
use Rattle.flow_lines.specs.Driving.{final_status}
use Rattle.flow_lines.specs.declared.reply.Line.{Line}
use Rattle.flow_base.specs.declared.task.Task.{Task}
use Rattle.flow_hub.specs.declared.fed.Fed.{Fed}
use Rattle.flow_hub.specs.declared.fed.Fed.TheVariants as fed
use Rattle.flow_hub.specs.declared.known.HubFacts.{HubFacts}
use Rattle.flow_hub.specs.Knowing.{IsBefore, nothing}
use Rattle.flow_hub.specs.Submitting.{Member}
use Rattle.flow_queues.specs.Posting.{IsOnce}
use Rattle.flow_work.specs.Printing.{Printed, PrintsTask, blank, shown_line}
use Rattle.flow_work.specs.Reading.{IsPendingOf}
use Rattle.flow_work.specs.Telling.{IsAnswer}
use Rattle.flow_work.specs.declared.queue.Pending.{Pending}
use Rattle.flow_work.specs.declared.shown.Shown.{Shown}
use Rattle.flow_work.specs.declared.shown.Shown.TheVariants as shown

-- ---- the bytes

-- each on a line of its own
abbrev pub shown_bytes : List Shown → List ℕ
shown_bytes [] = []
shown_bytes (x ∷ xs) = shown_line x ++ shown_bytes xs

abbrev pub tasks_in : List Shown → List Task
tasks_in [] = []
tasks_in (shown.Task t ∷ xs) = t ∷ tasks_in xs
tasks_in (shown.Reply l ∷ xs) = tasks_in xs

abbrev pub replies_in : List Shown → List Line
replies_in [] = []
replies_in (shown.Task t ∷ xs) = replies_in xs
replies_in (shown.Reply l ∷ xs) = l ∷ replies_in xs

-- The writer holds these lines behind what it held first; and once a write has failed, perhaps a beginning of one more.
abbrev pub Holds : Option (List ℕ) → Bool → Option (List ℕ) → List Shown → Type 0
Holds first false now xs = Appends first now (shown_bytes xs)
Holds first true now xs = (x : Shown) × (front : List ℕ) × (back : List ℕ) × (front ++ back ≡ shown_line x) × Appends first now (shown_bytes xs ++ front)

-- All tasks that were given are printed; once a write has failed, a beginning of them.
abbrev pub AreShown : Bool → List Task → List Shown → Type 0
AreShown false given xs = tasks_in xs ≡ given
AreShown true given xs = (rest : List Task) × (tasks_in xs ++ rest ≡ given)

-- ---- the lines that were read

-- The line is answered by this, by what was seen then, a beginning of what is seen now.
pub record Answered (reads : List ℕ → Option Command) (tells : ℕ → Type 0) (m : Member) (bytes : List ℕ) (told : Line) : Type 0 where
  pub pending : Pending
  pub seen : Member
  pub waits : IsPendingOf reads tells m bytes pending
  pub same : seen.id ≡ m.id
  pub before : IsBefore seen.was m.was
  pub answer : IsAnswer seen pending (Some told)

-- each of these lines is answered by the reply at its place
abbrev pub AreAnswered : (List ℕ → Option Command) → (ℕ → Type 0) → Member → List (List ℕ) → List Line → Type 0
AreAnswered reads tells m [] [] = Unit {0}
AreAnswered reads tells m [] (x ∷ xs) = ⊥
AreAnswered reads tells m (l ∷ ls) [] = ⊥
AreAnswered reads tells m (l ∷ ls) (x ∷ xs) = Answered reads tells m l x × AreAnswered reads tells m ls xs

-- for each of these lines this is waited for
abbrev pub AreWaiting : (List ℕ → Option Command) → (ℕ → Type 0) → Member → List (List ℕ) → List Pending → Type 0
AreWaiting reads tells m [] [] = Unit {0}
AreWaiting reads tells m [] (p ∷ ps) = ⊥
AreWaiting reads tells m (l ∷ ls) [] = ⊥
AreWaiting reads tells m (l ∷ ls) (p ∷ ps) = IsPendingOf reads tells m l p × AreWaiting reads tells m ls ps

-- ---- what was printed

-- The status is the greatest of these lines' replies; or 3, as where something couldn't be read. Once a write has failed it is 3.
abbrev pub IsStatusOf : Bool → List Shown → ℕ → Type 0
IsStatusOf false xs n = (n ≡ 3) ⊎ (n ≡ final_status (replies_in xs))
IsStatusOf true xs n = n ≡ 3

-- These lines are told of and these tasks were given out: what was printed since the writer held `first` is a reply for each line, in
-- their order, and the tasks, in theirs. Once a write has failed it is a beginning of that.
pub record Says (reads : List ℕ → Option Command) (tells : ℕ → Type 0) (first : Option (List ℕ)) (given : List Task) (m : Member) (lines : List (List ℕ)) (page : Printed) : Type 0 where
  pub bytes : Holds first page.is_mute page.bytes page.shown
  pub tasks : AreShown page.is_mute given page.shown
  pub said : List (List ℕ)
  pub silent : List (List ℕ)
  pub are : lines ≡ said ++ silent
  pub replies : AreAnswered reads tells m said (replies_in page.shown)
  pub all : page.is_mute ≡ false → silent ≡ []
  pub status : IsStatusOf page.is_mute page.shown page.status

-- The tasks that were given out are the first of those that were posted, and none of these was posted twice.
pub record IsFed (feed : HubFacts) : Type 0 where
  pub first : IsPrefix feed.given feed.posted
  pub once : IsOnce feed.posted

-- Of the lines that were taken in the first are told of, and for each of the others this is waited for.
pub record Counts (reads : List ℕ → Option Command) (tells : ℕ → Type 0) (first : Option (List ℕ)) (feed : HubFacts) (m : Member) (pending : List Pending) (lines : List (List ℕ)) (page : Printed) : Type 0 where
  pub done : List (List ℕ)
  pub waiting : List (List ℕ)
  pub are : lines ≡ done ++ waiting
  pub says : Says reads tells first feed.given m done page
  pub waits : AreWaiting reads tells m waiting pending
  pub fed : IsFed feed

-- Of the lines that were taken in the first are told of.
pub record Counted (reads : List ℕ → Option Command) (tells : ℕ → Type 0) (first : Option (List ℕ)) (feed : HubFacts) (m : Member) (lines : List (List ℕ)) (page : Printed) : Type 0 where
  pub done : List (List ℕ)
  pub rest : List (List ℕ)
  pub are : lines ≡ done ++ rest
  pub says : Says reads tells first feed.given m done page
  pub fed : IsFed feed

-- what came of it is printed, if it is a task
abbrev pub PrintsFed : Fed → Printed → Printed → Type 0
PrintsFed (fed.Task t) old new = PrintsTask t old new
PrintsFed fed.Nothing old new = new ≡ old
PrintsFed fed.Closed old new = new ≡ old

-- more may come
abbrev pub is_open : Fed → Bool
is_open (fed.Task t) = true
is_open fed.Nothing = true
is_open fed.Closed = false

abbrev pub is_task : Fed → Bool
is_task (fed.Task t) = true
is_task fed.Nothing = false
is_task fed.Closed = false

-- Where it goes on, for each line that isn't told of something is waited for; where it doesn't, some may be told of nothing.
abbrev pub Goes : (List ℕ → Option Command) → (ℕ → Type 0) → Option (List ℕ) → Bool → HubFacts → Member → List Pending → List (List ℕ) → Printed → Type 0
Goes reads tells first on feed m pending lines page = (on ≡ true → Counts reads tells first feed m pending lines page) × Counted reads tells first feed m lines page

-- What one who began with a blank page, no line and no task has done at its end.
pub record Owes (reads : List ℕ → Option Command) (tells : ℕ → Type 0) (page : Printed) (pending : List Pending) (given : HubFacts) (feed : HubFacts) (m : Member) (lines : List (List ℕ)) (now : Printed) : Type 0 where
  pub counted : (first : Option (List ℕ)) → page ≡ blank first → pending ≡ [] → given ≡ nothing → Counted reads tells first feed m lines now
