-- What is put into the channel of tasks, and what is taken of it: in which order, and by whom.
use Rattle.std.specs.Prelude.{ℕ, ◌≡◌, ◌==◌, ◌≤◌, ◌<◌, true, false, List, [], ◌∷◌, ◌++◌, map, if◌then◌else◌}
use mathlib.Core.Option.{Option, some, none}
use lib.ListN.{get_elem?}
use Rattle.flow_base.specs.declared.task.Task.{Task}
use Rattle.flow_pool.specs.declared.hand.Hand.{Hand}
use Rattle.flow_pool.specs.declared.hand.Back.{Back}

-- the dispatcher has put these, has made so many workers, and has taken back what some of them knew
abbrev pub feeding : List Task → ℕ → List Back → Hand
feeding put made back = record { sends = true; put = put; made = made; back = back; works = false; worker = 0; got = [] }

-- the worker of this number has taken these
abbrev pub working : ℕ → List Task → Hand
working worker got = record { sends = false; put = []; made = 0; back = []; works = true; worker = worker; got = got }

-- an end that is gone
abbrev pub gone : Hand
gone = record { sends = false; put = []; made = 0; back = []; works = false; worker = 0; got = [] }

-- what a worker had taken when it came back
abbrev pub back_of : ℕ → List Task → Back
back_of worker got = record { worker = worker; got = got }

-- who took which task, in order of taking
abbrev pub Takings : Type 0
Takings = List (ℕ × Task)

abbrev pub tasks_of : Takings → List Task
tasks_of log = map (λ e. e.1) log

-- what a worker took
abbrev pub took_by : ℕ → Takings → List Task
took_by n [] = []
took_by n (e ∷ es) = if e.0 == n then e.1 ∷ took_by n es else took_by n es

-- each task was taken by one of the first workers
abbrev pub AreBelow : ℕ → Takings → Type 0
AreBelow made [] = Unit {0}
AreBelow made (e ∷ es) = (e.0 < made) × AreBelow made es

-- what came back is what these workers took
abbrev pub AreTheirs : Takings → List Back → Type 0
AreTheirs log [] = Unit {0}
AreTheirs log (b ∷ bs) = (took_by b.worker log ≡ b.got) × AreTheirs log bs

-- What was taken, in order of taking, is a beginning of what was put, and the rest is there still. Each task of it was taken
-- by one worker, and what came back of a worker is all that it took
abbrev pub Delivers : List Task → ℕ → List Back → Type 0
Delivers put made back = (log : Takings) × (rest : List Task) × (tasks_of log ++ rest ≡ put) × AreBelow made log × AreTheirs log back

-- one pass at most is the dispatcher's, and it knows what was put
abbrev pub FitsFeed : ℕ → List Task → ℕ → List Back → ℕ → Hand → Type 0
FitsFeed feed put made back p v = v.sends ≡ true → (p ≡ feed) × (v.put ≡ put) × (v.made ≡ made) × (v.back ≡ back)

-- a worker has one pass, which knows what it took
abbrev pub FitsWorker : (ℕ → Option ℕ) → Takings → ℕ → Hand → Type 0
FitsWorker seat log p v = v.works ≡ true → (seat v.worker ≡ some p) × (v.got ≡ took_by v.worker log)

-- a worker that came back has no pass
abbrev pub AreHome : (ℕ → Option ℕ) → ℕ → List Back → Type 0
AreHome seat made [] = Unit {0}
AreHome seat made (b ∷ bs) = (seat b.worker ≡ none) × (b.worker < made) × AreHome seat made bs

-- The rule of the channel, over what it holds, oldest first, and over what each pass knows
pub record InOrder (items : List Task) (views : List Hand) (feed : ℕ) (put : List Task) (made : ℕ) (back : List Back) (log : Takings) (seat : ℕ → Option ℕ) : Type 0 where
  pub flow : tasks_of log ++ items ≡ put
  pub below : AreBelow made log
  pub theirs : AreTheirs log back
  pub home : AreHome seat made back
  pub later : (n : ℕ) → made ≤ n → seat n ≡ none
  pub feeds : (p : ℕ) (v : Hand) → get_elem? views p ≡ some v → FitsFeed feed put made back p v
  pub works : (p : ℕ) (v : Hand) → get_elem? views p ≡ some v → FitsWorker seat log p v

abbrev pub IsInOrder : List Task → List Hand → Type 0
IsInOrder items views =
    (feed : ℕ) × (put : List Task) × (made : ℕ) × (back : List Back) × (log : Takings) × (seat : (ℕ → Option ℕ)) × InOrder items views feed put made back log seat

-- The rule, and what is told where the channel holds nothing
abbrev pub Keeps : Type 0 → List Task → List Hand → Type 0
Keeps told items views = IsInOrder items views × told

-- The channel held these, and one of its passes knew this
abbrev pub IsSeen : Type 0 → Hand → List Task → Type 0
IsSeen told v items = (views : List Hand) × (p : ℕ) × Keeps told items views × (get_elem? views p ≡ some v)

-- It held nothing, so that all that had been put was taken, and it was asked then
abbrev pub WasEmpty : Type 0 → Hand → Type 0
WasEmpty told v = IsSeen told v []
