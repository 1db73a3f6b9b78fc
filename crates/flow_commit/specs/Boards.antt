-- What a board names: the tasks that are ready and weren't posted, and what else whoever posts them needs to know.
use Rattle.std.specs.Prelude.{◌≡◌, ℕ, ◌+◌, ◌<◌, Bool, true, false, ◌&&◌, not, ◌++◌, List, [], ◌∷◌, filter, Option, Some, None, nat_eq, nat_lt, if◌then◌else◌, refl}
use Rattle.std.specs.Coded.{Coded, code_by, coded×, coded_ℕ, coded_list, coded_option}
use Rattle.std.specs.List.{list_any}
use Rattle.flow_base.specs.Syntax.{Bytes}
use Rattle.flow_base.specs.declared.book.Change.{Change}
use Rattle.flow_base.specs.declared.book.Change.TheVariants.{AddRun, AddText, AddTurn, SetAttempt, SetText}
use Rattle.flow_base.specs.declared.book.OpenActivity.{OpenActivity}
use Rattle.flow_base.specs.declared.event.Cmd.{Cmd}
use Rattle.flow_base.specs.declared.event.Cmd.TheVariants.{Schedule}
use Rattle.flow_base.specs.declared.event.Event.{Event}
use Rattle.flow_base.specs.declared.event.What.{What}
use Rattle.flow_base.specs.declared.event.What.TheVariants.{Came, Asked}
use Rattle.flow_base.specs.declared.fault.Fault.{Fault}
use Rattle.flow_base.specs.declared.fault.Fault.TheVariants as fault
use Rattle.flow_base.specs.declared.value.Value.{Value}
use Rattle.flow_model.specs.Book.{Book}
use Rattle.flow_maps.specs.Agenda.{open_runs, tasks_at}
use Rattle.flow_maps.specs.Outlooks.{Waiting, ready_by, soonest, waiting}
use Rattle.flow_rows.specs.Dues.{next_moment}
use Rattle.flow_view.specs.Heads.{event_at, head_at}
use Rattle.flow_view.specs.declared.head.Head.{Head}
use Rattle.flow_view.specs.declared.fault.ViewFault.{ViewFault}
use Rattle.flow_view.specs.declared.fault.ViewFault.TheVariants as view
use Rattle.flow_commit.specs.declared.waiting.Draft.{Draft}
use Rattle.flow_commit.specs.Over.{is_over}
use Rattle.flow_base.specs.Keys.{Key, key_code}
use Rattle.flow_base.specs.declared.task.Task.{Task}
use Rattle.flow_base.specs.contracts.task.Task as task_row

-- The tasks in order of run and event, the moment at which more is to be done, and how many runs are open; behind which commands it
-- was made, by their number, and for contracts alone what was posted then.
pub record Boarded : Type 0 where
  pub tasks : List Task
  pub due : Option ℕ
  pub open_runs : ℕ
  pub kept : ℕ
  pub posted : List Key

abbrev pub boarded_code : Coded Boarded
boarded_code =
    code_by (List Task × (Option ℕ × (ℕ × (ℕ × List Key)))) (coded× (coded_list task_row.the_row.coded) (coded× (coded_option coded_ℕ) (coded× coded_ℕ (coded× coded_ℕ (coded_list key_code)))))
    (λ b. (b.tasks, (b.due, (b.open_runs, (b.kept, b.posted)))))
    (λ p. record { tasks = p.0; due = p.1.0; open_runs = p.1.1.0; kept = p.1.1.1.0; posted = p.1.1.1.1 }) (λ _. refl)

---- What a book gives out to be done

abbrev pub is_key : Key → Key → Bool
is_key q p = nat_eq q.0 p.0 && nat_eq q.1 p.1 && nat_eq q.2 p.2

abbrev pub is_posted : List Key → Key → Bool
is_posted posted q = list_any (is_key q) posted

-- the attempt wasn't posted
abbrev pub is_new : List Key → Waiting → Bool
is_new posted w = not (is_posted posted (w.0, w.1.event, w.1.attempt))

-- an activity's name and its arguments
abbrev pub Call : Type 0
Call = Bytes × List Value

-- what a command of a program calls, if it is a call
abbrev pub called_of : Cmd → Option Call
called_of (Schedule a vs tries every k) = Some (a, vs)
called_of _ = None

abbrev pub called_in : What → Option Call
called_in (Came i) = None
called_in (Asked c) = called_of c

abbrev pub called_by : Option Event → Option Call
called_by None = None
called_by (Some e) = called_in e.what

-- what the event of a run calls
abbrev pub call_at : Book → ℕ → ℕ → Option Call
call_at b run event = called_by (event_at b.runs run event)

abbrev pub flow_in : Option Head → Option Bytes
flow_in None = None
flow_in (Some h) = Some h.flow

-- the flow of a run
abbrev pub flow_at : Book → ℕ → Option Bytes
flow_at b run = flow_in (head_at b.runs run)

abbrev pub task_with : Waiting → Option Bytes → Option Call → List Task
task_with w None c = []
task_with w (Some f) None = []
task_with w (Some f) (Some c) = record { flow = f; run = w.0; event = w.1.event; attempt = w.1.attempt; activity = c.0; args = c.1 } ∷ []

-- the task of an open activity, with the flow of its run and what its event calls
abbrev pub task_at : Book → Waiting → List Task
task_at b w = task_with w (flow_at b w.0) (call_at b w.0 w.1.event)

-- the tasks of open activities: in a sound book each of their events calls something
abbrev pub tasks_of : Book → List Waiting → List Task
tasks_of b [] = []
tasks_of b (w ∷ ws) = task_at b w ++ tasks_of b ws

-- The tasks that are ready by a moment and weren't posted.
abbrev pub ready_tasks : List Key → ℕ → Book → List Task
ready_tasks posted at b = tasks_of b (filter (is_new posted) (ready_by at b))

---- From which moment on the next board has to look

-- the sooner of a moment and of the one from which on an attempt may be made
abbrev pub since_one : ℕ → Waiting → ℕ
since_one n w = if nat_lt w.1.ready n then w.1.ready else n

abbrev pub since_all : ℕ → List Waiting → ℕ
since_all n [] = n
since_all n (w ∷ ws) = since_all (since_one n w) ws

-- Behind a board at a moment: the first moment of what it names, which may not be posted yet, or else the next moment.
abbrev pub since_next : List Key → ℕ → Book → ℕ
since_next posted at b = since_all (at + 1) (filter (is_new posted) (ready_by at b))

-- the sooner of two moments
abbrev pub sooner_of : ℕ → ℕ → ℕ
sooner_of n m = if nat_lt m n then m else n

-- Behind a change: the moment of an attempt that comes with it, if that is sooner.
abbrev pub since_changed : ℕ → Change → ℕ
since_changed n (AddText body) = n
since_changed n (AddRun flow request text t) = sooner_of n t.at
since_changed n (AddTurn run t) = sooner_of n t.at
since_changed n (SetAttempt run event attempt ready) = sooner_of n ready
since_changed n (SetText run text) = n

abbrev pub since_changes : ℕ → List Change → ℕ
since_changes n [] = n
since_changes n (c ∷ cs) = since_changes (since_changed n c) cs

-- Of a run's open activities those were posted that may be attempted before a moment.
abbrev pub WerePosted : List Key → ℕ → ℕ → List OpenActivity → Type 0
WerePosted posted since n [] = Unit {0}
WerePosted posted since n (t ∷ ts) = (t.ready < since → is_posted posted (n, t.event, t.attempt) ≡ true) × WerePosted posted since n ts

-- and of all runs of a book: so a board of it needn't look at what may be attempted before
abbrev pub AllWerePosted : List Key → ℕ → Book → Type 0
AllWerePosted posted since b = (n : ℕ) → WerePosted posted since n (tasks_at b n)

-- all of these keys are among those
abbrev pub AreAmong : List Key → List Key → Type 0
AreAmong some all = (q : Key) → is_posted some q ≡ true → is_posted all q ≡ true

-- and those of other runs than these are
abbrev pub AreStill : List ℕ → List Key → List Key → Type 0
AreStill over some all = (q : Key) → is_posted some q ≡ true → is_over over q.0 ≡ false → is_posted all q ≡ true

-- whether one of the tasks is of such a run
abbrev pub names_over : List ℕ → List Task → Bool
names_over over ts = list_any (λ (t : Task). is_over over t.run) ts

-- When more is to be done: the least of the open timers' due moments and of the ready moments after this one.
abbrev pub next_due : ℕ → Book → Option ℕ
next_due at b = soonest at (next_moment b) (waiting b)

-- The board is that of a book, where these tasks were posted.
pub record IsBoardOf (b : Book) (posted : List Key) (at : ℕ) (it : Boarded) : Type 0 where
  pub tasks : it.tasks ≡ ready_tasks posted at b
  pub due : it.due ≡ next_due at b
  pub open_runs : it.open_runs ≡ open_runs b

-- why there may be no board: E85 only where the keeper has halted
abbrev pub IsOfBoard : Bool → Fault → Type 0
IsOfBoard halted (fault.NoMemory _) = Unit {0}
IsOfBoard halted fault.StoreRefused = Unit {0}
IsOfBoard halted fault.Halted = halted ≡ true
IsOfBoard halted _ = ⊥

-- What is read of a book for a board.
abbrev pub draft_of : List Key → ℕ → Book → Draft
draft_of posted at b = record { tasks = ready_tasks posted at b; due = next_due at b; open_runs = open_runs b; since = since_next posted at b }

-- how a refusal of the tables is told
abbrev pub board_fault : ViewFault → Fault
board_fault (view.NoMemory _) = fault.NoMemory _
board_fault view.StoreRefused = fault.StoreRefused
