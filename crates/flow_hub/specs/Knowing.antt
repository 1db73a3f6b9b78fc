-- What threads know of a hub, how it changes, and how it grows.
use Rattle.std.specs.Prelude.{ℕ, ◌≡◌, ◌≤◌, ◌+◌, Bool, true, false, Option, Some, None, List, [], ◌∷◌, ◌++◌, length, map, refl, take}
use Rattle.std.specs.Coded.{Coded, code_by, coded×, coded_ℕ, coded_bool, coded_list, coded_option}
use mathlib.Core.List.{IsPrefix}
use Rattle.flow_base.specs.declared.code.Code.{Code}
use Rattle.flow_base.specs.declared.fault.Fault.{Fault}
use Rattle.flow_base.specs.contracts.fault.Fault as fault_row
use Rattle.flow_base.specs.declared.submission.Receipt.{Receipt}
use Rattle.flow_base.specs.declared.submission.Taken.{Taken}
use Rattle.flow_base.specs.declared.task.Task.{Task}
use Rattle.flow_base.specs.contracts.task.Task as task_row
use Rattle.flow_commit.specs.Keeping.{batch_code}
use Rattle.flow_commit.specs.Accounts.{Accounted, account_code, log_code}
use Rattle.flow_commit.specs.Stamps.{IsLegal, Stamped}
use Rattle.flow_hub.specs.declared.known.HubFacts.{HubFacts}
use Rattle.flow_hub.specs.declared.known.BoardSummary.{BoardSummary}
use Rattle.flow_hub.specs.declared.known.TakeFacts.{TakeFacts}
use Rattle.flow_hub.specs.contracts.known.TakeFacts as take_row
use Rattle.flow_hub.specs.contracts.known.BoardSummary as outlook_row
use Rattle.flow_queues.specs.Refusing.{refused_by}
use Rattle.flow_queues.specs.declared.refused.Refused.{Refused}
use Rattle.flow_queues.specs.contracts.refused.Refused as refused_row
use Rattle.flow_hub.specs.Asks.{Rises, tickets_of}

abbrev pub refusals_code : Coded (List Refused)
refusals_code = coded_list refused_row.the_row.coded

abbrev pub task_list_code : Coded (List Task)
task_list_code = coded_list task_row.the_row.coded

-- the part of the tasks
abbrev Tasks : Type 0
Tasks = List Task × (List ℕ × (List Task × (Bool × (Option BoardSummary × List Fault))))

abbrev tasks_code : Coded Tasks
tasks_code = coded× task_list_code (coded× (coded_list coded_ℕ) (coded× task_list_code (coded× coded_bool (coded× (coded_option outlook_row.the_row.coded) (coded_list fault_row.the_row.coded)))))

-- the part of what is taken
abbrev Takes : Type 0
Takes = List Taken × List TakeFacts

abbrev takes_code : Coded Takes
takes_code = coded× batch_code (coded_list take_row.the_row.coded)

-- closed by anybody, and by the publisher
abbrev Closing : Type 0
Closing = Bool × Bool

abbrev pub known_code : Coded HubFacts
known_code =
    code_by (List Taken × (List Receipt × (List Refused × (List Accounted × (Takes × (ℕ × (ℕ × (Closing × Tasks))))))))
    (coded× batch_code (coded× log_code (coded× refusals_code (coded× (coded_list account_code) (coded× takes_code (coded× coded_ℕ (coded× coded_ℕ (coded× (coded× coded_bool coded_bool) tasks_code))))))))
    (λ k. (k.asked, (k.history, (k.refused, (k.last, ((k.held, k.takes), (k.fetched, (k.members, ((k.closed, k.ended), (k.posted, (k.gone, (k.given, (k.boarded, (k.outlook, k.skipped))))))))))))))
    (λ p. record { asked = p.0; history = p.1.0; refused = p.1.1.0; last = p.1.1.1.0; held = p.1.1.1.1.0.0; takes = p.1.1.1.1.0.1; fetched = p.1.1.1.1.1.0; members = p.1.1.1.1.1.1.0; closed = p.1.1.1.1.1.1.1.0.0; ended = p.1.1.1.1.1.1.1.0.1; posted = p.1.1.1.1.1.1.1.1.0; gone = p.1.1.1.1.1.1.1.1.1.0; given = p.1.1.1.1.1.1.1.1.1.1.0; boarded = p.1.1.1.1.1.1.1.1.1.1.1.0; outlook = p.1.1.1.1.1.1.1.1.1.1.1.1.0; skipped = p.1.1.1.1.1.1.1.1.1.1.1.1.1 })
    (λ _. refl)

abbrev pub nothing : HubFacts
nothing = record { asked = []; history = []; refused = []; last = []; held = []; takes = []; fetched = 0; members = 0; closed = false; ended = false; posted = []; gone = []; given = []; boarded = false; outlook = None; skipped = [] }

-- how many submissions are answered, by a receipt or by a code
abbrev pub answered_in : HubFacts → ℕ
answered_in k = length k.history + length k.refused

---- How it changes

abbrev pub with_ask : HubFacts → Taken → HubFacts
with_ask k t = record k { asked = k.asked ++ t ∷ [] }

-- what was taken at once, if anything, where so many were left to wait
abbrev pub taken_at_once : List Taken → ℕ → List TakeFacts
taken_at_once [] left = []
taken_at_once (x ∷ xs) left = record { taken = length (x ∷ xs); left = left } ∷ []

abbrev pub with_taken : HubFacts → List Taken → ℕ → HubFacts
with_taken k xs left = record k { held = k.held ++ xs; takes = k.takes ++ taken_at_once xs left }

abbrev pub with_published : HubFacts → Stamped → ℕ → List Receipt → HubFacts
with_published k stamp count rs = record k { history = k.history ++ rs; last = stamp.account ∷ []; gone = k.gone ++ take count stamp.closed; held = []; boarded = false; outlook = None }

abbrev pub with_refused : HubFacts → List Taken → Code → HubFacts
with_refused k xs code = record k { refused = k.refused ++ map (refused_by code) xs; held = []; boarded = false; outlook = None }

abbrev pub with_fetched : HubFacts → HubFacts
with_fetched k = record k { fetched = k.fetched + 1 }

abbrev pub with_member : HubFacts → HubFacts
with_member k = record k { members = k.members + 1 }

abbrev pub with_closed : HubFacts → HubFacts
with_closed k = record k { closed = true }

-- its publisher has closed it
abbrev pub with_ended : HubFacts → HubFacts
with_ended k = record k { closed = true; ended = true }

abbrev pub with_posted : HubFacts → List Task → BoardSummary → HubFacts
with_posted k ts outlook = record k { posted = k.posted ++ ts; boarded = true; outlook = Some outlook }

abbrev pub with_skipped : HubFacts → Fault → HubFacts
with_skipped k f = record k { boarded = true; skipped = f ∷ k.skipped }

abbrev pub with_given : HubFacts → Task → HubFacts
with_given k t = record k { given = k.given ++ t ∷ [] }

---- How it grows

-- The later stamp's keeper was made over the book and the file of the earlier one's.
abbrev pub IsOver : List Accounted → List Accounted → Type 0
IsOver [] ls = Unit {0}
IsOver (k ∷ ks) [] = ⊥
IsOver (k ∷ ks) (l ∷ ls) = l.base ≡ k.base

-- What was submitted, the history, what was answered by a code, the tasks posted and those given only grow; all stamps have one
-- base; answers that were fetched and submitters are counted on; and what is closed stays so.
pub record IsBefore (k l : HubFacts) : Type 0 where
  pub asked : IsPrefix k.asked l.asked
  pub history : IsPrefix k.history l.history
  pub refused : IsPrefix k.refused l.refused
  pub over : IsOver k.last l.last
  pub fetched : k.fetched ≤ l.fetched
  pub members : k.members ≤ l.members
  pub closed : k.closed ≡ true → l.closed ≡ true
  pub posted : IsPrefix k.posted l.posted
  pub given : IsPrefix k.given l.given

-- What the publisher alone changes is the same: the history, the last stamp, what was answered by a code, what is taken and was, what it
-- has posted and skipped, of which runs it has let go, and whether it has closed the hub.
pub record IsSamePart (k l : HubFacts) : Type 0 where
  pub history : k.history ≡ l.history
  pub refused : k.refused ≡ l.refused
  pub last : k.last ≡ l.last
  pub held : k.held ≡ l.held
  pub takes : k.takes ≡ l.takes
  pub ended : k.ended ≡ l.ended
  pub posted : k.posted ≡ l.posted
  pub gone : k.gone ≡ l.gone
  pub boarded : k.boarded ≡ l.boarded
  pub outlook : k.outlook ≡ l.outlook
  pub skipped : k.skipped ≡ l.skipped

---- One history

-- The history is all that the last stamp's keeper has kept, and its replies are those of apply over the book that was found at opening,
-- as far as the disk had told no lie by then. Before the first stamp it is empty.
abbrev pub IsKept : List Accounted → List Receipt → Type 0
IsKept [] history = history ≡ []
IsKept (k ∷ ks) history = (history ≡ k.log) × IsLegal k

-- and its tickets rise
pub record IsHistory (k : HubFacts) : Type 0 where
  pub kept : IsKept k.last k.history
  pub rising : Rises 0 (tickets_of k.history) (answered_in k)
