-- What the publisher does.
use Rattle.std.specs.Prelude.{ℕ, ◌≡◌, ◌+◌, ◌<◌, true, false, List, [], ◌∷◌, ◌++◌, length, map, take, All, Some, None}
use Rattle.std.specs.BTreeSet.{BTreeSet}
use Rattle.flow_base.specs.Keys.{Key}
use Rattle.flow_base.specs.declared.code.Code.{Code}
use Rattle.flow_base.specs.declared.fault.Fault.{Fault}
use Rattle.flow_base.specs.declared.submission.Receipt.{Receipt}
use Rattle.flow_base.specs.declared.submission.Taken.{Taken}
use Rattle.flow_commit.specs.Accounts.{Accounted}
use Rattle.flow_commit.specs.Keeping.{count_from}
use Rattle.flow_commit.specs.Stamps.{Stamped}
use Rattle.flow_commit.specs.Boards.{Boarded}
use Rattle.flow_hub.specs.declared.known.HubFacts.{HubFacts}
use Rattle.flow_hub.specs.declared.known.TakeFacts.{TakeFacts}
use Rattle.flow_queues.specs.Posting.{HasOthers, HasStill, apart_of, new_ones}
use Rattle.flow_hub.specs.Asks.{IsAsked, tickets_in, takens_of}
use Rattle.flow_queues.specs.Refusing.{refused_by}
use Rattle.flow_hub.specs.Knowing.{IsOver, answered_in, taken_at_once}

-- What the keeper has kept is what the publisher has published, over the same book and file, and nothing is taken.
pub record Together (keeper : Accounted) (k : HubFacts) : Type 0 where
  pub log : keeper.log ≡ k.history
  pub over : IsOver k.last (keeper ∷ [])
  pub none : k.held ≡ []

-- These are taken, and in all else keeper and publisher stand together.
pub record InHand (keeper : Accounted) (k : HubFacts) (xs : List Taken) : Type 0 where
  pub log : keeper.log ≡ k.history
  pub over : IsOver k.last (keeper ∷ [])
  pub taken : k.held ≡ xs

-- These are taken: the next that were submitted and not taken before, with none left out.
pub record HasTaken (old new : HubFacts) (xs : List Taken) : Type 0 where
  pub held : new.held ≡ old.held ++ xs
  pub history : new.history ≡ old.history
  pub refused : new.refused ≡ old.refused
  pub last : new.last ≡ old.last
  pub ended : new.ended ≡ old.ended
  pub posted : new.posted ≡ old.posted
  pub gone : new.gone ≡ old.gone
  pub boarded : new.boarded ≡ old.boarded
  pub outlook : new.outlook ≡ old.outlook
  pub skipped : new.skipped ≡ old.skipped
  pub left : ℕ
  pub takes : new.takes ≡ old.takes ++ taken_at_once xs left
  pub asked : All (IsAsked new.asked) xs
  pub order : tickets_in xs ≡ count_from (answered_in old + length old.held) (length xs)

-- Fewer than so many were taken only where none was left to wait.
abbrev pub IsWhole : ℕ → TakeFacts → Type 0
IsWhole most t = t.taken < most → t.left ≡ 0

-- What was taken since was taken together: each time so many, or all that waited.
pub record TakesAll (most : ℕ) (old new : HubFacts) : Type 0 where
  pub more : List TakeFacts
  pub are : new.takes ≡ old.takes ++ more
  pub each : All (IsWhole most) more

-- All that was submitted is answered or taken.
abbrev pub IsAllTaken : HubFacts → Type 0
IsAllTaken k = length k.asked ≡ answered_in k + length k.held

-- Nothing more is taken in, and all that was submitted is answered or taken.
pub record IsDone (k : HubFacts) : Type 0 where
  pub closed : k.closed ≡ true
  pub empty : IsAllTaken k

-- The receipts are those of the stamp, and answer what was taken, whole and in order; and with them all that the stamp's keeper
-- has kept is published, and nothing twice.
pub record Answers (k : HubFacts) (stamp : Stamped) (rs : List Receipt) : Type 0 where
  pub asked : takens_of rs ≡ k.held
  pub own : stamp.own ≡ rs
  pub log : stamp.account.log ≡ k.history ++ rs
  pub over : IsOver k.last (stamp.account ∷ [])

-- The history has these receipts more, and is all that the stamp's keeper has kept. Of the runs that the stamp names as closed the
-- keys are let go of, but for the last of them if memory was refused. What the last board says holds no more.
pub record HasPublished (old new : HubFacts) (stamp : Stamped) (rs : List Receipt) : Type 0 where
  pub history : new.history ≡ old.history ++ rs
  pub log : new.history ≡ stamp.account.log
  pub last : new.last ≡ stamp.account ∷ []
  pub held : new.held ≡ []
  pub takes : new.takes ≡ old.takes
  pub refused : new.refused ≡ old.refused
  pub ended : new.ended ≡ old.ended
  pub posted : new.posted ≡ old.posted
  pub count : ℕ
  pub gone : new.gone ≡ old.gone ++ take count stamp.closed
  pub boarded : new.boarded ≡ false
  pub outlook : new.outlook ≡ None
  pub skipped : new.skipped ≡ old.skipped

-- These are answered by a code.
pub record HasRefused (old new : HubFacts) (xs : List Taken) (code : Code) : Type 0 where
  pub refused : new.refused ≡ old.refused ++ map (refused_by code) xs
  pub held : new.held ≡ []
  pub takes : new.takes ≡ old.takes
  pub history : new.history ≡ old.history
  pub last : new.last ≡ old.last
  pub ended : new.ended ≡ old.ended
  pub posted : new.posted ≡ old.posted
  pub gone : new.gone ≡ old.gone
  pub boarded : new.boarded ≡ false
  pub outlook : new.outlook ≡ None
  pub skipped : new.skipped ≡ old.skipped

-- The board was made after all that is published, when these tasks were posted, whatever is said of runs that are gone.
pub record IsFresh (k : HubFacts) (board : Boarded) : Type 0 where
  pub kept : board.kept ≡ length k.history
  pub posted : HasOthers k.gone (record { keys = board.posted }) k.posted

-- The board without what is of runs that are gone.
abbrev pub left_on : HubFacts → Boarded → Boarded
left_on k board = record board { tasks = apart_of k.gone board.tasks }

-- The set has the keys of what was posted, but for what is of runs that are gone, and these are those runs.
abbrev pub HasRest : BTreeSet Key → List ℕ → HubFacts → Type 0
HasRest keys gone k = HasStill k.gone keys k.posted × (gone ≡ k.gone)

-- All else that the publisher alone changes is as it was.
pub record IsSameHistory (old new : HubFacts) : Type 0 where
  pub history : new.history ≡ old.history
  pub refused : new.refused ≡ old.refused
  pub last : new.last ≡ old.last
  pub held : new.held ≡ old.held
  pub takes : new.takes ≡ old.takes
  pub ended : new.ended ≡ old.ended
  pub gone : new.gone ≡ old.gone

-- Those of the board's tasks are posted that weren't posted before, each once and in their order, and it says what is open.
pub record HasPosted (old new : HubFacts) (board : Boarded) : Type 0 where
  pub rest : IsSameHistory old new
  pub posted : new.posted ≡ old.posted ++ new_ones old.posted board.tasks
  pub boarded : new.boarded ≡ true
  pub outlook : new.outlook ≡ Some (record { due = board.due; open_runs = board.open_runs })
  pub skipped : new.skipped ≡ old.skipped

-- There is no board this time, for this fault.
pub record HasSkipped (old new : HubFacts) (f : Fault) : Type 0 where
  pub rest : IsSameHistory old new
  pub posted : new.posted ≡ old.posted
  pub boarded : new.boarded ≡ true
  pub outlook : new.outlook ≡ old.outlook
  pub skipped : new.skipped ≡ f ∷ old.skipped

-- The publisher has closed the hub, and all else that it alone changes is as it was.
pub record HasEnded (old new : HubFacts) : Type 0 where
  pub ended : new.ended ≡ true
  pub history : new.history ≡ old.history
  pub refused : new.refused ≡ old.refused
  pub last : new.last ≡ old.last
  pub held : new.held ≡ old.held
  pub takes : new.takes ≡ old.takes
  pub posted : new.posted ≡ old.posted
  pub gone : new.gone ≡ old.gone
  pub boarded : new.boarded ≡ old.boarded
  pub outlook : new.outlook ≡ old.outlook
  pub skipped : new.skipped ≡ old.skipped
