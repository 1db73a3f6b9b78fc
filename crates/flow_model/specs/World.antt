-- The world round an engine: submissions, batches, commits, stops and reopenings, in any order.
use Rattle.std.specs.Prelude.{◌≡◌, ◌⊎◌, ℕ, suc, ◌+◌, ◌-◌, List, [], ◌∷◌, ◌++◌, length, take, drop, slice_get, Contains, Option, Some, None, Bool, false, nat_eq, nat_le, ◌&&◌, if◌then◌else◌}
use Rattle.std.specs.List.{AllByRecursion}
use Rattle.flow_base.specs.Syntax.{Bytes}
use Rattle.flow_base.specs.declared.value.Value.{Value}
use Rattle.flow_base.specs.declared.book.Run.{Run}
use Rattle.flow_base.specs.declared.book.OpenActivity.{OpenActivity}
use Rattle.flow_base.specs.declared.command.Command.{Command}
use Rattle.flow_base.specs.declared.command.Command.TheVariants as command
use Rattle.flow_base.specs.declared.command.Reply.{Reply}
use Rattle.flow_model.specs.Book.{Book, nth}
use Rattle.flow_model.specs.Apply.{Rules, task_at}
use Rattle.flow_model.specs.Logs.{Entry, entered, commands_in, after_log, log_replies}
use Rattle.flow_model.specs.Sound.{IsSound}

-- An attempt of an activity, as it is handed out.
pub record Attempt : Type 0 where
  pub run : ℕ
  pub event : ℕ
  pub attempt : ℕ

abbrev pub is_at_attempt : ℕ → Option OpenActivity → Bool
is_at_attempt n None = false
is_at_attempt n (Some t) = nat_eq t.attempt n

abbrev pub is_open_in : Attempt → Option Run → Bool
is_open_in a None = false
is_open_in a (Some r) = is_at_attempt a.attempt (task_at r.tasks a.event)

-- whether the book has this activity open, at this attempt
abbrev pub is_open_task : Book → Attempt → Bool
is_open_task b a = is_open_in a (nth b.runs a.run)

-- What a submitter is told of its command.
pub record Receipt : Type 0 where
  pub opening : ℕ  -- the commands of the lives before this one
  pub place : ℕ  -- among the commands of this life, from 1
  pub command : Command
  pub reply : Reply

pub data Stage : Type 0 where
  Idle : Stage  -- no batch is taken
  Writing : Stage  -- a batch is taken, and its commit has not begun
  Committing : Stage
  Halted : Stage
  Stopped : Stage  -- after a crash

pub record World : Type 0 where
  pub base : Book
  pub inbox : List Command
  pub limit : ℕ  -- the most events of a history, in this life
  pub batch : List Entry  -- what is taken; empty where nothing is
  pub log : List Entry  -- what was committed, over all lives
  pub may : List Book  -- the books that a stop may leave
  pub opening : ℕ  -- the length of the log when this life began
  pub published : ℕ  -- how many of the log's commands are published
  pub receipts : List Receipt  -- all that were ever given: the acknowledged commands
  pub dispatched : List Attempt  -- all that were ever handed out
  pub stage : Stage

-- the commands that can be in the book that is found
abbrev pub accepted : World → List Entry
accepted w = w.log ++ w.batch

-- a world in whose first life a history has at most so many events
abbrev pub first : ℕ → Book → World
first limit base =
    record {
      base = base;
      inbox = [];
      limit = limit;
      batch = [];
      log = [];
      may = base ∷ [];
      opening = 0;
      published = 0;
      receipts = [];
      dispatched = [];
      stage = Idle;
    }

pub data Step : Type 0 where
  Submit : Command → Step
  Report : (which : ℕ) → Value → (at : ℕ) → Step  -- on an attempt that was handed out at some time
  Failure : (which : ℕ) → Bytes → (at : ℕ) → Step  -- the same, of an attempt that failed
  Take : (count : ℕ) → Step
  Write : Step
  WriteFails : Step
  CommitBegins : Step
  CommitDone : Step
  CommitFails : Step
  RefusedRollback : Step
  Publish : Step
  Dispatch : Attempt → Step
  Crash : (found : Book) → Step
  Reopen : Step
  Migrate : Step  -- a life moves the store, so that its histories have the limit of the rules

-- What a step makes of a world. Out of place it makes nothing of it.

-- the most commands that one batch has
abbrev pub batch_limit : ℕ
batch_limit = 64

abbrev pub submitted : World → Stage → Command → World
submitted w Stopped c = w
submitted w st c = record w { inbox = w.inbox ++ c ∷ [] }

-- a report is submitted like any command; on what was never handed out there is none
abbrev pub reported : World → Stage → Option Attempt → (Attempt → Command) → World
reported w st None report = w
reported w st (Some a) report = submitted w st (report a)

abbrev pub completion : Value → ℕ → Attempt → Command
completion v at a = command.Complete (record { run = a.run; event = a.event; attempt = a.attempt; value = v; at = at })

abbrev pub failure : Bytes → ℕ → Attempt → Command
failure reason at a = command.Fail (record { run = a.run; event = a.event; attempt = a.attempt; reason = reason; at = at })

abbrev pub taken : World → Stage → ℕ → World
taken w Idle k =
    if nat_le 1 k && nat_le k batch_limit && nat_le k (length w.inbox)
    then record w { batch = entered w.limit (take k w.inbox); inbox = drop k w.inbox; stage = Writing }
    else w
taken w st k = w

abbrev pub rolled_back : World → Stage → World
rolled_back w Writing = record w { batch = []; stage = Idle }
rolled_back w st = w

abbrev pub not_rolled_back : World → Stage → World
not_rolled_back w Writing = record w { stage = Halted }
not_rolled_back w st = w

abbrev pub commit_begun : Rules → World → Stage → World
commit_begun u w Writing = record w { stage = Committing; may = w.may ++ after_log u w.base (w.log ++ w.batch) ∷ [] }
commit_begun u w st = w

abbrev pub commit_done : Rules → World → Stage → World
commit_done u w Committing =
    record w { stage = Idle; log = w.log ++ w.batch; batch = []; may = after_log u w.base (w.log ++ w.batch) ∷ [] }
commit_done u w st = w

abbrev pub commit_failed : World → Stage → World
commit_failed w Committing = record w { stage = Halted }
commit_failed w st = w

-- the receipts of commands with these replies, the first at this place
abbrev pub receipts_from : ℕ → ℕ → List Command → List Reply → List Receipt
receipts_from opening place (c ∷ cs) (r ∷ rs) =
    record { opening = opening; place = place; command = c; reply = r } ∷ receipts_from opening (suc place) cs rs
receipts_from opening place cs rs = []

-- the committed commands that have no receipt yet get theirs
abbrev pub published_in : Rules → World → Stage → World
published_in u w Stopped = w
published_in u w st =
    record w {
      receipts = w.receipts
          ++ receipts_from w.opening (suc (w.published - w.opening)) (drop w.published (commands_in w.log)) (drop w.published (log_replies u w.base w.log));
      published = length w.log;
    }

abbrev pub dispatched_in : Rules → World → Stage → Attempt → World
dispatched_in u w Stopped a = w
dispatched_in u w st a = if is_open_task (after_log u w.base w.log) a then record w { dispatched = a ∷ w.dispatched } else w

abbrev pub stopped : World → Book → World
stopped w found = record w { inbox = []; may = found ∷ []; stage = Stopped }

abbrev pub opened : World → List Entry → World
opened w log = record w { log = log; batch = []; stage = Idle; opening = length log; published = length log }

-- The store is moved, before this life commits anything. Book, log and what a stop may leave stay.
abbrev pub migrated : Rules → World → Stage → World
migrated u w Idle = if nat_eq (length w.log) w.opening then record w { limit = u.limit } else w
migrated u w st = w

-- An opening: the log stays where it gives the book found, else the whole batch is part of it.
abbrev pub Opens : Rules → World → Stage → World → Type 0
Opens u w Stopped v =
    (Contains w.may (after_log u w.base w.log) × (v ≡ opened w w.log))
    ⊎ ((Contains w.may (after_log u w.base w.log) → ⊥) × (v ≡ opened w (w.log ++ w.batch)))
Opens u w st v = v ≡ w

-- One step leads from the world w to v. The rules are those of the programs of now: lives before may have had another limit.
abbrev pub Goes : Rules → World → Step → World → Type 0
Goes u w (Submit c) v = v ≡ submitted w w.stage c
Goes u w (Report n value at) v = v ≡ reported w w.stage (slice_get w.dispatched n) (completion value at)
Goes u w (Failure n reason at) v = v ≡ reported w w.stage (slice_get w.dispatched n) (failure reason at)
Goes u w (Take k) v = v ≡ taken w w.stage k
Goes u w Write v = v ≡ w
Goes u w WriteFails v = v ≡ rolled_back w w.stage
Goes u w CommitBegins v = v ≡ commit_begun u w w.stage
Goes u w CommitDone v = v ≡ commit_done u w w.stage
Goes u w CommitFails v = v ≡ commit_failed w w.stage
Goes u w RefusedRollback v = v ≡ not_rolled_back w w.stage
Goes u w Publish v = v ≡ published_in u w w.stage
Goes u w (Dispatch a) v = v ≡ dispatched_in u w w.stage a
Goes u w (Crash found) v = Contains w.may found × (v ≡ stopped w found)
Goes u w Reopen v = Opens u w w.stage v
Goes u w Migrate v = v ≡ migrated u w w.stage

-- These steps lead from the world w to v.
abbrev pub Comes : Rules → World → List Step → World → Type 0
Comes u w [] v = v ≡ w
Comes u w (s ∷ ss) v = (x : World) × (Goes u w s x × Comes u x ss v)

abbrev pub IsBeginning : {A : Type 0} → List A → List A → Type 0
IsBeginning {A} b all = (rest : List A) × (all ≡ b ++ rest)

-- The command stands in this log at its place, counted from the opening of its life, with the reply that it has there.
pub record IsIn (u : Rules) (base : Book) (b : List Entry) (r : Receipt) : Type 0 where
  pub command : nth (commands_in b) (r.opening + r.place) ≡ Some r.command
  pub reply : nth (log_replies u base b) (r.opening + r.place) ≡ Some r.reply

abbrev pub HoldsAcknowledged : Rules → World → List Entry → Type 0
HoldsAcknowledged u w b = AllByRecursion (IsIn u w.base b) w.receipts

-- what is known of a book that a stop may leave: it is sound, and comes from the log, or from the log and the whole batch
pub record Left (u : Rules) (w : World) (book : Book) : Type 0 where
  pub sound : IsSound u book
  pub kept : List Entry
  pub book_is : book ≡ after_log u w.base kept
  pub whole : (kept ≡ w.log) ⊎ (kept ≡ w.log ++ w.batch)
  pub beginning : IsBeginning kept (accepted w)
  pub acknowledged : HoldsAcknowledged u w kept

-- a stop leaves a book, and each that it may leave is such
pub record IsSafe (u : Rules) (w : World) : Type 0 where
  pub some : (book : Book) × Contains w.may book
  pub each : (book : Book) → Contains w.may book → Left u w book

-- what an opening of the world w takes over into v
pub record TakesOver (u : Rules) (w v : World) : Type 0 where
  pub is_found : (book : Book) → Contains w.may book → book ≡ after_log u v.base v.log
  pub whole : (v.log ≡ w.log) ⊎ (v.log ≡ w.log ++ w.batch)
  pub acknowledged : HoldsAcknowledged u w v.log

-- From a sound book all steps lead to safe worlds alone, whatever the limit of the first life.
abbrev pub WorldIsSafe : Rules → Type 0
WorldIsSafe u = (limit : ℕ) (base : Book) (steps : List Step) (w : World) → IsSound u base → Comes u (first limit base) steps w → (w.base ≡ base) × IsSafe u w

-- Each opening after a stop keeps what was promised.
abbrev pub WorldOpensWell : Rules → Type 0
WorldOpensWell u = (limit : ℕ) (base : Book) (steps : List Step) (w v : World) → Comes u (first limit base) steps w → w.stage ≡ Stopped → Goes u w Reopen v → TakesOver u w v
