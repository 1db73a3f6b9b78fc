-- Commands that are kept in a store before they are answered.
use Rattle.std.specs.Prelude.{◌≡◌, ◌⊎◌, ◌≤◌, ◌<◌, ℕ, true, false, List, [], ◌∷◌, ◌++◌, length, map, Option, Some, None}
use Rattle.sqlite_trees.specs.declared.store.Store.{Ghosts}
use Rattle.flow_base.specs.declared.command.Command.{Command}
use Rattle.flow_model.specs.Apply.{Rules, outcome, after, after_one}
use Rattle.flow_model.specs.Book.{Book}
use Rattle.flow_base.specs.declared.code.Code.{Code}
use Rattle.flow_base.specs.declared.code.Code.TheVariants as code
use Rattle.flow_view.specs.Codes.{view_fault_code}
use Rattle.flow_model.specs.Answers.{IsGivenUp}
use Rattle.flow_model.specs.declared.answer.Answer.{Answer}
use Rattle.flow_model.specs.declared.answer.Answer.TheVariants as answer
use Rattle.flow_model.specs.declared.answer.Stop.{Stop}
use Rattle.flow_model.specs.declared.answer.Stop.TheVariants as stop
use Rattle.flow_base.specs.declared.submission.Taken.{Taken}
use Rattle.flow_base.specs.declared.submission.Receipt.{Receipt}
use Rattle.flow_tables.specs.Owned.{state_of, LeavesEither}
use Rattle.flow_commit.specs.Keeping.{Keeping, rules, IsFit, IsUp, KeepsBook, commands_of, kept_book}
use Rattle.flow_engine.specs.Driving.{Runs, commands_in}
use Rattle.flow_engine.specs.Counting.{IsCounted}
use Rattle.flow_engine.specs.GivingUp.{GivesUp}
use Rattle.flow_engine.specs.declared.done.Done.{Done}
use Rattle.flow_engine.specs.declared.done.Done.TheVariants as done
use Rattle.flow_engine.specs.declared.done.Unanswered.{Unanswered}
use Rattle.flow_engine.specs.declared.done.Unanswered.TheVariants as unanswered

-- The disk has told no lie so far, and the connection is open.
pub record IsSure {S : Type 0} (g : Ghosts S) (k : Keeping S) : Type 0 where
  pub fit : IsFit g k
  pub up : IsUp g k

-- It stands over the same opening, and was fit if it is.
abbrev pub Follows : {S : Type 0} → Ghosts S → Keeping S → Keeping S → Type 0
Follows g a b = (b.stored.opened ≡ a.stored.opened) × (IsFit g b → IsFit g a)

-- A stop is for good: nobody knows whether the command is kept, and the engine halts; or it had halted before, and does nothing.
abbrev pub HasStopped : {S : Type 0} → Keeping S → Keeping S → Stop → Type 0
HasStopped old new stop.Unknown = (old.halted ≡ false) × (new.halted ≡ true)
HasStopped old new stop.Halted = (old.halted ≡ true) × (new ≡ old)

-- Beside an answer: it hadn't halted and hasn't, or nothing has changed.
abbrev pub HasAnswered : {S : Type 0} → Keeping S → Keeping S → Type 0
HasAnswered old new = ((old.halted ≡ false) × (new.halted ≡ false)) ⊎ (new ≡ old)

---- A list of commands

-- Commands are answered one after the other, each over the book that those before it have led to: the reply is that of apply, and
-- a command that isn't applied changes nothing. The last book is the one behind them all.
abbrev pub AnswersAll : Rules → Book → Book → List Command → List Answer → Type 0
AnswersAll u b last [] [] = last ≡ b
AnswersAll u b last [] (a ∷ rest) = ⊥
AnswersAll u b last (c ∷ cs) [] = ⊥
AnswersAll u b last (c ∷ cs) (answer.Replied r ∷ rest) = (r ≡ (outcome u b c).reply) × AnswersAll u (after_one u b c) last cs rest
AnswersAll u b last (c ∷ cs) (answer.NotApplied k ∷ rest) = AnswersAll u b last cs rest

-- Each that isn't applied is given up with E80 or E01, and this stands behind it, over the book that those before it have led to.
abbrev pub AreCaused : (Book → List Command → Code → Type 0) → Book → List Command → List Answer → Type 0
AreCaused cause b [] [] = Unit {0}
AreCaused cause b [] (a ∷ rest) = ⊥
AreCaused cause b (c ∷ cs) [] = Unit {0}
AreCaused cause b (c ∷ cs) (answer.Replied r ∷ rest) = AreCaused cause (after_one rules b c) cs rest
AreCaused cause b (c ∷ cs) (answer.NotApplied k ∷ rest) = (IsGivenUp k × cause b (c ∷ []) k) × AreCaused cause b cs rest

-- All commands were answered over this book, and the book behind them is kept.
pub record KeepsAnswered {S : Type 0} (g : Ghosts S) (new : Keeping S) (b : Book) (commands : List Command) (answers : List Answer) : Type 0 where
  pub book : Book
  pub kept : KeepsBook g new book
  pub told : AnswersAll rules b book commands answers

-- how many commands are committed at once, at most
abbrev pub most_at_once : ℕ
most_at_once = 1

-- A stop came behind these answers, which are those of the first commands over this book. It was at the commands in hand, which
-- are committed at once: a stop of the process leaves the book before or the book behind them. Those behind aren't applied.
pub record StopsBehind {S : Type 0} (g : Ghosts S) (new : Keeping S) (b : Book) (commands : List Command) (answers : List Answer) : Type 0 where
  pub first : List Command
  pub hand : List Command
  pub behind : List Command
  pub split : commands ≡ first ++ (hand ++ behind)
  pub some : 1 ≤ length hand
  pub few : length hand ≤ most_at_once
  pub book : Book
  pub told : AnswersAll rules b book first answers
  pub either : LeavesEither (state_of g new.stored) book (after rules book hand)

-- What is told of a stop whatever the disk tells: at least one command has no answer, and all of them where the engine had halted
-- before.
pub record IsStopped {S : Type 0} (g : Ghosts S) (old new : Keeping S) (commands : List Command) (answers : List Answer) (s : Stop) : Type 0 where
  pub how : HasStopped old new s
  pub fewer : length answers < length commands
  pub none : s ≡ stop.Halted → answers ≡ []
  pub caused : AreCaused (GivesUp g old new) (kept_book g old) commands answers

-- Why not all commands of a list were answered. Where memory was wanting nothing has changed.
abbrev pub EndsEarly : {S : Type 0} → Ghosts S → Keeping S → Keeping S → List Command → Unanswered → Type 0
EndsEarly g old new commands (unanswered.NoMemory _) = new ≡ old
EndsEarly g old new commands (unanswered.Stopped answers s) = IsStopped g old new commands answers.items s

-- and what that leaves of a book that was kept
abbrev pub LeavesBehind : {S : Type 0} → Ghosts S → Keeping S → Book → List Command → Unanswered → Type 0
LeavesBehind g new b commands (unanswered.NoMemory _) = KeepsBook g new b
LeavesBehind g new b commands (unanswered.Stopped answers s) = StopsBehind g new b commands answers.items

---- Batches of one

abbrev pub alone : Taken → List Taken
alone t = t ∷ []

-- Each batch has one command.
pub record AreAlone (batches : List (List Taken)) : Type 0 where
  pub taken : List Taken
  pub are : batches ≡ map alone taken

-- They are these commands, in their order.
pub record AreCut (commands : List Command) (batches : List (List Taken)) : Type 0 where
  pub taken : List Taken
  pub are : batches ≡ map alone taken
  pub same : commands_of taken ≡ commands

-- a batch of one that is kept has one receipt
abbrev pub IsSingle : Done → Type 0
IsSingle (done.Kept receipts) = length receipts.items ≡ 1
IsSingle _ = Unit {0}

abbrev pub AreSingle : List Done → Type 0
AreSingle [] = Unit {0}
AreSingle (d ∷ ds) = IsSingle d × AreSingle ds

abbrev pub replied : Receipt → Answer
replied r = answer.Replied r.reply

-- the answers before the first stop
abbrev pub given : List Done → List Answer
given [] = []
given (done.Kept receipts ∷ ds) = map replied receipts.items ++ given ds
given (done.NotApplied f ∷ ds) = answer.NotApplied (view_fault_code f) ∷ given ds
given (done.Unknown ∷ ds) = []
given (done.Halted ∷ ds) = []

abbrev pub first_stop : List Done → Option Stop
first_stop [] = None
first_stop (done.Kept receipts ∷ ds) = first_stop ds
first_stop (done.NotApplied f ∷ ds) = first_stop ds
first_stop (done.Unknown ∷ ds) = Some stop.Unknown
first_stop (done.Halted ∷ ds) = Some stop.Halted

-- what is told where answering ended early, behind answers that were there
abbrev pub TellsStop : List Answer → List Done → Unanswered → Type 0
TellsStop before ds (unanswered.NoMemory _) = ⊥
TellsStop before ds (unanswered.Stopped answers s) = (answers.items ≡ before ++ given ds) × (first_stop ds ≡ Some s)

---- A part of a life

-- Commands were answered so, up to a stop, as batches that the engine has answered; no more of them were given up with E80 than the store
-- has counted failures, but for other causes.
pub record HasRun {S : Type 0} (g : Ghosts S) (old new : Keeping S) (commands : List Command) (answers : List Answer) (stops : Option Stop) : Type 0 where
  pub batches : List (List Taken)
  pub dones : List Done
  pub are : commands ≡ commands_in batches
  pub runs : Runs g old new batches dones
  pub counted : IsFit g new → IsCounted g old new (kept_book g old) batches dones
  pub told : given dones ≡ answers
  pub stop : first_stop dones ≡ stops

-- Nothing was done for want of memory, and each command is answered so.
pub record HasNoMemory {S : Type 0} (old new : Keeping S) (commands : List Command) (answers : List Answer) (stops : Option Stop) : Type 0 where
  pub same : new ≡ old
  pub told : answers ≡ map (λ _. answer.NotApplied code.NoMemory) commands
  pub stop : stops ≡ None

-- the one or the other
abbrev pub IsPart : {S : Type 0} → Ghosts S → Keeping S → Keeping S → List Command → List Answer → Option Stop → Type 0
IsPart g old new commands answers stops = HasRun g old new commands answers stops ⊎ HasNoMemory old new commands answers stops

abbrev pub IsPartUpTo : {S : Type 0} → Ghosts S → Keeping S → Keeping S → List Command → Unanswered → Type 0
IsPartUpTo g old new commands (unanswered.NoMemory _) = new ≡ old
IsPartUpTo g old new commands (unanswered.Stopped answers s) = IsPart g old new commands answers.items (Some s)
