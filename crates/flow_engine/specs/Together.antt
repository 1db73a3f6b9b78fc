-- Commands that are answered together.
use Rattle.std.specs.Prelude.{◌≡◌, ◌⊎◌, ℕ, List, [], ◌∷◌, length, map, Result, Ok, Err, IfOk, IfErr, OnOk}
use Rattle.sqlite_trees.specs.declared.store.Store.{Ghosts}
use Rattle.flow_base.specs.declared.command.Command.{Command}
use Rattle.flow_model.specs.Apply.{after, replies}
use Rattle.flow_model.specs.Book.{Book}
use Rattle.flow_base.specs.declared.code.Code.TheVariants as code
use Rattle.flow_view.specs.Codes.{view_fault_code}
use Rattle.flow_model.specs.Answers.{AnswersTogether, CausedTogether, CountsTogether}
use Rattle.flow_model.specs.declared.answer.Stop.{Stop}
use Rattle.flow_model.specs.declared.answer.Stop.TheVariants as stop
use Rattle.flow_model.specs.declared.answer.Together.{Together}
use Rattle.flow_model.specs.declared.answer.Together.TheVariants as together
use Rattle.flow_base.specs.declared.submission.Taken.{Taken}
use Rattle.flow_tables.specs.Owned.{state_of, LeavesEither}
use Rattle.flow_commit.specs.Keeping.{Keeping, rules, IsFit, KeepsBook, commands_of, kept_book}
use Rattle.flow_engine.specs.Answering.{IsSure, Follows, HasAnswered, HasStopped}
use Rattle.flow_commit.specs.Committing.{HasGoneOn}
use Rattle.flow_engine.specs.Counting.{IsCounted}
use Rattle.flow_engine.specs.GivingUp.{GivesUp}
use Rattle.flow_engine.specs.Driving.{Runs, reply_of}
use Rattle.flow_engine.specs.declared.done.Done.{Done}
use Rattle.flow_engine.specs.declared.done.Done.TheVariants as done

-- The commands were applied over this book, and the book behind them is kept; or none was.
abbrev pub KeepsTogether : {S : Type 0} → Ghosts S → Keeping S → Book → List Command → Together → Type 0
KeepsTogether g new b commands (together.Replied rs) = (rs.items ≡ replies rules b commands) × KeepsBook g new (after rules b commands)
KeepsTogether g new b commands (together.NotApplied k) = KeepsBook g new b

-- how many of a batch have a receipt
abbrev pub are_kept : Done → ℕ
are_kept (done.Kept receipts) = length receipts.items
are_kept (done.NotApplied f) = 0
are_kept done.Unknown = 0
are_kept done.Halted = 0

-- this is told of a batch
abbrev pub IsToldOf : Done → Result Together Stop → Type 0
IsToldOf (done.Kept receipts) (Ok (together.Replied rs)) = rs.items ≡ map reply_of receipts.items
IsToldOf (done.Kept receipts) (Ok (together.NotApplied k)) = ⊥
IsToldOf (done.Kept receipts) (Err s) = ⊥
IsToldOf (done.NotApplied f) (Ok (together.Replied rs)) = ⊥
IsToldOf (done.NotApplied f) (Ok (together.NotApplied k)) = k ≡ view_fault_code f
IsToldOf (done.NotApplied f) (Err s) = ⊥
IsToldOf done.Unknown (Ok t) = ⊥
IsToldOf done.Unknown (Err s) = s ≡ stop.Unknown
IsToldOf done.Halted (Ok t) = ⊥
IsToldOf done.Halted (Err s) = s ≡ stop.Halted

-- Commands were answered so as one batch that the engine has answered. If it was given up with E80, the store has counted a failure more,
-- or there is another cause.
pub record HasRunOnce {S : Type 0} (g : Ghosts S) (old new : Keeping S) (commands : List Command) (result : Result Together Stop) : Type 0 where
  pub batch : List Taken
  pub done : Done
  pub are : commands ≡ commands_of batch
  pub runs : Runs g old new (batch ∷ []) (done ∷ [])
  pub counted : IsFit g new → IsCounted g old new (kept_book g old) (batch ∷ []) (done ∷ [])
  pub told : IsToldOf done result

-- That, or nothing was done for want of memory, and they are answered so.
abbrev pub IsOnePart : {S : Type 0} → Ghosts S → Keeping S → Keeping S → List Command → Result Together Stop → Type 0
IsOnePart g old new commands result = HasRunOnce g old new commands result ⊎ ((new ≡ old) × (result ≡ Ok (together.NotApplied code.NoMemory)))

-- What becomes of them.
pub record IsTogether {S : Type 0} (g : Ghosts S) (old new : Keeping S) (commands : List Command) (result : Result Together Stop) : Type 0 where
  pub answers : IfOk result (λ t. IsSure g new → AnswersTogether rules (kept_book g old) (kept_book g new) commands t)
  pub kept : IfOk result (λ t. IsFit g new → (b : Book) → KeepsBook g old b → KeepsTogether g new b commands t)
  pub count : IfOk result (λ t. CountsTogether commands t)
  pub cause : IfOk result (λ t. CausedTogether (GivesUp g old new (kept_book g old) commands) t)
  pub stopped : IfErr result (λ s. HasStopped old new s)
  pub unstopped : OnOk result (HasAnswered old new)
  pub leaves : IfErr result (λ s. IsFit g new → (b : Book) → KeepsBook g old b → LeavesEither (state_of g new.stored) b (after rules b commands))
  pub sure : IsSure g new → IsSure g old
  pub follows : Follows g old new
  pub goes_on : IsFit g new → HasGoneOn g old new
  pub part : IsOnePart g old new commands result
