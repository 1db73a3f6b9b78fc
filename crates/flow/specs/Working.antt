-- What is done over an open store.
use Rattle.std.specs.Prelude.{◌≡◌, ◌⊎◌, ◌∷◌, [], ℕ, true, false, Result, Ok, Err, IfOk, IfErr, IfSome}
use Rattle.std.specs.IoError.{error_kind}
use Rattle.std.specs.declared.io.Error.{Error}
use Rattle.std.specs.declared.io.ErrorKind.TheVariants.{OutOfMemory}
use Rattle.flow_base.specs.declared.code.Code.TheVariants as codes
use Rattle.flow_base.specs.declared.command.Command.TheVariants as commands
use Rattle.flow_base.specs.declared.fault.Fault.{Fault}
use Rattle.flow_base.specs.declared.fault.Fault.TheVariants as fault
use Rattle.flow_model.specs.declared.answer.Answering.{Ghosts as Answerings}
use Rattle.flow_lines.specs.Answering.{AllAnswered, HasFew, IsFull, OfBatch, SomeAnswered, StatusWithin, StopsAmong, StopsWithin}
use Rattle.flow_lines.specs.Counting.{IsCounted}
use Rattle.flow_lines.specs.Driving.{lines_of, WritesBeginning}
use Rattle.flow_lines.specs.Ends.{input_failed, output_failed}
use Rattle.flow_lines.specs.Faults.{fault_status}
use Rattle.flow_lines.specs.Stopping.{CausedFault, StoppedBy}
use Rattle.flow_lines.specs.declared.input.LineSource.{Ghosts as Inputs}
use Rattle.flow_lines.specs.declared.output.Output.{Ghosts as Outputs}
use Rattle.flow_cli.specs.Histories.{BeginsHistory, CausedUnwritten, HasNoRun, TellsHistory}
use Rattle.flow_cli.specs.Listings.{open_lines, TellsOpen}
use Rattle.flow_cli.specs.Working.{OfWork}
use Rattle.flow_cli.specs.declared.work.Work.{Work}

-- The work was done over what keeps the book, from these lines on and to this output: all that `perform` tells of it.
pub record Performs {E I O : Type 0} (a : Answerings E) (i : Inputs I) (o : Outputs O) (w : Work) (first last : I) (before behind : E) (old new : O) (r : Result ℕ Fault) : Type 0 where
  pub done : IfOk r (λ n. OfWork w
      (λ most. a.is_sure behind → IfSome (i.left first) (λ bytes. AllAnswered a.rules (OfBatch most (a.gives_up before behind)) (IsCounted a before behind) (IsFull most) (a.book before) (a.book behind) (lines_of bytes) (o.contents old) (o.contents new) n))
      (λ run. a.is_sure behind → TellsHistory a.rules (a.book before) (a.book behind) run (o.contents old) (o.contents new)))
  pub status : IfOk r (λ n. OfWork w (λ most. StatusWithin (OfBatch most (a.gives_up before behind)) n) (λ run. n ≡ 0))
  pub part : IfErr r (λ e. OfWork w
      (λ most. a.is_sure behind → IfSome (i.left first) (λ bytes. StopsWithin a.rules (OfBatch most (a.gives_up before behind)) (IsCounted a before behind) (OfBatch most (a.stops before behind)) (IsFull most) (a.book before) (a.book behind) e (lines_of bytes) (o.contents old) (o.contents new)))
      (λ run. (new ≡ old) ⊎ (a.is_sure behind → BeginsHistory a.rules (a.book before) (a.book behind) run (o.contents old) (o.contents new))))
  pub early : IfErr r (λ e. OfWork w (λ most. fault_status e ≡ 3) (λ run. (e ≡ fault.NoRun) ⊎ (fault_status e ≡ 3)))
  pub lines : IfOk r (λ n. OfWork w
      (λ most. a.is_sure behind → SomeAnswered a.rules (OfBatch most (a.gives_up before behind)) (IsCounted a before behind) (HasFew most) (a.book before) (a.book behind) 0 (o.contents old) (o.contents new) n)
      (λ run. Unit {0}))
  pub cut : IfErr r (λ e. OfWork w
      (λ most. a.is_sure behind → StopsAmong a.rules (OfBatch most (a.gives_up before behind)) (IsCounted a before behind) (OfBatch most (a.stops before behind)) (HasFew most) (a.book before) (a.book behind) e (o.contents old) (o.contents new))
      (λ run. Unit {0}))
  pub input : i.failed last ≡ input_failed r (i.failed first)
  pub output : o.failed new ≡ output_failed r (o.failed old)
  pub memory : IfErr r (λ e. OfWork w
      (λ most. e ≡ fault.NoMemory _ → (o.ran_out new ≡ true) ⊎ (a.is_sure behind → (n : ℕ) × SomeAnswered a.rules (OfBatch most (a.gives_up before behind)) (IsCounted a before behind) (HasFew most) (a.book before) (a.book behind) 0 (o.contents old) (o.contents new) n))
      (λ run. Unit {0}))
  pub cause : IfErr r (λ e. OfWork w
      (λ most. CausedFault e (StoppedBy a.rules (OfBatch most (a.gives_up before behind)) (OfBatch most (a.stops before behind)) (IsFull most) (a.is_sure behind) (a.book before) (i.left first)))
      (λ run. CausedUnwritten e (a.is_sure behind → HasNoRun a.rules (a.book before) (a.book behind) run) (a.is_sure behind → a.gives_up before behind (a.book before) (commands.History run ∷ []) codes.StoreRefused) (a.stops before behind (a.book before) (commands.History run ∷ []))))
  -- what is kept goes on
  pub sure : a.is_sure behind → a.is_sure before
  pub follows : (x : E) → a.follows x before → a.follows x behind

-- The lines of the input can't be read.
pub record IsUngiven {I : Type 0} (gives : Result I Error → Type 0) (f : Fault) : Type 0 where
  pub error : Error
  pub given : gives (Err error)
  pub memory : error_kind error ≡ OutOfMemory → f ≡ fault.NoMemory _
  pub other : (f ≡ fault.InputFailed) ⊎ (error_kind error ≡ OutOfMemory)

-- It was done with the lines that the system gave, none of which had failed; or there are none, and nothing has changed.
pub record PerformsGiven {E I O : Type 0} (a : Answerings E) (i : Inputs I) (o : Outputs O) (gives : Result I Error → Type 0) (w : Work) (before behind : E) (old new : O) (r : Result ℕ Fault) : Type 0 where
  pub first : I
  pub given : gives (Ok first)
  pub fresh : i.failed first ≡ false
  pub last : I
  pub performs : Performs a i o w first last before behind old new r

pub record PerformsNothing {E I O : Type 0} (gives : Result I Error → Type 0) (before behind : E) (old new : O) (r : Result ℕ Fault) : Type 0 where
  pub fault : Fault
  pub why : IsUngiven gives fault
  pub is : r ≡ Err fault
  pub same : (behind ≡ before) × (new ≡ old)

abbrev pub Performed : {E I O : Type 0} → Answerings E → Inputs I → Outputs O → (Result I Error → Type 0) → Work → E → E → O → O → Result ℕ Fault → Type 0
Performed a i o gives w before behind old new r = PerformsGiven a i o gives w before behind old new r ⊎ PerformsNothing gives before behind old new r

-- The open runs were listed: all that `tell_open` tells of it.
pub record Lists {E O : Type 0} (a : Answerings E) (o : Outputs O) (before behind : E) (old new : O) (r : Result ℕ Fault) : Type 0 where
  pub told : IfOk r (λ n. a.is_sure behind → TellsOpen a.rules (a.book before) (a.book behind) (o.contents old) (o.contents new))
  pub done : IfOk r (λ n. n ≡ 0)
  pub part : IfErr r (λ f. a.is_sure behind → WritesBeginning (o.contents old) (o.contents new) (open_lines a.rules (a.book before) 1))
  pub status : IfErr r (λ f. fault_status f ≡ 3)
  pub output : o.failed new ≡ output_failed r (o.failed old)
  pub cause : IfErr r (λ f. CausedUnwritten f ⊥
      (a.is_sure behind → (from : ℕ) × a.gives_up before behind (a.book before) (commands.Open from 256 ∷ []) codes.StoreRefused)
      (λ s. a.is_sure behind → (from : ℕ) × a.stops before behind (a.book before) (commands.Open from 256 ∷ []) s))
  -- what is kept goes on
  pub sure : a.is_sure behind → a.is_sure before
  pub follows : (x : E) → a.follows x before → a.follows x behind
