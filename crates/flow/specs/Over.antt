-- What is done over the store of a call.
use Rattle.std.specs.Prelude.{◌≡◌, ◌≢◌, ◌⊎◌, ◌++◌, ◌∷◌, [], ℕ, Bool, true, false, List, Result, Ok, Err, IfOk, IfErr, codes}
use Rattle.std.specs.Io.KnownBytes.{Appends}
use Rattle.sqlite_trees.specs.declared.store.Store.{Ghosts}
use Rattle.sqlite.specs.Held.{Held, state}
use Rattle.sqlite.specs.Steps.{over_memory, IsEmpty}
use Rattle.sqlite.specs.declared.error.Error.{Error}
use Rattle.sqlite.specs.declared.error.ErrorCode.{ErrorCode}
use Rattle.sqlite_trees.specs.declared.memory.MemStore.{MemStore}
use Rattle.flow_base.specs.declared.fault.Fault.{Fault}
use Rattle.flow_base.specs.declared.fault.Fault.TheVariants as fault
use Rattle.flow_model.specs.Book.{Book}
use Rattle.flow_machine.specs.Verifying.{CantBeReplayed}
use Rattle.flow_base.specs.declared.book.Totals.{Totals}
use Rattle.flow_check.specs.Language.{meaning_of}
use Rattle.flow_commit.specs.Committing.{IsDown}
use Rattle.flow_commit.specs.Keeping.{IsFit, Keeping, KeepsBook}
use Rattle.flow_commit.specs.Verifying.{IsOfVerify, IsVerified}
use Rattle.flow_lines.specs.Answering.{WritesPart}
use Rattle.flow_lines.specs.Ends.{output_failed}
use Rattle.flow_lines.specs.declared.output.Output.{Ghosts as Outputs}
use Rattle.flow_cli.specs.Reasons.{early_of}
use Rattle.flow_cli.specs.Totals.{totals_text}
use Rattle.flow_cli.specs.Working.{OfWork}
use Rattle.flow_cli.specs.declared.reason.Early.{Early}
use Rattle.flow_cli.specs.declared.reason.Unopened.{Unopened}
use Rattle.flow_cli.specs.declared.work.Work.{Work}
use Rattle.flow.specs.Ends.{told_early}
use Rattle.flow.specs.Openings.{IsNotOpened, IsOver, IsUnmade}

-- ---- in a file

-- The file was opened, an engine was made over it, which did that, and what it left of the connection was closed.
pub record HasKept {S : Type 0} (g : Ghosts S) (opens : Held S → Type 0) (closes : Held S → Type 0) (does : Keeping S → Keeping S → Result ℕ Fault → Type 0) (r : Result ℕ Early) : Type 0 where
  pub conn : Held S
  pub opened : opens conn
  pub first : Keeping S
  pub over : IsOver g conn first
  pub last : Keeping S
  pub told : Result ℕ Fault
  pub did : does first last told
  pub closed : closes last.stored.held
  pub is : r ≡ told_early told

-- It wasn't opened, and nothing was written.
pub record HasNotOpened {S : Type 0} (g : Ghosts S) (opens : List ℕ → Result (Held S) Error → Type 0) (finds : List ℕ → ErrorCode → Unopened → Type 0) (file : List ℕ) (same : Type 0) (r : Result ℕ Early) : Type 0 where
  pub early : Early
  pub why : IsNotOpened g opens finds file early
  pub is : r ≡ Err early
  pub unwritten : same

abbrev pub OverFile : {S : Type 0} → Ghosts S → (List ℕ → Result (Held S) Error → Type 0) → (List ℕ → ErrorCode → Unopened → Type 0) → (Held S → Type 0) → List ℕ → Type 0 → (Keeping S → Keeping S → Result ℕ Fault → Type 0) → Result ℕ Early → Type 0
OverFile g opens finds closes file same does r = HasKept g (λ conn. opens file (Ok conn)) closes does r ⊎ HasNotOpened g opens finds file same r

-- Nothing of this name is there, and so it is answered; or something is, and so.
abbrev pub IsOnFile : (Bool → Type 0) → (Result ℕ Early → Type 0) → (Result ℕ Early → Type 0) → Result ℕ Early → Type 0
IsOnFile misses absent present r = (misses true × absent r) ⊎ (misses false × present r)

-- A question for a history asks first whether the file is there, and a drive makes it.
abbrev pub Asks : (Bool → Type 0) → Work → (Result ℕ Early → Type 0) → (Result ℕ Early → Type 0) → Result ℕ Early → Type 0
Asks misses w absent present r = OfWork w (λ most. present r) (λ run. IsOnFile misses absent present r)

-- ---- in memory

-- An engine was made over an empty store, which did that.
pub record HasMade {S : Type 0} (g : Ghosts S) (does : Keeping S → Keeping S → Result ℕ Fault → Type 0) (r : Result ℕ Early) : Type 0 where
  pub conn : Held S
  pub empty : IsEmpty (state g conn)
  pub first : Keeping S
  pub over : IsOver g conn first
  pub last : Keeping S
  pub told : Result ℕ Fault
  pub did : does first last told
  pub is : r ≡ told_early told

-- There is none, and nothing was written.
pub record HasNotMade {S : Type 0} (g : Ghosts S) (same : Type 0) (r : Result ℕ Early) : Type 0 where
  pub fault : Fault
  pub why : IsUnmade g fault
  pub is : r ≡ Err (early_of fault)
  pub unwritten : same

abbrev pub OverMemory : Type 0 → (Keeping MemStore → Keeping MemStore → Result ℕ Fault → Type 0) → Result ℕ Early → Type 0
OverMemory same does r = HasMade over_memory does r ⊎ HasNotMade over_memory same r

-- ---- by the name

-- `-` is a store in memory, and every other name that of a file
pub record OverNamed (name : List ℕ) (memory file : Result ℕ Early → Type 0) (r : Result ℕ Early) : Type 0 where
  pub in_memory : name ≡ codes "-" → memory r
  pub in_file : name ≢ codes "-" → file r

-- ---- a verify

-- all that the engine tells of it
pub record HasVerified {S : Type 0} (g : Ghosts S) (before behind : Keeping S) (found : Result Totals Fault) : Type 0 where
  pub verdict : IsFit g behind → (b : Book) → KeepsBook g before b → IsVerified b found
  pub book : IsFit g behind → (b : Book) → KeepsBook g before b → KeepsBook g behind b
  pub among : IfErr found (IsOfVerify before.halted)
  pub cause : IsFit g behind → (b : Book) → KeepsBook g before b → IfErr found (λ f. f ≡ fault.StoreRefused → IsDown g before.stored behind.stored ⊎ CantBeReplayed meaning_of b)

abbrev pub totals_line : Totals → List ℕ
totals_line t = totals_text t ++ 10 ∷ []

-- how much a store holds was told
pub record TellsTotals {O : Type 0} (o : Outputs O) (t : Totals) (old new : O) (r : Result ℕ Fault) : Type 0 where
  pub written : IfOk r (λ n. Appends (o.contents old) (o.contents new) (totals_line t))
  pub status : IfOk r (λ n. n ≡ 0)
  pub stopped : IfErr r (λ f. WritesPart f (o.contents old) (o.contents new) (totals_line t))
  pub output : o.failed new ≡ output_failed r (o.failed old)

abbrev pub TellsFound : {O : Type 0} → Outputs O → Result Totals Fault → O → O → Result ℕ Fault → Type 0
TellsFound o (Ok t) old new r = TellsTotals o t old new r
TellsFound o (Err f) old new r = (r ≡ Err f) × (new ≡ old)

pub record Verifies {S O : Type 0} (g : Ghosts S) (o : Outputs O) (before behind : Keeping S) (old new : O) (r : Result ℕ Fault) : Type 0 where
  pub found : Result Totals Fault
  pub verified : HasVerified g before behind found
  pub tells : TellsFound o found old new r
