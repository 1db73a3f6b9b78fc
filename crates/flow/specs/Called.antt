-- What the program does for the words that it was called with.
use Rattle.std.specs.Prelude.{◌≡◌, ◌≢◌, ◌⊎◌, ℕ, Bool, List, map, option_map, Option, Result, Ok, Err, String, Vec, string_bytes}
use Rattle.std.specs.IoError.{error_kind}
use Rattle.std.specs.declared.io.Error.{Error}
use Rattle.std.specs.declared.io.ErrorKind.TheVariants.{OutOfMemory}
use Rattle.sqlite_trees.specs.declared.store.Store.{Ghosts}
use Rattle.sqlite_trees.specs.declared.memory.MemStore.{MemStore}
use Rattle.sqlite.specs.Held.{Held}
use Rattle.sqlite.specs.Steps.{over_memory}
use Rattle.sqlite.specs.declared.error.Error.{Error as BaseError}
use Rattle.sqlite.specs.declared.error.ErrorCode.{ErrorCode}
use Rattle.flow_base.specs.declared.fault.Fault.{Fault}
use Rattle.flow_base.specs.declared.fault.Fault.TheVariants as faults
use Rattle.flow_check.specs.Language.{meaning_of}
use Rattle.flow_model.specs.declared.answer.Answering.{Ghosts as Answerings}
use Rattle.flow_commit.specs.Keeping.{Keeping}
use Rattle.flow_lines.specs.declared.input.LineSource.{Ghosts as Inputs}
use Rattle.flow_lines.specs.declared.output.Output.{Ghosts as Outputs}
use Rattle.flow_cli.specs.Calls.{IsCall}
use Rattle.flow_cli.specs.Calls.{Call as Pure}
use Rattle.flow_cli.specs.Reasons.{early_of}
use Rattle.flow_cli.specs.Shown.{shown}
use Rattle.flow_cli.specs.Telling.{Tells}
use Rattle.flow_cli.specs.Usages.{meant_by}
use Rattle.flow_cli.specs.declared.call.Call.{Call}
use Rattle.flow_cli.specs.declared.call.Call.TheVariants as call
use Rattle.flow_cli.specs.declared.reason.Early.{Early}
use Rattle.flow_cli.specs.declared.reason.Reason.TheVariants as reason
use Rattle.flow_cli.specs.declared.reason.Unopened.{Unopened}
use Rattle.flow_cli.specs.declared.work.Work.{Work}
use Rattle.flow.specs.Ends.{Ends}
use Rattle.flow.specs.Over.{Asks, IsOnFile, OverFile, OverMemory, OverNamed, Verifies}
use Rattle.flow.specs.Reading.{Reads}
use Rattle.flow.specs.Replays.{ReplaysNamed}
use Rattle.flow.specs.Running.{HasSettings, RunsWith}
use Rattle.flow.specs.Telling.{tells_safety, tells_settlement, tells_verdict}
use Rattle.flow.specs.Working.{Lists, Performed}
use Rattle.flow.specs.declared.running.Activities.{Activities}
use Rattle.flow.specs.declared.running.Activities.TheVariants as activities

-- The work was done over the store of this name: in memory or in a file; and a question for a history makes no file.
abbrev pub WorksOver : {S I O : Type 0} → (List ℕ → Bool → Type 0) → Ghosts S → (List ℕ → Result (Held S) BaseError → Type 0) → (List ℕ → ErrorCode → Unopened → Type 0) → (Held S → Type 0)
    → (Result I Error → Type 0) → Answerings (Keeping S) → Answerings (Keeping MemStore) → Inputs I → Outputs O → O → O → List ℕ → Work → Result ℕ Early → Type 0
WorksOver misses g opens finds closes gives a am i o old new base job r =
    OverNamed base
    (OverMemory (new ≡ old) (λ first last. Performed am i o gives job first last old new))
    (Asks (misses base) job (λ s. (s ≡ Err (early_of faults.NoRun)) × (new ≡ old))
    (OverFile g opens finds closes base (new ≡ old) (λ first last. Performed a i o gives job first last old new))) r

-- An engine was kept running by the settings of this file, over the store of this name.
abbrev pub RunsOver : {A S R W : Type 0} → (List ℕ → Result (String A) Error → Type 0) → Ghosts S → (List ℕ → Result (Held S) BaseError → Type 0) → (List ℕ → ErrorCode → Unopened → Type 0) → (Held S → Type 0)
    → (Result R Error → Type 0) → (W → Option (List ℕ)) → (W → Type 0) → List ℕ → Option (List ℕ) → Activities → Result ℕ Early → Type 0
RunsOver reads g opens finds closes lends contents prints base file kind r =
    HasSettings reads file (OverNamed base
    (OverMemory (Unit {0}) (RunsWith kind over_memory contents prints lends))
    (OverFile g opens finds closes base (Unit {0}) (RunsWith kind g contents prints lends))) r

-- What was done for a call, by what the system gave.
abbrev pub Answered : {A S I R W O P : Type 0}
    → (List ℕ → Result (String A) Error → Type 0) → (Result (String A) Error → Type 0) → (List ℕ → Result (Option (Vec (String A) A)) Error → Type 0) → (List ℕ → Bool → Type 0)
    → Ghosts S → (List ℕ → Result (Held S) BaseError → Type 0) → (List ℕ → ErrorCode → Unopened → Type 0) → (Held S → Type 0)
    → (Result I Error → Type 0) → (Result R Error → Type 0) → (W → Option (List ℕ)) → (W → Type 0)
    → Answerings (Keeping S) → Answerings (Keeping MemStore) → Inputs I → Outputs O → Outputs P
    → O → O → P → P → Call → Result ℕ Early → Type 0
Answered {A} {S} {I} {R} {W} {O} {P} reads takes lists misses g opens finds closes gives lends contents prints a am i o p old new before behind c r =
    elim c [
      | call.Check file ↦ Reads reads file.now ((new ≡ old) × (behind ≡ before)) (λ text. Ends (Tells o p (tells_verdict text) old new before behind)) r
      | call.Safe first then ↦ Reads reads first.now ((new ≡ old) × (behind ≡ before)) (λ x. Reads reads then.now ((new ≡ old) × (behind ≡ before)) (λ y. Ends (Tells o p (tells_safety x y) old new before behind))) r
      | call.Settle first then ↦ Reads reads first.now ((new ≡ old) × (behind ≡ before)) (λ x. Reads reads then.now ((new ≡ old) × (behind ≡ before)) (λ y. Ends (Tells o p (tells_settlement x y) old new before behind))) r
      | call.Replay file history ↦ Reads reads file.now (new ≡ old) (λ text. ReplaysNamed reads lists takes o (meaning_of text) history.now old new) r
      | call.Over base job ↦ WorksOver misses g opens finds closes gives a am i o old new base.now job r
      | call.Open base ↦ OverNamed base.now
          (OverMemory (new ≡ old) (λ first last. Lists am o first last old new))
          (IsOnFile (misses base.now) (λ s. (s ≡ Ok 0) × (new ≡ old)) (OverFile g opens finds closes base.now (new ≡ old) (λ first last. Lists a o first last old new))) r
      | call.Verify base ↦ OverNamed base.now
          (OverMemory (new ≡ old) (λ first last. Verifies over_memory o first last old new))
          (OverFile g opens finds closes base.now (new ≡ old) (λ first last. Verifies g o first last old new)) r
      | call.Work base file leave ↦ RunsOver reads g opens finds closes lends contents prints base.now (option_map (λ t. t.now) file) (activities.Inside leave) r
      | call.Serve base file ↦ RunsOver reads g opens finds closes lends contents prints base.now (option_map (λ t. t.now) file) activities.Outside r
    ]

-- The words can't be read: E01 where memory ran out, and else E97.
pub record IsWordless {A : Type 0} (calls : Result (Vec (String A) A) Error → Type 0) (e : Early) : Type 0 where
  pub error : Error
  pub called : calls (Err error)
  pub fault : Fault
  pub is : e ≡ early_of fault
  pub memory : error_kind error ≡ OutOfMemory → fault ≡ faults.NoMemory _
  pub other : (fault ≡ faults.BadUsage) ⊎ (error_kind error ≡ OutOfMemory)

-- E97 says how the call that was meant is made.
pub record IsMisused (words : List (List ℕ)) (f : Fault) (e : Early) : Type 0 where
  pub usage : f ≡ faults.BadUsage → (e.fault ≡ faults.BadUsage) × (e.reason ≡ reason.Usage (meant_by words))
  pub other : f ≢ faults.BadUsage → e ≡ early_of f

-- The words are that call, and what it asks for was done.
pub record HasAnswered (words : List (List ℕ)) (answers : Call → Result ℕ Early → Type 0) (r : Result ℕ Early) : Type 0 where
  pub call : Call
  pub is : IsCall words (shown call)
  pub answered : answers call r

-- They are no call, which is E97, or memory ran out; and nothing was written.
pub record HasMisused (words : List (List ℕ)) (same : Type 0) (r : Result ℕ Early) : Type 0 where
  pub fault : Fault
  pub early : Early
  pub why : IsMisused words fault early
  pub among : (fault ≡ faults.NoMemory _) ⊎ (fault ≡ faults.BadUsage)
  pub no_call : (c : Pure) → IsCall words c → fault ≡ faults.NoMemory _
  pub is : r ≡ Err early
  pub unwritten : same

-- The program was called with words, and answered them; or nobody knows the words, and nothing was written.
abbrev pub IsCalled : {A : Type 0} → (Result (Vec (String A) A) Error → Type 0) → Type 0 → (Call → Result ℕ Early → Type 0) → Result ℕ Early → Type 0
IsCalled {A} calls same answers r =
    ((words : Vec (String A) A) × (calls (Ok words) × (HasAnswered (map string_bytes words.items) answers r ⊎ HasMisused (map string_bytes words.items) same r)))
    ⊎ ((e : Early) × (IsWordless calls e × ((r ≡ Err e) × same)))
