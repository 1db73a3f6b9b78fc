-- What comes of an engine that is kept running.
use Rattle.std.specs.Prelude.{◌≡◌, ◌⊎◌, ◌≤◌, ℕ, List, Option, Result, Err, IfOk, IfErr, String}
use Rattle.std.specs.IoError.{error_kind}
use Rattle.std.specs.declared.io.Error.{Error}
use Rattle.std.specs.declared.io.ErrorKind.TheVariants.{OutOfMemory}
use Rattle.sqlite_trees.specs.declared.store.Store.{Ghosts}
use Rattle.flow_base.specs.declared.fault.Fault.{Fault}
use Rattle.flow_base.specs.declared.fault.Fault.TheVariants as fault
use Rattle.flow_settings.specs.Allowed.{Chosen}
use Rattle.flow_commit.specs.Keeping.{Keeping}
use Rattle.flow_engine.specs.Answering.{Follows}
use Rattle.flow_work.specs.Counting.{IsStatusOf}
use Rattle.flow_work.specs.Endings.{EndsServing, HasServedAll}
use Rattle.flow_work.specs.Serving.{PrintsReplies, Shows}
use Rattle.flow_work.specs.declared.ended.Ended.{Ended}
use Rattle.flow_work.specs.declared.ended.Served.{Served}
use Rattle.flow_cli.specs.declared.reason.Early.{Early}
use Rattle.flow.specs.Configured.{IsSet, IsUnset}
use Rattle.flow.specs.declared.running.Activities.{Activities}
use Rattle.flow.specs.declared.running.Activities.TheVariants as activities

-- The input can't be read: E01 where memory ran out.
pub record IsUnlent {I : Type 0} (lends : Result I Error → Type 0) (f : Fault) : Type 0 where
  pub error : Error
  pub lent : lends (Err error)
  pub memory : error_kind error ≡ OutOfMemory → f ≡ fault.NoMemory _
  pub other : (f ≡ fault.NoFile) ⊎ (error_kind error ≡ OutOfMemory)

-- Nothing was served: memory or a thread was refused, or the input can't be read.
abbrev pub IsUnserved : {I : Type 0} → (Result I Error → Type 0) → Fault → Type 0
IsUnserved lends f = (f ≡ fault.NoMemory _) ⊎ IsUnlent lends f

-- It has served to its end, or to what ended it: all that `work` and `serve` tell of the book.
pub record Runs {S I : Type 0} (g : Ghosts S) (lends : Result I Error → Type 0) (before behind : Keeping S) (r : Result ℕ Fault) : Type 0 where
  pub served : IfOk r (λ n. HasServedAll g before behind × (n ≤ 3))
  pub ends : IfErr r (λ f. EndsServing g before behind f ⊎ (IsUnserved lends f × (behind ≡ before)))
  pub found : behind.found ≡ before.found
  pub follows : Follows g before behind

-- It printed what `serve` tells to the output, and ended with the status of that or with the fault that ended serving.
pub record HasPrinted {S W : Type 0} (g : Ghosts S) (contents : W → Option (List ℕ)) (prints : W → Type 0) (before behind : Keeping S) (r : Result ℕ Fault) : Type 0 where
  pub writer : W
  pub printed : prints writer
  pub ended : Served W
  pub shows : Shows g (λ _. Unit {0}) before behind (contents writer) (contents ended.ended.writer) ended.is_mute ended.lines ended.shown
  pub are : IsStatusOf ended.is_mute ended.shown ended.ended.status
  pub status : IfOk r (λ n. n ≡ ended.ended.status)

abbrev pub Prints : {S W I : Type 0} → Ghosts S → (W → Option (List ℕ)) → (W → Type 0) → (Result I Error → Type 0) → Keeping S → Keeping S → Result ℕ Fault → Type 0
Prints g contents prints lends before behind r = HasPrinted g contents prints before behind r ⊎ ((f : Fault) × ((r ≡ Err f) × (IsUnserved lends f × (behind ≡ before))))

-- It printed what `work` tells to the output, and ended with the status of that or with the fault that ended serving.
pub record HasReplied {S W : Type 0} (g : Ghosts S) (contents : W → Option (List ℕ)) (prints : W → Type 0) (before behind : Keeping S) (r : Result ℕ Fault) : Type 0 where
  pub writer : W
  pub printed : prints writer
  pub ended : Ended W
  pub replies : PrintsReplies g (λ _. Unit {0}) before behind (contents writer) (contents ended.writer) ended.status
  pub status : IfOk r (λ n. n ≡ ended.status)

abbrev pub Replies : {S W I : Type 0} → Ghosts S → (W → Option (List ℕ)) → (W → Type 0) → (Result I Error → Type 0) → Keeping S → Keeping S → Result ℕ Fault → Type 0
Replies g contents prints lends before behind r = HasReplied g contents prints before behind r ⊎ ((f : Fault) × ((r ≡ Err f) × (IsUnserved lends f × (behind ≡ before))))

-- It is also said what is printed: replies alone, and with activities outside tasks too.
abbrev pub RunsWith : {S W I : Type 0} → Activities → Ghosts S → (W → Option (List ℕ)) → (W → Type 0) → (Result I Error → Type 0) → Keeping S → Keeping S → Result ℕ Fault → Type 0
RunsWith (activities.Inside leave) g contents prints lends before behind r = Runs g lends before behind r × Replies g contents prints lends before behind r
RunsWith activities.Outside g contents prints lends before behind r = Runs g lends before behind r × Prints g contents prints lends before behind r

-- The file gives settings, or none is named, and that was done; or it gives none, and nothing was.
abbrev pub HasSettings : {A : Type 0} → (List ℕ → Result (String A) Error → Type 0) → Option (List ℕ) → (Result ℕ Early → Type 0) → Result ℕ Early → Type 0
HasSettings reads file does r =
    ((s : Chosen) × (IsSet reads file s × does r)) ⊎ ((e : Early) × (IsUnset reads file e × (r ≡ Err e)))
