-- What becomes of a call that begins with a file.
use Rattle.std.specs.Prelude.{◌≡◌, ◌⊎◌, ℕ, List, Result, Ok, Err, String, string_bytes}
use Rattle.std.specs.IoError.{error_kind}
use Rattle.std.specs.declared.io.Error.{Error}
use Rattle.std.specs.declared.io.ErrorKind.{ErrorKind}
use Rattle.std.specs.declared.io.ErrorKind.TheVariants.{OutOfMemory}
use Rattle.flow_base.specs.declared.fault.Fault.TheVariants as fault
use Rattle.flow_cli.specs.Reasons.{early_of, EndsBy, SaysFile}
use Rattle.flow_cli.specs.declared.reason.Early.{Early}

-- The file can't be read: E01 where memory ran out, and else E93 and why.
pub record IsUnread (file : List ℕ) (kind : ErrorKind) (e : Early) : Type 0 where
  pub memory : kind ≡ OutOfMemory → e ≡ early_of (fault.NoMemory _)
  pub why : EndsBy fault.NoFile (SaysFile file kind) e

-- The file of this name was read, and that was done with its text.
pub record HasRead {A : Type 0} (reads : List ℕ → Result (String A) Error → Type 0) (file : List ℕ) (does : List ℕ → Result ℕ Early → Type 0) (r : Result ℕ Early) : Type 0 where
  pub text : String A
  pub read : reads file (Ok text)
  pub did : does (string_bytes text) r

-- It couldn't be read, and the call ended so. Nothing was written.
pub record CouldNotRead {A : Type 0} (reads : List ℕ → Result (String A) Error → Type 0) (file : List ℕ) (same : Type 0) (r : Result ℕ Early) : Type 0 where
  pub error : Error
  pub read : reads file (Err error)
  pub early : Early
  pub why : IsUnread file (error_kind error) early
  pub is : r ≡ Err early
  pub unwritten : same

-- the one or the other
abbrev pub Reads : {A : Type 0} → (List ℕ → Result (String A) Error → Type 0) → List ℕ → Type 0 → (List ℕ → Result ℕ Early → Type 0) → Result ℕ Early → Type 0
Reads reads file same does r = HasRead reads file does r ⊎ CouldNotRead reads file same r
