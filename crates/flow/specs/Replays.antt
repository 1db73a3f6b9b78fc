-- What is told of histories that are replayed.
use Rattle.std.specs.Prelude.{◌≡◌, ◌≢◌, ◌⊎◌, ◌++◌, ◌∷◌, [], ℕ, Bool, true, false, max, List, Option, Some, None, Result, Ok, Err, IfOk, IfErr, String, Vec, string_bytes, codes, ◌==◌}
use Rattle.std.specs.Io.KnownBytes.{Appends}
use Rattle.std.specs.IoError.{error_kind}
use Rattle.std.specs.Str.{trim_end}
use Rattle.std.specs.declared.io.Error.{Error}
use Rattle.std.specs.declared.io.ErrorKind.TheVariants.{OutOfMemory}
use Rattle.flow_base.specs.Syntax.{Program}
use Rattle.flow_base.specs.declared.code.Code.{Code}
use Rattle.flow_base.specs.declared.command.TextFault.{TextFault}
use Rattle.flow_base.specs.declared.fault.Fault.{Fault}
use Rattle.flow_base.specs.declared.fault.Fault.TheVariants as fault
use Rattle.flow_cli.specs.Reasons.{early_of}
use Rattle.flow_cli.specs.Replaying.{replayed_of, replayed_status, replayed_text}
use Rattle.flow_cli.specs.Spelling as spelling
use Rattle.flow_cli.specs.declared.reason.Early.{Early}
use Rattle.flow_cli.specs.declared.replaying.Replayed.{Replayed}
use Rattle.flow_cli.specs.declared.replaying.Replayed.TheVariants as replayed
use Rattle.flow_lines.specs.Answering.{WritesPart}
use Rattle.flow_lines.specs.Ends.{output_failed}
use Rattle.flow_lines.specs.declared.output.Output.{Ghosts}
use Rattle.flow.specs.Ends.{Ends}
use Rattle.flow.specs.Reading.{IsUnread, Reads}

-- ---- one history

-- it begins as an object of JSON, so it is a reply
abbrev pub is_reply : List ℕ → Bool
is_reply [] = false
is_reply (b ∷ bs) = b == 123

abbrev pub replay_line : List ℕ → Replayed → List ℕ
replay_line begins r = (begins ++ replayed_text r) ++ 10 ∷ []

-- What comes of a replay is told on a line that begins so, with its status.
pub record TellsReplay {O : Type 0} (o : Ghosts O) (begins : List ℕ) (r : Replayed) (old new : O) (told : Result ℕ Fault) : Type 0 where
  pub written : IfOk told (λ n. Appends (o.contents old) (o.contents new) (replay_line begins r) × (n ≡ replayed_status r))
  pub stopped : IfErr told (λ f. WritesPart f (o.contents old) (o.contents new) (replay_line begins r))
  pub output : o.failed new ≡ output_failed told (o.failed old)

-- Of a reply: lines spell the events whose reply it is, and this comes of them; or it is that of no history.
abbrev pub IsReplayOfReply : Result Program TextFault → List ℕ → Replayed → Type 0
IsReplayOfReply m reply r =
    ((lines : List ℕ) × (spelling.Tells reply lines × (r ≡ replayed_of m lines))) ⊎ ((line : ℕ) × ((code : Code) × (r ≡ replayed.BadLine line code)))

-- This comes of a history: of its lines, or of those of a reply, behind which nothing but space counts.
pub record IsReplayOf (m : Result Program TextFault) (history : List ℕ) (r : Replayed) : Type 0 where
  pub lines : is_reply history ≡ false → r ≡ replayed_of m history
  pub reply : is_reply history ≡ true → IsReplayOfReply m (trim_end history) r

-- such a thing came of it, and was told
pub record Replays {O : Type 0} (o : Ghosts O) (begins : List ℕ) (is : Replayed → Type 0) (old new : O) (told : Result ℕ Fault) : Type 0 where
  pub replayed : Replayed
  pub comes : is replayed
  pub tells : TellsReplay o begins replayed old new told

-- ---- files

-- The call ended for want of memory, and nothing was written.
abbrev pub RanOut : {O : Type 0} → O → O → Result ℕ Early → Type 0
RanOut old new r = (r ≡ Err (early_of (fault.NoMemory _))) × (new ≡ old)

-- The file's history was replayed, on a line that begins with its name.
abbrev pub ReplaysFile : {A O : Type 0} → (List ℕ → Result (String A) Error → Type 0) → Ghosts O → Result Program TextFault → List ℕ → O → O → Result ℕ Early → Type 0
ReplaysFile reads o m file old new r =
    Reads reads file (new ≡ old) (λ text s. Ends (Replays o (file ++ codes ": ") (IsReplayOf m text) old new) s ⊎ RanOut old new s) r

-- the greater status, as long as none ended early
abbrev pub joined : ℕ → Result ℕ Early → Result ℕ Early
joined n (Ok k) = Ok (max n k)
joined n (Err e) = Err e

-- One after the other, up to the first that ends early; the status is the greatest.
abbrev pub ReplaysFiles : {A O : Type 0} → (List ℕ → Result (String A) Error → Type 0) → Ghosts O → Result Program TextFault → List (String A) → O → O → Result ℕ Early → Type 0
ReplaysFiles reads o m [] old new r = (new ≡ old) × (r ≡ Ok 0)
ReplaysFiles {A} {O} reads o m (f ∷ fs) old new r =
    ((mid : O) × ((n : ℕ) × ((rest : Result ℕ Early) × (ReplaysFile reads o m (string_bytes f) old mid (Ok n) × (ReplaysFiles reads o m fs mid new rest × (r ≡ joined n rest))))))
    ⊎ ((e : Early) × (ReplaysFile reads o m (string_bytes f) old new (Err e) × (r ≡ Err e)))

-- ---- where histories come from

-- The input couldn't be read.
pub record IsUntaken {A : Type 0} (takes : Result (String A) Error → Type 0) (f : Fault) : Type 0 where
  pub error : Error
  pub taken : takes (Err error)
  pub memory : error_kind error ≡ OutOfMemory → f ≡ fault.NoMemory _
  pub other : (f ≡ fault.InputFailed) ⊎ (error_kind error ≡ OutOfMemory)

-- the history in the input
abbrev pub ReplaysInput : {A O : Type 0} → (Result (String A) Error → Type 0) → Ghosts O → Result Program TextFault → O → O → Result ℕ Early → Type 0
ReplaysInput {A} takes o m old new r =
    ((text : String A) × (takes (Ok text) × Ends (Replays o [] (IsReplayOf m (string_bytes text)) old new) r))
    ⊎ ((f : Fault) × (IsUntaken takes f × ((r ≡ Err (early_of f)) × (new ≡ old))))

-- the history in a file
abbrev pub ReplaysOne : {A O : Type 0} → (List ℕ → Result (String A) Error → Type 0) → Ghosts O → Result Program TextFault → List ℕ → O → O → Result ℕ Early → Type 0
ReplaysOne reads o m file old new r = Reads reads file (new ≡ old) (λ text s. Ends (Replays o [] (IsReplayOf m text) old new) s) r

-- those in a folder, or in what is none
abbrev pub ReplaysFound : {A O : Type 0} → (List ℕ → Result (String A) Error → Type 0) → Ghosts O → Result Program TextFault → List ℕ → Option (Vec (String A) A) → O → O → Result ℕ Early → Type 0
ReplaysFound reads o m path (Some files) old new r = ReplaysFiles reads o m files.items old new r
ReplaysFound reads o m path None old new r = ReplaysOne reads o m path old new r

abbrev pub ReplaysAt : {A O : Type 0} → (List ℕ → Result (String A) Error → Type 0) → (List ℕ → Result (Option (Vec (String A) A)) Error → Type 0) → Ghosts O → Result Program TextFault → List ℕ → O → O → Result ℕ Early → Type 0
ReplaysAt {A} reads lists o m path old new r =
    ((found : Option (Vec (String A) A)) × (lists path (Ok found) × ReplaysFound reads o m path found old new r))
    ⊎ ((error : Error) × ((e : Early) × (lists path (Err error) × (IsUnread path (error_kind error) e × ((r ≡ Err e) × (new ≡ old))))))

-- The histories of a name were replayed under a program: that of the input, or those of a folder or of a file.
pub record ReplaysNamed {A O : Type 0} (reads : List ℕ → Result (String A) Error → Type 0) (lists : List ℕ → Result (Option (Vec (String A) A)) Error → Type 0) (takes : Result (String A) Error → Type 0) (o : Ghosts O) (m : Result Program TextFault) (name : List ℕ) (old new : O) (r : Result ℕ Early) : Type 0 where
  pub input : name ≡ codes "-" → ReplaysInput takes o m old new r
  pub files : name ≢ codes "-" → ReplaysAt reads lists o m name old new r
