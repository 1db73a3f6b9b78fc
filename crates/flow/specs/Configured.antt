-- The settings of an engine.
use Rattle.std.specs.Prelude.{◌≡◌, ◌⊎◌, ℕ, List, Option, Some, None, Result, String, string_bytes}
use Rattle.std.specs.declared.io.Error.{Error}
use Rattle.flow_base.specs.declared.fault.Fault.TheVariants as fault
use Rattle.flow_settings.specs.Allowed.{Chosen, chosen}
use Rattle.flow_work.specs.Configured.{GivesSettings, IsNoSettings}
use Rattle.flow_cli.specs.Reasons.{early_of, EndsBy}
use Rattle.flow_cli.specs.declared.reason.Early.{Early}
use Rattle.flow_cli.specs.declared.reason.Reason.{Reason}
use Rattle.flow_cli.specs.declared.reason.Reason.TheVariants as reason
use Rattle.flow_cli.specs.declared.work.Work.{Work}
use Rattle.flow_cli.specs.declared.work.Work.TheVariants as work

-- a drive keeps as many positions as it says, and who asks for a history as many as usually
abbrev pub settings_for : Work → Chosen
settings_for (work.Drive most kept) = chosen 16 4 kept
settings_for (work.History run) = chosen 16 4 256

-- it is of this file, if it is of any
abbrev pub IsOfSettings : List ℕ → Reason → Type 0
IsOfSettings file reason.Nothing = Unit {0}
IsOfSettings file (reason.File path why) = string_bytes path ≡ file
IsOfSettings file (reason.Settings path why) = string_bytes path ≡ file
IsOfSettings file r = ⊥

-- The file was read, and its text gives these.
pub record IsSetBy {A : Type 0} (reads : List ℕ → Result (String A) Error → Type 0) (file : List ℕ) (s : Chosen) : Type 0 where
  pub found : Result (String A) Error
  pub read : reads file found
  pub gives : GivesSettings found s

-- It gives none, which is E96; or memory ran out.
pub record IsUnsetBy {A : Type 0} (reads : List ℕ → Result (String A) Error → Type 0) (file : List ℕ) (e : Early) : Type 0 where
  pub found : Result (String A) Error
  pub read : reads file found
  pub why : (e ≡ early_of (fault.NoMemory _)) ⊎ (IsNoSettings found × EndsBy fault.BadSettings (IsOfSettings file) e)

-- where no file is named, the usual ones
abbrev pub IsSet : {A : Type 0} → (List ℕ → Result (String A) Error → Type 0) → Option (List ℕ) → Chosen → Type 0
IsSet reads None s = s ≡ chosen 16 4 256
IsSet reads (Some file) s = IsSetBy reads file s

abbrev pub IsUnset : {A : Type 0} → (List ℕ → Result (String A) Error → Type 0) → Option (List ℕ) → Early → Type 0
IsUnset reads None e = ⊥
IsUnset reads (Some file) e = IsUnsetBy reads file e
