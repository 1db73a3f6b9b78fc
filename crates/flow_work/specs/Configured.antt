-- The settings that a file gives.
use Rattle.std.specs.Prelude.{◌≡◌, Some, None, Result, Ok, Err, String, string_bytes}
use Rattle.std.specs.declared.io.Error.{Error}
use Rattle.flow_settings.specs.Allowed.{Chosen, settings_in}

-- the file was read, and its text gives these
abbrev pub GivesSettings : {A : Type 0} → Result (String A) Error → Chosen → Type 0
GivesSettings (Ok text) s = settings_in (string_bytes text) ≡ Some s
GivesSettings (Err e) s = ⊥

-- it couldn't be read, or its text gives none
abbrev pub IsNoSettings : {A : Type 0} → Result (String A) Error → Type 0
IsNoSettings (Ok text) = settings_in (string_bytes text) ≡ None
IsNoSettings (Err e) = Unit {0}
