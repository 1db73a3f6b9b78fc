-- Why a call ended early.
use Rattle.std.proofs.Common.{◌≡◌, ℕ, List, inl, inr, refl, sym, subst}
use Rattle.std.specs.declared.io.ErrorKind.{ErrorKind}
use Rattle.sqlite.specs.declared.error.Error.{Error}
use Rattle.sqlite.specs.declared.error.Error.TheVariants as error
use Rattle.sqlite.specs.declared.error.ErrorCode.{ErrorCode}
use Rattle.flow_base.specs.declared.fault.Fault.TheVariants as fault
use Rattle.flow_cli.specs.Reasons.{early_of, EndsBy, SaysFile, SaysSettings, SaysStore}
use Rattle.flow_cli.specs.declared.reason.BadSetting.{BadSetting}
use Rattle.flow_cli.specs.declared.reason.Early.{Early}
use Rattle.flow_cli.specs.declared.reason.Reason.{Reason}
use Rattle.flow_cli.specs.declared.reason.Reason.TheVariants as reason
use Rattle.flow_cli.specs.declared.reason.Unopened.{Unopened}
use Rattle.flow_cli.specs.declared.reason.Unopened.TheVariants as unopened
use Rattle.flow.specs.Configured.{IsOfSettings}
use Rattle.flow.specs.Openings.{IsOfFile}

-- ---- settings

-- what is said of a file that can't be read is of that file
pub of_file : (file : List ℕ) (kind : ErrorKind) (r : Reason) → SaysFile file kind r → IsOfSettings file r
of_file file kind (reason.File path why) h = h.0
of_file file kind reason.Nothing h = absurd h
of_file file kind reason.Memory h = absurd h
of_file file kind (reason.Usage call) h = absurd h
of_file file kind (reason.Settings path why) h = absurd h
of_file file kind (reason.Store path why) h = absurd h
of_file file kind reason.NotOurs h = absurd h
of_file file kind reason.BadVersion h = absurd h
of_file file kind (reason.Row d) h = absurd h
of_file file kind (reason.Run run place name) h = absurd h

pub of_settings : (file : List ℕ) (why : BadSetting) (r : Reason) → SaysSettings file why r → IsOfSettings file r
of_settings file why (reason.Settings path said) h = h.0
of_settings file why reason.Nothing h = absurd h
of_settings file why reason.Memory h = absurd h
of_settings file why (reason.Usage call) h = absurd h
of_settings file why (reason.File path said) h = absurd h
of_settings file why (reason.Store path said) h = absurd h
of_settings file why reason.NotOurs h = absurd h
of_settings file why reason.BadVersion h = absurd h
of_settings file why (reason.Row d) h = absurd h
of_settings file why (reason.Run run place name) h = absurd h

pub unread_settings : (file : List ℕ) (kind : ErrorKind) (e : Early) → EndsBy fault.BadSettings (SaysFile file kind) e → EndsBy fault.BadSettings (IsOfSettings file) e
unread_settings file kind e (inl h) = inl (h.0, of_file file kind e.reason h.1)
unread_settings file kind e (inr h) = inr h

pub bad_settings : (file : List ℕ) (why : BadSetting) (e : Early) → EndsBy fault.BadSettings (SaysSettings file why) e → EndsBy fault.BadSettings (IsOfSettings file) e
bad_settings file why e (inl h) = inl (h.0, of_settings file why e.reason h.1)
bad_settings file why e (inr h) = inr h

-- it is of any file where nothing is said
pub bare_settings : (file : List ℕ) (e : Early) → e ≡ early_of fault.BadSettings → EndsBy fault.BadSettings (IsOfSettings file) e
bare_settings file e is = subst (EndsBy fault.BadSettings (IsOfSettings file)) (sym is) (inl (refl, tt))

-- ---- stores

-- no code was said of the file
pub of_other : (finds : List ℕ → ErrorCode → Unopened → Type 0) (file : List ℕ) (why : Error) (e : Early) → ((said : ErrorCode) → why ≡ error.SqliteFailure said → ⊥) → EndsBy fault.StoreRefused (SaysStore file unopened.Failed) e → IsOfFile finds file why e
of_other finds file (error.SqliteFailure said) e not h = absurd (not said refl)
of_other finds file (error.SqlInputError a) e not h = h
of_other finds file (error.InvalidParameterCount a b) e not h = h
of_other finds file error.ExecuteReturnedResults e not h = h
of_other finds file error.InvalidQuery e not h = h
of_other finds file error.MultipleStatement e not h = h
of_other finds file error.QueryReturnedNoRows e not h = h
of_other finds file (error.InvalidColumnIndex a) e not h = h
of_other finds file (error.InvalidColumnType a b) e not h = h
of_other finds file (error.IntegralValueOutOfRange a) e not h = h
of_other finds file (error.Utf8Error a) e not h = h
