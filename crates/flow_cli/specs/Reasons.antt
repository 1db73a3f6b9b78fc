-- What is said of a fault behind its line.
use Rattle.std.specs.Prelude.{◌≡◌, ◌↔◌, ◌⊎◌, ℕ, List, [], ◌∷◌, ◌++◌, codes, decimal, Some, None, ◌==◌, if◌then◌else◌, string_bytes}
use Rattle.std.specs.Fmt.{signed_decimal}
use Rattle.std.specs.declared.io.ErrorKind.{ErrorKind}
use Rattle.std.specs.declared.io.ErrorKind.TheVariants as kind
use Rattle.flow_base.specs.Codes.{code_number}
use Rattle.flow_base.specs.declared.event.Wrong.{Wrong}
use Rattle.flow_base.specs.declared.event.Wrong.TheVariants as wrong
use Rattle.flow_base.specs.declared.fault.Damage.{Damage}
use Rattle.flow_base.specs.declared.fault.Fault.{Fault}
use Rattle.flow_base.specs.declared.fault.Fault.TheVariants as fault
use Rattle.flow_base.specs.declared.fault.Table.{Table}
use Rattle.flow_base.specs.declared.fault.Table.TheVariants as table
use Rattle.flow_cli.specs.Usages.{usage_text}
use Rattle.flow_cli.specs.declared.reason.BadSetting.{BadSetting}
use Rattle.flow_cli.specs.declared.reason.BadSetting.TheVariants as setting
use Rattle.flow_cli.specs.declared.reason.Early.{Early}
use Rattle.flow_cli.specs.declared.reason.Reason.{Reason}
use Rattle.flow_cli.specs.declared.reason.Reason.TheVariants as reason
use Rattle.flow_cli.specs.declared.reason.SettingKey.{SettingKey}
use Rattle.flow_cli.specs.declared.reason.SettingKey.TheVariants as key
use Rattle.flow_cli.specs.declared.reason.Unopened.{Unopened}
use Rattle.flow_cli.specs.declared.reason.Unopened.TheVariants as unopened
use Rattle.flow_cli.specs.declared.reason.Unreadable.{Unreadable}
use Rattle.flow_cli.specs.declared.reason.Unreadable.TheVariants as unreadable

-- ---- files

abbrev pub unreadable_words : Unreadable → List ℕ
unreadable_words unreadable.Missing = codes "no such file"
unreadable_words unreadable.Folder = codes "is a folder"
unreadable_words unreadable.Forbidden = codes "this user may not read it"
unreadable_words unreadable.NotUtf8 = codes "not UTF-8"
unreadable_words unreadable.Failed = codes "reading it failed"

abbrev pub unopened_words : Unopened → List ℕ
unopened_words unopened.Busy = codes "another program has it open"
unopened_words unopened.NoFolder = codes "its folder isn't there"
unopened_words unopened.Folder = codes "is a folder"
unopened_words unopened.NotAFile = codes "is no file of bytes"
unopened_words unopened.Forbidden = codes "this user may not write it, or not make files beside it"
unopened_words unopened.SecondName = codes "the file has a second name (a hard link): remove one"
unopened_words unopened.Journal = codes "SQLite left a journal beside it: open it once with sqlite3"
unopened_words unopened.NoName = codes "is no name of a file"
unopened_words unopened.NotADatabase = codes "not an SQLite file"
unopened_words unopened.Broken = codes "it breaks a rule of its tables, or has what flow doesn't read: try sqlite3 on a copy with 'pragma integrity_check; pragma foreign_key_check'"
unopened_words unopened.Full = codes "the disk is full"
unopened_words unopened.Failed = codes "reading or writing it failed"

abbrev pub setting_name : SettingKey → List ℕ
setting_name key.Batch = codes "batch"
setting_name key.Workers = codes "workers"
setting_name key.Cache = codes "cache"

abbrev pub setting_text : BadSetting → List ℕ
setting_text (setting.NotToml line column) = codes "line " ++ (decimal line ++ (codes ", column " ++ (decimal column ++ codes ": no TOML")))
setting_text (setting.OtherKey key) = codes "no key is called " ++ (string_bytes key ++ codes ", but batch, workers and cache")
setting_text (setting.BadValue key most) = setting_name key ++ (codes " has to be a whole number from 1 to " ++ decimal most)

-- ---- rows

-- the row that is damaged
abbrev pub row_text : Damage → List ℕ
row_text d = elim d.table [
  | table.Text ↦ codes "text " ++ signed_decimal d.place
  | table.Run ↦ codes "run " ++ signed_decimal d.run
  | table.Event ↦ codes "event " ++ (signed_decimal d.place ++ (codes " of run " ++ signed_decimal d.run))
  | table.Timer ↦ codes "timer " ++ (signed_decimal d.place ++ (codes " of run " ++ signed_decimal d.run))
  | table.Outbox ↦ codes "open activity " ++ (signed_decimal d.place ++ (codes " of run " ++ signed_decimal d.run))
]

-- what is wrong with a row that reads, or isn't there
abbrev pub rule_words : Table → List ℕ
rule_words table.Text = codes "is missing, or no program"
rule_words table.Run = codes "is missing, or breaks a rule of its table"
rule_words table.Event = codes "is missing, or breaks a rule of its table"
rule_words table.Timer = codes "isn't what the history leaves open"
rule_words table.Outbox = codes "isn't what the history leaves open"

-- what is wrong with an event that doesn't read: E30, E31 or E32
abbrev pub cause_words : ℕ → Table → List ℕ
cause_words n t =
    if n == 30 then codes "its kind isn't 1 to 13"
    else if n == 31 then codes "its body isn't one of its kind"
    else if n == 32 then codes "its body is spelled in another way than flow does"
    else rule_words t

abbrev pub damage_words : Damage → List ℕ
damage_words d = elim d.cause [ None ↦ rule_words d.table | Some c ↦ cause_words (code_number c) d.table ]

-- what is wrong at the first event at which a history goes another way than its text
abbrev pub mismatch_words : Wrong → List ℕ
mismatch_words wrong.OtherKind = codes "its text asks for something of another kind there"
mismatch_words wrong.OtherContent = codes "its text asks for the same there, with other contents"
mismatch_words wrong.MissingEvent = codes "its text asks for something there that its history doesn't have"
mismatch_words wrong.ExtraEvent = codes "its text doesn't ask for what its history has there"
mismatch_words wrong.NotAwaited = codes "its text doesn't wait for what came there"
mismatch_words wrong.AfterClose = codes "its history goes on behind its end"
mismatch_words wrong.BadNumbering = codes "its number isn't its place, or its moment can't be"

-- ---- reasons

-- a line that begins with two spaces: what it is, and what is said of it
abbrev pub said_of : List ℕ → List ℕ → List ℕ
said_of what words = codes "  " ++ (what ++ (codes ": " ++ (words ++ (10 ∷ []))))

abbrev pub reason_text : Reason → List ℕ
reason_text reason.Nothing = []
reason_text reason.Memory = codes "  memory was refused, or a thread" ++ (10 ∷ [])
reason_text (reason.Usage call) = usage_text call
reason_text (reason.File path why) = said_of (string_bytes path) (unreadable_words why)
reason_text (reason.Settings path why) = said_of (string_bytes path) (setting_text why)
reason_text (reason.Store path why) = said_of (string_bytes path) (unopened_words why)
reason_text reason.NotOurs = codes "  it has tables of flow's names that aren't flow's, or rows that can't be read" ++ (10 ∷ [])
reason_text reason.BadVersion = codes "  another version of flow made it: its format isn't 1 or 2" ++ (10 ∷ [])
reason_text (reason.Row d) = said_of (row_text d) (damage_words d)
reason_text (reason.Run run place name) =
    codes "  run " ++ (decimal run ++ (codes ", event " ++ (decimal place ++ (codes ": " ++ (mismatch_words name ++ (10 ∷ []))))))

-- what a fault tells by itself
abbrev pub reason_of : Fault → Reason
reason_of (fault.NoMemory _) = reason.Memory
reason_of (fault.Mismatch run place name) = reason.Run run place name
reason_of fault.NotOurs = reason.NotOurs
reason_of fault.BadVersion = reason.BadVersion
reason_of (fault.Damaged d) = reason.Row d
reason_of f = reason.Nothing

abbrev pub early_of : Fault → Early
early_of f = record { fault = f; reason = reason_of f }

-- ---- the words belong to the cause

-- what the system's error says
pub record ReadsAs (error : ErrorKind) (why : Unreadable) : Type 0 where
  pub missing : (why ≡ unreadable.Missing) ↔ (error ≡ kind.NotFound)
  pub folder : (why ≡ unreadable.Folder) ↔ (error ≡ kind.IsADirectory)
  pub forbidden : (why ≡ unreadable.Forbidden) ↔ (error ≡ kind.PermissionDenied)
  pub utf8 : (why ≡ unreadable.NotUtf8) ↔ (error ≡ kind.InvalidData)

abbrev pub SaysFile : List ℕ → ErrorKind → Reason → Type 0
SaysFile file error (reason.File path why) = (string_bytes path ≡ file) × ReadsAs error why
SaysFile file error r = ⊥

abbrev pub SaysSettings : List ℕ → BadSetting → Reason → Type 0
SaysSettings file why (reason.Settings path said) = (string_bytes path ≡ file) × (said ≡ why)
SaysSettings file why r = ⊥

abbrev pub SaysStore : List ℕ → Unopened → Reason → Type 0
SaysStore file why (reason.Store path said) = (string_bytes path ≡ file) × (said ≡ why)
SaysStore file why r = ⊥

-- the fault is this one and its reason such a one, or memory for it was wanting
abbrev pub EndsBy : Fault → (Reason → Type 0) → Early → Type 0
EndsBy f says e = ((e.fault ≡ f) × says e.reason) ⊎ (e ≡ early_of (fault.NoMemory _))
