-- The words of a command line, as clap reads them.
use Rattle.std.specs.Prelude.{◌≡◌, ℕ, Bool, List, [], ◌∷◌, Option, Some, None, codes, option_map, option_and_then, bytes_eq, true, false, if◌then◌else◌}
use Rattle.clap.specs.Words.{App, Row, Rule, Text, first_of, fault_of, new_app, new_rule, subcommand_of, with_rule, with_subcommand}
use Rattle.clap.specs.declared.builder.ArgAction.TheVariants.{Set, SetTrue}
use Rattle.clap.specs.Simple.{on_top}
use Rattle.clap.specs.ValueTests.{is_unsigned_in}
use Rattle.std.specs.Str.Parse.{digits_value, without_leading_plus}

-- ---- the program: `flow check FILE`, `flow drive DB [--batch N] [--cache N]`, `flow history DB RUN`, `flow open DB`, `flow replay FILE HISTORY`,
-- ---- `flow safe OLD NEW`, `flow serve DB [--settings FILE]`, `flow settle OLD NEW`, `flow verify DB` and `flow work DB [--settings FILE] [--leave-unknown]`

-- an argument with one value, which has to be there
abbrev pub needed : Text → Rule
needed id = record (new_rule id) { required = true; action = Some Set }

-- a call with one such argument, or with two
abbrev pub with_one : Text → Text → App
with_one name id = with_rule (new_app name) (needed id)

abbrev pub with_two : Text → Text → Text → App
with_two name first second = with_rule (with_one name first) (needed second)

abbrev pub check : App
check = with_one (codes "check") (codes "FILE")

abbrev pub safe : App
safe = with_two (codes "safe") (codes "OLD") (codes "NEW")

abbrev pub settle : App
settle = with_two (codes "settle") (codes "OLD") (codes "NEW")

abbrev pub replay : App
replay = with_two (codes "replay") (codes "FILE") (codes "HISTORY")

-- a call over a store
abbrev pub over_base : Text → App
over_base name = with_one name (codes "DB")

-- how many commands are applied together; one where nothing is said
abbrev pub batch : Rule
batch = record (new_rule (codes "batch")) { long = Some (codes "batch"); defaults = codes "1" ∷ []; action = Some Set }

-- how many positions of runs are kept in memory; 256 where nothing is said
abbrev pub cache : Rule
cache = record (new_rule (codes "cache")) { long = Some (codes "cache"); defaults = codes "256" ∷ []; action = Some Set }

abbrev pub drive : App
drive = with_rule (with_rule (over_base (codes "drive")) batch) cache

abbrev pub history : App
history = with_two (codes "history") (codes "DB") (codes "RUN")

abbrev pub verify : App
verify = over_base (codes "verify")

-- the call `open`
abbrev pub listing : App
listing = over_base (codes "open")

-- the file with the settings, which may be left out
abbrev pub settings : Rule
settings = record (new_rule (codes "settings")) { long = Some (codes "settings"); action = Some Set }

-- a word by which activities that the program doesn't have are left alone
abbrev pub leave_unknown : Rule
leave_unknown = record (new_rule (codes "leave-unknown")) { long = Some (codes "leave-unknown"); action = Some SetTrue }

abbrev pub work : App
work = with_rule (with_rule (over_base (codes "work")) settings) leave_unknown

abbrev pub serve : App
serve = with_rule (over_base (codes "serve")) settings

-- the program with the calls that check texts
abbrev pub over_texts : App
over_texts = with_subcommand (with_subcommand (on_top (λ s. record s { subcommand_required = true }) (new_app (codes "flow"))) check.top) safe.top

-- with all that read files alone
abbrev pub over_files : App
over_files = with_subcommand (with_subcommand over_texts settle.top) replay.top

-- with those that read and write lines over a store
abbrev pub over_lines : App
over_lines = with_subcommand (with_subcommand over_files drive.top) history.top

-- with all that answer what is asked and end
abbrev pub answering : App
answering = with_subcommand (with_subcommand over_lines verify.top) listing.top

-- with all calls
abbrev pub flow : App
flow = with_subcommand (with_subcommand answering work.top) serve.top

-- ---- a call, without where its texts lie in memory

pub data Call : Type 0 where
  Check : Text → Call
  Safe : (old new : Text) → Call
  Settle : (old new : Text) → Call
  Replay : (file history : Text) → Call
  Drive : Text → (most kept : ℕ) → Call
  History : Text → ℕ → Call
  Open : Text → Call
  Verify : Text → Call
  Work : Text → Option Text → Bool → Call
  Serve : Text → Option Text → Call

-- the number that a word names: digits, perhaps behind a plus, from 1 to the last one
abbrev pub number_in : ℕ → Text → Option ℕ
number_in last word = if is_unsigned_in 1 last word then Some (digits_value 10 (without_leading_plus word)) else None

abbrev pub run_in : Text → Option ℕ
run_in word = number_in 9223372036854775807 word

abbrev pub batch_in : Text → Option ℕ
batch_in word = number_in 64 word

abbrev pub cache_in : Text → Option ℕ
cache_in word = number_in 4096 word

abbrev pub safe_in : List Row → Option Call
safe_in rows = option_and_then (λ old. option_map (Safe old) (first_of (codes "NEW") rows)) (first_of (codes "OLD") rows)

abbrev pub settle_in : List Row → Option Call
settle_in rows = option_and_then (λ old. option_map (Settle old) (first_of (codes "NEW") rows)) (first_of (codes "OLD") rows)

abbrev pub replay_in : List Row → Option Call
replay_in rows = option_and_then (λ file. option_map (Replay file) (first_of (codes "HISTORY") rows)) (first_of (codes "FILE") rows)

abbrev pub drive_in : List Row → Option Call
drive_in rows = option_and_then (λ base. option_and_then (λ most. option_map (Drive base most) (option_and_then cache_in (first_of (codes "cache") rows))) (option_and_then batch_in (first_of (codes "batch") rows))) (first_of (codes "DB") rows)

abbrev pub history_in : List Row → Option Call
history_in rows = option_and_then (λ base. option_and_then (λ word. option_map (History base) (run_in word)) (first_of (codes "RUN") rows)) (first_of (codes "DB") rows)

-- clap gives a word that stands alone the value `true`
abbrev pub is_set : Option Text → Bool
is_set None = false
is_set (Some value) = bytes_eq value (codes "true")

abbrev pub work_in : List Row → Option Call
work_in rows = option_map (λ base. Work base (first_of (codes "settings") rows) (is_set (first_of (codes "leave-unknown") rows))) (first_of (codes "DB") rows)

abbrev pub serve_in : List Row → Option Call
serve_in rows = option_map (λ base. Serve base (first_of (codes "settings") rows)) (first_of (codes "DB") rows)

abbrev pub named_call : Text → List Row → Option Call
named_call name rows =
    if bytes_eq name (codes "check") then option_map Check (first_of (codes "FILE") rows) else
    (if bytes_eq name (codes "drive") then drive_in rows else
    (if bytes_eq name (codes "history") then history_in rows else
    (if bytes_eq name (codes "open") then option_map Open (first_of (codes "DB") rows) else
    (if bytes_eq name (codes "replay") then replay_in rows else
    (if bytes_eq name (codes "safe") then safe_in rows else
    (if bytes_eq name (codes "serve") then serve_in rows else
    (if bytes_eq name (codes "settle") then settle_in rows else
    (if bytes_eq name (codes "verify") then option_map Verify (first_of (codes "DB") rows) else
    (if bytes_eq name (codes "work") then work_in rows else None)))))))))

-- the call that clap's matches of the words are
abbrev pub call_in : List Text → Option Call
call_in words = option_and_then (λ p. named_call p.0 p.1) (subcommand_of flow words)

-- clap takes the words, and they are that call
pub record IsCall (words : List Text) (call : Call) : Type 0 where
  pub taken : fault_of flow words ≡ []
  pub says : call_in words ≡ Some call
