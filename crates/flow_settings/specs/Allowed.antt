-- Which texts give settings, and which.
use Rattle.std.specs.Prelude.{ℕ, pos, List, Bool, true, ◌≤◌, ◌&&◌, ◌||◌, nat_le, bytes_eq, codes, Option, Some, None, option_and_then, if◌then◌else◌}
use Rattle.toml.specs.Data.{Data, integer, Members, no_members, member, get_member}
use Rattle.toml.specs.Parse.{parse_document}

-- how many commands a batch has at most, how many threads run activities, and how many positions are kept
pub record Chosen : Type 0 where
  pub batch : ℕ
  pub workers : ℕ
  pub cache : ℕ

abbrev pub chosen : ℕ → ℕ → ℕ → Chosen
chosen batch workers cache = record { batch = batch; workers = workers; cache = cache }

-- a number from 1 to the most
abbrev pub is_within : ℕ → ℕ → Bool
is_within most n = nat_le 1 n && nat_le n most

abbrev pub IsInRange : Chosen → Type 0
IsInRange c = (1 ≤ c.batch) × (c.batch ≤ 64) × (1 ≤ c.workers) × (c.workers ≤ 16) × (1 ≤ c.cache) × (c.cache ≤ 4096)

-- a value that is a whole number from 1 to the most
abbrev pub whole_to : ℕ → Data → Option ℕ
whole_to most (integer (pos n)) = if is_within most n then Some n else None
whole_to most _ = None

-- what stands at a key, and the usual number where the key is missing
abbrev pub or_usual : ℕ → ℕ → Option Data → Option ℕ
or_usual most usual None = Some usual
or_usual most usual (Some d) = whole_to most d

abbrev pub setting : List ℕ → ℕ → ℕ → Members → Option ℕ
setting key most usual ms = or_usual most usual (get_member key ms)

-- a key that settings have
abbrev pub is_known : List ℕ → Bool
is_known key = bytes_eq key (codes "batch") || bytes_eq key (codes "workers") || bytes_eq key (codes "cache")

-- no other key stands there
abbrev pub knows_all : Members → Bool
knows_all no_members = true
knows_all (member key d ms) = is_known key && knows_all ms

-- the three numbers
abbrev pub all_chosen : Option ℕ → Option ℕ → Option ℕ → Option Chosen
all_chosen (Some batch) (Some workers) (Some cache) = Some (chosen batch workers cache)
all_chosen _ _ _ = None

-- the settings of a table
abbrev pub settings_of : Members → Option Chosen
settings_of ms =
    if knows_all ms then all_chosen (setting (codes "batch") 64 16 ms) (setting (codes "workers") 16 4 ms) (setting (codes "cache") 4096 256 ms) else None

-- the settings of a text
abbrev pub settings_in : List ℕ → Option Chosen
settings_in text = option_and_then settings_of (parse_document text)
