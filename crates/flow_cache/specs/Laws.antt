-- What all positions have that are given to keep, each has that is found.
use Rattle.std.specs.Prelude.{ℕ, Contains}
use Rattle.flow_run.specs.declared.stance.Stance.{Stance}
use Rattle.flow_cache.specs.declared.positions.Entry.{Entry}
use Rattle.flow_cache.specs.Entries.{Entries, Kept, IsKept, used, with_entry}

-- what may hold of the position of a run
abbrev pub Rule : Type 1
Rule = ℕ → Entry → Type 0

-- each entry has it
abbrev pub AllHave : Rule → Entries → Type 0
AllHave P es = (run : ℕ) (e : Entry) → Contains es (run, e) → P run e

-- one that is found has it
abbrev pub FoundHasIt : Rule → Type 0
FoundHasIt P =
    (es : Entries) (run text events : ℕ) (s : Stance) → AllHave P es → IsKept es run text events s → P run (record { text = text; stance = s })

-- and so have all where one has been used
abbrev pub UsedHaveIt : Rule → Type 0
UsedHaveIt P = (run : ℕ) (es : Entries) → AllHave P es → AllHave P (used run es)

-- and all beside one more that has it
abbrev pub KeptHaveIt : Rule → Type 0
KeptHaveIt P = (run : ℕ) (e : Entry) (k : Kept) → AllHave P k.entries → P run e → AllHave P (with_entry run e k).entries
