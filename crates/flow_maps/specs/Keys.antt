-- The names by which runs are found, and what an index says of them.
use Rattle.std.specs.Prelude.{◌≡◌, ℕ, Bool, true, false, Option, Some, None, bytes_eq, if◌then◌else◌}
use Rattle.flow_base.specs.Syntax.{Bytes}
use Rattle.flow_base.specs.declared.book.Run.{Run}
use Rattle.flow_maps.specs.Agenda.{is_open_run}
use Rattle.flow_maps.specs.Names.{at_name}
use Rattle.flow_maps.specs.declared.index.Index.{Index}

-- whether a run that has this name, or none, has that one
abbrev pub is_key : Bytes → Option Bytes → Bool
is_key q None = false
is_key q (Some k) = bytes_eq k q

-- a run is found by its request, if it has one
abbrev pub request_key : Run → Option Bytes
request_key r = r.request

-- a name where it counts
abbrev pub key_if : Bool → Bytes → Option Bytes
key_if b flow = if b then Some flow else None

-- and by its flow, as long as it is open
abbrev pub open_key : Run → Option Bytes
open_key r = key_if (is_open_run r) r.flow

-- the name of a run, if it is there
abbrev pub name_of : (Run → Option Bytes) → Option Run → Option Bytes
name_of key None = None
name_of key (Some r) = key r

-- the name q is that of the run of this number and of no other one; none where none has it
abbrev pub IsFound : Option ℕ → Bytes → (ℕ → Option Bytes) → Type 0
IsFound None q f = (n : ℕ) → is_key q (f n) ≡ false
IsFound (Some m) q f = (is_key q (f m) ≡ true) × ((n : ℕ) → is_key q (f n) ≡ true → n ≡ m)

-- The numbers are those of the runs with these names, each of which one run has.
abbrev pub IsIndex : Index → (ℕ → Option Bytes) → Type 0
IsIndex m f = (q : Bytes) → IsFound (at_name m.map q) q f
