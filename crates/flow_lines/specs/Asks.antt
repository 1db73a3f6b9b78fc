-- Lines that ask: which runs are open. No line of commands is one, since each has exactly its keys.
use Rattle.std.specs.Prelude.{ℕ, List, Option, None, codes, option_map, option_and_then, if◌then◌else◌}
use Rattle.std.specs.Str.{is_utf8}
use Rattle.serde_json.specs.Data.{Data, object, Members}
use Rattle.serde_json.specs.Find.{as_object}
use Rattle.serde_json.specs.Read.{read}
use Rattle.flow_base.specs.Codec.{Table, with, nothing}
use Rattle.flow_base.specs.Leaves.{position, whole, fixed}
use Rattle.flow_base.specs.declared.command.Command.{Command}
use Rattle.flow_base.specs.declared.command.Command.TheVariants as command

-- the keys in their byte order
abbrev pub asks : Table (Unit {0} × (ℕ × (ℕ × Unit {0})))
asks = with (codes "ask") (fixed (codes "open")) (with (codes "from") position (with (codes "most") (whole 1 256) nothing))

abbrev pub asked_members : Members → Option Command
asked_members ms = option_map (λ p. command.Open p.1.0 p.1.1.0) (asks.read ms)

-- the question that a JSON value is: an object with exactly its keys, each within its limits
abbrev pub asked_in : Data → Option Command
asked_in d = option_and_then asked_members (as_object d)

-- the JSON object of a question
abbrev pub asked_out : ℕ → ℕ → Data
asked_out from most = object (asks.write (tt, (from, (most, tt))))

-- the question that a line is
abbrev pub line_asked : List ℕ → Option Command
line_asked line = if is_utf8 line then option_and_then asked_in (read line) else None
