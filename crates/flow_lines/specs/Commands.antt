-- Command lines: the members of each command, in the byte order of their keys.
use Rattle.std.specs.Prelude.{ℕ, List, [], ◌∷◌, Option, None, codes, option_map, option_and_then, if◌then◌else◌}
use Rattle.std.specs.Str.{is_utf8}
use Rattle.serde_json.specs.Data.{Data, object, Members, no_members}
use Rattle.serde_json.specs.Find.{as_object, as_str, get}
use Rattle.serde_json.specs.Read.{read}
use Rattle.flow_base.specs.Codec.{Table, with, nothing}
use Rattle.flow_base.specs.Leaves.{moment, position, key, long_text, value, any_values, any_text, fixed}
use Rattle.flow_base.specs.Limits.{IsMoment, IsPosition, IsKey, IsText, FitsValue, FitValues}
use Rattle.flow_base.specs.Names.{first_named}
use Rattle.flow_base.specs.declared.value.Value.{Value}
use Rattle.flow_base.specs.declared.command.Command.{Command}
use Rattle.flow_base.specs.declared.command.Command.TheVariants as command
use Rattle.flow_lines.specs.declared.command.Verb.{Verb}
use Rattle.flow_lines.specs.declared.command.Verb.TheVariants as verb

-- ---- the word under `do`

abbrev pub verb_name : Verb → List ℕ
verb_name verb.Register = codes "register"
verb_name verb.Start = codes "start"
verb_name verb.Signal = codes "signal"
verb_name verb.Complete = codes "complete"
verb_name verb.Fail = codes "fail"
verb_name verb.Tick = codes "tick"
verb_name verb.Terminate = codes "terminate"
verb_name verb.Upgrade = codes "upgrade"
verb_name verb.Describe = codes "describe"
verb_name verb.History = codes "history"

abbrev pub verbs : List Verb
verbs = verb.Register ∷ verb.Start ∷ verb.Signal ∷ verb.Complete ∷ verb.Fail ∷ verb.Tick ∷ verb.Terminate ∷ verb.Upgrade ∷ verb.Describe ∷ verb.History ∷ []

abbrev pub verb_named : List ℕ → Option Verb
verb_named = first_named verb_name verbs

-- ---- the keys, each with what stands there

abbrev pub register : Table (Unit {0} × (List ℕ × Unit {0}))
register = with (codes "do") (fixed (codes "register")) (with (codes "src") any_text nothing)

abbrev pub start : Table (List Value × (ℕ × (Unit {0} × (List ℕ × (List ℕ × (ℕ × Unit {0}))))))
start =
    with (codes "args") any_values (with (codes "at") moment (with (codes "do") (fixed (codes "start")) (with (codes "flow") key
    (with (codes "req") key (with (codes "text") position nothing)))))

abbrev pub signal : Table (ℕ × (Unit {0} × (List ℕ × (List ℕ × (List ℕ × (Value × Unit {0}))))))
signal =
    with (codes "at") moment (with (codes "do") (fixed (codes "signal")) (with (codes "flow") key (with (codes "name") any_text
    (with (codes "req") key (with (codes "value") value nothing)))))

abbrev pub complete : Table (ℕ × (ℕ × (Unit {0} × (ℕ × (ℕ × (Value × Unit {0}))))))
complete =
    with (codes "at") moment (with (codes "attempt") position (with (codes "do") (fixed (codes "complete")) (with (codes "event") position
    (with (codes "run") position (with (codes "value") value nothing)))))

abbrev pub fail : Table (ℕ × (ℕ × (Unit {0} × (ℕ × (List ℕ × (ℕ × Unit {0}))))))
fail =
    with (codes "at") moment (with (codes "attempt") position (with (codes "do") (fixed (codes "fail")) (with (codes "event") position
    (with (codes "reason") long_text (with (codes "run") position nothing)))))

abbrev pub tick : Table (ℕ × (Unit {0} × Unit {0}))
tick = with (codes "at") moment (with (codes "do") (fixed (codes "tick")) nothing)

abbrev pub terminate : Table (ℕ × (Unit {0} × (List ℕ × (ℕ × Unit {0}))))
terminate =
    with (codes "at") moment (with (codes "do") (fixed (codes "terminate")) (with (codes "reason") long_text (with (codes "run") position nothing)))

abbrev pub upgrade : Table (Unit {0} × (ℕ × (ℕ × Unit {0})))
upgrade = with (codes "do") (fixed (codes "upgrade")) (with (codes "run") position (with (codes "text") position nothing))

abbrev pub describe : Table (Unit {0} × (ℕ × Unit {0}))
describe = with (codes "do") (fixed (codes "describe")) (with (codes "run") position nothing)

abbrev pub history : Table (Unit {0} × (ℕ × Unit {0}))
history = with (codes "do") (fixed (codes "history")) (with (codes "run") position nothing)

-- ---- commands

-- the members of a command
abbrev pub members_out : Command → Members
members_out (command.Register src) = register.write (tt, (src, tt))
members_out (command.Start s) = start.write (s.arguments, (s.at, (tt, (s.flow, (s.request, (s.text, tt))))))
members_out (command.Signal req flow name v at) = signal.write (at, (tt, (flow, (name, (req, (v, tt))))))
members_out (command.Complete c) = complete.write (c.at, (c.attempt, (tt, (c.event, (c.run, (c.value, tt))))))
members_out (command.Fail f) = fail.write (f.at, (f.attempt, (tt, (f.event, (f.reason, (f.run, tt))))))
members_out (command.Tick at) = tick.write (at, (tt, tt))
members_out (command.Terminate run reason at) = terminate.write (at, (tt, (reason, (run, tt))))
members_out (command.Upgrade run text) = upgrade.write (tt, (run, (text, tt)))
members_out (command.Describe run) = describe.write (tt, (run, tt))
members_out (command.History run) = history.write (tt, (run, tt))
-- no line of commands spells it
members_out (command.Open from most) = no_members

-- what members say, if they are those of a command with this word
abbrev pub members_in : Verb → Members → Option Command
members_in verb.Register ms = option_map (λ p. command.Register p.1.0) (register.read ms)
members_in verb.Start ms =
    option_map (λ p. command.Start (record { request = p.1.1.1.1.0; flow = p.1.1.1.0; text = p.1.1.1.1.1.0; arguments = p.0; at = p.1.0 })) (start.read ms)
members_in verb.Signal ms = option_map (λ p. command.Signal p.1.1.1.1.0 p.1.1.0 p.1.1.1.0 p.1.1.1.1.1.0 p.0) (signal.read ms)
members_in verb.Complete ms =
    option_map (λ p. command.Complete (record { run = p.1.1.1.1.0; event = p.1.1.1.0; attempt = p.1.0; value = p.1.1.1.1.1.0; at = p.0 })) (complete.read ms)
members_in verb.Fail ms =
    option_map (λ p. command.Fail (record { run = p.1.1.1.1.1.0; event = p.1.1.1.0; attempt = p.1.0; reason = p.1.1.1.1.0; at = p.0 })) (fail.read ms)
members_in verb.Tick ms = option_map (λ p. command.Tick p.0) (tick.read ms)
members_in verb.Terminate ms = option_map (λ p. command.Terminate p.1.1.1.0 p.1.1.0 p.0) (terminate.read ms)
members_in verb.Upgrade ms = option_map (λ p. command.Upgrade p.1.0 p.1.1.0) (upgrade.read ms)
members_in verb.Describe ms = option_map (λ p. command.Describe p.1.0) (describe.read ms)
members_in verb.History ms = option_map (λ p. command.History p.1.0) (history.read ms)

-- the JSON object of a command
abbrev pub command_out : Command → Data
command_out c = object (members_out c)

-- the word that stands under `do`
abbrev pub verb_in : Data → Option Verb
verb_in d = option_and_then verb_named (option_and_then as_str (get (codes "do") d))

-- the command that a JSON value is: an object with exactly its keys, each within its limits
abbrev pub command_in : Data → Option Command
command_in d = option_and_then (λ v. option_and_then (members_in v) (as_object d)) (verb_in d)

-- the command that a line is
abbrev pub line_command : List ℕ → Option Command
line_command line = if is_utf8 line then option_and_then command_in (read line) else None

-- within the limits of lines
abbrev pub IsCommand : Command → Type 0
IsCommand (command.Register src) = Unit {0}
IsCommand (command.Start s) = IsKey s.request × IsKey s.flow × IsPosition s.text × FitValues s.arguments × IsMoment s.at
IsCommand (command.Signal req flow name v at) = IsKey req × IsKey flow × FitsValue v × IsMoment at
IsCommand (command.Complete c) = IsPosition c.run × IsPosition c.event × IsPosition c.attempt × FitsValue c.value × IsMoment c.at
IsCommand (command.Fail f) = IsPosition f.run × IsPosition f.event × IsPosition f.attempt × IsText f.reason × IsMoment f.at
IsCommand (command.Tick at) = IsMoment at
IsCommand (command.Terminate run reason at) = IsPosition run × IsText reason × IsMoment at
IsCommand (command.Upgrade run text) = IsPosition run × IsPosition text
IsCommand (command.Describe run) = IsPosition run
IsCommand (command.History run) = IsPosition run
IsCommand (command.Open from most) = ⊥
