-- Command lines: what is read is a command's object, and each such object is read.
use Rattle.std.proofs.Common.{◌≡◌, ℕ, List, Bool, true, false, Some, None, option_and_then, sym, ap, ◌∙◌, refl, Result, Ok, Err}
use Rattle.std.specs.Prelude.{IfOk, IsUtf8}
use Rattle.std.proofs.lemmas.Option.{option_and_then_some}
use Rattle.std.proofs.lemmas.Str.{IsUtf8-from_is_utf8, is_utf8-from_IsUtf8}
use Rattle.std.specs.Str.{is_utf8}
use Rattle.serde_json.specs.Data.{Data, object, Members}
use Rattle.serde_json.specs.Find.{as_object}
use Rattle.serde_json.specs.Read.{read}
use Rattle.flow_base.specs.declared.command.Command.{Command}
use Rattle.flow_base.specs.declared.command.Command.TheVariants as command
use Rattle.flow_base.specs.Limits.{IsMoment, IsPosition, IsKey, IsText, FitsValue, FitValues}
use Rattle.flow_base.proofs.Exact.{IsExactTable, map_some, nothing_exact, with_exact, whole_exact, text_exact, any_text_exact, value_exact, fixed_exact, as_object_back}
use Rattle.flow_lines.proofs.Arguments.{any_values_exact}
use Rattle.flow_lines.specs.Commands.{register, start, signal, complete, fail, tick, terminate, upgrade, describe, history, members_out, members_in, command_out, command_in, line_command, verb_in, IsCommand}
use Rattle.flow_lines.specs.Faults.{GivesCommand, GivesLine}
use Rattle.flow_lines.specs.declared.command.LineFault.{LineFault}
use Rattle.flow_lines.specs.declared.command.LineFault.TheVariants as fault
use Rattle.flow_lines.specs.declared.command.Verb.{Verb}
use Rattle.flow_lines.specs.declared.command.Verb.TheVariants as verb

register_exact : IsExactTable register (λ p. Unit {0} × (Unit {0} × Unit {0}))
register_exact = with_exact _ _ _ _ _ (fixed_exact _) (with_exact _ _ _ _ _ any_text_exact nothing_exact)

start_exact : IsExactTable start (λ p. FitValues p.0 × (IsMoment p.1.0 × (Unit {0} × (IsKey p.1.1.1.0 × (IsKey p.1.1.1.1.0 × (IsPosition p.1.1.1.1.1.0 × Unit {0}))))))
start_exact =
    with_exact _ _ _ _ _ any_values_exact (with_exact _ _ _ _ _ (whole_exact _ _) (with_exact _ _ _ _ _ (fixed_exact _) (with_exact _ _ _ _ _ (text_exact _ _)
    (with_exact _ _ _ _ _ (text_exact _ _) (with_exact _ _ _ _ _ (whole_exact _ _) nothing_exact)))))

signal_exact : IsExactTable signal (λ p. IsMoment p.0 × (Unit {0} × (IsKey p.1.1.0 × (Unit {0} × (IsKey p.1.1.1.1.0 × (FitsValue p.1.1.1.1.1.0 × Unit {0}))))))
signal_exact =
    with_exact _ _ _ _ _ (whole_exact _ _) (with_exact _ _ _ _ _ (fixed_exact _) (with_exact _ _ _ _ _ (text_exact _ _) (with_exact _ _ _ _ _ any_text_exact
    (with_exact _ _ _ _ _ (text_exact _ _) (with_exact _ _ _ _ _ value_exact nothing_exact)))))

complete_exact : IsExactTable complete (λ p. IsMoment p.0 × (IsPosition p.1.0 × (Unit {0} × (IsPosition p.1.1.1.0 × (IsPosition p.1.1.1.1.0 × (FitsValue p.1.1.1.1.1.0 × Unit {0}))))))
complete_exact =
    with_exact _ _ _ _ _ (whole_exact _ _) (with_exact _ _ _ _ _ (whole_exact _ _) (with_exact _ _ _ _ _ (fixed_exact _) (with_exact _ _ _ _ _ (whole_exact _ _)
    (with_exact _ _ _ _ _ (whole_exact _ _) (with_exact _ _ _ _ _ value_exact nothing_exact)))))

fail_exact : IsExactTable fail (λ p. IsMoment p.0 × (IsPosition p.1.0 × (Unit {0} × (IsPosition p.1.1.1.0 × (IsText p.1.1.1.1.0 × (IsPosition p.1.1.1.1.1.0 × Unit {0}))))))
fail_exact =
    with_exact _ _ _ _ _ (whole_exact _ _) (with_exact _ _ _ _ _ (whole_exact _ _) (with_exact _ _ _ _ _ (fixed_exact _) (with_exact _ _ _ _ _ (whole_exact _ _)
    (with_exact _ _ _ _ _ (text_exact _ _) (with_exact _ _ _ _ _ (whole_exact _ _) nothing_exact)))))

tick_exact : IsExactTable tick (λ p. IsMoment p.0 × (Unit {0} × Unit {0}))
tick_exact = with_exact _ _ _ _ _ (whole_exact _ _) (with_exact _ _ _ _ _ (fixed_exact _) nothing_exact)

terminate_exact : IsExactTable terminate (λ p. IsMoment p.0 × (Unit {0} × (IsText p.1.1.0 × (IsPosition p.1.1.1.0 × Unit {0}))))
terminate_exact =
    with_exact _ _ _ _ _ (whole_exact _ _) (with_exact _ _ _ _ _ (fixed_exact _) (with_exact _ _ _ _ _ (text_exact _ _)
    (with_exact _ _ _ _ _ (whole_exact _ _) nothing_exact)))

upgrade_exact : IsExactTable upgrade (λ p. Unit {0} × (IsPosition p.1.0 × (IsPosition p.1.1.0 × Unit {0})))
upgrade_exact = with_exact _ _ _ _ _ (fixed_exact _) (with_exact _ _ _ _ _ (whole_exact _ _) (with_exact _ _ _ _ _ (whole_exact _ _) nothing_exact))

describe_exact : IsExactTable describe (λ p. Unit {0} × (IsPosition p.1.0 × Unit {0}))
describe_exact = with_exact _ _ _ _ _ (fixed_exact _) (with_exact _ _ _ _ _ (whole_exact _ _) nothing_exact)

history_exact : IsExactTable history (λ p. Unit {0} × (IsPosition p.1.0 × Unit {0}))
history_exact = with_exact _ _ _ _ _ (fixed_exact _) (with_exact _ _ _ _ _ (whole_exact _ _) nothing_exact)

along : (ms : Members) (a b : Command) → a ≡ b → ms ≡ members_out a → ms ≡ members_out b
along ms a b e h = h ∙ ap members_out e

members_back : (v : Verb) (ms : Members) (c : Command) → members_in v ms ≡ Some c → ms ≡ members_out c
members_back verb.Register ms c e = map_some _ (register.read ms) c e (λ p reads is. along ms _ c is (register_exact.back ms p reads))
members_back verb.Start ms c e = map_some _ (start.read ms) c e (λ p reads is. along ms _ c is (start_exact.back ms p reads))
members_back verb.Signal ms c e = map_some _ (signal.read ms) c e (λ p reads is. along ms _ c is (signal_exact.back ms p reads))
members_back verb.Complete ms c e = map_some _ (complete.read ms) c e (λ p reads is. along ms _ c is (complete_exact.back ms p reads))
members_back verb.Fail ms c e = map_some _ (fail.read ms) c e (λ p reads is. along ms _ c is (fail_exact.back ms p reads))
members_back verb.Tick ms c e = map_some _ (tick.read ms) c e (λ p reads is. along ms _ c is (tick_exact.back ms p reads))
members_back verb.Terminate ms c e = map_some _ (terminate.read ms) c e (λ p reads is. along ms _ c is (terminate_exact.back ms p reads))
members_back verb.Upgrade ms c e = map_some _ (upgrade.read ms) c e (λ p reads is. along ms _ c is (upgrade_exact.back ms p reads))
members_back verb.Describe ms c e = map_some _ (describe.read ms) c e (λ p reads is. along ms _ c is (describe_exact.back ms p reads))
members_back verb.History ms c e = map_some _ (history.read ms) c e (λ p reads is. along ms _ c is (history_exact.back ms p reads))

command_back : (d : Data) (c : Command) → command_in d ≡ Some c → d ≡ command_out c
command_back d c e =
    option_and_then_some (λ v. option_and_then (members_in v) (as_object d)) (verb_in d) c e (λ v _ inside.
    option_and_then_some (members_in v) (as_object d) c inside (λ ms is_object says.
    as_object_back d ms is_object ∙ ap object (members_back v ms c says)))

command_there : (c : Command) → IsCommand c → command_in (command_out c) ≡ Some c
command_there (command.Register src) f = refl
command_there (command.Start s) f =
    rw (start_exact.there (s.arguments, (s.at, (tt, (s.flow, (s.request, (s.text, tt)))))) (f.3, (f.4, (tt, (f.1, (f.0, (f.2, tt))))))) refl
command_there (command.Signal req flow name v at) f =
    rw (signal_exact.there (at, (tt, (flow, (name, (req, (v, tt)))))) (f.3, (tt, (f.1, (tt, (f.0, (f.2, tt))))))) refl
command_there (command.Complete c) f =
    rw (complete_exact.there (c.at, (c.attempt, (tt, (c.event, (c.run, (c.value, tt)))))) (f.4, (f.2, (tt, (f.1, (f.0, (f.3, tt))))))) refl
command_there (command.Fail x) f =
    rw (fail_exact.there (x.at, (x.attempt, (tt, (x.event, (x.reason, (x.run, tt)))))) (f.4, (f.2, (tt, (f.1, (f.3, (f.0, tt))))))) refl
command_there (command.Tick at) f = rw (tick_exact.there (at, (tt, tt)) (f, (tt, tt))) refl
command_there (command.Terminate run reason at) f = rw (terminate_exact.there (at, (tt, (reason, (run, tt)))) (f.2, (tt, (f.1, (f.0, tt))))) refl
command_there (command.Upgrade run text) f = rw (upgrade_exact.there (tt, (run, (text, tt))) (tt, (f.0, (f.1, tt)))) refl
command_there (command.Describe run) f = rw (describe_exact.there (tt, (run, tt)) (tt, (f, tt))) refl
command_there (command.History run) f = rw (history_exact.there (tt, (run, tt)) (tt, (f, tt))) refl
command_there (command.Open from most) f = absurd f

line_back : (line : List ℕ) (c : Command) → option_and_then command_in (read line) ≡ Some c → read line ≡ Some (command_out c)
line_back line c e = option_and_then_some command_in (read line) c e (λ d reads says. reads ∙ ap Some (command_back d c says))

line_there : (line : List ℕ) (c : Command) → IsCommand c → read line ≡ Some (command_out c) → option_and_then command_in (read line) ≡ Some c
line_there line c f e = rw e (command_there c f)

-- what is read is the object of that command
pub found : (r : Result Command LineFault) (line : List ℕ) → IfOk r (λ c. IsUtf8 line × (option_and_then command_in (read line) ≡ Some c))
    → IfOk r (λ c. IsUtf8 line × (read line ≡ Some (command_out c)))
found (Ok c) line h = (h.0, line_back line c h.1)
found (Err e) line h = tt

-- a reader that answers by `command_in` reads each command's line
pub only : (r : Result Command LineFault) (line : List ℕ) → IfOk r (λ c. IsUtf8 line × (option_and_then command_in (read line) ≡ Some c))
    → (r ≡ Err fault.NotACommand → IsUtf8 line → option_and_then command_in (read line) ≡ None)
    → (c : Command) → IsCommand c → IsUtf8 line → read line ≡ Some (command_out c) → GivesCommand r c
only (Ok x) line ok unfit c fits utf8 reads = let e : Some x ≡ Some c = sym ok.1 ∙ line_there line c fits reads in cc
only (Err (fault.NoMemory _)) line ok unfit c fits utf8 reads = refl
only (Err fault.NotACommand) line ok unfit c fits utf8 reads = let e : None ≡ Some c = sym (unfit refl utf8) ∙ line_there line c fits reads in absurd (cc)

none_given : (b : Bool) (line : List ℕ) → is_utf8 line ≡ b → (IsUtf8 line → option_and_then command_in (read line) ≡ None) → line_command line ≡ None
none_given true line is h = rw is (h (IsUtf8-from_is_utf8 line is))
none_given false line is h = rw is refl

-- such a reader gives what the line is
pub exactly : (r : Result Command LineFault) (line : List ℕ) → IfOk r (λ c. IsUtf8 line × (option_and_then command_in (read line) ≡ Some c))
    → (r ≡ Err fault.NotACommand → IsUtf8 line → option_and_then command_in (read line) ≡ None) → GivesLine r (line_command line)
exactly (Ok c) line ok unfit = rw (is_utf8-from_IsUtf8 line ok.0) ok.1
exactly (Err (fault.NoMemory _)) line ok unfit = tt
exactly (Err fault.NotACommand) line ok unfit = none_given (is_utf8 line) line refl (unfit refl)
