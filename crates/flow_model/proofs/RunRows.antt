-- The definitions of a run on worked rows, by computation: the commands of each turn of a fresh run.
use Rattle.std.proofs.Common.{◌≡◌, ℕ, List, [], ◌∷◌, Option, Some, None, refl}
use Rattle.std.specs.Prelude.{codes, pos}
use Rattle.flow_base.specs.Syntax.{Bytes, Expression, Number, Literal, Variable, Combine, Statement, Let, Assign, Call, WaitSignalFor, While, Parallel, Patch, Deprecate, Return, block_of, once, NoElse, NoBranch, Branch, Declared, Activity, Signal, Program}
use Rattle.flow_base.specs.declared.syntax.Binary.TheVariants.{Less, Add}
use Rattle.flow_base.specs.declared.syntax.Parameter.{Parameter}
use Rattle.flow_base.specs.declared.value.Value.TheVariants.{Int, Text}
use Rattle.flow_base.specs.declared.value.Kind.TheVariants as kind
use Rattle.flow_base.specs.declared.event.Cause.TheVariants.{Arith, TurnBudget}
use Rattle.flow_base.specs.declared.event.Cmd.{Cmd}
use Rattle.flow_base.specs.declared.event.Cmd.TheVariants.{Schedule, StartTimer, CancelTimer, RecordMarker, Complete, Fail}
use Rattle.flow_base.specs.declared.event.Input.{Input}
use Rattle.flow_base.specs.declared.event.Input.TheVariants.{Started, Signaled, ActivityCompleted, TimerFired}
use Rattle.flow_base.specs.declared.event.What.TheVariants.{Asked}
use Rattle.flow_base.specs.declared.event.Wrong.TheVariants.{MissingEvent}
use Rattle.flow_model.specs.Configuration.{Configuration, first_configuration}
use Rattle.flow_model.specs.Turn.{Fresh, Recorded}
use Rattle.flow_model.specs.Turned.{turned}
use Rattle.flow_model.specs.Stands.{FirstMismatch}

-- the commands of the turns of these inputs, each at its moment
abbrev and_then : Option (List Cmd × Configuration) → (Configuration → List (List Cmd)) → List (List Cmd)
and_then None f = []
and_then (Some x) f = x.0 ∷ f x.1

abbrev fresh_run : Program → Configuration → List (ℕ × Input) → List (List Cmd)
fresh_run p k [] = []
fresh_run p k (x ∷ xs) = and_then (turned p Fresh k x.0 x.1) (λ q. fresh_run p q xs)

abbrev program : List Parameter → List Declared → List Statement → Program
program parameters declarations body =
    record { at = 0; name = codes "p"; parameters = parameters; parameters_end = 0; declarations = declarations; body = block_of body; body_end = 0 }

abbrev number : ℕ → Expression
number n = Number 0 (pos n)

abbrev variable : Bytes → Expression
variable x = Variable 0 x

abbrev let_be : Bytes → Expression → Statement
let_be x e = Let 0 0 x e

abbrev call : Bytes → Bytes → List Expression → Statement
call x a es = Call 0 x 0 a es once NoElse

abbrev n_of_int : List Parameter
n_of_int = record { at = 0; name = codes "n"; kind = kind.Int } ∷ []

-- { activity c(int, text) -> int; let r = 0; r = call c(n, "eur"); return r + 1; }
abbrev A : Program
A = program n_of_int (Activity 0 0 (codes "c") (record { at = 0; kind = kind.Int } ∷ record { at = 0; kind = kind.Text } ∷ []) kind.Int ∷ [])
    (let_be (codes "r") (number 0) ∷ call (codes "r") (codes "c") (variable (codes "n") ∷ Literal 0 (codes "eur") ∷ []) ∷ Return 0 (Combine Add (variable (codes "r")) (number 1)) ∷ [])

abbrev asks_c : List Cmd
asks_c = Schedule (codes "c") (Int (pos 7) ∷ Text (codes "eur") ∷ []) 1 0 kind.Int ∷ []

call_completes : fresh_run A first_configuration ((1000, Started (Int (pos 7) ∷ [])) ∷ (1500, ActivityCompleted 2 (Int (pos 41))) ∷ []) ≡ asks_c ∷ (Complete (Int (pos 42)) ∷ []) ∷ []
unfolding turned
call_completes = refl

-- {}
empty_completes : fresh_run (program [] [] []) first_configuration ((0, Started []) ∷ []) ≡ (Complete (Text []) ∷ []) ∷ []
unfolding turned
empty_completes = refl

sum_leaves_64_bits : fresh_run A first_configuration ((1000, Started (Int (pos 7) ∷ [])) ∷ (1500, ActivityCompleted 2 (Int (pos 9223372036854775807))) ∷ []) ≡ asks_c ∷ (Fail Arith [] ∷ []) ∷ []
unfolding turned
sum_leaves_64_bits = refl

-- a value of another type isn't awaited
wrong_type_isnt_awaited : fresh_run A first_configuration ((1000, Started (Int (pos 7) ∷ [])) ∷ (1500, ActivityCompleted 2 (Text (codes "41"))) ∷ []) ≡ asks_c ∷ []
unfolding turned
wrong_type_isnt_awaited = refl

abbrev f : Declared
f = Activity 0 0 (codes "f") (record { at = 0; kind = kind.Int } ∷ []) kind.Int

abbrev call_f : ℕ → Bytes → Statement
call_f n x = call x (codes "f") (number n ∷ [])

abbrev asks_f : ℕ → Cmd
asks_f n = Schedule (codes "f") (Int (pos n) ∷ []) 1 0 kind.Int

-- { activity f(int) -> int; let x = 0; let y = 0; parallel { { x = call f(1); } { y = call f(2); y = call f(3); } } return x + y; }
abbrev C : Program
C = program [] (f ∷ []) (let_be (codes "x") (number 0) ∷ let_be (codes "y") (number 0)
    ∷ Parallel 0 (Branch 0 (block_of (call_f 1 (codes "x") ∷ [])) 0 (Branch 0 (block_of (call_f 2 (codes "y") ∷ call_f 3 (codes "y") ∷ [])) 0 NoBranch)) 0
    ∷ Return 0 (Combine Add (variable (codes "x")) (variable (codes "y"))) ∷ [])

branches_side_by_side : fresh_run C first_configuration ((0, Started []) ∷ (0, ActivityCompleted 3 (Int (pos 20))) ∷ (0, ActivityCompleted 2 (Int (pos 10))) ∷ (0, ActivityCompleted 5 (Int (pos 30))) ∷ [])
    ≡ (asks_f 1 ∷ asks_f 2 ∷ []) ∷ (asks_f 3 ∷ []) ∷ [] ∷ (Complete (Int (pos 40)) ∷ []) ∷ []
unfolding turned
branches_side_by_side = refl

abbrev wait_or_late : Statement
wait_or_late = WaitSignalFor 0 (codes "v") 0 (codes "s") (number 100) (block_of (Assign 0 (codes "v") (Literal 0 (codes "late")) ∷ [])) 0

abbrev s : Declared
s = Signal 0 0 (codes "s") kind.Text

-- a signal that comes before its wait is taken, and no timer is started
abbrev G : Program
G = program [] (f ∷ s ∷ []) (let_be (codes "x") (number 0) ∷ let_be (codes "v") (Literal 0 []) ∷ call_f 1 (codes "x") ∷ wait_or_late ∷ Return 0 (variable (codes "v")) ∷ [])

early_signal : fresh_run G first_configuration ((0, Started []) ∷ (5, Signaled (codes "s") [] (Text (codes "hi"))) ∷ (9, ActivityCompleted 2 (Int (pos 1))) ∷ [])
    ≡ (asks_f 1 ∷ []) ∷ [] ∷ (Complete (Text (codes "hi")) ∷ []) ∷ []
unfolding turned
early_signal = refl

abbrev B : Program
B = program [] (s ∷ []) (let_be (codes "v") (Literal 0 []) ∷ wait_or_late ∷ Return 0 (variable (codes "v")) ∷ [])

signal_cancels_timer : fresh_run B first_configuration ((1000, Started []) ∷ (1100, Signaled (codes "s") [] (Text (codes "x"))) ∷ [])
    ≡ (StartTimer 1100 ∷ []) ∷ (CancelTimer 2 ∷ Complete (Text (codes "x")) ∷ []) ∷ []
unfolding turned
signal_cancels_timer = refl

timer_is_first : fresh_run B first_configuration ((1000, Started []) ∷ (1100, TimerFired 2) ∷ []) ≡ (StartTimer 1100 ∷ []) ∷ (Complete (Text (codes "late")) ∷ []) ∷ []
unfolding turned
timer_is_first = refl

-- { let i = 0; while i < n { i = i + 1; } return i; }
abbrev L : Program
L = program n_of_int [] (let_be (codes "i") (number 0)
    ∷ While 0 (Combine Less (variable (codes "i")) (variable (codes "n"))) (block_of (Assign 0 (codes "i") (Combine Add (variable (codes "i")) (number 1)) ∷ [])) 0
    ∷ Return 0 (variable (codes "i")) ∷ [])

ten_thousand_tests : fresh_run L first_configuration ((0, Started (Int (pos 9999) ∷ [])) ∷ []) ≡ (Complete (Int (pos 9999)) ∷ []) ∷ []
unfolding turned
ten_thousand_tests = refl

one_test_more : fresh_run L first_configuration ((0, Started (Int (pos 10000) ∷ [])) ∷ []) ≡ (Fail TurnBudget [] ∷ []) ∷ []
unfolding turned
one_test_more = refl

abbrev call_p : Bytes → Statement
call_p x = call (codes "r") (codes "p") (Literal 0 x ∷ [])

abbrev asks_p : Bytes → Cmd
asks_p x = Schedule (codes "p") (Text x ∷ []) 1 0 kind.Int

-- { activity p(text) -> int; let r = 0; patch "v2" { r = call p("usd"); } else { r = call p("eur"); } return r; }
abbrev D : Program
D = program [] (Activity 0 0 (codes "p") (record { at = 0; kind = kind.Text } ∷ []) kind.Int ∷ []) (let_be (codes "r") (number 0)
    ∷ Patch 0 0 (codes "v2") (block_of (call_p (codes "usd") ∷ [])) 0 (block_of (call_p (codes "eur") ∷ [])) 0 ∷ Return 0 (variable (codes "r")) ∷ [])

patch_answers_yes : fresh_run D first_configuration ((0, Started []) ∷ []) ≡ (RecordMarker (codes "v2") ∷ asks_p (codes "usd") ∷ []) ∷ []
unfolding turned
patch_answers_yes = refl

abbrev commands_of : Option (List Cmd × Configuration) → List Cmd
commands_of None = []
commands_of (Some x) = x.0

no_marker_is_no : commands_of (turned D (Recorded (record { id = 2; at = 0; what = Asked (asks_p (codes "eur")) } ∷ [])) first_configuration 0 (Started [])) ≡ asks_p (codes "eur") ∷ []
unfolding turned
no_marker_is_no = refl

-- { activity p(text) -> int; let r = 0; deprecate "v2"; r = call p("usd"); return r; }
abbrev E : Program
E = program [] (Activity 0 0 (codes "p") (record { at = 0; kind = kind.Text } ∷ []) kind.Int ∷ []) (let_be (codes "r") (number 0)
    ∷ Deprecate 0 0 (codes "v2") ∷ call_p (codes "usd") ∷ Return 0 (variable (codes "r")) ∷ [])

deprecate_records : fresh_run E first_configuration ((0, Started []) ∷ []) ≡ (RecordMarker (codes "v2") ∷ asks_p (codes "usd") ∷ []) ∷ []
unfolding turned
deprecate_records = refl

-- an empty history lacks its start
nothing_recorded : FirstMismatch A [] 1 MissingEvent
nothing_recorded = record { before = []; after = []; cut = refl; there = refl; due = []; reached = first_configuration; chain = (refl, refl); wrong = (refl, refl) }
