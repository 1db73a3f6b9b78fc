-- Deliver: what an input event does to a run, where it can be delivered at all.
use Rattle.std.specs.Prelude.{ℕ, Bool, true, false, ◌&&◌, List, [], ◌∷◌, ◌++◌, Option, Some, None, nat_eq, bytes_eq, if◌then◌else◌}
use Rattle.flow_base.specs.Syntax.{Bytes, Program, signals_of}
use Rattle.flow_base.specs.declared.syntax.Parameter.{Parameter}
use Rattle.flow_base.specs.declared.value.Value.{Value}
use Rattle.flow_base.specs.declared.value.Value.TheVariants as value
use Rattle.flow_base.specs.declared.value.Kind.{Kind}
use Rattle.flow_base.specs.declared.value.Kind.TheVariants as kind
use Rattle.flow_base.specs.declared.event.Cause.TheVariants.{ActivityFailed}
use Rattle.flow_base.specs.declared.event.Cmd.{Cmd}
use Rattle.flow_base.specs.declared.event.Input.{Input}
use Rattle.flow_base.specs.declared.event.Input.TheVariants as input
use Rattle.flow_base.specs.declared.event.State.{State}
use Rattle.flow_base.specs.declared.event.State.TheVariants.{Unbegun, Open, Terminated}
use Rattle.flow_model.specs.Values.{Variables, none_set, with_variable}
use Rattle.flow_model.specs.Rest.{Rest, Done, OnActivity, OnTimer, OnSignal, OnSignalFor, Raised, Then, Beside, rest_of, rest_else}
use Rattle.flow_model.specs.Configuration.{Configuration, none_decided, is_open}
use Rattle.flow_model.specs.Step.{Store}

-- A run within a turn.
pub record Progress : Type 0 where
  pub rest : Rest
  pub store : Store
  pub asked : List Cmd  -- the commands of this turn so far
  pub state : State

abbrev pub or_rest : Option Rest → Option Rest → Option Rest
or_rest None o = o
or_rest (Some r) o = Some r

abbrev pub map_rest : (Rest → Rest) → Option Rest → Option Rest
map_rest f None = None
map_rest f (Some r) = Some (f r)

-- the rest with its leftmost leaf replaced that the function takes, or none
abbrev pub replaced : (Rest → Option Rest) → Rest → Option Rest
replaced f (Then r b) = map_rest (λ q. Then q b) (replaced f r)
replaced f (Beside a b) = or_rest (map_rest (λ q. Beside q b) (replaced f a)) (map_rest (λ q. Beside a q) (replaced f b))
replaced f Done = f Done
replaced f (OnActivity n x k o) = f (OnActivity n x k o)
replaced f (OnTimer n) = f (OnTimer n)
replaced f (OnSignal x s) = f (OnSignal x s)
replaced f (OnSignalFor x s n b) = f (OnSignalFor x s n b)
replaced f (Raised c t) = f (Raised c t)

abbrev pub has_kind : Kind → Value → Bool
has_kind kind.Int (value.Int z) = true
has_kind kind.Int (value.Text t) = false
has_kind kind.Text (value.Int z) = false
has_kind kind.Text (value.Text t) = true

-- whether the arguments fit the parameters, in number and type
abbrev pub all_fit : List Parameter → List Value → Bool
all_fit [] [] = true
all_fit [] (v ∷ vs) = false
all_fit (p ∷ ps) [] = false
all_fit (p ∷ ps) (v ∷ vs) = has_kind p.kind v && all_fit ps vs

-- the parameters with their values
abbrev pub bound : List Parameter → List Value → Variables
bound [] vs = none_set
bound (p ∷ ps) [] = none_set
bound (p ∷ ps) (v ∷ vs) = with_variable (bound ps vs) p.name v

-- whether a signal is declared with the value's type
abbrev pub signal_fits : List (Bytes × Kind) → Bytes → Value → Bool
signal_fits [] name v = false
signal_fits (s ∷ ss) name v = if bytes_eq s.0 name then has_kind s.1 v else signal_fits ss name v

-- the wait on an activity: the variable that gets what it gives, and the type of that
abbrev pub target_of : ℕ → Rest → Option (Bytes × Kind)
target_of n (OnActivity m x k o) = if nat_eq m n then Some (x, k) else None
target_of n (Then r b) = target_of n r
target_of n (Beside a b) = elim (target_of n a) [ None ↦ target_of n b | Some x ↦ Some x ]
target_of n r = None

-- the type that a wait on an activity wants
abbrev pub awaited_kind : Option (Bytes × Kind) → Option Kind
awaited_kind None = None
awaited_kind (Some x) = Some x.1

-- a wait on an activity is over: its call is done
abbrev pub when_completed : ℕ → Rest → Option Rest
when_completed n (OnActivity m x k o) = if nat_eq m n then Some Done else None
when_completed n r = None

-- an activity failed: its call's `else` begins, or the run is to fail
abbrev pub when_failed : ℕ → Bytes → Rest → Option Rest
when_failed n text (OnActivity m x k o) = if nat_eq m n then Some (rest_else o (Raised ActivityFailed text)) else None
when_failed n text r = None

-- a timer fired: a sleep is done, a wait on a signal goes to its `else`
abbrev pub when_fired : ℕ → Rest → Option Rest
when_fired n (OnTimer m) = if nat_eq m n then Some Done else None
when_fired n (OnSignalFor x s m b) = if nat_eq m n then Some (rest_of b) else None
when_fired n r = None

-- a turn begins with this rest and these variables
abbrev pub start_from : Configuration → Rest → Variables → Progress
start_from k r vars =
    record { rest = r; store = record { variables = vars; buffer = k.buffer; decided = k.decided; tests = 0 }; asked = []; state = k.state }

abbrev pub with_rest : Configuration → Option Rest → Option Progress
with_rest k None = None
with_rest k (Some r) = Some (start_from k r k.variables)

-- the variable gets the value, if it has the type
abbrev pub completed : Configuration → ℕ → Value → Option (Bytes × Kind) → Option Progress
completed k n v None = None
completed k n v (Some x) =
    if has_kind x.1 v
    then elim (replaced (when_completed n) k.rest) [ None ↦ None | Some r ↦ Some (start_from k r (with_variable k.variables x.0 v)) ]
    else None

-- the body begins with the arguments
abbrev pub begun : Program → List Value → Option Progress
begun p vs =
    if all_fit p.parameters vs
    then Some (record { rest = rest_of p.body; store = record { variables = bound p.parameters vs; buffer = []; decided = none_decided; tests = 0 }; asked = []; state = Open })
    else None

-- An input takes effect, where it can be delivered.
abbrev pub deliver : Program → Configuration → Input → Option Progress
deliver p k (input.Started vs) =
    elim k.state [
      | Unbegun ↦ begun p vs
      | _ ↦ None
    ]
deliver p k (input.Signaled name request v) =
    if is_open k.state && signal_fits (signals_of p.declarations) name v
    then Some (record { rest = k.rest; store = record { variables = k.variables; buffer = k.buffer ++ (name, v) ∷ []; decided = k.decided; tests = 0 }; asked = []; state = k.state })
    else None
deliver p k (input.ActivityCompleted n v) = if is_open k.state then completed k n v (target_of n k.rest) else None
deliver p k (input.ActivityFailed n text) = if is_open k.state then with_rest k (replaced (when_failed n text) k.rest) else None
deliver p k (input.TimerFired n) = if is_open k.state then with_rest k (replaced (when_fired n) k.rest) else None
deliver p k (input.Terminated text) =
    if is_open k.state then Some (record (start_from k Done k.variables) { state = Terminated }) else None
