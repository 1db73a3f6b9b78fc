-- The configuration: all that a run is between two turns.
use Rattle.std.specs.Prelude.{ℕ, Bool, true, false, List, [], Option, None}
use Rattle.flow_base.specs.Syntax.{Bytes}
use Rattle.flow_base.specs.declared.value.Value.{Value}
use Rattle.flow_base.specs.declared.event.State.{State}
use Rattle.flow_base.specs.declared.event.State.TheVariants.{Unbegun, Open}
use Rattle.flow_model.specs.Values.{Variables, none_set}
use Rattle.flow_model.specs.Rest.{Rest, Done}

pub record Configuration : Type 0 where
  pub rest : Rest
  pub variables : Variables
  pub buffer : List (Bytes × Value)  -- signals that nobody took, the oldest first
  pub decided : Bytes → Option Bool  -- patches, and whether each took its first list
  pub events : ℕ  -- how many events the history has
  pub moment : ℕ  -- that of the last event
  pub state : State

-- no patch has an answer yet
abbrev pub none_decided : Bytes → Option Bool
none_decided id = None

-- a run before its first event
abbrev pub first_configuration : Configuration
first_configuration =
    record { rest = Done; variables = none_set; buffer = []; decided = none_decided; events = 0; moment = 0; state = Unbegun }

abbrev pub is_open : State → Bool
is_open Open = true
is_open s = false

abbrev pub is_closed : State → Bool
is_closed Unbegun = false
is_closed Open = false
is_closed s = true
