-- The turn: an input event is delivered, and then steps follow until none is possible or the run is closed.
use Rattle.std.specs.Prelude.{◌≡◌, ℕ, zero, suc, ◌+◌, Bool, true, false, List, [], ◌∷◌, ◌++◌, length, slice_get, Option, Some, None, min, bytes_eq, if◌then◌else◌}
use Rattle.flow_base.specs.Syntax.{Bytes, ActivityType, Program, activities_of}
use Rattle.flow_base.specs.declared.value.Value.TheVariants as value
use Rattle.flow_base.specs.declared.event.Cmd.{Cmd}
use Rattle.flow_base.specs.declared.event.Cmd.TheVariants.{RecordMarker, Complete}
use Rattle.flow_base.specs.declared.event.Input.{Input}
use Rattle.flow_base.specs.declared.event.Input.TheVariants as input
use Rattle.flow_base.specs.declared.event.What.TheVariants.{Came, Asked}
use Rattle.flow_base.specs.declared.event.Event.{Event}
use Rattle.flow_base.specs.declared.event.State.{State}
use Rattle.flow_base.specs.declared.event.State.TheVariants.{Open}
use Rattle.flow_base.specs.Effects.{effect_of_command, state_by}
use Rattle.flow_model.specs.Rest.{Done, is_done, open_waits}
use Rattle.flow_model.specs.Configuration.{Configuration, is_open}
use Rattle.flow_model.specs.Step.{Setting, Move, Stays, Goes, Asks, Ends, move, wait_limit}
use Rattle.flow_model.specs.Deliver.{Progress, deliver}

-- What is fixed in a turn.
pub record Frame : Type 0 where
  pub activities : List ActivityType
  pub at : ℕ
  pub is_first : Bool  -- whether its input is Started
  pub events : ℕ  -- the events up to the input's, itself among them
  pub answer : ℕ → Bytes → Bool  -- what an undecided patch answers after so many commands of this turn

abbrev pub setting : Frame → Progress → Setting
setting f p =
    record {
      activities = f.activities;
      at = f.at;
      is_first = f.is_first;
      waits = min (open_waits p.rest) wait_limit;
      event = f.events + length p.asked + 1;
      answer = f.answer (length p.asked);
    }

-- how a command leaves an open run
abbrev pub state_after_command : Cmd → State
state_after_command c = state_by Open (effect_of_command c)

-- a command closes the run, and nothing is left to do
abbrev pub ended : Progress → Cmd → Progress
ended p c = record p { rest = Done; asked = p.asked ++ c ∷ []; state = state_after_command c }

abbrev pub after_move : Progress → Move → Option Progress
after_move p Stays = None
after_move p (Goes r t) = Some (record p { rest = r; store = t })
after_move p (Asks r t c) = Some (record p { rest = r; store = t; asked = p.asked ++ c ∷ [] })
after_move p (Ends c) = Some (ended p c)

-- One step of the run, or none. The end of the body completes with the empty text.
abbrev pub next : Frame → Progress → Option Progress
next f p =
    if is_open p.state
    then (if is_done p.rest then Some (ended p (Complete (value.Text []))) else after_move p (move (setting f p) p.store p.rest))
    else None

abbrev pub go_on : Frame → Option Progress → Progress → (Progress → Option Progress) → Option Progress
go_on f None p again = Some p
go_on f (Some q) p again = again q

-- Where steps lead until none is possible; none where that takes more than so many.
abbrev pub steps : ℕ → Frame → Progress → Option Progress
steps zero f p = None
steps (suc n) f p = go_on f (next f p) p (steps n f)

-- How a turn answers the patches that nothing has decided yet: fresh, or recorded over the events after its input.
pub data Answers : Type 0 where
  Fresh : Answers
  Recorded : List Event → Answers

-- whether an event is the marker of a patch
abbrev pub is_marker : Bytes → Option Event → Bool
is_marker id None = false
is_marker id (Some e) =
    elim e.what [ Came i ↦ false | Asked c ↦ elim c [ RecordMarker i ↦ bytes_eq i id | _ ↦ false ] ]

-- yes in a fresh turn; else exactly where the next recorded event that no command of the turn has taken is the marker
abbrev pub answer_of : Answers → ℕ → Bytes → Bool
answer_of Fresh taken id = true
answer_of (Recorded r) taken id = is_marker id (slice_get r taken)

abbrev pub is_started : Input → Bool
is_started (input.Started vs) = true
is_started i = false

abbrev pub frame : Program → Configuration → ℕ → Input → Answers → Frame
frame p k at i answers =
    record { activities = activities_of p.declarations; at = at; is_first = is_started i; events = k.events + 1; answer = answer_of answers }

-- the configuration in which a turn leaves the run
abbrev pub left_by : Frame → Progress → Configuration
left_by f p =
    record {
      rest = p.rest;
      variables = p.store.variables;
      buffer = p.store.buffer;
      decided = p.store.decided;
      events = f.events + length p.asked;
      moment = f.at;
      state = p.state;
    }

-- A turn of a program: from one configuration, at a moment, an input leads to these commands and another configuration.
pub record Turn (p : Program) (answers : Answers) (old : Configuration) (at : ℕ) (i : Input) (commands : List Cmd) (new : Configuration) : Type 0 where
  pub start : Progress
  pub delivered : deliver p old i ≡ Some start
  pub count : ℕ
  pub last : Progress
  pub runs : steps count (frame p old at i answers) start ≡ Some last
  pub asks : commands ≡ last.asked
  pub leaves : new ≡ left_by (frame p old at i answers) last
