-- The position of a run, as the code holds it, and a run within a turn.
use Rattle.std.specs.Prelude.{◌≡◌, ℕ, ◌+◌, List, [], map, Bool, Option, Some, None}
use Rattle.flow_base.specs.Syntax.{Bytes, Program, activities_of}
use Rattle.flow_base.specs.Shown.{shown_declaration}
use Rattle.flow_base.specs.declared.value.Value.{Value}
use Rattle.flow_base.specs.declared.event.Cmd.{Cmd}
use Rattle.flow_base.specs.declared.event.State.{State}
use Rattle.flow_nodes.specs.declared.table.Listing.{Listing}
use Rattle.flow_values.specs.Named.{look_up}
use Rattle.flow_values.specs.Slots.{slot_of}
use Rattle.flow_model.specs.Values.{Variables}
use Rattle.flow_model.specs.Rest.{Rest}
use Rattle.flow_model.specs.Configuration.{Configuration, first_configuration}
use Rattle.flow_model.specs.Deliver.{Progress}
use Rattle.flow_model.specs.Step.{Setting}
use Rattle.flow_model.specs.Turn as turn
use Rattle.flow_run.specs.Shown.{shown_answers, shown_store}
use Rattle.flow_run.specs.declared.cell.Cell.{Cell}
use Rattle.flow_run.specs.declared.standing.Standing.{Standing}
use Rattle.flow_run.specs.Whole.{IsWholeAt, rest_at, shown_standing}
use Rattle.flow_run.specs.declared.deliver.Turning.{Turning}
use Rattle.flow_run.specs.declared.turn.Frame.{Frame}
use Rattle.flow_run.specs.declared.stance.Stance.{Stance}

abbrev pub IsWholeTurning : List Listing → Turning → Type 0
IsWholeTurning ls p = IsWholeAt ls p.cells.items p.state

abbrev pub shown_begun : Option Standing → Configuration
shown_begun None = first_configuration
shown_begun (Some r) = shown_standing r

-- The configuration that a stance of a run of the program stands for. Whoever uses a stance knows no more of it.
unfoldable pub config_of : Program → Stance → Configuration
config_of p s = shown_begun s.begun

abbrev pub shown_progress : List Listing → Turning → Progress
shown_progress ls p = record { rest = rest_at ls p.cells.items; store = shown_store p.store; asked = p.asked.items; state = p.state }

abbrev pub shown_started : List Listing → Option Turning → Option Progress
shown_started ls None = None
shown_started ls (Some p) = Some (shown_progress ls p)

-- a run within a turn that has asked nothing yet
abbrev pub started_with : Rest → Variables → List (Bytes × Value) → (Bytes → Option Bool) → State → Progress
started_with r vars buffer decided st =
    record { rest = r; store = record { variables = vars; buffer = buffer; decided = decided; tests = 0 }; asked = []; state = st }

abbrev pub shown_frame : Frame → turn.Frame
shown_frame f =
    record {
      activities = activities_of (map shown_declaration f.declarations.now);
      at = f.at;
      is_first = f.is_first;
      events = f.events;
      answer = turn.answer_of (shown_answers f.answers);
    }

-- what a step reads where so many waits are open and so many commands were asked
abbrev pub setting_with : turn.Frame → ℕ → ℕ → Setting
setting_with f waits asked =
    record { activities = f.activities; at = f.at; is_first = f.is_first; waits = waits; event = f.events + asked + 1; answer = f.answer asked }

-- From a run within a turn, steps lead to these commands and this configuration.
pub record Leads (f : turn.Frame) (start : Progress) (commands : List Cmd) (new : Configuration) : Type 0 where
  pub last : Progress
  pub runs : (n : ℕ) × (turn.steps n f start ≡ Some last)
  pub asks : commands ≡ last.asked
  pub leaves : new ≡ turn.left_by f last
