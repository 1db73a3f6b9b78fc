-- A run that has begun, and what every turn keeps of it.
use Rattle.std.specs.Prelude.{◌≡◌, ◌≤◌, List, [], length, Bool, true, false}
use Rattle.flow_base.specs.declared.event.State.{State}
use Rattle.flow_base.specs.declared.event.State.TheVariants.{Unbegun}
use Rattle.flow_nodes.specs.declared.table.Listing.{Listing}
use Rattle.flow_values.specs.Named.{look_up}
use Rattle.flow_values.specs.Slots.{slot_of}
use Rattle.flow_model.specs.Rest.{Rest}
use Rattle.flow_model.specs.Configuration.{Configuration}
use Rattle.flow_run.specs.Marks.{first_rest, onto}
use Rattle.flow_run.specs.Flat.{AreSound, marks_of}
use Rattle.flow_run.specs.declared.cell.Cell.{Cell}
use Rattle.flow_run.specs.declared.standing.Standing.{Standing}

-- what is left of a run
abbrev pub rest_at : List Listing → List Cell → Rest
rest_at ls cs = first_rest (onto (marks_of ls cs) [])

-- the cells are those of one rest, or of none
abbrev pub AreOne : List Listing → List Cell → Type 0
AreOne ls cs = length (onto (marks_of ls cs) []) ≤ 1

abbrev pub is_unbegun : State → Bool
is_unbegun Unbegun = true
is_unbegun s = false

-- What every turn keeps.
pub record IsWholeAt (ls : List Listing) (cs : List Cell) (s : State) : Type 0 where
  pub sound : AreSound ls cs
  pub one : AreOne ls cs
  pub begun : is_unbegun s ≡ false

abbrev pub IsWhole : Standing → Type 0
IsWhole r = IsWholeAt r.table.lists.items r.cells.items r.state

-- The configuration that a run stands for.
abbrev pub shown_standing : Standing → Configuration
shown_standing r =
    record {
      rest = rest_at r.table.lists.items r.cells.items;
      variables = slot_of r.variables;
      buffer = r.buffer;
      decided = look_up r.decided;
      events = r.events;
      moment = r.moment;
      state = r.state;
    }

abbrev pub same_standing : Standing → Standing → Type 0
same_standing r q = shown_standing r ≡ shown_standing q
