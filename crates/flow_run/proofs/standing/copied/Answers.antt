use Rattle.std.proofs.Common.{◌≡◌, rules}
use Rattle.flow_base.specs.declared.event.State.{State}
use Rattle.flow_values.specs.Named.{look_up}
use Rattle.flow_values.specs.Slots.{slot_of}
use Rattle.flow_model.specs.Configuration.{Configuration}
use Rattle.flow_run.specs.Flat.{contents_of}
use Rattle.flow_run.specs.Whole.{rest_at}
use Rattle.flow_run.proofs.Copied.{copied_whole, rest_again}
use Rattle.flow_run.proofs.standing.copied.Goals as goal

pub returns-clause-same : goal.returns-clause-same
returns-clause-same c =
    let run = c.args.run.now in
    let table : c.in_ok-table.table ≡ run.table = search rules in
    let cells : contents_of c.in_ok-cells.cells.items ≡ contents_of run.cells.items = search rules in
    let variables : slot_of c.in_ok-variables.variables ≡ slot_of run.variables = search rules in
    let buffer : c.in_ok-buffer.buffer ≡ run.buffer = search rules in
    let decided : look_up c.in_ok-decided.decided ≡ look_up run.decided = search rules in
    let rest : rest_at c.in_ok-table.table.lists.items c.in_ok-cells.cells.items ≡ rest_at run.table.lists.items run.cells.items = rest_again c.in_ok-table.table run.table run.cells.items c.in_ok-cells.cells.items table cells in
    λ x. record { rest = rest x; variables = variables x; buffer = buffer x; decided = decided x; events = run.events; moment = run.moment; state = run.state }

pub returns-clause-whole : goal.returns-clause-whole
returns-clause-whole c = λ h.
    let run = c.args.run.now in
    let table : c.in_ok-table.table ≡ run.table = search rules in
    let cells : contents_of c.in_ok-cells.cells.items ≡ contents_of run.cells.items = search rules in
    copied_whole run c.in_ok-table.table c.in_ok-cells.cells.items table cells h
