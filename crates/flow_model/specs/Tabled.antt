-- A program and its table.
use Rattle.std.specs.Prelude.{◌≡◌}
use Rattle.flow_base.specs.Shown.{shown_program}
use Rattle.flow_nodes.specs.Links.{block_at}
use Rattle.flow_model.specs.declared.tabled.Both.{Both}

-- the table's body is that of the program
abbrev pub IsTabled : Both → Type 0
IsTabled b = block_at b.table.lists.items b.table.body ≡ (shown_program b.program).body
