use Rattle.std.specs.Prelude.{◌≡◌}
use Rattle.std.proofs.lemmas.List.{nil_from_length}
use Rattle.flow_maps.proofs.Names.{[], rules, ◌∙◌}
use Rattle.flow_maps.proofs.seat.closed.Goals as goal

pub returns-then-is_empty : goal.returns-then-is_empty
returns-then-is_empty c r same shut =
    let none : c.args.tasks.now ≡ [] = nil_from_length _ (search rules) in
    (shut, same ∙ none)
