use Rattle.std.specs.Prelude.{◌≡◌}
use Rattle.flow_maps.proofs.Names.{drop, effect_of_input, is_open_by, is_open_after}
use Rattle.flow_maps.proofs.turned.is_open_behind.Given as goal

abbrev pub invariant-loop-command : goal.invariant-loop-command
invariant-loop-command l = is_open_after l.is_open (drop l.command-index l.turn.commands) ≡ is_open_after (is_open_by l.fn.was (effect_of_input l.turn.input)) l.turn.commands
