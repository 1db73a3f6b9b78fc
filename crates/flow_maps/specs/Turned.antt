-- Whether a turn leaves its run open: by what each of its events does to the run, the last one counts that begins or closes it.
use Rattle.std.specs.Prelude.{Bool, true, List, [], ◌∷◌}
use Rattle.flow_base.specs.Effects.{effect_of_input, effect_of_command}
use Rattle.flow_base.specs.declared.effect.Effect.{Effect}
use Rattle.flow_base.specs.declared.effect.Effect.TheVariants.{Begins, Closes}
use Rattle.flow_base.specs.declared.event.Cmd.{Cmd}
use Rattle.flow_base.specs.declared.book.Turn.{Turn}
use Rattle.flow_model.specs.Configuration.{is_open}

abbrev pub is_open_by : Bool → Effect → Bool
is_open_by was Begins = true
is_open_by was (Closes s) = is_open s
is_open_by was e = was

abbrev pub is_open_after : Bool → List Cmd → Bool
is_open_after was [] = was
is_open_after was (c ∷ cs) = is_open_after (is_open_by was (effect_of_command c)) cs

abbrev pub is_open_behind : Bool → Turn → Bool
is_open_behind was t = is_open_after (is_open_by was (effect_of_input t.input)) t.commands
