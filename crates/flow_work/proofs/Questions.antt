-- Which lines are commands, by what two readers say of them.
use Rattle.std.proofs.Common.{◌≡◌, Option, Some, None, Result, refl, sym, subst}
use Rattle.std.specs.Option.{option_or}
use Rattle.flow_base.specs.declared.command.Command.{Command}
use Rattle.flow_lines.specs.Faults.{GivesLine}
use Rattle.flow_lines.specs.declared.command.LineFault.{LineFault}

-- it spells a command
pub by_command : (given asked : Option Command) (c : Command) → given ≡ Some c → option_or given asked ≡ Some c
by_command given asked c is = subst (λ (o : Option Command). option_or o asked ≡ Some c) (sym is) refl

-- it spells none, and so what it asks decides
pub by_question : (given asked : Option Command) (r : Result Command LineFault) → given ≡ None → GivesLine r asked → GivesLine r (option_or given asked)
by_question given asked r none gives = subst (λ (o : Option Command). GivesLine r (option_or o asked)) (sym none) gives
