-- Which lines are commands: those that spell one, and where questions are taken too, those that ask which runs are open.
use Rattle.std.specs.Prelude.{ℕ, List, Option}
use Rattle.std.specs.Option.{option_or}
use Rattle.flow_base.specs.declared.command.Command.{Command}
use Rattle.flow_lines.specs.Asks.{line_asked}
use Rattle.flow_lines.specs.Commands.{line_command}
use Rattle.flow_work.specs.declared.question.Accepted.{Accepted}
use Rattle.flow_work.specs.declared.question.Accepted.TheVariants as accepted

-- what a line of `serve` is: a command, or else a question
abbrev pub line_served : List ℕ → Option Command
line_served bytes = option_or (line_command bytes) (line_asked bytes)

abbrev pub read_as : Accepted → List ℕ → Option Command
read_as accepted.Commands = line_command
read_as accepted.QuestionsToo = line_served
