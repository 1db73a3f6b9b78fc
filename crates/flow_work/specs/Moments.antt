-- A command at another moment.
use Rattle.std.specs.Prelude.{ℕ}
use Rattle.flow_base.specs.declared.command.Command.{Command}
use Rattle.flow_base.specs.declared.command.Command.TheVariants as command

-- the same command, asked at this moment; some have none
abbrev pub command_at : Command → ℕ → Command
command_at (command.Start s) at = command.Start (record s { at = at })
command_at (command.Signal request flow name value was) at = command.Signal request flow name value at
command_at (command.Complete c) at = command.Complete (record c { at = at })
command_at (command.Fail f) at = command.Fail (record f { at = at })
command_at (command.Tick was) at = command.Tick at
command_at (command.Terminate run reason was) at = command.Terminate run reason at
command_at (command.Register src) at = command.Register src
command_at (command.Upgrade run text) at = command.Upgrade run text
command_at (command.Describe run) at = command.Describe run
command_at (command.History run) at = command.History run
command_at (command.Open from most) at = command.Open from most
