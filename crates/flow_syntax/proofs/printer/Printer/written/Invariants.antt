use Rattle.std.proofs.Common.{◌≡◌, ◌++◌}
use Rattle.flow_syntax.specs.Print.{all_written}
use Rattle.flow_syntax.proofs.printer.Printer.written.Given as goal

-- what is written, and what is still to be written
abbrev pub invariant-loop-c : goal.invariant-loop-c
invariant-loop-c l = l.self ++ all_written l.c-iterator.rest.now ≡ l.initial.self ++ all_written l.text
