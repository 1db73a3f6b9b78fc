use Rattle.std.proofs.Common.{◌≤◌, ◌<◌, ◌^◌, arith}
use Rattle.flow_cli.proofs.Runs.{number_read, number_missing}
use Rattle.flow_cli.proofs.call.run_of.Goals as goal

pub returns-in-Ok : goal.returns-in-Ok
returns-in-Ok c =
    let read = c.in-Ok.ensures.value.0 in
    let valid = c.new.ensures.valid in
    number_read 9223372036854775807 c.args.word.now c.in-Ok.number c.new.result read.0.0 read.0.1 read.1
    (λ is. let below : c.in-Ok.number < 2 ^ 63 = (valid.0 is).1 in ((valid.0 is).0, omega (arith, below)))
    (λ within. let last : c.in-Ok.number ≤ 9223372036854775807 = within.1 in valid.1 (within.0, omega (arith, last)))
    c.new.ensures.value

pub returns-in-Err : goal.returns-in-Err
returns-in-Err c = number_missing 9223372036854775807 c.args.word.now c.in-Err.ensures.value.0
