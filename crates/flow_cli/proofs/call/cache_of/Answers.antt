use Rattle.flow_cli.proofs.Runs.{number_read, number_missing}
use Rattle.flow_cli.proofs.call.cache_of.Goals as goal

pub returns-in-Ok : goal.returns-in-Ok
returns-in-Ok c =
    let read = c.in-Ok.ensures.value.0 in
    number_read 4096 c.args.word.now c.in-Ok.number c.new.result read.0.0 read.0.1 read.1 c.new.ensures.valid.0 c.new.ensures.valid.1 c.new.ensures.value

pub returns-in-Err : goal.returns-in-Err
returns-in-Err c = number_missing 4096 c.args.word.now c.in-Err.ensures.value.0
