use Rattle.std.proofs.Common.{refl}
use Rattle.flow_cli.proofs.telling.tell.Goals as goal

pub returns-in-Ok : goal.returns-in-Ok
returns-in-Ok g c = record {
  told = c.in-Ok.ensures.all;
  status = refl;
  stopped = tt;
  early = tt;
  output = c.in-Ok.ensures.output;
  input = λ was. refl;
  cause = tt;
  marked = c.in-Ok.ensures.marked;
  unmarked = tt;
}

pub returns-in-Err : goal.returns-in-Err
returns-in-Err g c = record {
  told = tt;
  status = tt;
  stopped = c.in-Err.ensures.stopped;
  early = c.in-Err.ensures.status;
  output = c.in-Err.ensures.output;
  input = c.in-Err.ensures.input;
  cause = c.in-Err.ensures.cause;
  marked = tt;
  unmarked = c.in-Err.ensures.unmarked;
}
