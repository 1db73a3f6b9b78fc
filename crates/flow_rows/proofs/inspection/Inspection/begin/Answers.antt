use Rattle.std.proofs.Common.{refl}
use Rattle.flow_rows.proofs.inspection.Inspection.begin.Goals as goal

pub returns : goal.returns
returns g c = record {
  count = refl;
  taken = c.none.ensures;
  met = record {
    texts = c.in_ok-damage.ensures;
    runs = refl;
    events = refl;
    timers = λ none. refl;
    outbox = λ none. refl;
  };
}
