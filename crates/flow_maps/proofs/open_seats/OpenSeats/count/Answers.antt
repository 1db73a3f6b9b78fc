use Rattle.std.specs.Prelude.{◌≡◌}
use Rattle.flow_maps.proofs.Names.{length, rules}
use Rattle.flow_maps.proofs.Seating.{count_open}
use Rattle.flow_maps.proofs.open_seats.OpenSeats.count.Goals as goal

pub returns : goal.returns
returns c runs h = count_open c.args.self.now runs c.len.result c.len.ensures.len c.len.ensures.ordered h
