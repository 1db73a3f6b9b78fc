use Rattle.std.specs.Prelude.{◌≡◌}
use Rattle.flow_maps.proofs.Names.{arith, rules}
use Rattle.flow_maps.proofs.Listing.{is_forward}
use Rattle.flow_maps.proofs.outlook.runs_within.Goals as goal

pub range-slot-items-requires : goal.range-slot-items-requires
range-slot-items-requires c =
    let same : c.get.result ≡ c.args.at = search rules in
    let low = c.requires in
    is_forward c.args.first c.get.result (omega (arith, same, low))
