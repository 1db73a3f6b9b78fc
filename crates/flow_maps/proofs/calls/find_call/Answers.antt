use Rattle.std.specs.Prelude.{◌≡◌}
use Rattle.flow_maps.proofs.Names.{Some, rules, slice_get}
use Rattle.flow_maps.proofs.Calling.{at_place, call_found}
use Rattle.flow_maps.proofs.calls.find_call.Goals as goal

pub returns-in-Some : goal.returns-in-Some
returns-in-Some c =
    let at : slice_get c.args.calls.now c.in-Some.place ≡ Some c.index-calls-place.result = at_place c.args.calls.now c.in-Some.place c.index-calls-place.result c.in-Some.ensures.0 (search rules) in
    call_found c.args.calls.now c.in-Some.place c.args.id c.index-calls-place.result c.copied.result at (c.in-Some.ensures.1 c.index-calls-place.result at) c.copied.ensures
