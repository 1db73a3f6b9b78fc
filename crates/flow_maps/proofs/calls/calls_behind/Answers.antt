use Rattle.std.specs.Prelude.{◌≡◌}
use Rattle.flow_maps.proofs.Names.{rules, true, subst, sym, with_turn, AreCalls}
use Rattle.flow_maps.proofs.Calling.{calls_on}
use Rattle.flow_maps.proofs.calls.calls_behind.Goals as goal

pub loop-place-init : goal.loop-place-init
loop-place-init c r long known = subst (λ es. AreCalls es (with_turn c.args.turn.now r).history) (sym c.make_room.ensures) (calls_on c.end.new.calls.items c.args.turn.now r (c.end.ensures r.history known))

pub loop-place-preserved : goal.loop-place-preserved
loop-place-preserved c r long known =
    let added : c.add_call.result ≡ true = search rules in
    c.add_call.ensures added r long (c.loop-place.invariant r long known)

pub returns : goal.returns
returns c = c.loop-place.invariant
