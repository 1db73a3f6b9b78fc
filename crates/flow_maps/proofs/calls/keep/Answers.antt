use Rattle.std.specs.Prelude.{◌≡◌}
use Rattle.flow_maps.proofs.Names.{Some, rules, subst, sym, event_of}
use Rattle.flow_maps.proofs.Calling.{call_in}
use Rattle.flow_maps.proofs.calls.keep.Goals as goal

pub returns-then-ne : goal.returns-then-ne
returns-then-ne c is h at known = known

pub returns : goal.returns
returns c is h at known =
    let own : c.args.event.id ≡ c.args.id = search rules in
    call_in c.args.calls.now.items c.add.new.calls.items h known c.args.event (c.add.ensures is) (subst (λ n. event_of h n ≡ Some c.args.event) (sym own) at)
