use Rattle.std.specs.Prelude.{◌+◌, ◌≡◌}
use Rattle.flow_maps.proofs.Names.{◌∙◌, None, ap, rules, subst, sym, at_name, both}
use Rattle.flow_maps.proofs.Signalled.{inserted, is_nothing}
use Rattle.flow_maps.proofs.signals.SignalEvents.take.Goals as goal

pub returns : goal.returns
returns c = λ done.
    let m = c.args.self.now.map in
    let free = sym c.contains_key.ensures ∙ c.if-contains_key.false in
    let number : c.in-Some-new.event ≡ c.args.count + 1 = search rules in (
      subst (λ k. at_name m k ≡ None) c.in-Some.ensures (is_nothing (at_name m c.in-Some.name) free),
      λ f q. inserted m c.insert.new.map c.in-Some.name (both c.args.flow.now c.args.request.now) c.in-Some-entry_of.entry (c.args.run, c.args.count + 1)
          c.in-Some.ensures (c.in-Some-entry_of.ensures ∙ ap (λ e. (c.args.run, e)) number) free (c.insert.ensures done) (both f q),
    )
