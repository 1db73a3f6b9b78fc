use Rattle.std.specs.Prelude.{◌≡◌}
use Rattle.flow_maps.proofs.Names.{◌∙◌, is_some, subst, sym, true, at_name, both}
use Rattle.flow_maps.proofs.Signalled.{inserted, none_more}
use Rattle.flow_maps.proofs.signals.SignalEvents.add.Goals as goal

pub returns-then-contains_key : goal.returns-then-contains_key
returns-then-contains_key c = λ _ f q.
    let m = c.args.self.now.map in
    let there = subst (λ k. is_some (at_name m k) ≡ true) c.in-Some.ensures (sym c.contains_key.ensures ∙ c.if-contains_key.true) in
    none_more (at_name m) (both c.args.flow.now c.args.request.now) (c.args.run, c.args.event) there (both f q)

pub returns : goal.returns
returns c = λ done f q.
    inserted c.args.self.now.map c.insert.new.map c.in-Some.name (both c.args.flow.now c.args.request.now) c.in-Some-entry_of.entry (c.args.run, c.args.event)
    c.in-Some.ensures c.in-Some-entry_of.ensures (sym c.contains_key.ensures ∙ c.if-contains_key.false) (c.insert.ensures done) (both f q)
