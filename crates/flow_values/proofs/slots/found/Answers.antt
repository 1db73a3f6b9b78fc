use Rattle.std.proofs.Common.{◌≡◌, ◌<◌, length, ap, sym, ◌∙◌, rules, true, false}
use Rattle.std.specs.Prelude.{bytes_eq}
use Rattle.flow_values.specs.Held.{held}
use Rattle.flow_values.proofs.Slotted.{found_here, found_more}
use Rattle.flow_values.proofs.slots.found.Goals as goal

pub returns-then-eq : goal.returns-then-eq
returns-then-eq c =
    let item = c.index-names-i.result in
    let vs = held c.args.values.now (λ a. a.value.items) in
    let there : c.loop-i.i < length c.args.names.now = search rules in
    let same : bytes_eq c.args.name.now item ≡ true = search rules in
    rw (found_here c.args.names.now vs c.loop-i.i c.args.name.now item there (ap (bytes_eq c.args.name.now) (sym c.index-names-i.is) ∙ same) c.loop-i.invariant) c.value_in.ensures

pub loop-i-preserved : goal.loop-i-preserved
loop-i-preserved c =
    let item = c.index-names-i.result in
    let vs = held c.args.values.now (λ a. a.value.items) in
    let there : c.loop-i.i < length c.args.names.now = search rules in
    let other : bytes_eq c.args.name.now item ≡ false = search rules in
    found_more c.args.names.now vs c.loop-i.i c.args.name.now item there (ap (bytes_eq c.args.name.now) (sym c.index-names-i.is) ∙ other) c.loop-i.invariant
