use Rattle.std.proofs.Common.{◌≡◌, ◌++◌, ◌∷◌, [], length, Some, None, sym, ap, ◌∙◌, rules}
use Rattle.flow_values.specs.Held.{held}
use Rattle.flow_values.specs.Slots.{number_of, written}
use Rattle.flow_values.proofs.Slotted.{appended_is, written_is}
use Rattle.flow_values.proofs.slots.Slots.set.Goals as goal

pub returns-in_ok-write-in-Some : goal.returns-in_ok-write-in-Some
returns-in_ok-write-in-Some c =
    let ns = c.self.inside.names.value.items in
    let number : number_of ns c.args.name.now ≡ Some c.in-Some.i = search rules in
    rw (← c.self.view_is) (written_is c.args.name.now c.args.value ns (held c.self.inside.values (λ a. a.value.items)) (held c.write.new.values (λ a. a.value.items)) c.in-Some.i c.in_ok-write-in-Some.ensures number)

pub returns-in_ok-write-in-None : goal.returns-in_ok-write-in-None
returns-in_ok-write-in-None c =
    let ns = c.self.inside.names.value.items in
    let number : number_of ns c.args.name.now ≡ None = search rules in
    let more : c.in_ok-names-in-None.names.value.items ≡ ns ++ (c.args.name.now ∷ []) = search rules in
    rw (← c.self.view_is) (appended_is c.args.name.now c.args.value ns c.in_ok-names-in-None.names.value.items (held c.self.inside.values (λ a. a.value.items)) (held c.write-in-None.new.values (λ a. a.value.items)) c.len.result more (search rules) c.in_ok-write-in-None.ensures number)
