use Rattle.std.proofs.Common.{rules, ◌≡◌, ap, ◌∙◌}
use Rattle.flow_values.specs.Named.{put}
use Rattle.flow_values.proofs.Lists.{set_is}
use Rattle.flow_values.proofs.named.NamedValues.set.Goals as goal

pub returns-in_ok-put_shared-in-Some-clause-variables : goal.returns-in_ok-put_shared-in-Some-clause-variables
returns-in_ok-put_shared-in-Some-clause-variables c =
    let same : c.in-Some.list.value.items ≡ c.args.self.now = search rules in
    set_is c.args.self.now c.put_shared.new.list.value.items c.args.name.now c.args.value
    (c.in_ok-put_shared-in-Some.ensures.ok ∙ ap (put c.args.name.now c.args.value) same)
