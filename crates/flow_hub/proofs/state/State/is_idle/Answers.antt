use Rattle.std.proofs.Common.{rules, ◌≡◌, []}
use Rattle.flow_hub.proofs.Lists.{no_length}
use Rattle.flow_hub.proofs.Sound.{is_idle, idle_by}
use Rattle.flow_hub.proofs.state.State.is_idle.Goals as goal

pub returns-clause-idle : goal.returns-clause-idle
returns-clause-idle g c idle =
    let i = c.self.inside in
    let is : c.see-me.result.was ≡ i.known = search rules in
    let waits : i.waiting.items ≡ [] = no_length i.waiting.items (search rules) in
    let held : i.known.held ≡ [] = no_length i.known.held (search rules) in
    idle_by c.see-me.result.was _ is (is_idle _ c.in-Some.outlook (search rules) (search rules) waits held c.self.invariant.0)
