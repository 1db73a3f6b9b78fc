use Rattle.flow_maps.proofs.Undone.{known_facts}
use Rattle.flow_maps.proofs.maps.Maps.run_count.Goals as goal

pub returns-in-Some : goal.returns-in-Some
returns-in-Some c b h = (known_facts c.args.self.now.facts c.in-Some.facts b c.in-Some.is h.facts).runs.count
