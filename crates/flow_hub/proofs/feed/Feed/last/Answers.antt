use Rattle.flow_hub.proofs.Lasting.{last_of}
use Rattle.flow_hub.proofs.feed.Feed.last.Goals as goal

pub returns-clause-last : goal.returns-clause-last
returns-clause-last g c = last_of _ c.given-me.result.0.was c.given-me.result.1 c.given-me.ensures.fed c.given-me.ensures.ends
