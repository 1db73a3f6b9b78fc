use Rattle.flow_cache.proofs.Entries.{ends_as_without}
use Rattle.flow_cache.proofs.positions.Positions.let_go.Goals as goal

pub returns : goal.returns
returns c = rw (← c.self.view_is) (ends_as_without c.args.run c.get.result c.get.ensures.value c.self.inside.cache c.pop_entry.new.self c.pop_entry.ensures.entries)
