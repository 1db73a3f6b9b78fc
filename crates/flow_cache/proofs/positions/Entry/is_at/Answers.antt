use Rattle.std.proofs.lemmas.Bool.{eqb-false}
use Rattle.flow_cache.proofs.Entries.{one_count}
use Rattle.flow_cache.proofs.positions.Entry.is_at.Goals as goal

pub returns-then-eq-clause-no : goal.returns-then-eq-clause-no
returns-then-eq-clause-no c = λ no at. eqb-false c.events.result c.args.events no (one_count c.args.self.now.stance c.events.result c.args.events c.events.ensures at.1)
