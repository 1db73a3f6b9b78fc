use Rattle.std.specs.Prelude.{◌≡◌}
use Rattle.flow_maps.proofs.Names.{ℕ, None, length, sym, ap, subst, Option, List, refl, Bytes, Run, IsIndex, name_of, request_key, KnowsOpen}
use Rattle.flow_maps.proofs.Undone.{no_runs}
use Rattle.flow_maps.proofs.facts.KnownRuns.new.Goals as goal

pub returns : goal.returns
returns c b none = no_runs _ b none refl c.new.ensures c.new-2.ensures
