use Rattle.flow_cache.proofs.Entries.{found_has_it, used_have_it, kept_have_it}
use Rattle.flow_cache.proofs.laws.found_was_kept.Goals as goal

pub returns-clause-found : goal.returns-clause-found
returns-clause-found g c = found_has_it g.R.Rule.holds

pub returns-clause-used : goal.returns-clause-used
returns-clause-used g c = used_have_it g.R.Rule.holds

pub returns-clause-kept : goal.returns-clause-kept
returns-clause-kept g c = kept_have_it g.R.Rule.holds
