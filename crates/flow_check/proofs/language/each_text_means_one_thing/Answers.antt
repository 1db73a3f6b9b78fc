use Rattle.flow_check.proofs.Meaning.{meaning_is, one_meaning}
use Rattle.flow_check.proofs.language.each_text_means_one_thing.Goals as goal

pub returns-clause-means : goal.returns-clause-means
returns-clause-means c = meaning_is

pub returns-clause-once : goal.returns-clause-once
returns-clause-once c = one_meaning
