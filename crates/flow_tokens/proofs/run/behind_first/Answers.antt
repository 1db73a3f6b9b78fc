use Rattle.std.proofs.lemmas.Str.{IsCharBoundary-after_ascii}
use Rattle.flow_tokens.proofs.Runs.{some_begins}
use Rattle.flow_tokens.proofs.run.behind_first.Goals as goal

pub split_at-requires : goal.split_at-requires
split_at-requires c = IsCharBoundary-after_ascii c.args.text.now 0 c.utf8.text (some_begins c.args.text.now c.requires.some) c.requires.ascii
