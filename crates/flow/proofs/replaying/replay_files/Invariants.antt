-- What comes of the files that are left decides what comes of all.
use Rattle.std.proofs.Common.{drop}
use Rattle.flow_check.specs.Language.{meaning_of}
use Rattle.flow.proofs.Replays.{Decides}
use Rattle.flow.proofs.replaying.replay_files.Given as goal

abbrev pub invariant-loop-file : goal.invariant-loop-file
invariant-loop-file g l = Decides (g.H.System.reads l.system) g.O.Output (meaning_of l.text) l.files (drop l.file-index l.files) l.fn.output l.output l.status
