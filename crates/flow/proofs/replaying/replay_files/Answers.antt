use Rattle.std.proofs.Common.{◌≡◌, ◌+◌, Ok, Err, max, rules, subst, drop}
use Rattle.std.proofs.lemmas.List.{drop_all}
use Rattle.flow_check.specs.Language.{meaning_of}
use Rattle.flow.specs.Replays.{ReplaysFile}
use Rattle.flow.proofs.Replays.{Decides, decides_early, decides_last, decides_more}
use Rattle.flow.proofs.replaying.replay_files.Goals as goal

pub loop-file-preserved : goal.loop-file-preserved
loop-file-preserved g c =
    let reads = g.H.System.reads c.args.system.now in
    let m = meaning_of c.args.text.now in
    let file = subst (λ t. ReplaysFile reads g.O.Output m t c.loop-file.output c.replay_file.new.output (Ok c.in-Ok.answered)) c.as_str.ensures.value c.in-Ok.ensures in
    let greater : max c.loop-file.status c.in-Ok.answered ≡ c.max-status.result = search rules in
    subst (λ n. Decides reads g.O.Output m c.args.files.now (drop (c.loop-file.file-index + 1) c.args.files.now) c.args.output.now c.replay_file.new.output n) greater
    (decides_more reads g.O.Output m c.args.files.now c.loop-file.file-index c.file-item.result c.args.output.now c.loop-file.output c.replay_file.new.output c.loop-file.status c.in-Ok.answered c.loop-file-test.true c.file-item.is c.loop-file.invariant file)

pub returns-in-Err : goal.returns-in-Err
returns-in-Err g c =
    let reads = g.H.System.reads c.args.system.now in
    let m = meaning_of c.args.text.now in
    let file = subst (λ t. ReplaysFile reads g.O.Output m t c.loop-file.output c.replay_file.new.output (Err c.in-Err.early)) c.as_str.ensures.value c.in-Err.ensures in
    decides_early reads g.O.Output m c.args.files.now c.loop-file.file-index c.file-item.result c.args.output.now c.loop-file.output c.replay_file.new.output c.loop-file.status c.in-Err.early c.loop-file-test.true c.file-item.is c.loop-file.invariant file

pub returns : goal.returns
returns g c =
    decides_last (g.H.System.reads c.args.system.now) g.O.Output (meaning_of c.args.text.now) c.args.files.now c.loop-file.file-index c.args.output.now c.loop-file.output c.loop-file.status (drop_all c.loop-file.file-index c.args.files.now c.loop-file-test.false) c.loop-file.invariant
