use Rattle.std.proofs.Common.{None, Ok, Some, inl, inr, refl, subst}
use Rattle.flow_check.specs.Language.{meaning_of}
use Rattle.flow.specs.Reading.{IsUnread}
use Rattle.flow.specs.Replays.{ReplaysFiles}
use Rattle.flow.proofs.replaying.replay_at.Goals as goal

pub returns-in-Ok-Some : goal.returns-in-Ok-Some
returns-in-Ok-Some g c = inl (
  Some c.in-Ok-Some.files,
  (
    subst (λ found. g.H.System.lists c.args.system.now c.args.path.now (Ok found)) c.in-Ok-Some.field-0-is c.in-Ok-Some.ensures,
    subst (λ fs. ReplaysFiles (g.H.System.reads c.args.system.now) g.O.Output (meaning_of c.args.text.now) fs c.args.output.now c.replay_files.new.output c.replay_files.result) c.as_slice.ensures.value c.replay_files.ensures,
  ),
)

pub returns-in-Ok-None : goal.returns-in-Ok-None
returns-in-Ok-None g c = inl (None, (subst (λ found. g.H.System.lists c.args.system.now c.args.path.now (Ok found)) c.in-Ok-None.field-0-is c.in-Ok-None.ensures, c.replay_in.ensures))

pub returns-in-Err : goal.returns-in-Err
returns-in-Err g c = inr (
  c.in-Err.error,
  (
    c.unread.result,
    (
      c.in-Err.ensures,
      (subst (λ k. IsUnread c.args.path.now k c.unread.result) c.kind.ensures c.unread.ensures, (refl, refl)),
    ),
  ),
)
