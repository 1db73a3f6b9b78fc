use Rattle.std.proofs.Common.{inl, [], subst}
use Rattle.flow_check.specs.Language.{meaning_of}
use Rattle.flow.specs.Replays.{IsReplayOf, Replays}
use Rattle.flow.proofs.replaying.replay_input.Goals as goal

pub returns-in-Ok : goal.returns-in-Ok
returns-in-Ok g c = inl (
  c.in-Ok.history,
  (
    c.in-Ok.ensures.read,
    record {
      told = c.replay_one.result;
      did = subst (λ t. Replays g.O.Output [] (IsReplayOf (meaning_of c.args.text.now) t) c.args.output.now c.replay_one.new.output c.replay_one.result) c.as_str.ensures.value c.replay_one.ensures;
      is = c.early.ensures;
    },
  ),
)
