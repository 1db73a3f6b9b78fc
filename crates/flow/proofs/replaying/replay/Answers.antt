use Rattle.std.proofs.Common.{inl, subst}
use Rattle.flow_check.specs.Language.{meaning_of}
use Rattle.flow.specs.Replays.{ReplaysAt, ReplaysInput}
use Rattle.flow.proofs.replaying.replay.Goals as goal

pub returns-in-text : goal.returns-in-text
returns-in-text g c = inl (record {
  text = c.in_ok-text.text;
  read = c.in_ok-text.ensures.read;
  did = record {
    input = λ _. subst (λ t. ReplaysInput (g.H.System.takes c.args.system.now) g.O.Output (meaning_of t) c.args.output.now c.replay_input.new.output c.replay_input.result) c.as_str.ensures.value c.replay_input.ensures;
    files = λ other. absurd (other c.in-text.is);
  };
})

pub returns : goal.returns
returns g c = inl (record {
  text = c.in_ok-text.text;
  read = c.in_ok-text.ensures.read;
  did = record {
    input = λ is. absurd (c.in_default.not-text is);
    files = λ _. subst (λ t. ReplaysAt (g.H.System.reads c.args.system.now) (g.H.System.lists c.args.system.now) g.O.Output (meaning_of t) c.args.history.now c.args.output.now c.replay_at.new.output c.replay_at.result) c.as_str-in_default.ensures.value c.replay_at.ensures;
  };
})
