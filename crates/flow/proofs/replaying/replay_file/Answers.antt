use Rattle.std.proofs.Common.{inl, inr, refl, rules, subst, ◌∙◌, string_bytes}
use Rattle.flow_check.specs.Language.{meaning_of}
use Rattle.flow.specs.Replays.{IsReplayOf, Replays}
use Rattle.flow.proofs.replaying.replay_file.Goals as goal

pub returns-in_err-begins : goal.returns-in_err-begins
returns-in_err-begins g c = inl (record { text = c.in_ok-history.history; read = c.in_ok-history.ensures.read; did = inr (search rules, refl) })

pub returns : goal.returns
returns g c =
    let of_text = subst (λ t. Replays g.O.Output c.as_str.result.now (IsReplayOf (meaning_of c.args.text.now) t) c.args.output.now c.replay_one.new.output c.replay_one.result) c.as_str-2.ensures.value c.replay_one.ensures in
    inl (record {
      text = c.in_ok-history.history;
      read = c.in_ok-history.ensures.read;
      did = inl (record {
        told = c.replay_one.result;
        did = subst (λ b. Replays g.O.Output b (IsReplayOf (meaning_of c.args.text.now) (string_bytes c.in_ok-history.history)) c.args.output.now c.replay_one.new.output c.replay_one.result) (c.as_str.ensures.value ∙ c.in_ok-begins.ensures.ok) of_text;
        is = c.early.ensures;
      });
    })
