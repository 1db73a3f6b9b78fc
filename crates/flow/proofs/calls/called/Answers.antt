use Rattle.std.proofs.Common.{inl, inr, refl, sym, subst, map, string_bytes}
use Rattle.flow_cli.specs.Calls.{IsCall}
use Rattle.flow_cli.specs.Shown.{shown}
use Rattle.flow.specs.Called.{IsMisused}
use Rattle.flow.proofs.calls.called.Goals as goal

pub returns-in-Ok : goal.returns-in-Ok
returns-in-Ok g c = inl (
  c.in_ok-words.words,
  (
    c.in_ok-words.ensures.called,
    inl (record {
      call = c.in-Ok.call;
      is = subst (λ ws. IsCall (map string_bytes ws) (shown c.in-Ok.call)) c.as_slice.ensures.value c.in-Ok.ensures.found;
      answered = c.answer.ensures;
    }),
  ),
)

pub returns : goal.returns
returns g c = inl (
  c.in_ok-words.words,
  (
    c.in_ok-words.ensures.called,
    inr (record {
      fault = c.in-Err.fault;
      early = c.misused.result;
      why = subst (λ ws. IsMisused (map string_bytes ws) c.in-Err.fault c.misused.result) c.as_slice-in-Err.ensures.value c.misused.ensures;
      among = c.in-Err.ensures.usage;
      no_call = λ call is. c.in-Err.ensures.only call (subst (λ ws. IsCall (map string_bytes ws) call) (sym c.as_slice.ensures.value) is);
      is = refl;
      unwritten = (refl, refl);
    }),
  ),
)
