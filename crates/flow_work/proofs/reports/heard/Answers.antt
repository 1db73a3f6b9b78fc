use Rattle.std.proofs.Common.{◌≡◌, ◌∙◌, inr, subst, sym}
use Rattle.flow_work.proofs.Hearing.{comes_back, has_code}
use Rattle.flow_work.specs.Hearing.{HasCode}
use Rattle.flow_work.proofs.reports.heard.Goals as goal

pub returns-in-Err-wait-clause-heard : goal.returns-in-Err-wait-clause-heard
returns-in-Err-wait-clause-heard g c =
    let old = c.args.submitter.now in
    let mid = c.submit.new.self in
    let new = c.wait.new.self in
    let asked = c.args.command in
    let given = (c.in-Ok.ensures {u = tt}).ticket in
    let same : new.id ≡ old.id = c.wait.ensures.same.0 ∙ c.submit.ensures.same.0 in
    let none = (c.in-Err-wait.ensures {u = tt}).not_done in
    let back = c.unheard_of.ensures.back in (
      comes_back old mid new asked c.unheard_of.result.0 c.in-Ok.ticket c.in-Err-wait.instead given same c.wait.ensures.grows back none,
      inr (subst (λ u. HasCode old new asked u) (sym c.unheard_of.ensures.why)
          (has_code old mid new asked c.unheard_of.result.0 c.in-Ok.ticket c.in-Err-wait.instead given same c.wait.ensures.grows back none)),
    )

pub returns-in-Err-wait-clause-back : goal.returns-in-Err-wait-clause-back
returns-in-Err-wait-clause-back g c =
    comes_back c.args.submitter.now c.submit.new.self c.wait.new.self c.args.command c.unheard_of.result.0 c.in-Ok.ticket c.in-Err-wait.instead
    (c.in-Ok.ensures {u = tt}).ticket (c.wait.ensures.same.0 ∙ c.submit.ensures.same.0) c.wait.ensures.grows c.unheard_of.ensures.back (c.in-Err-wait.ensures {u = tt}).not_done
