use Rattle.std.specs.Prelude.{◌≡◌}
use Rattle.flow_maps.proofs.Names.{ℕ, None, Option, ◌∙◌, rules, subst, Run, replaced, KnowsOpen}
use Rattle.flow_maps.proofs.Undone.{runs_less}
use Rattle.flow_maps.proofs.facts.KnownRuns.take_last_back.Goals as goal

pub returns : goal.returns
returns c is b r request h =
    let run : c.in-Some.run' ≡ c.args.self.now.count = c.in-Some.ensures.value in
    runs_less c.args.self.now (record { count = c.in-Some-count_before.before; requests = c.remove_if.new.self; seats = c.clear.new.self }) b r c.in-Some-count_before.ensures
    (λ f n at was. c.remove_if.ensures c.if-not-remove_if.false f n (at ∙ request) was)
    (λ rs was. subst (λ n. KnowsOpen c.clear.new.self (replaced n None rs)) run (c.clear.ensures is rs was)) h
