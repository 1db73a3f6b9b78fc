use Rattle.std.specs.Prelude.{◌≡◌}
use Rattle.flow_maps.proofs.Names.{ℕ, None, Option, Some, refl, rules, subst, sym, Bytes, Run, IsIndex, replaced}
use Rattle.flow_maps.proofs.Undone.{runs_more}
use Rattle.flow_maps.proofs.facts.KnownRuns.add.Goals as goal

pub returns : goal.returns
returns c is b r number request seated h =
    let run = c.args.run in
    let count : c.get-count.result ≡ run = search rules in
    runs_more c.args.self.now (record { count = c.get-count.result; requests = c.put_if.new.self; seats = c.put.new.self }) b r run number count
    (λ f free was. subst (λ o. IsIndex c.put_if.new.self (replaced run o f)) (sym request) (c.put_if.ensures c.if-not-put_if.false f free was))
    (λ rs free was. c.put.ensures is rs r free seated was) h
