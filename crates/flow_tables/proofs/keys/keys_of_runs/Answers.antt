use Rattle.std.proofs.Common.{take, subst, sym, refl, arith, []}
use Rattle.std.proofs.lemmas.List.{take_all}
use Rattle.flow_maps.specs.Serving.{Serves}
use Rattle.flow_maps.specs.Undoing.{LeadsBack}
use Rattle.flow_tables.proofs.Serving.{runs_on}
use Rattle.flow_tables.proofs.keys.keys_of_runs.Goals as goal

pub loop-run-init : goal.loop-run-init
loop-run-init c = (λ texts. c.none-maps.ensures.serves (record { texts = texts; runs = [] }) refl, c.none-maps.ensures.goes_back)

pub loop-run-preserved : goal.loop-run-preserved
loop-run-preserved c =
    let rs = c.args.runs.now in
    let i = c.loop-run.run-index in (
      λ texts. subst (λ xs. Serves c.add_whole.new.self (record { texts = texts; runs = xs })) (runs_on rs i c.run-item.result c.run-item.is c.loop-run-test.true)
          (c.add_whole.ensures.serves (record { texts = texts; runs = take i rs }) (c.loop-run.invariant.0 texts)),
      λ b. subst (λ j. LeadsBack j b b) (sym c.add_whole.ensures.journal) (c.loop-run.invariant.1 b),
    )

pub returns-clause-serves : goal.returns-clause-serves
returns-clause-serves c texts =
    subst (λ xs. Serves c.loop-run.maps (record { texts = texts; runs = xs })) (take_all c.loop-run.run-index c.args.runs.now (omega (arith, c.loop-run-test.false))) (c.loop-run.invariant.0 texts)
