use Rattle.flow_maps.specs.Undoing.{LeadsBack}
use Rattle.flow_tables.proofs.Names.{subst, sym}
use Rattle.flow_tables.proofs.told_runs.ToldRuns.count_texts.Goals as goal

pub returns : goal.returns
returns g c = λ texts rs is told. record {
  same = told.same;
  serves = c.count_texts.ensures.serves (record { texts = texts; runs = rs }) is told.serves;
  goes_back = λ b. subst (λ j. LeadsBack j b b) (sym c.count_texts.ensures.journal) (told.goes_back b);
  hears = told.hears;
}
