use Rattle.std.specs.Prelude.{◌++◌, ◌∷◌}
use Rattle.flow_rows.specs.Told.{body_of}
use Rattle.flow_maps.specs.Undoing.{LeadsBack}
use Rattle.flow_tables.proofs.Names.{[], ap, map, subst, sym, ◌∙◌}
use Rattle.flow_tables.proofs.told_runs.ToldRunsOnlooker.see.Goals as goal

pub returns : goal.returns
returns g c = λ rs next told. record {
  same = c.with_one.ensures ∙ ap (λ l. l ++ c.args.run ∷ []) told.same;
  serves = c.add_whole.ensures.serves (record { texts = map body_of c.args.texts.now; runs = rs }) told.serves;
  goes_back = λ b. subst (λ j. LeadsBack j b b) (sym c.add_whole.ensures.journal) (told.goes_back b);
  hears = c.tell.ensures rs next told.hears;
}
