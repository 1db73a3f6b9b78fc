use Rattle.std.specs.Prelude.{◌≡◌}
use Rattle.flow_maps.proofs.Names.{[], rules, subst, sym, MatchOption, nil_from_length}
use Rattle.flow_maps.proofs.undo.Journal.is_blank.Goals as goal

pub returns-in-Some : goal.returns-in-Some
returns-in-Some c = λ none. subst (λ o. MatchOption o ⊥ (λ us. us.items ≡ [])) (sym c.in-Some.is) (nil_from_length _ (search rules))
