-- What no first difference means for the runs of a text that keeps the rules.
use Rattle.std.proofs.Common.{◌≡◌, ℕ, sym, ◌∙◌, Some, None}
use Rattle.flow_base.specs.Syntax.{Program}
use Rattle.flow_model.specs.WellFormed.{WellFormed}
use Rattle.flow_patch.specs.Wrap.{Wrap}
use Rattle.flow_patch.specs.Difference.{first_difference}
use Rattle.flow_patch.specs.Upgrades.{IsUpgraded, KeepsStanding, NeverFails}
use Rattle.flow_patch.proofs.Differences.{difference_decides}
use Rattle.flow_patch.proofs.Turns.{none_some}
use Rattle.flow_patch.proofs.Upgrades.{wrapped_is_upgraded}
use Rattle.flow_patch.proofs.Words.{wrapped_never_fails, wrapped_stands}

pub wraps_then : (p p' : Program) → first_difference p p' ≡ None → Wrap p p'
wraps_then p p' e = (difference_decides p p').0 e

pub wraps_never : (p p' : Program) (at : ℕ) → first_difference p p' ≡ Some at → Wrap p p' → ⊥
wraps_never p p' at e w = none_some at (sym ((difference_decides p p').1 w) ∙ e)

pub stands_then : (p p' : Program) → WellFormed p → first_difference p p' ≡ None → KeepsStanding p p'
stands_then p p' c e h k s = wrapped_stands p p' h k c (wraps_then p p' e) s

pub never_then : (p p' : Program) → WellFormed p → first_difference p p' ≡ None → NeverFails p p'
never_then p p' c e h k place w s m = wrapped_never_fails p p' h k place w c (wraps_then p p' e) s m

pub upgraded_then : (p p' : Program) → WellFormed p → first_difference p p' ≡ None → IsUpgraded p p'
upgraded_then p p' c e = wrapped_is_upgraded p p' c (wraps_then p p' e)
