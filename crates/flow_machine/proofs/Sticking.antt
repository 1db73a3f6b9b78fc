-- Several commands, of which one is stuck or makes a change that doesn't fit, and an input that is stuck.
use Rattle.std.proofs.Common.{◌≡◌, List, ◌∷◌, Some, Result, sym, subst, inl, inr}
use Rattle.std.specs.Prelude.{◌⊎◌}
use Rattle.flow_base.specs.Syntax.{Bytes, Program}
use Rattle.flow_base.specs.declared.book.Run.{Run}
use Rattle.flow_base.specs.declared.event.Input.{Input}
use Rattle.flow_base.specs.declared.command.Command.{Command}
use Rattle.flow_base.specs.declared.command.TextFault.{TextFault}
use Rattle.flow_model.specs.Book.{Book}
use Rattle.flow_model.specs.Apply.{Rules, program_at, outcome}
use Rattle.flow_base.specs.declared.book.Change.{Change}
use Rattle.flow_machine.specs.Fitting.{HasUnfit, IsUnfitWithin}
use Rattle.flow_machine.specs.Stuck.{needs, CantRecord, StuckInput, IsStuck, IsStuckWithin}

pub stuck_here : (u : Rules) (b : Book) (cs : List Command) (c : Command) (rest : List Command) → cs ≡ c ∷ rest → IsStuck u b c → IsStuckWithin u b cs
stuck_here u b cs c rest e h = subst (IsStuckWithin u b) (sym e) (inl h)

pub unfit_here : (unfit : Book → Change → Type 0) (u : Rules) (b : Book) (cs : List Command) (c : Command) (rest : List Command) → cs ≡ c ∷ rest → HasUnfit unfit b (outcome u b c).changes → IsUnfitWithin unfit u b cs
unfit_here unfit u b cs c rest e h = subst (IsUnfitWithin unfit u b) (sym e) (inl h)

pub other_sides : (X Y Y' Z Z' : Type 0) → (Y → Y') → (Z → Z') → X ⊎ (Y ⊎ Z) → X ⊎ (Y' ⊎ Z')
other_sides X Y Y' Z Z' f h (inl x) = inl x
other_sides X Y Y' Z Z' f h (inr (inl y)) = inr (inl (f y))
other_sides X Y Y' Z Z' f h (inr (inr z)) = inr (inr (h z))

pub stuck_input : (program_of : Bytes → Result Program TextFault) (b : Book) (r : Run) (i : Input) (p : Program) → Some p ≡ program_at program_of b r.text → CantRecord p r.history i → StuckInput program_of b r i
unfolding StuckInput
stuck_input program_of b r i p e h = subst (λ o. needs o (λ q. CantRecord q r.history i)) e h
