-- What a disk shows whose calls have numbers.
use Rattle.std.specs.Prelude.{◌≡◌, false, Option, Some, None, Result, IsErr, IsSome}
use Rattle.std.specs.declared.io.Error.{Error}
use Rattle.flow_crash.specs.declared.numbered.Numbered.{Numbered}
use Rattle.flow_crash.specs.declared.rule.Rule.{Ghosts}
use Rattle.flow_crash.specs.declared.calls.Part.{Part}
use Rattle.flow_crash.specs.declared.calls.Part.TheVariants.{Before}
use Rattle.flow_crash.specs.Numbers.{Rises}

-- the disk to which it passes calls on
abbrev pub inner_of : {D R : Type 0} → Numbered D R → D
inner_of f = f.inner

-- its rule
abbrev pub rule_of : {D R : Type 0} → Numbered D R → R
rule_of f = f.rule

-- no sync was refused
abbrev pub IsFresh : {D R : Type 0} → Numbered D R → Type 0
IsFresh f = f.sync_refused ≡ false

-- how much of a call that was refused is carried out. None: it was passed on
abbrev pub fate_of : {D R : Type 0} → Ghosts R → Numbered D R → Numbered D R → Option Part
fate_of g old new = g.fate (rule_of old) (rule_of new)

-- a call got its number, and was refused by it or passed on
pub record IsNumbered {D R T : Type 0} (g : Ghosts R) (old new : Numbered D R) (result : Result T Error) : Type 0 where
  pub steps : g.steps (rule_of old) (rule_of new)
  pub refused : IsSome (fate_of g old new) → IsErr result
  pub counted : IsSome (fate_of g old new) → Rises (g.refusals_of (rule_of old)) (g.refusals_of (rule_of new))
  pub spared : fate_of g old new ≡ Some Before → inner_of new ≡ inner_of old
  pub passed : fate_of g old new ≡ None → g.refusals_of (rule_of new) ≡ g.refusals_of (rule_of old)
