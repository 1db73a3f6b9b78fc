-- What a wrap means for the runs that have begun under the first text, while it is open.
use Rattle.std.specs.Prelude.{◌≡◌, ℕ, true, List, [], ◌∷◌, Some, Result, Ok}
use Rattle.flow_base.specs.Syntax.{Bytes, Program}
use Rattle.flow_base.specs.declared.book.Run.{Run}
use Rattle.flow_base.specs.declared.book.Change.TheVariants.{SetText}
use Rattle.flow_base.specs.declared.command.Reply.TheVariants.{Upgraded}
use Rattle.flow_base.specs.declared.command.TextFault.{TextFault}
use Rattle.flow_base.specs.declared.event.Event.{Event}
use Rattle.flow_base.specs.declared.event.Wrong.{Wrong}
use Rattle.flow_model.specs.Configuration.{Configuration, is_open}
use Rattle.flow_model.specs.Stands.{Stands, FirstMismatch}
use Rattle.flow_model.specs.WellFormed.{WellFormed}
use Rattle.flow_model.specs.Open.{state_of}
use Rattle.flow_model.specs.Book.{Book, nth}
use Rattle.flow_model.specs.Apply.{upgrade}
use Rattle.flow_patch.specs.Wrap.{Wrap, SameToASubmitter}

-- Each history that stands under the first program stands under the second, and leaves the run the same to a submitter.
abbrev pub KeepsStanding : Program → Program → Type 0
KeepsStanding p p' = (h : List Event) (k : Configuration) → Stands p h k → (k' : Configuration) × (Stands p' h k' × SameToASubmitter k k')

-- No history that stands under the first program has a mismatch under the second.
abbrev pub NeverFails : Program → Program → Type 0
NeverFails p p' = (h : List Event) (k : Configuration) (place : ℕ) (w : Wrong) → Stands p h k → FirstMismatch p' h place w → ⊥

-- An open run whose history stands under the first program is upgraded to a text that means the second.
abbrev pub IsUpgraded : Program → Program → Type 0
IsUpgraded p p' = (program_of : Bytes → Result Program TextFault) (b : Book) (run text : ℕ) (r : Run) (body : Bytes) (k : Configuration)
    → nth b.runs run ≡ Some r → is_open (state_of r.history) ≡ true → Stands p r.history k
    → nth b.texts text ≡ Some body → program_of body ≡ Ok p'
    → upgrade program_of b run text ≡ record { reply = Upgraded run text; changes = SetText run text ∷ [] }

abbrev pub WrappedIsUpgraded : Type 0
WrappedIsUpgraded = (p p' : Program) → WellFormed p → Wrap p p' → IsUpgraded p p'
