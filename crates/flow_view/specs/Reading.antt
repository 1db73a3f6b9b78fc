-- What the calls on a view promise.
use Rattle.std.specs.Prelude.{◌≡◌, Result, Err}
use Rattle.flow_model.specs.Book.{Book}
use Rattle.flow_view.specs.declared.fault.ViewFault.{ViewFault}
use Rattle.flow_view.specs.declared.fault.ViewFault.TheVariants as fault

-- A read: where the view is sure afterwards, the book is as it was, and the value is the one that was asked for.
abbrev pub Reads : {A : Type 0} → Type 0 → Book → Book → A → A → Type 0
Reads sure old new value expected = sure → (new ≡ old) × (value ≡ expected)

-- E80 has this cause.
abbrev pub Caused : {A : Type 0} → Result A ViewFault → Type 0 → Type 0
Caused (Err fault.StoreRefused) cause = cause
Caused _ cause = Unit {0}
