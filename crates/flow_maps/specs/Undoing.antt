-- What takes the changes of a book back that were noted: what is known is of the book before them again.
use Rattle.std.specs.Prelude.{◌≡◌, ◌-◌, ◌++◌, ◌∷◌, [], List, Option, Some, MatchOption, slice_set}
use Rattle.flow_base.specs.Syntax.{Bytes}
use Rattle.flow_base.specs.declared.book.Run.{Run}
use Rattle.flow_model.specs.Book.{Book, nth, signalled}
use Rattle.flow_maps.specs.Seats.{IsSeated}
use Rattle.flow_maps.specs.Serving.{Serves}
use Rattle.flow_maps.specs.Signals.{IsUntaken}
use Rattle.flow_maps.specs.declared.maps.Maps.{Maps}
use Rattle.flow_maps.specs.declared.undo.Journal.{Journal}
use Rattle.flow_maps.specs.declared.undo.RunBefore.{RunBefore}
use Rattle.flow_maps.specs.declared.undo.Undo.{Undo}
use Rattle.flow_maps.specs.declared.undo.Undo.TheVariants.{Text, Begun, Before}

-- A run was so in the first book, and is another one in the second, which differ in nothing else.
pub record WasBefore (u : RunBefore) (b c : Book) : Type 0 where
  pub was : Run
  pub now : Run
  pub there : nth b.runs u.run ≡ Some was
  pub seat : IsSeated (Some u.seat) (Some was)
  pub made : c ≡ record b { runs = slice_set b.runs (u.run - 1) now }
  pub request : now.request ≡ was.request
  pub signals : IsUntaken u.signal u.seat.head.flow b c

-- The second book has one run more, which this request started, or none.
pub record WasBegun (asked : Option Bytes) (b c : Book) : Type 0 where
  pub now : Run
  pub made : c ≡ record b { runs = b.runs ++ now ∷ [] }
  pub request : now.request ≡ asked
  pub signals : (f q : Bytes) → signalled b f q ≡ signalled c f q

-- This takes a change back that made the second book of the first.
abbrev pub IsUndo : Undo → Book → Book → Type 0
IsUndo Text b c = (t : Bytes) × (c ≡ record b { texts = b.texts ++ t ∷ [] })
IsUndo (Begun request) b c = WasBegun request b c
IsUndo (Before u) b c = WasBefore u b c

-- These take changes back that made the second book of the first, the oldest first.
abbrev pub Leads : List Undo → Book → Book → Type 0
Leads [] b c = b ≡ c
Leads (u ∷ us) b c = (d : Book) × IsUndo u b d × Leads us d c

-- where it is known how
abbrev pub LeadsBack : Journal → Book → Book → Type 0
LeadsBack j b c = MatchOption j.steps (Unit {0}) (λ us. Leads us.items b c)

abbrev pub GoesBack : Maps → Book → Book → Type 0
GoesBack m b c = LeadsBack m.journal b c

-- What is known is of some book from which the way to this one is known, if it is.
abbrev pub Returns : Maps → Book → Type 0
Returns m b = MatchOption m.journal.steps (Unit {0}) (λ us. (c : Book) × Leads us.items b c × Serves m c)
