-- Positions that deciding may use, and what is known of them.
use Rattle.std.specs.Prelude.{◌≡◌, ◌⊎◌, ℕ, List, [], ◌∷◌, Contains, Option, None, Some, length, max}
use Rattle.flow_base.specs.Syntax.{Program}
use Rattle.flow_base.specs.declared.event.Cmd.{Cmd}
use Rattle.flow_base.specs.declared.event.Event.{Event}
use Rattle.flow_base.specs.declared.event.Input.{Input}
use Rattle.flow_base.specs.declared.event.Input.TheVariants.{Started}
use Rattle.flow_base.specs.declared.value.Value.{Value}
use Rattle.flow_base.specs.declared.book.Change.{Change}
use Rattle.flow_base.specs.declared.book.Turn.{Turn}
use Rattle.flow_base.specs.declared.book.Change.TheVariants.{AddRun, AddTurn}
use Rattle.flow_model.specs.Configuration.{first_configuration}
use Rattle.flow_model.specs.Stands.{Stands}
use Rattle.flow_model.specs.Turn.{Fresh}
use Rattle.flow_model.specs.Turned.{turned}
use Rattle.flow_view.specs.declared.head.Head.{Head}
use Rattle.flow_model.specs.Book.{Book, changed_by}
use Rattle.flow_run.specs.Position.{config_of}
use Rattle.flow_run.specs.declared.stance.Stance.{Stance}
use Rattle.flow_cache.specs.declared.positions.Entry.{Entry}
use Rattle.flow_cache.specs.Entries.{Entries, Kept, HasEvents, IsKept, with_entry, without_entry}
use Rattle.flow_cache.specs.Laws.{Rule, AllHave}
use Rattle.flow_machine.specs.Reached.{Meaning, HasReached}
use Rattle.flow_machine.specs.declared.seats.Led.{Led}
use Rattle.flow_machine.specs.declared.seats.Seats.{Seats}
use Rattle.flow_machine.specs.declared.turns.Continuation.{Continuation}

-- The run has reached in the book what is kept of it.
abbrev pub ReachedIn : Meaning → Book → Rule
ReachedIn m b run e = HasReached m b run e.text e.stance

-- Each position, kept or ahead, is one that its run has reached in the book.
pub record FitSeats (m : Meaning) (b : Book) (s : Seats) : Type 0 where
  pub kept : AllHave (ReachedIn m b) s.kept.entries
  pub ahead : (l : Led) → Contains s.ahead.items l → HasReached m b l.run l.text l.stance

-- There are none.
pub record HasNone (s : Seats) : Type 0 where
  pub kept : s.kept.entries ≡ []
  pub ahead : s.ahead.items ≡ []

-- All entries of the second stand in the first.
abbrev pub IsWithin : Entries → Entries → Type 0
IsWithin old new = (e : ℕ × Entry) → Contains new e → Contains old e

-- The entries are the same, in whichever order.
abbrev pub AreAlike : Entries → Entries → Type 0
AreAlike old new = IsWithin old new × IsWithin new old

-- What was kept is kept on, and nothing else; which was used last isn't said.
abbrev pub KeepsAlike : Seats → Seats → Type 0
KeepsAlike old new = AreAlike old.kept.entries new.kept.entries

-- The position is of this run and text, with so many events.
pub record IsLedAt (l : Led) (run text events : ℕ) : Type 0 where
  pub its_run : l.run ≡ run
  pub its_text : l.text ≡ text
  pub counts : HasEvents l.stance events

-- The one is the other's copy: the same for every program.
abbrev pub IsSame : Stance → Stance → Type 0
IsSame s t = (p : Program) → config_of p s ≡ config_of p t

-- a copy of the entry of a run
abbrev pub IsCopy : Entries → ℕ → ℕ → ℕ → Stance → Type 0
IsCopy es run text events s = (t : Stance) × (IsKept es run text events t × IsSame s t)

-- a copy of one that stands ahead
abbrev pub IsCopyAhead : List Led → ℕ → ℕ → ℕ → Stance → Type 0
IsCopyAhead ls run text events s = (l : Led) × (Contains ls l × (IsLedAt l run text events × IsSame s l.stance))

-- A copy of the position of this run under this text with so many events, which stands ahead or is kept.
abbrev pub IsPlace : Seats → ℕ → ℕ → ℕ → Stance → Type 0
IsPlace seats run text events s = IsCopyAhead seats.ahead.items run text events s ⊎ IsCopy seats.kept.entries run text events s

-- Each that stands ahead did so before, or is the one that there may be.
abbrev pub Grows : Seats → Option Led → Seats → Type 0
Grows old o new = (l : Led) → Contains new.ahead.items l → Contains old.ahead.items l ⊎ (o ≡ Some l)

-- One more is kept, or a growth was refused.
abbrev pub KeepsOne : Kept → Led → Kept → Type 0
KeepsOne old l new = (new ≡ with_entry l.run (record { text = l.text; stance = l.stance }) old) ⊎ (new ≡ old)

-- Each entry was kept before, or stood ahead.
abbrev pub WasThere : Entries → List Led → ℕ × Entry → Type 0
WasThere es ls e = Contains es e ⊎ Contains ls (record { run = e.0; text = e.1.text; stance = e.1.stance })

-- All entries of the second were in the first, or stood ahead.
abbrev pub KeepsAll : Kept → List Led → Kept → Type 0
KeepsAll old ls new = (e : ℕ × Entry) → Contains new.entries e → WasThere old.entries ls e

-- without the entries of these runs
abbrev pub without_entries : List ℕ → Kept → Kept
without_entries [] k = k
without_entries (run ∷ runs) k = without_entries runs (without_entry run k)

-- What stood ahead is kept, and then the entries of the runs that are over are let go.
pub record Settles (old new : Seats) : Type 0 where
  pub between : Kept
  pub all : KeepsAll old.kept old.ahead.items between
  pub gone : new.kept ≡ without_entries old.over.items between

-- Once these changes are made, the run has reached where its turn leads.
abbrev pub LeadsTo : Meaning → Book → List Change → Led → Type 0
LeadsTo m b cs l = HasReached m (changed_by b cs) l.run l.text l.stance

-- This is the first turn of a run of the program, and where it leads.
pub record IsFirstLed (p : Program) (at : ℕ) (vs : List Value) (t : Turn) (s : Stance) : Type 0 where
  pub commands : List Cmd
  pub leads : turned p Fresh first_configuration at (Started vs) ≡ Some (commands, config_of p s)
  pub made : t ≡ record { at = at; input = Started vs; commands = commands }

-- A turn of a run with this head, which stood at s, leads to the position, and is the first of the changes.
pub record IsLedBy (p : Program) (h : Head) (s : Stance) (run at : ℕ) (i : Input) (changes : List Change) (l : Led) : Type 0 where
  pub commands : List Cmd
  pub rest : List Change
  pub its_run : l.run ≡ run
  pub its_text : l.text ≡ h.text
  pub leads : turned p Fresh (config_of p s) (max at h.moment) i ≡ Some (commands, config_of p l.stance)
  pub made : changes ≡ AddTurn run (record { at = max at h.moment; input = i; commands = commands }) ∷ rest

-- It begins a run of this head's flow and text, whose first turn leads to the position.
pub record IsNextRun (p : Program) (h : Head) (n : Continuation) : Type 0 where
  pub at : ℕ
  pub arguments : List Value
  pub turn : Turn
  pub led : IsFirstLed p at arguments turn n.stance
  pub made : n.change ≡ AddRun h.flow None h.text turn

-- its change, if there is one
abbrev pub listed_next : Option Continuation → List Change
listed_next None = []
listed_next (Some n) = n.change ∷ []

-- The changes are a turn of the run and the run as which it continues, which stands at the position.
pub record IsNextLed (p : Program) (h : Head) (run : ℕ) (changes : List Change) (s : Stance) : Type 0 where
  pub turn : Turn
  pub next : Continuation
  pub there : next.stance ≡ s
  pub led : IsNextRun p h next
  pub made : changes ≡ AddTurn run turn ∷ next.change ∷ []

-- Once these changes are made, the last run has reached the position.
abbrev pub LeadsNext : Meaning → Book → List Change → ℕ → Stance → Type 0
LeadsNext m b cs text s = HasReached m (changed_by b cs) (length (changed_by b cs).runs) text s

-- Under this text the run's whole history stands at the position.
pub record IsTextLed (p : Program) (h : List Event) (run text : ℕ) (l : Led) : Type 0 where
  pub its_run : l.run ≡ run
  pub its_text : l.text ≡ text
  pub stands : Stands p h (config_of p l.stance)
