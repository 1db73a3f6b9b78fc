-- Commands keep a book sound and orderly, and over a sound book each can be decided.
use Rattle.std.specs.Prelude.{◌≡◌, ◌⊎◌, List, All, length, Ok}
use Rattle.flow_base.specs.Syntax.{Bytes, Program}
use Rattle.flow_base.specs.declared.command.Command.{Command}
use Rattle.flow_model.specs.WellFormed.{WellFormed}
use Rattle.flow_model.specs.Book.{Book, no_book}
use Rattle.flow_model.specs.Apply.{Rules, after}
use Rattle.flow_model.specs.Sound.{IsSound, IsProgram, IsOrderly}
use Rattle.flow_machine.specs.Stuck.{IsFull, IsStuck}

-- Each text that is a program at all is a well-formed one. Without this a call might be tried no times, and its activity would
-- have no attempt from 1 to that number.
abbrev pub ReadsWellFormed : Rules → Type 0
ReadsWellFormed u = (text : Bytes) (p : Program) → u.program_of text ≡ Ok p → WellFormed p

-- A book in which nothing is recorded yet is sound.
abbrev pub NoBookIsSound : Type 0
NoBookIsSound = (u : Rules) → IsSound u no_book

-- From a sound book commands lead to sound books alone.
abbrev pub SoundAfter : Type 0
SoundAfter = (u : Rules) (b : Book) (cs : List Command) → ReadsWellFormed u → IsSound u b → IsSound u (after u b cs)

-- A book in which nothing is recorded yet is orderly.
abbrev pub NoBookIsOrderly : Type 0
NoBookIsOrderly = (u : Rules) → IsOrderly u no_book

-- From an orderly book commands lead to orderly books alone, whatever texts mean.
abbrev pub OrderlyAfter : Type 0
OrderlyAfter = (u : Rules) (b : Book) (cs : List Command) → IsOrderly u b → IsOrderly u (after u b cs)

-- Each text of the book is a program. `IsSound` says so of those alone that have a run.
abbrev pub TextsRead : Rules → Book → Type 0
TextsRead u b = All (IsProgram u) b.texts

abbrev pub NoTextUnread : Type 0
NoTextUnread = (u : Rules) → TextsRead u no_book

abbrev pub TextsReadAfter : Type 0
TextsReadAfter = (u : Rules) (b : Book) (cs : List Command) → TextsRead u b → TextsRead u (after u b cs)

-- No number is left for a further text, or none for a further run.
abbrev pub NumbersEnd : Book → Type 0
NumbersEnd b = IsFull (length b.texts) ⊎ IsFull (length b.runs)

-- Over a sound book whose texts are programs a command is stuck only where the numbers end.
abbrev pub SoundDecides : Type 0
SoundDecides = (u : Rules) (b : Book) (c : Command) → TextsRead u b → IsSound u b → IsStuck u b c → NumbersEnd b
