-- What the changes of commands have, whatever the book: a new text isn't there yet and is a program, a new run's text is there, and the
-- run of a turn, of an attempt and of another text is, with that text. And where a command can't be decided over a sound book, the change that it would make has no number left.
use Rattle.std.specs.Prelude.{◌≡◌, ◌≤◌, List, [], ◌∷◌, None, Some, Ok, length}
use Rattle.flow_base.specs.Syntax.{Bytes, Program}
use Rattle.flow_base.specs.declared.book.Run.{Run}
use Rattle.flow_base.specs.declared.book.Change.{Change}
use Rattle.flow_base.specs.declared.book.Change.TheVariants.{AddText, AddRun, AddTurn, SetAttempt, SetText}
use Rattle.flow_base.specs.declared.command.Command.{Command}
use Rattle.flow_model.specs.Book.{Book, nth, text_number, changed}
use Rattle.flow_model.specs.Apply.{Rules, outcome}
use Rattle.flow_model.specs.Sound.{IsSound, IsProgram}
use Rattle.flow_machine.specs.Fitting.{HasUnfit}
use Rattle.flow_machine.specs.Soundness.{TextsRead}
use Rattle.flow_machine.specs.Stuck.{IsFull, IsStuck}

abbrev pub IsWelcome : Rules → Book → Change → Type 0
IsWelcome u b (AddText body) = (text_number b body ≡ None) × IsProgram u body
IsWelcome u b (AddRun flow request text t) = (body : Bytes) × (nth b.texts text ≡ Some body)
IsWelcome u b (AddTurn n t) = (r : Run) × (nth b.runs n ≡ Some r)
IsWelcome u b (SetAttempt n event attempt ready) = (r : Run) × (nth b.runs n ≡ Some r)
IsWelcome u b (SetText n text) = ((r : Run) × (nth b.runs n ≡ Some r)) × ((body : Bytes) × (nth b.texts text ≡ Some body))

-- each of several changes, over the book that those before it leave
abbrev pub AreWelcome : Rules → Book → List Change → Type 0
AreWelcome u b [] = Unit {0}
AreWelcome u b (c ∷ cs) = IsWelcome u b c × AreWelcome u (changed b c) cs

-- Each change that a command makes is such a one.
abbrev pub ChangesWelcome : Type 0
ChangesWelcome = (u : Rules) (b : Book) (c : Command) → AreWelcome u b (outcome u b c).changes

-- A text that is a program has 65,536 bytes at most.
abbrev pub ReadsShort : Rules → Type 0
ReadsShort u = (text : Bytes) (p : Program) → u.program_of text ≡ Ok p → length text ≤ 65536

-- no number is left for the text or the run that comes
abbrev pub IsUnnumbered : Book → Change → Type 0
IsUnnumbered b (AddText body) = IsFull (length b.texts)
IsUnnumbered b (AddRun flow request text t) = IsFull (length b.runs)
IsUnnumbered b (AddTurn n t) = ⊥
IsUnnumbered b (SetAttempt n event attempt ready) = ⊥
IsUnnumbered b (SetText n text) = ⊥

-- Over a sound book whose texts are programs a command is stuck only where it would make such a change.
abbrev pub StuckUnnumbered : Type 0
StuckUnnumbered = (u : Rules) (b : Book) (c : Command) → TextsRead u b → IsSound u b → IsStuck u b c → HasUnfit IsUnnumbered b (outcome u b c).changes
