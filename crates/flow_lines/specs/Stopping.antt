-- What stands behind a fault that ends answering before the input does.
use Rattle.std.specs.Prelude.{◌≡◌, ℕ, List, ◌∷◌, ◌++◌, Option, IfSome}
use Rattle.flow_base.specs.declared.code.Code.{Code}
use Rattle.flow_base.specs.declared.command.Command.{Command}
use Rattle.flow_model.specs.Apply.{Rules}
use Rattle.flow_model.specs.Book.{Book}
use Rattle.flow_lines.specs.Answering.{Part, AreParts, book_behind, commands_in, lines_in}
use Rattle.flow_lines.specs.Driving.{lines_of}
use Rattle.flow_model.specs.declared.answer.Stop.{Stop}
use Rattle.flow_model.specs.declared.answer.Stop.TheVariants as stop
use Rattle.flow_base.specs.declared.fault.Fault.{Fault}
use Rattle.flow_base.specs.declared.fault.Fault.TheVariants as fault

-- E84 and E85 have their stop's cause. No other fault is met but E01, and E94 and E95, whose ends say themselves that they failed.
abbrev pub CausedFault : Fault → (Stop → Type 0) → Type 0
CausedFault (fault.NoMemory _) cause = Unit {0}
CausedFault fault.Unknown cause = cause stop.Unknown
CausedFault fault.Halted cause = cause stop.Halted
CausedFault fault.InputFailed cause = Unit {0}
CausedFault fault.OutputFailed cause = Unit {0}
CausedFault f cause = ⊥

-- Commands are those of the next lines, over the book that the lines before them left. They are applied together.
pub record ComeNext (u : Rules) (given_up : Book → List Command → Code → Type 0) (cut : List (List ℕ) → List (List ℕ) → Type 0) (b : Book) (bytes : List ℕ) (book : Book) (commands : List Command) : Type 0 where
  pub parts : List Part
  pub next : List (List ℕ)
  pub later : List (List ℕ)
  pub lines_are : lines_of bytes ≡ lines_in parts ++ (next ++ later)
  pub parts_are : AreParts u given_up cut b parts (next ++ later)
  pub book_is : book ≡ book_behind u b parts
  pub commands_are : commands ≡ commands_in next

-- Commands are this one and those of the first lines of the bytes.
pub record BeginWith (first : Command) (bytes : List ℕ) (commands : List Command) : Type 0 where
  pub lines : List (List ℕ)
  pub later : List (List ℕ)
  pub lines_are : lines_of bytes ≡ lines ++ later
  pub commands_are : commands ≡ first ∷ commands_in lines

-- One batch over one book has this stop. Where all is sure and the bytes are known, it is that of lines of theirs.
abbrev pub StoppedBy : Rules → (Book → List Command → Code → Type 0) → (Book → List Command → Stop → Type 0) → (List (List ℕ) → List (List ℕ) → Type 0) → Type 0 → Book → Option (List ℕ) → Stop → Type 0
StoppedBy u given_up stops cut sure b known s =
    (book : Book) × ((commands : List Command) × (stops book commands s × (sure → IfSome known (λ bytes. ComeNext u given_up cut b bytes book commands))))

-- A batch that begins with this command has this stop; its other commands are those of lines of the bytes.
abbrev pub StopsAt : (List Command → Stop → Type 0) → Command → Option (List ℕ) → Stop → Type 0
StopsAt stops first known s = (commands : List Command) × (stops commands s × IfSome known (λ bytes. BeginWith first bytes commands))
