-- Lines answered in parts, one after the other, each over the book that those before it left: a line that is no command, or the
-- lines of a batch, whose commands are applied together or not at all. `given_up` is what stands behind commands that aren't
-- applied, `counted` how many parts may be given up, and `cut` which lines may be a batch where these come behind them.
use Rattle.std.specs.Prelude.{◌≡◌, ◌≤◌, ◌⊎◌, ◌+◌, ◌^◌, ℕ, suc, length, Bool, true, false, List, [], ◌∷◌, ◌++◌, Option, Some, None, IfSome, is_some, map}
use Rattle.std.specs.Io.KnownBytes.{Appends, Keeps}
use Rattle.std.specs.Io.BufRead.{drop_through}
use Rattle.flow_base.specs.declared.code.Code.{Code}
use Rattle.flow_base.specs.declared.command.Command.{Command}
use Rattle.flow_base.specs.declared.command.Reply.{Reply}
use Rattle.flow_base.specs.declared.fault.Fault.{Fault}
use Rattle.flow_base.specs.declared.fault.Fault.TheVariants as fault
use Rattle.flow_model.specs.Apply.{Rules, outcome, after, after_one}
use Rattle.flow_model.specs.Book.{Book}
use Rattle.flow_model.specs.Answers.{IsGivenUp}
use Rattle.flow_model.specs.declared.answer.Stop.{Stop}
use Rattle.flow_model.specs.declared.answer.Stop.TheVariants as stop
use Rattle.flow_lines.specs.Commands.{line_command}
use Rattle.flow_lines.specs.Driving.{lines_of, written, final_status, WritesBeginning}
use Rattle.flow_lines.specs.declared.reply.Line.{Line}
use Rattle.flow_lines.specs.declared.reply.Line.TheVariants as line

-- At most so many commands are applied together, and one at least.
pub record IsBatch (most : ℕ) (commands : List Command) : Type 0 where
  pub some : 1 ≤ length commands
  pub few : length commands ≤ most

-- this stands behind a batch of at most so many commands
abbrev pub OfBatch : {X : Type 0} → ℕ → (Book → List Command → X → Type 0) → Book → List Command → X → Type 0
OfBatch most cause = λ b commands x. IsBatch most commands × cause b commands x

-- ---- the commands among lines

abbrev pub with_command : Option Command → List Command → List Command
with_command None cs = cs
with_command (Some c) cs = c ∷ cs

abbrev pub commands_in : List (List ℕ) → List Command
commands_in [] = []
commands_in (l ∷ ls) = with_command (line_command l) (commands_in ls)

-- which of the lines are commands
abbrev pub are_commands : List (List ℕ) → List Bool
are_commands ls = map (λ l. is_some (line_command l)) ls

-- the last of these
abbrev pub last_or : Bool → List Bool → Bool
last_or b [] = b
last_or b (m ∷ ms) = last_or m ms

-- Of so many commands the last one is the last line: these are the marks of the lines.
abbrev pub EndsFull : ℕ → List Command → List Bool → Type 0
EndsFull most commands marks = length commands ≡ most → last_or false marks ≡ true

-- ---- how lines are cut

-- a batch begins with a command
abbrev pub BeginsBatch : List (List ℕ) → Type 0
BeginsBatch [] = ⊥
BeginsBatch (l ∷ ls) = is_some (line_command l) ≡ true

-- Where the bytes are known a batch has so many commands, and ends with the last of them: a line behind it that is no command is
-- another part. It has fewer only where nothing comes behind it, or where it has 2^64 lines, more than are counted.
pub record IsFull (most : ℕ) (lines later : List (List ℕ)) : Type 0 where
  pub begins : BeginsBatch lines
  pub batch : IsBatch most (commands_in lines)
  pub full : (length (commands_in lines) ≡ most) ⊎ ((2 ^ 64 ≤ length lines) ⊎ (later ≡ []))
  pub ends : EndsFull most (commands_in lines) (are_commands lines)

-- where they may be unknown it has at most so many, and ends with the last of them where it has as many
abbrev pub HasFew : ℕ → List (List ℕ) → List (List ℕ) → Type 0
HasFew most = λ lines later. BeginsBatch lines × (IsBatch most (commands_in lines) × EndsFull most (commands_in lines) (are_commands lines))

-- A part of the lines: one that is no command, those of a batch that is applied, or those of one that is given up.
pub data Part : Type 0 where
  Lone : List ℕ → Part
  Applied : List (List ℕ) → Part
  GivenUp : List (List ℕ) → Code → Part

abbrev pub lines_by : Part → List (List ℕ)
lines_by (Lone l) = l ∷ []
lines_by (Applied ls) = ls
lines_by (GivenUp ls k) = ls

abbrev pub lines_in : List Part → List (List ℕ)
lines_in [] = []
lines_in (p ∷ ps) = lines_by p ++ lines_in ps

-- ---- how they are answered

-- a line of a batch that is applied
abbrev pub told_applied : Rules → Book → Option Command → Line
told_applied u b None = line.Bad
told_applied u b (Some c) = line.Of (outcome u b c).reply

abbrev pub after_line : Rules → Book → Option Command → Book
after_line u b None = b
after_line u b (Some c) = after_one u b c

-- each command's reply is that of apply, over the book that the lines before it left
abbrev pub all_applied : Rules → Book → List (List ℕ) → List Line
all_applied u b [] = []
all_applied u b (l ∷ ls) = told_applied u b (line_command l) ∷ all_applied u (after_line u b (line_command l)) ls

-- a line of a batch that is given up
abbrev pub told_given_up : Code → Option Command → Line
told_given_up k None = line.Bad
told_given_up k (Some c) = line.NotApplied k

-- no command of it is applied: each is told with the one code
abbrev pub all_given_up : Code → List (List ℕ) → List Line
all_given_up k ls = map (λ l. told_given_up k (line_command l)) ls

abbrev pub answers_by : Rules → Book → Part → List Line
answers_by u b (Lone l) = line.Bad ∷ []
answers_by u b (Applied ls) = all_applied u b ls
answers_by u b (GivenUp ls k) = all_given_up k ls

-- A batch that is applied leads to the book after its commands; else the book is as it was.
abbrev pub book_by : Rules → Book → Part → Book
book_by u b (Lone l) = b
book_by u b (Applied ls) = after u b (commands_in ls)
book_by u b (GivenUp ls k) = b

-- the answers to all parts, and the book behind them
abbrev pub answers_in : Rules → Book → List Part → List Line
answers_in u b [] = []
answers_in u b (p ∷ ps) = answers_by u b p ++ answers_in u (book_by u b p) ps

abbrev pub book_behind : Rules → Book → List Part → Book
book_behind u b [] = b
book_behind u b (p ∷ ps) = book_behind u (book_by u b p) ps

-- A line by itself is no command, and a batch is given up with E80 or E01, for a cause.
abbrev pub IsPart : (Book → List Command → Code → Type 0) → Book → Part → Type 0
IsPart given_up b (Lone l) = line_command l ≡ None
IsPart given_up b (Applied ls) = Unit {0}
IsPart given_up b (GivenUp ls k) = IsGivenUp k × given_up b (commands_in ls) k

-- the lines of a batch are cut so, where these come behind them
abbrev pub IsCut : (List (List ℕ) → List (List ℕ) → Type 0) → Part → List (List ℕ) → Type 0
IsCut cut (Lone l) later = Unit {0}
IsCut cut (Applied ls) later = cut ls later
IsCut cut (GivenUp ls k) later = cut ls later

-- these are parts, from a book on, and these lines come behind them
abbrev pub AreParts : Rules → (Book → List Command → Code → Type 0) → (List (List ℕ) → List (List ℕ) → Type 0) → Book → List Part → List (List ℕ) → Type 0
AreParts u given_up cut b [] later = Unit {0}
AreParts u given_up cut b (p ∷ ps) later = IsPart given_up b p × (IsCut cut p (lines_in ps ++ later) × AreParts u given_up cut (book_by u b p) ps later)

-- this is the first line of the bytes, and the others are left
pub record FirstLine (bytes : List ℕ) (line : List ℕ) (left : Option (List ℕ)) : Type 0 where
  pub left_is : left ≡ Some (drop_through 10 bytes)
  pub lines_are : lines_of bytes ≡ line ∷ lines_of (drop_through 10 bytes)

-- The first lines of the bytes were answered, from a book to a book, and the others are left.
pub record Answered (u : Rules) (given_up : Book → List Command → Code → Type 0) (counted : Book → List Part → Type 0) (cut : List (List ℕ) → List (List ℕ) → Type 0) (b b1 : Book) (bytes : List ℕ) (left : Option (List ℕ)) (old new : Option (List ℕ)) (status : ℕ) : Type 0 where
  pub parts : List Part
  pub rest : List ℕ
  pub left_is : left ≡ Some rest
  pub lines_are : lines_of bytes ≡ lines_in parts ++ lines_of rest
  pub parts_are : AreParts u given_up cut b parts (lines_of rest)
  pub counted_is : counted b parts
  pub book_is : b1 ≡ book_behind u b parts
  pub written_are : Appends old new (written (answers_in u b parts))
  pub status_is : status ≡ final_status (answers_in u b parts)

-- All these lines were answered, from a book to a book, and each answer was written.
pub record AllAnswered (u : Rules) (given_up : Book → List Command → Code → Type 0) (counted : Book → List Part → Type 0) (cut : List (List ℕ) → List (List ℕ) → Type 0) (b b1 : Book) (lines : List (List ℕ)) (old new : Option (List ℕ)) (status : ℕ) : Type 0 where
  pub parts : List Part
  pub lines_are : lines ≡ lines_in parts
  pub parts_are : AreParts u given_up cut b parts []
  pub counted_is : counted b parts
  pub book_is : b1 ≡ book_behind u b parts
  pub written_are : Appends old new (written (answers_in u b parts))
  pub status_is : status ≡ final_status (answers_in u b parts)

-- ---- lines of an input whose bytes may be unknown

-- So many lines at least were answered, from a book to a book, and each answer was written.
pub record SomeAnswered (u : Rules) (given_up : Book → List Command → Code → Type 0) (counted : Book → List Part → Type 0) (cut : List (List ℕ) → List (List ℕ) → Type 0) (b b1 : Book) (least : ℕ) (old new : Option (List ℕ)) (status : ℕ) : Type 0 where
  pub parts : List Part
  pub many : least ≤ length (lines_in parts)
  pub parts_are : AreParts u given_up cut b parts []
  pub counted_is : counted b parts
  pub book_is : b1 ≡ book_behind u b parts
  pub written_are : Appends old new (written (answers_in u b parts))
  pub status_is : status ≡ final_status (answers_in u b parts)

-- ---- the status 3

pub record HasGivenUp (given_up : Book → List Command → Code → Type 0) : Type 0 where
  pub book : Book
  pub commands : List Command
  pub code : Code
  pub is : given_up book commands code

-- at most 1, or 3 where commands were given up
abbrev pub StatusWithin : (Book → List Command → Code → Type 0) → ℕ → Type 0
StatusWithin given_up n = (n ≤ 1) ⊎ ((n ≡ 3) × HasGivenUp given_up)

-- ---- one part

-- These lines are a part, from a book to a book, of whose answers this is told.
pub record TellsPart (u : Rules) (given_up : Book → List Command → Code → Type 0) (b b1 : Book) (lines : List (List ℕ)) (tells : List Line → Type 0) : Type 0 where
  pub part : Part
  pub lines_are : lines ≡ lines_by part
  pub part_is : IsPart given_up b part
  pub book_is : b1 ≡ book_by u b part
  pub told : tells (answers_by u b part)

-- all answers were written
pub record WritesAll (old new : Option (List ℕ)) (status : ℕ) (answers : List Line) : Type 0 where
  pub written_are : Appends old new (written answers)
  pub status_is : status ≡ final_status answers

-- ---- where answering ended before the input did

-- These bytes weren't all written: where memory ran out none, of a failed write a beginning.
abbrev pub WritesPart : Fault → Option (List ℕ) → Option (List ℕ) → List ℕ → Type 0
WritesPart (fault.NoMemory _) old new bytes = Keeps old new
WritesPart fault.OutputFailed old new bytes = WritesBeginning old new bytes
WritesPart f old new bytes = ⊥

-- of these answers the first were written, each whole
abbrev pub WritesFront : Option (List ℕ) → Option (List ℕ) → List Line → Type 0
WritesFront old new answers = (front : List Line) × ((back : List Line) × ((answers ≡ front ++ back) × Appends old new (written front)))

-- Where a write failed perhaps a beginning of the next was written too.
abbrev pub WritesSome : Fault → Option (List ℕ) → Option (List ℕ) → List Line → Type 0
WritesSome (fault.NoMemory _) old new answers = WritesFront old new answers
WritesSome fault.OutputFailed old new answers = WritesBeginning old new (written answers)
WritesSome f old new answers = ⊥

-- Where it ends between two parts memory ran out, or the input can't be read.
abbrev pub StopsBetween : Fault → Type 0
StopsBetween f = (f ≡ fault.NoMemory _) ⊎ (f ≡ fault.InputFailed)

-- Of the answers to a part, which is this one, not all were written.
abbrev pub WasCutShort : Rules → (Book → List Command → Code → Type 0) → List Part → Book → Book → List (List ℕ) → (List Line → Type 0) → Type 0
WasCutShort u given_up here b b1 lines tells = (t : TellsPart u given_up b b1 lines tells) × (here ≡ t.part ∷ [])

-- Where it ends at a part, this is left of it. Where memory ran out, or a write failed, it was answered, and not all of its answers
-- were written: `here` is this part. At E84 and E85 its commands have this stop, and none of its answers was written.
abbrev pub StopsAtPart : Rules → (Book → List Command → Code → Type 0) → (Book → List Command → Stop → Type 0) → Fault → List Part → Book → Book → List (List ℕ) → Option (List ℕ) → Option (List ℕ) → Type 0
StopsAtPart u given_up stops (fault.NoMemory _) here b b1 lines old new = WasCutShort u given_up here b b1 lines (λ answers. WritesFront old new answers)
StopsAtPart u given_up stops fault.OutputFailed here b b1 lines old new = WasCutShort u given_up here b b1 lines (λ answers. WritesBeginning old new (written answers))
StopsAtPart u given_up stops fault.Unknown here b b1 lines old new = (here ≡ []) × (stops b (commands_in lines) stop.Unknown × Keeps old new)
StopsAtPart u given_up stops fault.Halted here b b1 lines old new = (here ≡ []) × (stops b (commands_in lines) stop.Halted × Keeps old new)
StopsAtPart u given_up stops f here b b1 lines old new = ⊥

-- and some part is this one
abbrev pub StopsAtSome : Rules → (Book → List Command → Code → Type 0) → (Book → List Command → Stop → Type 0) → Fault → Book → Book → List (List ℕ) → Option (List ℕ) → Option (List ℕ) → Type 0
StopsAtSome u given_up stops f b b1 lines old new = (here : List Part) × StopsAtPart u given_up stops f here b b1 lines old new

-- a line by itself, or those of a batch
abbrev pub IsCutOff : (List (List ℕ) → List (List ℕ) → Type 0) → List (List ℕ) → List (List ℕ) → Type 0
IsCutOff cut next rest = cut next rest ⊎ ((l : List ℕ) × ((next ≡ l ∷ []) × (line_command l ≡ None)))

-- The next lines are the part where it ends.
pub record StopsInPart (u : Rules) (given_up : Book → List Command → Code → Type 0) (stops : Book → List Command → Stop → Type 0) (cut : List (List ℕ) → List (List ℕ) → Type 0) (e : Fault) (here : List Part) (b b1 : Book) (later : List (List ℕ)) (old new : Option (List ℕ)) : Type 0 where
  pub next : List (List ℕ)
  pub rest : List (List ℕ)
  pub lines_are : later ≡ next ++ rest
  pub cut_is : IsCutOff cut next rest
  pub stops_at : StopsAtPart u given_up stops e here b b1 next old new

-- it ends between parts, or in the next one
abbrev pub StopsNext : Rules → (Book → List Command → Code → Type 0) → (Book → List Command → Stop → Type 0) → (List (List ℕ) → List (List ℕ) → Type 0) → Fault → List Part → Book → Book → List (List ℕ) → Option (List ℕ) → Option (List ℕ) → Type 0
StopsNext u given_up stops cut e here b b1 later old new = (StopsBetween e × ((here ≡ []) × ((b1 ≡ b) × Keeps old new))) ⊎ StopsInPart u given_up stops cut e here b b1 later old new

-- The first of the lines were answered, from a book on, and their answers written; it ended behind them. What was given up is counted with the
-- part at which it ended.
pub record StopsWithin (u : Rules) (given_up : Book → List Command → Code → Type 0) (counted : Book → List Part → Type 0) (stops : Book → List Command → Stop → Type 0) (cut : List (List ℕ) → List (List ℕ) → Type 0) (b b1 : Book) (e : Fault) (whole : List (List ℕ)) (old new : Option (List ℕ)) : Type 0 where
  pub parts : List Part
  pub later : List (List ℕ)
  pub out : Option (List ℕ)
  pub lines_are : whole ≡ lines_in parts ++ later
  pub parts_are : AreParts u given_up cut b parts later
  pub here : List Part
  pub counted_is : counted b (parts ++ here)
  pub written_are : Appends old out (written (answers_in u b parts))
  pub ends : StopsNext u given_up stops cut e here (book_behind u b parts) b1 later out new

-- Of some lines the first were answered, from a book on, and their answers written; it ended behind them.
pub record StopsAmong (u : Rules) (given_up : Book → List Command → Code → Type 0) (counted : Book → List Part → Type 0) (stops : Book → List Command → Stop → Type 0) (cut : List (List ℕ) → List (List ℕ) → Type 0) (b b1 : Book) (e : Fault) (old new : Option (List ℕ)) : Type 0 where
  pub whole : List (List ℕ)
  pub stops_are : StopsWithin u given_up counted stops cut b b1 e whole old new

-- ---- a batch: lines whose commands are applied together

-- A batch was begun with these lines.
pub record HoldsLines (lines : List (List ℕ)) (commands : List Command) (marks : List Bool) : Type 0 where
  pub commands_are : commands ≡ commands_in lines
  pub marks_are : marks ≡ are_commands lines

-- these are the first lines of the bytes, and the others are left
pub record ReadAs (lines : List (List ℕ)) (bytes : List ℕ) (left : Option (List ℕ)) : Type 0 where
  pub rest : List ℕ
  pub left_is : left ≡ Some rest
  pub lines_are : lines_of bytes ≡ lines ++ lines_of rest

-- More lines were read and put to those of a batch.
pub record Gathered (commands commands1 : List Command) (marks marks1 : List Bool) (known left : Option (List ℕ)) : Type 0 where
  pub lines : List (List ℕ)
  pub commands_are : commands1 ≡ commands ++ commands_in lines
  pub marks_are : marks1 ≡ marks ++ are_commands lines
  pub read : IfSome known (λ bytes. ReadAs lines bytes left)

-- of known bytes nothing is left
abbrev pub HasEnded : Option (List ℕ) → Option (List ℕ) → Type 0
HasEnded known left = IfSome known (λ bytes. IfSome left (λ rest. rest ≡ []))

-- A batch has so many commands, or as many lines as can be counted, or nothing is left to read.
abbrev pub IsFilled : ℕ → List Command → List Bool → Option (List ℕ) → Option (List ℕ) → Type 0
IsFilled most commands marks known left = (length commands ≡ most) ⊎ ((2 ^ 64 ≤ length marks) ⊎ HasEnded known left)

-- One command more, or none; where it is one, it is the last line.
abbrev pub EndsNext : List Command → List Command → List Bool → Type 0
EndsNext before now marks = (length now ≡ length before) ⊎ (last_or false marks ≡ true)

-- no command more, or one
pub record HasOneMore (before now : List Command) : Type 0 where
  pub longer : length before ≤ length now
  pub few : length now ≤ length before + 1

-- how many lines are commands
abbrev pub marked : List Bool → ℕ
marked [] = 0
marked (true ∷ ms) = suc (marked ms)
marked (false ∷ ms) = marked ms

-- A first line and those of the bytes behind it were answered as a batch, from a book to a book, and the others are left.
pub record BatchAnswered (u : Rules) (given_up : Book → List Command → Code → Type 0) (cut : List (List ℕ) → List (List ℕ) → Type 0) (b b1 : Book) (first : List ℕ) (bytes : List ℕ) (left old new : Option (List ℕ)) (status : ℕ) : Type 0 where
  pub lines : List (List ℕ)
  pub rest : List ℕ
  pub left_is : left ≡ Some rest
  pub lines_are : lines_of bytes ≡ lines ++ lines_of rest
  pub cut_is : cut (first ∷ lines) (lines_of rest)
  pub tells : TellsPart u given_up b b1 (first ∷ lines) (WritesAll old new status)

-- what is told of lines: the commands among them have these replies, or are given up where there are none
abbrev pub lines_told : Code → List Bool → List Reply → List Line
lines_told k [] rs = []
lines_told k (false ∷ ms) rs = line.Bad ∷ lines_told k ms rs
lines_told k (true ∷ ms) [] = line.NotApplied k ∷ lines_told k ms []
lines_told k (true ∷ ms) (r ∷ rs) = line.Of r ∷ lines_told k ms rs
