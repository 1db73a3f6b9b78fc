-- What the answer to one command says of the book, and that to commands which are applied together.
use Rattle.std.specs.Prelude.{◌≡◌, ◌⊎◌, ◌+◌, ◌≤◌, ◌-◌, ◌^◌, ℕ, List, length, min}
use Rattle.flow_base.specs.declared.code.Code.{Code}
use Rattle.flow_base.specs.declared.code.Code.TheVariants as code
use Rattle.flow_base.specs.declared.command.Command.{Command}
use Rattle.flow_model.specs.Apply.{Rules, outcome, after, after_one, replies}
use Rattle.flow_model.specs.Book.{Book}
use Rattle.flow_model.specs.declared.answer.Answer.{Answer}
use Rattle.flow_model.specs.declared.answer.Answer.TheVariants as answer
use Rattle.flow_model.specs.declared.answer.Stop.{Stop}
use Rattle.flow_model.specs.declared.answer.Together.{Together}
use Rattle.flow_model.specs.declared.answer.Together.TheVariants as together

-- The reply is that of apply, and the book the one after it. A command that isn't applied leaves the book as it was.
abbrev pub Answers : Rules → Book → Book → Command → Answer → Type 0
Answers u b b1 c (answer.Replied r) = (r ≡ (outcome u b c).reply) × (b1 ≡ after_one u b c)
Answers u b b1 c (answer.NotApplied k) = b1 ≡ b

-- a command is given up with E80 or E01
abbrev pub IsGivenUp : Code → Type 0
IsGivenUp k = (k ≡ code.StoreRefused) ⊎ (k ≡ code.NoMemory)

-- where it is given up, this stands behind it
abbrev pub CausedAnswer : (Code → Type 0) → Answer → Type 0
CausedAnswer cause (answer.Replied r) = Unit {0}
CausedAnswer cause (answer.NotApplied k) = IsGivenUp k × cause k

---- Commands together

-- Each reply is that of apply, over the book that the commands before it have led to, and the book is the one behind them all.
-- Where they aren't applied it is as it was.
abbrev pub AnswersTogether : Rules → Book → Book → List Command → Together → Type 0
AnswersTogether u b b1 cs (together.Replied rs) = (rs.items ≡ replies u b cs) × (b1 ≡ after u b cs)
AnswersTogether u b b1 cs (together.NotApplied k) = b1 ≡ b

-- where they are given up, this stands behind it
abbrev pub CausedTogether : (Code → Type 0) → Together → Type 0
CausedTogether cause (together.Replied rs) = Unit {0}
CausedTogether cause (together.NotApplied k) = IsGivenUp k × cause k

-- as many replies as commands
abbrev pub CountsTogether : List Command → Together → Type 0
CountsTogether cs (together.Replied rs) = length rs.items ≡ length cs
CountsTogether cs (together.NotApplied k) = Unit {0}

---- Stops

-- What stands behind a stop since it was the second stands behind it since it was the first.
abbrev pub StopsSince : {A : Type 0} → (A → A → Book → List Command → Stop → Type 0) → A → A → Type 0
StopsSince {A} stops old new = (e : A) (b : Book) (cs : List Command) (s : Stop) → stops new e b cs s → stops old e b cs s

---- Failures

-- So many failures were counted between these two counts; past its last number a store counts no further.
abbrev pub IsMoreBy : ℕ → ℕ → ℕ → Type 0
IsMoreBy n old new = min (old + n) (2 ^ 64 - 1) ≤ new
