-- How many batches of lines are given up: no more than the failures that were counted, but for other causes.
use Rattle.std.specs.Prelude.{◌≡◌, ◌⊎◌, ℕ, suc, List, [], ◌∷◌}
use Rattle.flow_base.specs.declared.code.Code.TheVariants as code
use Rattle.flow_base.specs.declared.command.Command.{Command}
use Rattle.flow_model.specs.Answers.{IsMoreBy}
use Rattle.flow_model.specs.Apply.{Rules}
use Rattle.flow_model.specs.Book.{Book}
use Rattle.flow_model.specs.declared.answer.Answering.{Ghosts as Answerings}
use Rattle.flow_lines.specs.Answering.{Part, Lone, Applied, GivenUp, book_by, commands_in}

-- This stands behind a part, if it is a batch that was given up with E80.
abbrev pub IsGivenUpFor : (Book → List Command → Type 0) → Book → Part → Type 0
IsGivenUpFor why b (Lone l) = Unit {0}
IsGivenUpFor why b (Applied ls) = Unit {0}
IsGivenUpFor why b (GivenUp ls k) = k ≡ code.StoreRefused → why b (commands_in ls)

-- And behind each of these, over the book that those before it left, but for so many.
abbrev pub AreGivenUpBut : Rules → (Book → List Command → Type 0) → ℕ → Book → List Part → Type 0
AreGivenUpBut u why n b [] = Unit {0}
AreGivenUpBut u why n b (p ∷ ps) = (IsGivenUpFor why b p × AreGivenUpBut u why n (book_by u b p) ps)
    ⊎ ((fewer : ℕ) × (n ≡ suc fewer) × AreGivenUpBut u why fewer (book_by u b p) ps)

-- Something else stands behind each batch that was given up with E80, but for at most as many as failures were counted since the answerer was
-- the first and now that it is the second.
pub record IsCounted {E : Type 0} (a : Answerings E) (old new : E) (b : Book) (parts : List Part) : Type 0 where
  pub failures : ℕ
  pub counted : IsMoreBy failures (a.failures old) (a.failures new)
  pub are : AreGivenUpBut a.rules (a.excuses old new) failures b parts
