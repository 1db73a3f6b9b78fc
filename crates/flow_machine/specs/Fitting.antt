-- Changes that don't fit the book over which they are put.
use Rattle.std.specs.Prelude.{◌⊎◌, List, [], ◌∷◌}
use Rattle.flow_base.specs.declared.book.Change.{Change}
use Rattle.flow_base.specs.declared.command.Command.{Command}
use Rattle.flow_model.specs.Book.{Book, changed}
use Rattle.flow_model.specs.Apply.{Rules, outcome, after_one}

-- One of several changes doesn't fit the book that those before it leave.
abbrev pub HasUnfit : (Book → Change → Type 0) → Book → List Change → Type 0
HasUnfit unfit b [] = ⊥
HasUnfit unfit b (c ∷ cs) = unfit b c ⊎ HasUnfit unfit (changed b c) cs

-- A change that one of several commands makes doesn't fit, over the book that the commands before it leave.
abbrev pub IsUnfitWithin : (Book → Change → Type 0) → Rules → Book → List Command → Type 0
IsUnfitWithin unfit u b [] = ⊥
IsUnfitWithin unfit u b (c ∷ cs) = HasUnfit unfit b (outcome u b c).changes ⊎ IsUnfitWithin unfit u (after_one u b c) cs
