-- What asking an engine for a board leaves of it, and batches that it answers with boards in between, as where it serves a hub.
use Rattle.std.specs.Prelude.{◌≡◌, ◌⊎◌, true, false, List, [], ◌∷◌}
use Rattle.sqlite_trees.specs.declared.store.Store.{Ghosts}
use Rattle.flow_model.specs.Apply.{after, replies}
use Rattle.flow_model.specs.Book.{Book}
use Rattle.flow_base.specs.declared.submission.Taken.{Taken}
use Rattle.flow_tables.specs.Owned as tables
use Rattle.flow_commit.specs.Keeping.{Keeping, rules, IsFit, IsUp, KeepsBook, kept_book}
use Rattle.flow_engine.specs.Answering.{Follows}
use Rattle.flow_engine.specs.Driving.{AreAnswers, HasDone, IsDoneFor, IsDoneOnlyFor, LeadsTo, all_halted, has_unknown, if_kept, in_hand, kept_of, replies_of}
use Rattle.flow_engine.specs.declared.done.Done.{Done}

-- It has kept what it had kept, over the same book, and goes on as before; and where it had halted it has done nothing.
pub record IsStill {S : Type 0} (g : Ghosts S) (old new : Keeping S) : Type 0 where
  pub log : new.log ≡ old.log
  pub found : new.found ≡ old.found
  pub halted : new.halted ≡ old.halted
  pub kept : new.kept ≡ old.kept
  pub nothing : old.halted ≡ true → new ≡ old
  pub follows : Follows g old new
  -- what the tables kept they keep on
  pub stored : tables.Follows g old.stored new.stored
  pub own : IsFit g new → IsUp g old → (new ≡ old) ⊎ KeepsBook g old (kept_book g old)

---- Batches

-- What an engine has done with one batch, behind boards for which it may have been asked, and why it has, in these words.
pub record DoesBy {S : Type 0} (g : Ghosts S) (why : Keeping S → Keeping S → Book → List Taken → Done → Type 0) (old new : Keeping S)
    (b : Book) (batch : List Taken) (d : Done) : Type 0 where
  pub asked : Keeping S
  pub still : IsStill g old asked
  pub does : HasDone g asked new b batch d
  pub cause : why asked new b batch d

-- From engine to engine: what each batch has done over the book that those before it left, and why it has. Behind the last one it may
-- have been asked for boards too.
abbrev pub PassesBoardedBy : {S : Type 0} → Ghosts S → (Keeping S → Keeping S → Book → List Taken → Done → Type 0) → Keeping S → Keeping S → Book → List (List Taken) → List Done → Type 0
PassesBoardedBy g why old new b [] [] = IsStill g old new
PassesBoardedBy g why old new b [] (d ∷ ds) = ⊥
PassesBoardedBy g why old new b (batch ∷ batches) [] = ⊥
PassesBoardedBy {S} g why old new b (batch ∷ batches) (d ∷ ds) =
    (mid : Keeping S) × DoesBy g why old mid b batch d × PassesBoardedBy g why mid new (after rules b (if_kept batch d)) batches ds

abbrev pub PassesBoarded : {S : Type 0} → Ghosts S → Keeping S → Keeping S → Book → List (List Taken) → List Done → Type 0
PassesBoarded g old new b batches ds = PassesBoardedBy g (IsDoneFor g) old new b batches ds

-- and from a book such as commands make
abbrev pub PassesBoardedOnly : {S : Type 0} → Ghosts S → Keeping S → Keeping S → Book → List (List Taken) → List Done → Type 0
PassesBoardedOnly g old new b batches ds = PassesBoardedBy g (IsDoneOnlyFor g) old new b batches ds

-- Batches that were answered one after the other, over an engine that kept this book: each answer is over the book that the batches
-- before it left, and the engine is where they lead, which says what a stop leaves. What was done between two of them keeps all this.
pub record Serves {S : Type 0} (g : Ghosts S) (old new : Keeping S) (b : Book) (batches : List (List Taken)) (dones : List Done) : Type 0 where
  pub answers : AreAnswers old.kept b batches dones
  pub replies : replies_of batches dones ≡ replies rules b (kept_of batches dones)
  pub leads : LeadsTo g old new b (has_unknown dones) (kept_of batches dones) (in_hand batches dones)
  pub passes : PassesBoarded g old new b batches dones

-- What is said of them, as a life has it.
pub record RunsBoarded {S : Type 0} (g : Ghosts S) (first last : Keeping S) (batches : List (List Taken)) (dones : List Done) : Type 0 where
  pub opened : last.stored.opened ≡ first.stored.opened
  pub fit : IsFit g last → IsFit g first
  pub serves : IsFit g last → (b : Book) → KeepsBook g first b → first.halted ≡ false → Serves g first last b batches dones
  pub still : first.halted ≡ true → (last ≡ first) × (dones ≡ all_halted batches)
