-- What becomes of batches that are committed one after the other.
use Rattle.std.specs.Prelude.{◌≡◌, ◌⊎◌, ◌+◌, ℕ, Bool, true, false, List, [], ◌∷◌, ◌++◌, length, map}
use Rattle.sqlite_trees.specs.declared.store.Store.{Ghosts}
use Rattle.flow_base.specs.declared.command.Command.{Command}
use Rattle.flow_base.specs.declared.command.Reply.{Reply}
use Rattle.flow_model.specs.Book.{Book}
use Rattle.flow_model.specs.Apply.{after, replies}
use Rattle.flow_model.specs.Sound.{IsSound}
use Rattle.flow_base.specs.declared.submission.Taken.{Taken}
use Rattle.flow_base.specs.declared.submission.Receipt.{Receipt}
use Rattle.sqlite.specs.Tree.{Trees}
use Rattle.flow_tables.specs.Owned.{state_of, IsFileOf, LeavesEither}
use Rattle.flow_view.specs.declared.fault.ViewFault.{ViewFault}
use Rattle.flow_view.specs.declared.fault.ViewFault.TheVariants as fault
use Rattle.flow_commit.specs.Keeping.{Keeping, rules, IsFit, IsUp, IsWell, KeepsBook, HasKept, HasRefused, IsUnknown, commands_of, receipts_of}
use Rattle.flow_commit.specs.Committing.{HasNoRoom, IsFor, NumbersRunOut, WasCutOff, WasGivenUp}
use Rattle.flow_commit.specs.declared.outcome.Outcome.{Outcome}
use Rattle.flow_commit.specs.declared.outcome.Outcome.TheVariants as outcomes
use Rattle.flow_engine.specs.declared.done.Done.{Done}
use Rattle.flow_engine.specs.declared.done.Done.TheVariants as done

-- what became of a batch, by how its commit has ended
abbrev pub done_of : Outcome → Done
done_of (outcomes.Kept receipts stamp) = done.Kept receipts
done_of (outcomes.NotApplied back f) = done.NotApplied f
done_of (outcomes.Unknown back f) = done.Unknown
done_of (outcomes.Halted back) = done.Halted

-- What one commit has done, by what became of the batch.
abbrev pub HasDone : {S : Type 0} → Ghosts S → Keeping S → Keeping S → Book → List Taken → Done → Type 0
HasDone g old new b batch (done.Kept receipts) = (old.halted ≡ false) × HasKept g old new b batch receipts.items
HasDone g old new b batch (done.NotApplied f) = (old.halted ≡ false) × HasRefused g old new b
HasDone g old new b batch done.Unknown = (old.halted ≡ false) × IsUnknown g old new b batch
HasDone g old new b batch done.Halted = (old.halted ≡ true) × (new ≡ old)

-- and why it has, over a book that was kept
abbrev pub IsDoneFor : {S : Type 0} → Ghosts S → Keeping S → Keeping S → Book → List Taken → Done → Type 0
IsDoneFor g old new b batch (done.Kept receipts) = Unit {0}
IsDoneFor g old new b batch (done.NotApplied f) = IsFor g old new b batch (outcomes.NotApplied batch f)
IsDoneFor g old new b batch done.Unknown = (f : ViewFault) × IsFor g old new b batch (outcomes.Unknown batch f)
IsDoneFor g old new b batch done.Halted = Unit {0}

-- The same over a book such as commands make, where a batch can't be applied only where the numbers run out.
abbrev pub IsDoneOnlyFor : {S : Type 0} → Ghosts S → Keeping S → Keeping S → Book → List Taken → Done → Type 0
IsDoneOnlyFor g old new b batch (done.Kept receipts) = Unit {0}
IsDoneOnlyFor g old new b batch (done.NotApplied (fault.NoMemory _)) = Unit {0}
IsDoneOnlyFor g old new b batch (done.NotApplied fault.StoreRefused) = HasNoRoom old.kept batch ⊎ (NumbersRunOut b (commands_of batch) ⊎ WasGivenUp g old.stored new.stored)
IsDoneOnlyFor g old new b batch done.Unknown = (f : ViewFault) × WasCutOff g old.stored new.stored f
IsDoneOnlyFor g old new b batch done.Halted = Unit {0}

-- What is noted of a batch, whatever the disk tells: one that is kept is counted and has a receipt for each command, and behind
-- one of which nobody knows the engine has halted.
abbrev pub IsNoted : {S : Type 0} → Keeping S → Keeping S → List Taken → Done → Type 0
IsNoted old new batch (done.Kept receipts) = (new.halted ≡ false) × (new.kept ≡ old.kept + length batch) × (length receipts.items ≡ length batch)
IsNoted old new batch (done.NotApplied f) = (new.halted ≡ false) × (new.kept ≡ old.kept)
IsNoted old new batch done.Unknown = (new.halted ≡ true) × (new.kept ≡ old.kept)
IsNoted old new batch done.Halted = (new.halted ≡ true) × (new ≡ old)

---- Answers to batches, in their order

-- every batch is answered that the engine had halted before
abbrev pub all_halted : List (List Taken) → List Done
all_halted batches = map (λ _. done.Halted) batches

-- The answers to batches, from a book behind so many commands. A kept batch is answered by its receipts, and the next one is
-- applied to the book after it; one that isn't applied changes nothing; after one of which nobody knows all are halted.
abbrev pub AreAnswers : ℕ → Book → List (List Taken) → List Done → Type 0
AreAnswers kept b [] [] = Unit {0}
AreAnswers kept b [] (d ∷ ds) = ⊥
AreAnswers kept b (batch ∷ batches) [] = ⊥
AreAnswers kept b (batch ∷ batches) (done.Kept receipts ∷ ds) =
    (receipts.items ≡ receipts_of kept b batch) × AreAnswers (kept + length batch) (after rules b (commands_of batch)) batches ds
AreAnswers kept b (batch ∷ batches) (done.NotApplied f ∷ ds) = AreAnswers kept b batches ds
AreAnswers kept b (batch ∷ batches) (done.Unknown ∷ ds) = ds ≡ all_halted batches
AreAnswers kept b (batch ∷ batches) (done.Halted ∷ ds) = ⊥

abbrev pub has_unknown : List Done → Bool
has_unknown [] = false
has_unknown (done.Kept receipts ∷ ds) = has_unknown ds
has_unknown (done.NotApplied f ∷ ds) = has_unknown ds
has_unknown (done.Unknown ∷ ds) = true
has_unknown (done.Halted ∷ ds) = has_unknown ds

-- what batches and their answers have, one after the other
abbrev pub gathered : {A : Type 0} → (List Taken → Done → List A) → List (List Taken) → List Done → List A
gathered f [] ds = []
gathered f (batch ∷ batches) [] = []
gathered f (batch ∷ batches) (d ∷ ds) = f batch d ++ gathered f batches ds

abbrev pub if_kept : List Taken → Done → List Command
if_kept batch (done.Kept receipts) = commands_of batch
if_kept batch (done.NotApplied f) = []
if_kept batch done.Unknown = []
if_kept batch done.Halted = []

abbrev pub if_unknown : List Taken → Done → List Command
if_unknown batch (done.Kept receipts) = []
if_unknown batch (done.NotApplied f) = []
if_unknown batch done.Unknown = commands_of batch
if_unknown batch done.Halted = []

abbrev pub reply_of : Receipt → Reply
reply_of r = r.reply

abbrev pub replies_in : List Taken → Done → List Reply
replies_in batch (done.Kept receipts) = map reply_of receipts.items
replies_in batch (done.NotApplied f) = []
replies_in batch done.Unknown = []
replies_in batch done.Halted = []

abbrev pub receipts_in : List Taken → Done → List Receipt
receipts_in batch (done.Kept receipts) = receipts.items
receipts_in batch (done.NotApplied f) = []
receipts_in batch done.Unknown = []
receipts_in batch done.Halted = []

-- the commands of the kept batches, in their order
abbrev pub kept_of : List (List Taken) → List Done → List Command
kept_of batches ds = gathered if_kept batches ds

-- the commands of all batches
abbrev pub commands_in : List (List Taken) → List Command
commands_in [] = []
commands_in (batch ∷ batches) = commands_of batch ++ commands_in batches

-- the commands of the batch of which nobody knows, if there is one
abbrev pub in_hand : List (List Taken) → List Done → List Command
in_hand batches ds = gathered if_unknown batches ds

-- the receipts of all kept batches
abbrev pub receipts_told : List (List Taken) → List Done → List Receipt
receipts_told batches ds = gathered receipts_in batches ds

-- the replies in the receipts of all kept batches
abbrev pub replies_of : List (List Taken) → List Done → List Reply
replies_of batches ds = gathered replies_in batches ds

-- From engine to engine: what each batch has done over the book that those before it left, and why it has, in these words.
abbrev pub PassesBy : {S : Type 0} → Ghosts S → (Keeping S → Keeping S → Book → List Taken → Done → Type 0) → Keeping S → Keeping S → Book → List (List Taken) → List Done → Type 0
PassesBy g why old new b [] [] = new ≡ old
PassesBy g why old new b [] (d ∷ ds) = ⊥
PassesBy g why old new b (batch ∷ batches) [] = ⊥
PassesBy {S} g why old new b (batch ∷ batches) (d ∷ ds) =
    (mid : Keeping S) × HasDone g old mid b batch d × why old mid b batch d × PassesBy g why mid new (after rules b (if_kept batch d)) batches ds

abbrev pub Passes : {S : Type 0} → Ghosts S → Keeping S → Keeping S → Book → List (List Taken) → List Done → Type 0
Passes g old new b batches ds = PassesBy g (IsDoneFor g) old new b batches ds

-- and from a book such as commands make
abbrev pub PassesOnly : {S : Type 0} → Ghosts S → Keeping S → Keeping S → Book → List (List Taken) → List Done → Type 0
PassesOnly g old new b batches ds = PassesBy g (IsDoneOnlyFor g) old new b batches ds

---- What is noted of them, whatever the disk tells

-- A kept batch has a receipt for each command; after one of which nobody knows all are halted.
abbrev pub AreNoted : List (List Taken) → List Done → Type 0
AreNoted [] [] = Unit {0}
AreNoted [] (d ∷ ds) = ⊥
AreNoted (batch ∷ batches) [] = ⊥
AreNoted (batch ∷ batches) (done.Kept receipts ∷ ds) = (length receipts.items ≡ length batch) × AreNoted batches ds
AreNoted (batch ∷ batches) (done.NotApplied f ∷ ds) = AreNoted batches ds
AreNoted (batch ∷ batches) (done.Unknown ∷ ds) = ds ≡ all_halted batches
AreNoted (batch ∷ batches) (done.Halted ∷ ds) = ⊥

-- The kept commands are counted, and the engine has halted where a batch is in doubt.
pub record NotesAll {S : Type 0} (old new : Keeping S) (batches : List (List Taken)) (dones : List Done) : Type 0 where
  pub answers : AreNoted batches dones
  pub halted : new.halted ≡ has_unknown dones
  pub counts : new.kept ≡ old.kept + length (kept_of batches dones)

---- Where they lead

-- The engine has kept these commands of a book. While it hasn't halted, or its connection is open, it keeps the book after them; a
-- stop leaves this book or, where a batch is in hand, the one after the whole batch.
pub record LeadsTo {S : Type 0} (g : Ghosts S) (old new : Keeping S) (b : Book) (halts : Bool) (kept hand : List Command) : Type 0 where
  pub halted : new.halted ≡ halts
  pub book : halts ≡ false → KeepsBook g new (after rules b kept)
  pub counts : halts ≡ false → new.kept ≡ old.kept + length kept
  pub still : IsUp g new → KeepsBook g new (after rules b kept)
  pub stops : LeavesEither (state_of g new.stored) (after rules b kept) (after rules b (kept ++ hand))

-- Batches that are committed one after the other, over an engine that keeps this book.
pub record Drives {S : Type 0} (g : Ghosts S) (old new : Keeping S) (b : Book) (batches : List (List Taken)) (dones : List Done) : Type 0 where
  pub answers : AreAnswers old.kept b batches dones
  pub replies : replies_of batches dones ≡ replies rules b (kept_of batches dones)
  pub leads : LeadsTo g old new b (has_unknown dones) (kept_of batches dones) (in_hand batches dones)
  pub passes : Passes g old new b batches dones

-- From a sound book every book that is reached is sound: that after any beginning of these commands.
abbrev pub ReachesSound : Book → List Command → Type 0
ReachesSound b commands = IsSound rules b → (l m : List Command) → l ++ m ≡ commands → IsSound rules (after rules b l)

-- The same of a book such as commands make.
abbrev pub ReachesWell : Book → List Command → Type 0
ReachesWell b commands = IsWell b → (l m : List Command) → l ++ m ≡ commands → IsWell (after rules b l)

-- A file holds the book after the commands that were kept, or after these and the whole batch in hand; and it is a book such as
-- commands make, so that an opening refuses nothing of it.
pub record IsLeft (db : Trees) (b : Book) (kept hand : List Command) : Type 0 where
  pub commands : List Command
  pub are : (commands ≡ kept) ⊎ (commands ≡ kept ++ hand)
  pub file : IsFileOf db (after rules b commands)
  pub well : IsWell (after rules b commands)

-- What is said of batches that an engine has answered, as a life has it.
pub record Runs {S : Type 0} (g : Ghosts S) (first last : Keeping S) (batches : List (List Taken)) (dones : List Done) : Type 0 where
  pub opened : last.stored.opened ≡ first.stored.opened
  pub fit : IsFit g last → IsFit g first
  pub drives : IsFit g last → (b : Book) → KeepsBook g first b → first.halted ≡ false → Drives g first last b batches dones
  pub still : first.halted ≡ true → (last ≡ first) × (dones ≡ all_halted batches)
