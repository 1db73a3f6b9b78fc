-- What an engine that serves a hub posts: what boards of the kept book name, at moments that the clock told.
use Rattle.std.specs.Prelude.{◌≡◌, ◌⊎◌, ◌+◌, ◌&&◌, not, ℕ, suc, true, false, List, [], ◌∷◌, ◌++◌, length, All}
use mathlib.Core.List.{IsPrefix}
use Rattle.sqlite_trees.specs.declared.store.Store.{Ghosts}
use Rattle.flow_base.specs.Keys.{Key}
use Rattle.flow_base.specs.declared.fault.Fault.{Fault}
use Rattle.flow_base.specs.declared.fault.Fault.TheVariants as fault
use Rattle.flow_base.specs.declared.submission.Receipt.{Receipt}
use Rattle.flow_base.specs.declared.task.Task.{Task}
use Rattle.flow_model.specs.Answers.{IsMoreBy}
use Rattle.flow_model.specs.Apply.{after}
use Rattle.flow_tables.specs.Owned.{state_of}
use Rattle.flow_commit.specs.Boards.{Boarded, IsBoardOf, IsOfBoard, is_posted}
use Rattle.flow_commit.specs.Committing.{IsDown}
use Rattle.flow_commit.specs.Keeping.{Keeping, IsFit, logged, rules}
use Rattle.flow_engine.specs.Counting.{IsHeldBack}
use Rattle.flow_commit.specs.Shutting.{AreOver}
use Rattle.flow_queues.specs.Posting.{HasKeys, has_key, is_of, new_ones}

-- A board was posted where these tasks had been: it was made of the book that the first so many commands left which were kept since the
-- store was opened, at a moment that the clock told, and leaves out the tasks that had been posted by then and no others.
pub record WasBoard {S : Type 0} (g : Ghosts S) (tells : ℕ → Type 0) (now : Keeping S) (was : List Task) (board : Boarded) : Type 0 where
  pub log : List Receipt
  pub first : IsPrefix log now.log
  pub kept : board.kept ≡ length log
  pub at : ℕ
  pub told : tells at
  pub posted : HasKeys (record { keys = board.posted }) was
  pub made : IsFit g now → IsBoardOf (after rules now.found (logged log)) board.posted at board

-- These boards were posted one behind the other, and with each of them the tasks that it names and that hadn't been posted.
abbrev pub ArePosted : {S : Type 0} → Ghosts S → (ℕ → Type 0) → Keeping S → List Task → List Task → List Boarded → Type 0
ArePosted g tells now was posted [] = posted ≡ was
ArePosted g tells now was posted (x ∷ xs) = WasBoard g tells now was x × ArePosted g tells now (was ++ new_ones was x.tasks) posted xs

-- All that was posted since is what such boards named.
pub record Posts {S : Type 0} (g : Ghosts S) (tells : ℕ → Type 0) (now : Keeping S) (was posted : List Task) : Type 0 where
  pub boards : List Boarded
  pub are : ArePosted g tells now was posted boards

-- As long as the engine goes on, all that had been posted when its last board was made is posted still and known to the publisher, but for
-- what is of runs that are over.
pub record IsKnown {S : Type 0} (g : Ghosts S) (k : Keeping S) (posted : List Task) (gone : List ℕ) : Type 0 where
  pub over : List ℕ
  pub shut : AreOver g k over
  pub still : k.halted ≡ false → (q : Key) → is_posted k.posted q ≡ true → is_of over q.0 ≡ false → (has_key posted q && not (is_of gone q.0)) ≡ true

-- The runs that are gone since then are over.
pub record LetsGo {S : Type 0} (g : Ghosts S) (new : Keeping S) (was gone : List ℕ) : Type 0 where
  pub more : List ℕ
  pub are : gone ≡ was ++ more
  pub over : AreOver g new more

---- Boards that were skipped

-- A board was made and posted.
pub record PostsOne {S : Type 0} (g : Ghosts S) (tells : ℕ → Type 0) (now : Keeping S) (was posted : List Task) : Type 0 where
  pub board : Boarded
  pub made : WasBoard g tells now was board
  pub is : posted ≡ was ++ new_ones was board.tasks

-- Why there is no board: E01; E80, where the connection is shut or the store hindered something in between; E85, where the engine had
-- halted.
pub record HasNoBoard {S : Type 0} (g : Ghosts S) (old new : Keeping S) (f : Fault) : Type 0 where
  pub among : IsOfBoard old.halted f
  pub cause : IsFit g new → f ≡ fault.StoreRefused → IsDown g old.stored new.stored

-- This stands behind each of these that is E80, but for so many.
abbrev pub AreRefusedBut : Type 0 → ℕ → List Fault → Type 0
AreRefusedBut why n [] = Unit {0}
AreRefusedBut why n (f ∷ fs) = ((f ≡ fault.StoreRefused → why) × AreRefusedBut why n fs)
    ⊎ ((fewer : ℕ) × (n ≡ suc fewer) × AreRefusedBut why fewer fs)

-- So often a board was refused for E80 at most as the store has counted failures, if nothing else holds it back.
pub record AreSkipped {S : Type 0} (g : Ghosts S) (old new : Keeping S) (skipped : List Fault) : Type 0 where
  pub failures : ℕ
  pub counted : IsMoreBy failures (state_of g old.stored).faults (state_of g new.stored).faults
  pub are : AreRefusedBut (IsHeldBack g old new) failures skipped

-- There is no board, since it was refused twice, for these two faults: behind each that is E80 the store has counted a failure of its own,
-- if nothing else holds it back.
pub record IsRefusedTwice {S : Type 0} (g : Ghosts S) (old new : Keeping S) (first last : Fault) : Type 0 where
  pub first_is : IsOfBoard old.halted first
  pub last_is : IsOfBoard old.halted last
  pub counted : IsFit g new → AreSkipped g old new (last ∷ first ∷ [])

-- A board was asked for: it was posted, or there is none for these two faults, which are the last ones that were noted.
abbrev pub HasTurn : {S : Type 0} → Ghosts S → (ℕ → Type 0) → Keeping S → Keeping S → List Task → List Task → List Fault → List Fault → Type 0
HasTurn g tells old new was posted left missed =
    (PostsOne g tells new was posted × (missed ≡ left))
    ⊎ ((posted ≡ was) × ((first : Fault) × (last : Fault) × IsRefusedTwice g old new first last × (missed ≡ last ∷ first ∷ left)))

-- A board was asked for so many times: these were posted one behind the other, and the others were skipped for these faults, two for
-- each, which are those that the publisher was told of since.
pub record HasTurns {S : Type 0} (g : Ghosts S) (tells : ℕ → Type 0) (old new : Keeping S) (was posted : List Task)
    (left missed : List Fault) (turns : ℕ) : Type 0 where
  pub boards : List Boarded
  pub are : ArePosted g tells new was posted boards
  pub skipped : List Fault
  pub noted : missed ≡ skipped ++ left
  pub skips : ℕ
  pub twice : length skipped ≡ skips + skips
  pub all : turns ≡ length boards + skips
  pub among : All (IsOfBoard old.halted) skipped
  pub counted : IsFit g new → AreSkipped g old new skipped

-- Since then boards were skipped for this fault, and for no other.
pub record SkipsFor (f : Fault) (left missed : List Fault) : Type 0 where
  pub more : List Fault
  pub are : missed ≡ more ++ left
  pub each : All (λ (x : Fault). x ≡ f) more
