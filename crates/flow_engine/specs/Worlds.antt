-- A chain of lives as a list of steps of the world.
use Rattle.std.specs.Prelude.{◌≡◌, ◌≤◌, ℕ, List, [], ◌∷◌, ◌++◌, length, map, Contains}
use Rattle.std.specs.List.{AllByRecursion}
use Rattle.sqlite_trees.specs.declared.store.Store.{Ghosts}
use Rattle.sqlite.specs.Tree.{Trees}
use Rattle.sqlite.specs.Held.{state}
use Rattle.flow_base.specs.declared.submission.Taken.{Taken}
use Rattle.flow_base.specs.declared.submission.Receipt.{Receipt}
use Rattle.flow_model.specs.Book.{Book}
use Rattle.flow_model.specs.Logs.{after_log, entered}
use Rattle.flow_model.specs.World.{World, Step, Crash, Reopen, Comes, IsSafe, batch_limit, first}
use Rattle.flow_model.specs.World as world
use Rattle.flow_commit.specs.Keeping.{IsWell, rules}
use Rattle.flow_recover.specs.Recovering.{HoldBook}
use Rattle.flow_engine.specs.Headline.{Life, Lived, Served, Refused, seen, Begins, Finds, Lives}

-- a receipt of a life that was opened behind so many commands, as the world gives it
abbrev pub given_at : ℕ → Receipt → world.Receipt
given_at opening r = record { opening = opening; place = r.place; command = r.command; reply = r.reply }

-- a batch has so many commands as the world takes at once
abbrev pub IsTakenAtOnce : List Taken → Type 0
IsTakenAtOnce batch = (1 ≤ length batch) × (length batch ≤ batch_limit)

abbrev pub AreGathered : {S : Type 0} → Life S → Type 0
AreGathered (Lived conn first positions last bs ds) = AllByRecursion IsTakenAtOnce bs
AreGathered (Served conn first positions last bs ds) = AllByRecursion IsTakenAtOnce bs
AreGathered (Refused conn f back) = Unit {0}

module _ {S : Type 0} (g : Ghosts S) where
  -- The world as a life leaves it that began in another one: what it committed stands behind the log, its batch in hand is taken, all
  -- under the limit of the rules,
  -- its receipts are given, and each book that a stop may leave on the disk is one that a stop may leave in the world, which is
  -- safe.
  pub record EndsIn (v w : World) (l : Life S) : Type 0 where
    pub log : w.log ≡ v.log ++ entered rules.limit (seen l).kept
    pub batch : w.batch ≡ entered rules.limit (seen l).hand
    pub receipts : w.receipts ≡ v.receipts ++ map (given_at (length v.log)) (seen l).receipts
    pub may : (db : Trees) (b : Book) → (state g (seen l).last).may_leave db → HoldBook db b → Contains w.may b
    pub safe : IsSafe rules w

  -- Lives are steps of the world: each finds the book of the world in which it begins, and does steps; then it is stopped, and the
  -- world is opened again for the next one.
  abbrev pub AreSteps : World → List (Life S) → Type 0
  AreSteps v [] = Unit {0}
  AreSteps v (l ∷ ls) =
      Finds g (after_log rules v.base v.log) l
      × ((steps : List Step) × ((w : World) × (Comes rules v steps w × (EndsIn v w l × ((found : Book) × ((x : World) × (Comes rules w (Crash found ∷ Reopen ∷ []) x × AreSteps x ls)))))))

  -- Whatever the lives, they are steps of the world from its first opening, also where an earlier program had another limit.
  abbrev pub LivesAreSteps : Type 0
  LivesAreSteps = (limit : ℕ) (b : Book) → IsWell b → (lives : List (Life S)) → AllByRecursion AreGathered lives → Lives g (Begins g b) lives → ∥ AreSteps (first limit b) lives ∥₁
