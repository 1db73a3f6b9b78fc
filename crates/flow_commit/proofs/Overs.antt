-- Runs that are over for a keeper stay so.
use Rattle.std.proofs.Common.{◌≡◌, ℕ, Bool, true, false, ◌||◌, List, [], ◌++◌, take, drop, refl, sym, ap, ◌∙◌, subst, true≢false}
use Rattle.std.proofs.lemmas.List.{map-append, take-append-drop}
use Rattle.sqlite_trees.specs.declared.store.Store.{Ghosts}
use Rattle.flow_base.specs.Keys.{Key}
use Rattle.flow_base.specs.declared.submission.Receipt.{Receipt}
use Rattle.flow_model.specs.Book.{Book}
use Rattle.flow_model.specs.Apply.{after}
use Rattle.flow_model.proofs.Logs.{after_cut}
use Rattle.flow_commit.specs.Boards.{Boarded, IsBoardOf, names_over}
use Rattle.flow_commit.specs.Keeping.{IsFit, IsLawfulKeeper, Keeping, logged, logged_command, rules}
use Rattle.flow_commit.specs.Looking.{HasLooked}
use Rattle.flow_commit.specs.Over.{is_over}
use Rattle.flow_commit.specs.Shutting.{AreKnown, AreOver, AreShut, IsShut}
use Rattle.flow_commit.proofs.Closing.{looked_still, never_named, shut_at}
use Rattle.flow_commit.proofs.Shut.{over_both, stays_shut}

---- Lists of runs

either_shut : (xs ys : List ℕ) (b : Book) → AreShut xs b → AreShut ys b → AreShut (xs ++ ys) b
either_shut xs ys b first second n is = by (is_over xs n) refl (sym (over_both xs ys n) ∙ is)
  where
    by : (v : Bool) → is_over xs n ≡ v → (v || is_over ys n) ≡ true → IsShut b.runs n
    by true own h = first n own
    by false own h = second n h

first_shut : (xs ys : List ℕ) (b : Book) → AreShut (xs ++ ys) b → AreShut xs b
first_shut xs ys b all n is = all n (over_both xs ys n ∙ ap (λ v. v || is_over ys n) is)

---- Of a keeper

module _ {S : Type 0} (g : Ghosts S) where
  -- none is over
  pub none_over : (k : Keeping S) → AreOver g k []
  none_over k fit n is = absurd (true≢false (sym is))

  pub over_and : (k : Keeping S) (xs ys : List ℕ) → AreOver g k xs → AreOver g k ys → AreOver g k (xs ++ ys)
  over_and k xs ys first second fit = either_shut xs ys (after rules k.found (logged k.log)) (first fit) (second fit)

  -- the first of them
  pub over_some : (k : Keeping S) (xs : List ℕ) (n : ℕ) → AreOver g k xs → AreOver g k (take n xs)
  over_some k xs n all fit = let b = after rules k.found (logged k.log) in first_shut (take n xs) (drop n xs) b (subst (λ (runs : List ℕ). AreShut runs b) (sym (take-append-drop n xs)) (all fit))

  -- if it has kept more commands since
  pub over_on : (old new : Keeping S) (more : List Receipt) (over : List ℕ) → (IsFit g new → IsFit g old) → new.found ≡ old.found → new.log ≡ old.log ++ more → AreOver g old over → AreOver g new over
  over_on old new more over fit found log was now =
      let cut : logged new.log ≡ logged old.log ++ logged more = ap logged log ∙ map-append logged_command old.log more in
      let same : after rules new.found (logged new.log) ≡ after rules (after rules old.found (logged old.log)) (logged more) = (λ i. after rules (found i) (cut i)) ∙ after_cut rules old.found (logged old.log) (logged more) in
      subst (AreShut over) (sym same) (stays_shut rules (after rules old.found (logged old.log)) (logged more) over (was (fit now)))

  ---- Boards

  -- a board names none of these
  pub board_apart : (k : Keeping S) (over : List ℕ) (posted : List Key) (at : ℕ) (it : Boarded) → IsFit g k → AreOver g k over → IsBoardOf (after rules k.found (logged k.log)) posted at it → names_over over it.tasks ≡ false
  board_apart k over posted at it fit shut is = ap (names_over over) is.tasks ∙ never_named over posted at (after rules k.found (logged k.log)) (shut fit)

  -- what was posted of them needn't be
  pub known_looked : (k : Keeping S) (since : ℕ) (keys : List Key) → IsLawfulKeeper g k → k.halted ≡ false → AreKnown g k keys → HasLooked g k.stored since k.posted → HasLooked g k.stored since keys
  known_looked k since keys lawful goes known looked =
      let b = after rules k.found (logged k.log) in
      looked_still g k.stored since known.over k.posted keys known.still (shut_at g k.stored known.over b (λ fit up. (lawful.stands fit goes, known.shut fit))) looked
