-- What is posted, from board to board.
use Rattle.std.proofs.Common.{◌≡◌, ◌&&◌, ◌||◌, not, ℕ, Bool, true, false, List, [], ◌∷◌, ◌++◌, length, map, refl, sym, ap, ◌∙◌, subst, append-nil, true≢false}
use mathlib.Core.List.{IsPrefix}
use Rattle.std.specs.BTreeSet.{BTreeSet, contains}
use Rattle.sqlite_trees.specs.declared.store.Store.{Ghosts}
use Rattle.flow_base.specs.Keys.{Key, key_of}
use Rattle.flow_base.specs.declared.submission.Receipt.{Receipt}
use Rattle.flow_base.specs.declared.task.Task.{Task}
use Rattle.flow_model.specs.Apply.{after}
use Rattle.flow_model.specs.Book.{Book}
use Rattle.flow_commit.specs.Boards.{AreAmong, Boarded, IsBoardOf, is_posted}
use Rattle.flow_commit.specs.Shutting.{AreKnown, AreOver}
use Rattle.flow_commit.proofs.Closing.{ready_same}
use Rattle.flow_commit.proofs.Overs.{none_over, over_and, over_on}
use Rattle.flow_commit.specs.Keeping.{Keeping, IsFit, logged, rules}
use Rattle.flow_commit.proofs.Posting.{set_has}
use Rattle.flow_queues.specs.Posting.{HasStill, IsOnce, apart_of, has_key, is_key, is_of, key_cmp, names_of, new_ones}
use Rattle.flow_queues.proofs.Once.{key_is, key_itself, still_once}
use Rattle.flow_queues.proofs.Still.{all_apart, of_both, others_still}
use Rattle.flow_hub.proofs.Growing.{prefix_self, prefix_trans}
use Rattle.flow_engine.specs.Driving.{receipts_in}
use Rattle.flow_queues.specs.declared.refused.Refused.{Refused}
use Rattle.flow_base.specs.declared.submission.Taken.{Taken}
use Rattle.flow_engine.specs.Boarding.{IsStill}
use Rattle.flow_serve.specs.Serving.{HasAnswered}
use Rattle.flow_serve.specs.Posting.{ArePosted, IsKnown, LetsGo, Posts, WasBoard}

---- The keys of all that was posted

-- the board in the words of all that was posted, though its maker had the keys of what may still come, without what is of runs that are gone
abbrev pub whole_of : List ℕ → List Task → Boarded → Boarded
whole_of gone was it = record it { tasks = apart_of gone it.tasks; posted = map key_of was }

turned : (p q : Key) → is_key q p ≡ is_key p q
turned p q = by (is_key p q) refl (is_key q p) refl
  where
    by : (v : Bool) → is_key p q ≡ v → (w : Bool) → is_key q p ≡ w → w ≡ v
    by true own true back = refl
    by true own false back = absurd (true≢false (sym (ap (is_key q) (key_is p q own) ∙ key_itself q) ∙ back))
    by false own true back = absurd (true≢false (sym (ap (is_key p) (key_is q p back) ∙ key_itself p) ∙ own))
    by false own false back = refl

keys_have : (ts : List Task) (q : Key) → contains key_cmp (record { keys = map key_of ts }) q ≡ has_key ts q
keys_have [] q = refl
keys_have (t ∷ ts) q = ap (λ v. v || contains key_cmp (record { keys = map key_of ts }) q) (turned (key_of t) q) ∙ ap (λ v. is_key (key_of t) q || v) (keys_have ts q)

all_posted : (ts : List Task) (q : Key) → is_posted (map key_of ts) q ≡ has_key ts q
all_posted ts q = sym (set_has q (map key_of ts)) ∙ keys_have ts q

module _ {S : Type 0} where
  -- what stands of an engine later: it has kept as much and more, over the same book, and was fit if it is
  pub record IsLater (g : Ghosts S) (old new : Keeping S) : Type 0 where
    pub log : IsPrefix old.log new.log
    pub found : new.found ≡ old.found
    pub fit : IsFit g new → IsFit g old

  pub later_self : (g : Ghosts S) (k : Keeping S) → IsLater g k k
  later_self g k = record { log = prefix_self k.log; found = refl; fit = λ fit. fit }

  pub was_later : (g : Ghosts S) (tells : ℕ → Type 0) (old new : Keeping S) (was : List Task) (x : Boarded) → IsLater g old new → WasBoard g tells old was x → WasBoard g tells new was x
  was_later g tells old new was x later w = record {
    log = w.log;
    first = prefix_trans w.log old.log new.log w.first later.log;
    kept = w.kept;
    at = w.at;
    told = w.told;
    posted = w.posted;
    made = λ fit. subst (λ (b : Book). IsBoardOf (after rules b (logged w.log)) x.posted w.at x) (sym later.found) (w.made (later.fit fit));
  }

  pub are_later : (g : Ghosts S) (tells : ℕ → Type 0) (old new : Keeping S) (was posted : List Task) (xs : List Boarded) → IsLater g old new → ArePosted g tells old was posted xs → ArePosted g tells new was posted xs
  are_later g tells old new was posted [] later are = are
  are_later g tells old new was posted (x ∷ xs) later are = (was_later g tells old new was x later are.0, are_later g tells old new (was ++ new_ones was x.tasks) posted xs later are.1)

  pub are_joined : (g : Ghosts S) (tells : ℕ → Type 0) (now : Keeping S) (was mid posted : List Task) (xs ys : List Boarded) → ArePosted g tells now was mid xs → ArePosted g tells now mid posted ys → ArePosted g tells now was posted (xs ++ ys)
  are_joined g tells now was mid posted [] ys first more = subst (λ (ts : List Task). ArePosted g tells now ts posted ys) first more
  are_joined g tells now was mid posted (x ∷ xs) ys first more = (first.0, are_joined g tells now (was ++ new_ones was x.tasks) mid posted xs ys first.1 more)

  pub posts_none : (g : Ghosts S) (tells : ℕ → Type 0) (now : Keeping S) (was posted : List Task) → posted ≡ was → Posts g tells now was posted
  posts_none g tells now was posted same = record { boards = []; are = same }

  -- one board
  pub posts_one : (g : Ghosts S) (tells : ℕ → Type 0) (now : Keeping S) (was posted : List Task) (x : Boarded) → WasBoard g tells now was x → posted ≡ was ++ new_ones was x.tasks → Posts g tells now was posted
  posts_one g tells now was posted x w more = record { boards = x ∷ []; are = (w, more) }

  -- and more behind it
  pub posts_then : (g : Ghosts S) (tells : ℕ → Type 0) (old new : Keeping S) (was mid posted : List Task) → IsLater g old new → Posts g tells old was mid → Posts g tells new mid posted → Posts g tells new was posted
  posts_then g tells old new was mid posted later p q = record {
    boards = p.boards ++ q.boards;
    are = are_joined g tells new was mid posted p.boards q.boards (are_later g tells old new was mid p.boards later p.are) q.are;
  }

  -- the same where nothing is posted behind it
  pub posts_still : (g : Ghosts S) (tells : ℕ → Type 0) (old new : Keeping S) (was mid posted : List Task) → IsLater g old new → Posts g tells old was mid → posted ≡ mid → Posts g tells new was posted
  posts_still g tells old new was mid posted later p same = posts_then g tells old new was mid posted later p (posts_none g tells new mid posted same)

  are_once : (g : Ghosts S) (tells : ℕ → Type 0) (now : Keeping S) (was posted : List Task) (xs : List Boarded) → ArePosted g tells now was posted xs → IsOnce was → IsOnce posted
  are_once g tells now was posted [] are once = subst IsOnce (sym are) once
  are_once g tells now was posted (x ∷ xs) are once = are_once g tells now (was ++ new_ones was x.tasks) posted xs are.1 (still_once was x.tasks once)

  -- and none of it is posted twice
  pub posts_once : (g : Ghosts S) (tells : ℕ → Type 0) (now : Keeping S) (was posted : List Task) → Posts g tells now was posted → IsOnce was → IsOnce posted
  posts_once g tells now was posted p once = are_once g tells now was posted p.boards p.are once

  -- A board that was just made, of an engine that goes on: what was posted of runs that are over makes no difference to it.
  pub board_was : (g : Ghosts S) (tells : ℕ → Type 0) (old new : Keeping S) (was : List Task) (gone : List ℕ) (keys : BTreeSet Key) (at : ℕ) (it : Boarded) → tells at → new.log ≡ old.log → new.found ≡ old.found
      → (IsFit g new → IsFit g old) → it.kept ≡ length old.log → HasStill gone keys was → AreOver g old gone → (IsFit g new → names_of gone it.tasks ≡ false)
      → (IsFit g new → IsBoardOf (after rules old.found (logged old.log)) keys.keys at it) → WasBoard g tells new was (whole_of gone was it)
  board_was g tells old new was gone keys at it told log found fit_back kept has over apart made = record {
    log = old.log;
    first = subst (λ (rs : List Receipt). IsPrefix old.log rs) (sym log) (prefix_self old.log);
    kept = kept;
    at = at;
    told = told;
    posted = keys_have was;
    made = λ fit.
        let b = after rules old.found (logged old.log) in
        let its = made fit in
        subst (λ (f : Book). IsBoardOf (after rules f (logged old.log)) (map key_of was) at (whole_of gone was it)) (sym found) (record {
          tasks = all_apart gone it.tasks (apart fit) ∙ its.tasks
              ∙ ready_same gone keys.keys (map key_of was) at b (over (fit_back fit)) (λ q out. sym (set_has q keys.keys) ∙ others_still gone keys was has q out ∙ sym (all_posted was q));
          due = its.due;
          open_runs = its.open_runs;
        });
  }

  pub still_later : (g : Ghosts S) (old new : Keeping S) → IsStill g old new → IsLater g old new
  still_later g old new still = record {
    log = subst (λ (rs : List Receipt). IsPrefix old.log rs) (sym still.log) (prefix_self old.log);
    found = still.found;
    fit = still.follows.1;
  }

  -- by what becomes of a batch
  pub answered_later : (g : Ghosts S) (old new : Keeping S) (was now : List Refused) (batch : List Taken) → HasAnswered g old new was now batch → new.found ≡ old.found → IsLater g old new
  answered_later g old new was now batch answered found = record {
    log = (receipts_in batch answered.ended, sym answered.log);
    found = found;
    fit = answered.fit;
  }

  -- runs that are over are so after a batch, and after a board
  pub over_later : (g : Ghosts S) (old new : Keeping S) (over : List ℕ) → IsLater g old new → AreOver g old over → AreOver g new over
  over_later g old new over later was = over_on g old new later.log.0 over later.fit later.found (sym later.log.1) was

  -- if none is let go of in between
  pub over_between : (g : Ghosts S) (old new : Keeping S) (was gone : List ℕ) → IsStill g old new → gone ≡ was → AreOver g old was → AreOver g new gone
  over_between g old new was gone still same over = subst (AreOver g new) (sym same) (over_later g old new was (still_later g old new still) over)

  -- and those that are let go of with it
  pub over_gone : (g : Ghosts S) (old new : Keeping S) (was gone : List ℕ) → IsLater g old new → LetsGo g new was gone → AreOver g old was → AreOver g new gone
  over_gone g old new was gone later lets over = subst (AreOver g new) (sym lets.are) (over_and g new was lets.more (over_later g old new was later over) lets.over)

---- What the next board may rest on

has_on : (ts us : List Task) (q : Key) → has_key ts q ≡ true → has_key (ts ++ us) q ≡ true
has_on [] us q has = absurd (true≢false (sym has))
has_on (t ∷ ts) us q has = by (is_key (key_of t) q) (has_on ts us q) has
  where
    by : (v : Bool) → (has_key ts q ≡ true → has_key (ts ++ us) q ≡ true) → (v || has_key ts q) ≡ true → (v || has_key (ts ++ us) q) ≡ true
    by true on h = refl
    by false on h = on h

both_true : (a b : Bool) → (a && b) ≡ true → (a ≡ true) × (b ≡ true)
both_true true b e = (refl, e)
both_true false b e = absurd (true≢false (sym e))

both_hold : (a b : Bool) → a ≡ true → b ≡ true → (a && b) ≡ true
both_hold true b h k = k
both_hold false b h k = absurd (true≢false (sym h))

neither : (a b : Bool) → (a || b) ≡ false → (a ≡ false) × (b ≡ false)
neither true b e = absurd (true≢false e)
neither false b e = (refl, e)

-- no more is gone of what isn't of these runs
still_there : (gone more : List ℕ) (n : ℕ) → is_of more n ≡ false → not (is_of gone n) ≡ true → not (is_of (gone ++ more) n) ≡ true
still_there gone more n out there = ap not (of_both gone more n) ∙ by (is_of gone n) (is_of more n) out there
  where
    by : (a b : Bool) → b ≡ false → not a ≡ true → not (a || b) ≡ true
    by true b out h = absurd (true≢false (sym h))
    by false b out h = ap not out

module _ {S : Type 0} (g : Ghosts S) where
  -- a set of the keys of what is posted has those that were known, but for runs that are over
  pub known_asked : (k : Keeping S) (gone : List ℕ) (posted : List Task) (keys : BTreeSet Key) → HasStill gone keys posted → IsKnown g k posted gone → k.halted ≡ false → AreKnown g k keys.keys
  known_asked k gone posted keys has known goes = record {
    over = known.over;
    shut = known.shut;
    still = λ q is out. sym (set_has q keys.keys) ∙ (has q ∙ known.still goes q is out);
  }

  -- and a board that was made with it knows no more
  pub known_behind : (old new : Keeping S) (gone : List ℕ) (posted : List Task) (keys : BTreeSet Key) → HasStill gone keys posted → new.halted ≡ old.halted → (old.halted ≡ false → AreAmong new.posted keys.keys) → IsKnown g new posted gone
  known_behind old new gone posted keys has same owes = record {
    over = [];
    shut = none_over g new;
    still = λ goes q is out. sym (has q) ∙ (set_has q keys.keys ∙ owes (sym same ∙ goes) q is);
  }

  -- more is posted
  pub known_more : (k : Keeping S) (was more posted : List Task) (gone now : List ℕ) → posted ≡ was ++ more → now ≡ gone → IsKnown g k was gone → IsKnown g k posted now
  known_more k was more posted gone now is same known = record {
    over = known.over;
    shut = known.shut;
    still = λ goes q has out.
        let both = both_true (has_key was q) (not (is_of gone q.0)) (known.still goes q has out) in
        both_hold (has_key posted q) (not (is_of now q.0)) (subst (λ (ts : List Task). has_key ts q ≡ true) (sym is) (has_on was more q both.0)) (subst (λ (runs : List ℕ). not (is_of runs q.0) ≡ true) (sym same) both.1);
  }

  -- or nothing, and runs are gone that are over
  pub known_still : (old new : Keeping S) (was posted : List Task) (before gone : List ℕ) → IsLater g old new → LetsGo g new before gone → new.posted ≡ old.posted → posted ≡ was → (new.halted ≡ false → old.halted ≡ false)
      → IsKnown g old was before → IsKnown g new posted gone
  known_still old new was posted before gone later lets same is back known = record {
    over = known.over ++ lets.more;
    shut = over_and g new known.over lets.more (over_later g old new known.over later known.shut) lets.over;
    still = λ goes q has out.
        let apart = neither (is_of known.over q.0) (is_of lets.more q.0) (sym (of_both known.over lets.more q.0) ∙ out) in
        let both = both_true (has_key was q) (not (is_of before q.0)) (known.still (back goes) q (subst (λ (ks : List Key). is_posted ks q ≡ true) same has) apart.0) in
        both_hold (has_key posted q) (not (is_of gone q.0)) (subst (λ (ts : List Task). has_key ts q ≡ true) (sym is) both.0)
        (subst (λ (runs : List ℕ). not (is_of runs q.0) ≡ true) (sym lets.are) (still_there before lets.more q.0 apart.1 both.1));
  }

  -- no run is gone
  pub lets_none : (new : Keeping S) (was gone : List ℕ) → gone ≡ was → LetsGo g new was gone
  lets_none new was gone same = record { more = []; are = same ∙ sym (append-nil was); over = none_over g new }
