-- Boards that were asked for, from turn to turn.
use Rattle.std.proofs.Common.{◌≡◌, ◌⊎◌, inl, inr, ℕ, suc, ◌+◌, ◌≤◌, false, List, [], ◌∷◌, ◌++◌, length, refl, sym, ap, ◌∙◌, subst, arith, length-append}
use Rattle.std.specs.Prelude.{Bool}
use Rattle.std.proofs.lemmas.List.Elements.{All-nil, All-cons}
use Rattle.sqlite_trees.specs.declared.store.Store.{Ghosts}
use Rattle.flow_base.specs.declared.fault.Fault.{Fault}
use Rattle.flow_base.specs.declared.fault.Fault.TheVariants as fault
use Rattle.flow_base.specs.declared.task.Task.{Task}
use Rattle.flow_tables.specs.Faults.{Since}
use Rattle.flow_tables.specs.Owned.{state_of}
use Rattle.flow_tables.proofs.Stopping.{since_self}
use Rattle.flow_commit.specs.Boards.{IsOfBoard}
use Rattle.flow_commit.specs.Committing.{HasGoneOn, IsDown}
use Rattle.flow_commit.specs.Keeping.{Keeping, IsFit}
use Rattle.flow_commit.proofs.Following.{up_before}
use Rattle.flow_commit.proofs.Sealing.{shut_on}
use Rattle.flow_model.specs.Answers.{IsMoreBy}
use Rattle.flow_model.proofs.Failures.{more_none, more_still}
use Rattle.flow_engine.specs.Counting.{IsHeldBack}
use Rattle.flow_engine.specs.Following.{failed_or_held, held_since, held_still}
use Rattle.flow_engine.proofs.Counting.{more_one}
use Rattle.flow_engine.specs.Boarding.{IsStill}
use Rattle.flow_serve.specs.Posting.{AreRefusedBut, AreSkipped, ArePosted, HasNoBoard, HasTurn, HasTurns, IsRefusedTwice, PostsOne, SkipsFor}
use Rattle.flow_serve.proofs.Posted.{IsLater, are_joined, are_later, still_later}

---- Why there was none

refused_on : (P Q : Type 0) → (P → Q) → (n : ℕ) (fs : List Fault) → AreRefusedBut P n fs → AreRefusedBut Q n fs
refused_on P Q on n [] h = tt
refused_on P Q on n (f ∷ fs) (inl one) = inl ((λ e. on (one.0 e)), refused_on P Q on n fs one.1)
refused_on P Q on n (f ∷ fs) (inr one) = inr (one.0, one.1, refused_on P Q on one.0 fs one.2)

-- of more failures than there are
refused_up : (P : Type 0) (m n : ℕ) (fs : List Fault) → AreRefusedBut P n fs → AreRefusedBut P (m + n) fs
refused_up P m n [] h = tt
refused_up P m n (f ∷ fs) (inl one) = inl (one.0, refused_up P m n fs one.1)
refused_up P m n (f ∷ fs) (inr one) = inr (m + one.0, omega (arith, one.1), refused_up P m one.0 fs one.2)

-- those of two times
refused_both : (P : Type 0) (m n : ℕ) (fs hs : List Fault) → AreRefusedBut P m fs → AreRefusedBut P n hs → AreRefusedBut P (m + n) (fs ++ hs)
refused_both P m n [] hs h k = refused_up P m n hs k
refused_both P m n (f ∷ fs) hs (inl one) k = inl (one.0, refused_both P m n fs hs one.1 k)
refused_both P m n (f ∷ fs) hs (inr one) k = inr (one.0 + n, omega (arith, one.1), refused_both P one.0 n fs hs one.2 k)

more_both : (m n a b c : ℕ) → IsMoreBy m a b → IsMoreBy n b c → IsMoreBy (n + m) a c
more_both m n a b c h k = omega (arith, h, k)

-- of E80 it is known whether a failure that was counted stands behind it
by_fault : (halted : Bool) (P Q : Type 0) (f : Fault) → IsOfBoard halted f → (f ≡ fault.StoreRefused → P ⊎ Q) →
    (f ≡ fault.StoreRefused → P) ⊎ Q
by_fault halted P Q (fault.NoMemory _) of why = inl (λ e. absurd (cc))
by_fault halted P Q fault.StoreRefused of why = elim (why refl) [ inl held ↦ inl (λ e. held) | inr failed ↦ inr failed ]
by_fault halted P Q fault.Halted of why = inl (λ e. absurd (cc))
by_fault halted P Q _ of why = absurd of

-- what is skipped for one fault
pub skips_none : (f : Fault) (left missed : List Fault) → missed ≡ left → SkipsFor f left missed
skips_none f left missed same = record { more = []; are = same; each = All-nil (λ (x : Fault). x ≡ f) }

pub skips_more : (f : Fault) (left then missed : List Fault) → SkipsFor f left then → missed ≡ f ∷ then → SkipsFor f left missed
skips_more f left then missed was is = record {
  more = f ∷ was.more;
  are = is ∙ ap (λ fs. f ∷ fs) was.are;
  each = All-cons (λ (x : Fault). x ≡ f) f was.more refl was.each;
}

module _ {S : Type 0} (g : Ghosts S) where
  none_skipped : (old : Keeping S) → AreSkipped g old old []
  none_skipped old = record {
    failures = 0;
    counted = more_none (state_of g old.stored).faults (state_of g old.stored).faults
        (omega arith);
    are = tt;
  }

  skipped_still : (old mid new : Keeping S) (fs : List Fault) → (state_of g mid.stored).faults ≤ (state_of g new.stored).faults
      → ((state_of g mid.stored).is_open ≡ false → (state_of g new.stored).is_open ≡ false) → AreSkipped g old mid fs → AreSkipped g old
      new fs
  skipped_still old mid new fs le shuts was = record {
    failures = was.failures;
    counted = more_still was.failures (state_of g old.stored).faults (state_of g mid.stored).faults (state_of g new.stored).faults
        was.counted le;
    are = refused_on (IsHeldBack g old mid) (IsHeldBack g old new) (held_still g old mid new shuts) was.failures fs was.are;
  }

  -- one more
  module _ (old mid new : Keeping S) (fs : List Fault) (f : Fault) (since : Since (state_of g old.stored) (state_of g mid.stored))
      (le : (state_of g mid.stored).faults ≤ (state_of g new.stored).faults)
      (shuts : (state_of g mid.stored).is_open ≡ false → (state_of g new.stored).is_open ≡ false) (was : AreSkipped g old mid fs) where
    skipped_by : (f ≡ fault.StoreRefused → IsHeldBack g old new) ⊎ IsMoreBy 1 (state_of g mid.stored).faults
        (state_of g new.stored).faults → AreSkipped g old new (f ∷ fs)
    skipped_by (inl held) =
        let still = skipped_still old mid new fs le shuts was in
        record { failures = still.failures; counted = still.counted; are = inl (held, still.are) }
    skipped_by (inr failed) = record {
      failures = suc was.failures;
      counted = more_one was.failures (state_of g old.stored).faults (state_of g mid.stored).faults (state_of g new.stored).faults
          was.counted failed;
      are = inr (
        was.failures,
        refl,
        refused_on (IsHeldBack g old mid) (IsHeldBack g old new) (held_still g old mid new shuts)
            was.failures fs was.are,
      );
    }

    held_or_failed : IsDown g mid.stored new.stored → IsHeldBack g old new ⊎ IsMoreBy 1 (state_of g mid.stored).faults
        (state_of g new.stored).faults
    held_or_failed down = elim (failed_or_held g mid new down) [
      | inl held ↦ inl (held_since g old mid new since held)
      | inr failed ↦ inr
          failed
    ]

    skipped_more : (halted : Bool) → IsOfBoard halted f → (f ≡ fault.StoreRefused → IsDown g mid.stored new.stored) → AreSkipped g old new
        (f ∷ fs)
    skipped_more halted of why = skipped_by (by_fault halted (IsHeldBack g old new) (IsMoreBy 1 (state_of g mid.stored).faults
        (state_of g new.stored).faults) f of (λ e. held_or_failed (why e)))

  -- those of two times
  skipped_both : (old mid new : Keeping S) (fs hs : List Fault) → Since (state_of g old.stored) (state_of g mid.stored)
      → ((state_of g mid.stored).is_open ≡ false → (state_of g new.stored).is_open ≡ false) → AreSkipped g old mid fs
      → AreSkipped g mid new hs → AreSkipped g old new (hs ++ fs)
  skipped_both old mid new fs hs since shuts was more = record {
    failures = more.failures + was.failures;
    counted = more_both was.failures more.failures (state_of g old.stored).faults (state_of g mid.stored).faults
        (state_of g new.stored).faults was.counted more.counted;
    are = refused_both (IsHeldBack g old new) more.failures was.failures hs fs
        (refused_on (IsHeldBack g mid new) (IsHeldBack g old new) (held_since g old mid new since) more.failures hs more.are)
        (refused_on (IsHeldBack g old mid) (IsHeldBack g old new) (held_still g old mid new shuts) was.failures fs was.are);
  }

  ---- One turn

  -- there is none for want of memory
  pub no_memory_board : (old new : Keeping S) (f : Fault) → f ≡ fault.NoMemory _ → HasNoBoard g old new f
  no_memory_board old new f is = record {
    among = subst (λ x. IsOfBoard old.halted x) (sym is) tt;
    cause = λ fit e. absurd
        (let clash = sym is ∙ e in cc);
  }

  -- why there is none behind the second time
  pub refused_twice : (old mid new : Keeping S) (first last : Fault) → IsStill g old mid → IsStill g mid new → HasNoBoard g old mid first
      → HasNoBoard g mid new last → IsRefusedTwice g old new first last
  refused_twice old mid new first last one two was why = record {
    first_is = was.among;
    last_is = subst (λ h. IsOfBoard h last) one.halted why.among;
    counted = λ fit. (
        let then = two.follows.1 fit in
        let since = one.stored.3 then.0 then.1 in
        let shuts = shut_on (state_of g old.stored).is_open (state_of g mid.stored).is_open (up_before g old.stored mid.stored one.stored then) in
        let shuts' = shut_on (state_of g mid.stored).is_open (state_of g new.stored).is_open (up_before g mid.stored new.stored two.stored fit) in
        let so_far = skipped_more old old mid [] first (since_self (state_of g old.stored)) since.0 shuts (none_skipped old) old.halted was.among (was.cause then) in
        skipped_more old mid new (first ∷ []) last since (two.stored.3 fit.0 fit.1).0 shuts' so_far mid.halted why.among (why.cause fit));
  }

  pub turn_still : (tells : ℕ → Type 0) (old new : Keeping S) (was then posted : List Task) (left since missed : List Fault) → posted ≡ then
      → missed ≡ since → HasTurn g tells old new was then left since → HasTurn g tells old new was posted left missed
  turn_still tells old new was then posted left since missed same none turn =
      subst (λ (fs : List Fault). HasTurn g tells old new was posted left fs) (sym none)
      (subst (λ (ts : List Task). HasTurn g tells old new was ts left since) (sym same) turn)

  ---- Many

  pub no_turns : (tells : ℕ → Type 0) (old : Keeping S) (was : List Task) (left : List Fault) → HasTurns g tells old old was was left left 0
  no_turns tells old was left = record {
    boards = [];
    are = refl;
    skipped = [];
    noted = refl;
    skips = 0;
    twice = omega arith;
    all = omega arith;
    among = All-nil (IsOfBoard old.halted);
    counted = λ _. none_skipped old;
  }

  -- what is committed asks for none
  pub turns_on : (tells : ℕ → Type 0) (old mid new : Keeping S) (was then posted : List Task) (left since missed : List Fault) (n : ℕ)
      → IsLater g mid new → posted ≡ then → missed ≡ since → (IsFit g new → HasGoneOn g mid new)
      → HasTurns g tells old mid was then left since n → HasTurns g tells old new was posted left missed n
  turns_on tells old mid new was then posted left since missed n later same none on t = record {
    boards = t.boards;
    are = subst (λ (ts : List Task). ArePosted g tells new was ts t.boards) (sym same)
        (are_later g tells mid new was then t.boards later t.are);
    skipped = t.skipped;
    noted = none ∙ t.noted;
    skips = t.skips;
    twice = t.twice;
    all = t.all;
    among = t.among;
    counted = λ fit. skipped_still old mid new t.skipped (on fit).since.0 (shut_on (state_of g mid.stored).is_open
        (state_of g new.stored).is_open (on fit).up) (t.counted (later.fit fit));
  }

  -- one more
  module _ (tells : ℕ → Type 0) (old mid new : Keeping S) (was then posted : List Task) (left now missed : List Fault) (n : ℕ)
      (t : HasTurns g tells old mid was then left now n)
      (halted : mid.halted ≡ old.halted) (still : IsStill g mid new) (since : IsFit g mid → Since (state_of g old.stored)
      (state_of g mid.stored)) where
    before : IsFit g new → IsFit g mid
    before fit = still.follows.1 fit

    shuts : IsFit g new → (state_of g mid.stored).is_open ≡ false → (state_of g new.stored).is_open ≡ false
    shuts fit = shut_on (state_of g mid.stored).is_open (state_of g new.stored).is_open (up_before g mid.stored new.stored still.stored fit)

    so_far : ArePosted g tells new was then t.boards
    so_far = are_later g tells mid new was then t.boards (still_later g mid new still) t.are

    pub turns_more : HasTurn g tells mid new then posted now missed → HasTurns g tells old new was posted left missed (suc n)
    turns_more (inl (one, none)) =
        let many : length (t.boards ++ one.board ∷ []) ≡ length t.boards + 1 = length-append t.boards (one.board ∷ []) in
        let count : n ≡ length t.boards + t.skips = t.all in
        record {
          boards = t.boards ++ one.board ∷ [];
          are = are_joined g tells new was then posted t.boards (one.board ∷ []) so_far (one.made, one.is);
          skipped = t.skipped;
          noted = none ∙ t.noted;
          skips = t.skips;
          twice = t.twice;
          all = omega (arith, many, count);
          among = t.among;
          counted = λ fit. skipped_still old mid new t.skipped (still.stored.3 fit.0 fit.1).0 (shuts fit) (t.counted (before fit));
        }
    turns_more (inr (same, (first, last, why, is))) =
        let count : n ≡ length t.boards + t.skips = t.all in
        let twice : length t.skipped ≡ t.skips + t.skips = t.twice in
        record {
          boards = t.boards;
          are = subst (λ (ts : List Task). ArePosted g tells new was ts t.boards) (sym same) so_far;
          skipped = last ∷ first ∷ t.skipped;
          noted = is ∙ ap (λ fs. last ∷ first ∷ fs) t.noted;
          skips = suc t.skips;
          twice = omega (arith, twice);
          all = omega (arith, count);
          among = All-cons (IsOfBoard old.halted) last (first ∷ t.skipped) (subst (λ h. IsOfBoard h last) halted why.last_is)
              (All-cons (IsOfBoard old.halted) first t.skipped (subst (λ h. IsOfBoard h first) halted why.first_is) t.among);
          counted = λ fit. skipped_both old mid new t.skipped (last ∷ first ∷ []) (since (before fit)) (shuts fit) (t.counted (before fit))
              (why.counted fit);
        }
