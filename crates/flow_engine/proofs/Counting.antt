-- How often batches are given up, from batch to batch.
use Rattle.std.proofs.Common.{◌≡◌, ◌⊎◌, inl, inr, ℕ, suc, ◌+◌, ◌≤◌, false, true, List, [], ◌∷◌, ◌++◌, length, refl, sym, ◌∙◌, subst, arith}
use Rattle.std.proofs.lemmas.Bool.{cases_Bool}
use Rattle.sqlite_trees.specs.declared.store.Store.{Ghosts}
use Rattle.sqlite_disk.specs.Disk.{MoreFaults}
use Rattle.flow_base.specs.declared.command.Command.{Command}
use Rattle.flow_model.specs.Book.{Book}
use Rattle.flow_model.specs.Apply.{after}
use Rattle.flow_model.specs.Answers.{IsMoreBy}
use Rattle.flow_model.proofs.Failures.{more_none, more_still}
use Rattle.flow_model.proofs.Logs.{after_cut}
use Rattle.flow_base.specs.declared.submission.Taken.{Taken}
use Rattle.flow_view.specs.declared.fault.ViewFault.{ViewFault}
use Rattle.flow_view.specs.declared.fault.ViewFault.TheVariants as fault
use Rattle.flow_tables.specs.Faults.{Since}
use Rattle.flow_tables.specs.Owned.{state_of}
use Rattle.flow_commit.specs.Keeping.{Keeping, rules, IsUp, kept_book, commands_of}
use Rattle.flow_commit.specs.Committing.{HasGoneOn}
use Rattle.flow_commit.proofs.Sealing.{shut_on}
use Rattle.flow_engine.specs.declared.done.Done.{Done}
use Rattle.flow_engine.specs.declared.done.Done.TheVariants as done
use Rattle.flow_engine.specs.Driving.{if_kept, kept_of}
use Rattle.flow_engine.specs.GivingUp.{IsGivenUpFor, WasRefused}
use Rattle.flow_engine.specs.Counting.{AreGivenUpBut, HasOtherCause, IsCounted}
use Rattle.flow_engine.specs.Following.{failed_or_other, other_since, other_still}
use Rattle.flow_engine.proofs.GivingUp.{given_up_on, given_up_over}

---- The count

pub more_one : (n a b c : ℕ) → IsMoreBy n a b → MoreFaults b c → IsMoreBy (suc n) a c
more_one n a b c more one = omega (arith, more, one)

---- Batches

pub but_on : (P Q : Book → List Command → Type 0) → ((b : Book) (cs : List Command) → P b cs → Q b cs) → (n : ℕ) (b : Book)
    (bs : List (List Taken)) (ds : List Done) → AreGivenUpBut P n b bs ds → AreGivenUpBut Q n b bs ds
but_on P Q on n b [] ds h = tt
but_on P Q on n b (x ∷ bs) [] h = tt
but_on P Q on n b (x ∷ bs) (d ∷ ds) (inl one) = inl (
  given_up_on P Q on b x d one.0,
  but_on P Q on n (after rules b (if_kept x d)) bs ds
      one.1,
)
but_on P Q on n b (x ∷ bs) (d ∷ ds) (inr one) = inr (one.0, one.1, but_on P Q on one.0 (after rules b (if_kept x d)) bs ds one.2)

-- one batch more, behind which this stands
pub but_caused : (P : Book → List Command → Type 0) (n : ℕ) (b : Book) (bs : List (List Taken)) (ds : List Done) (batch : List Taken)
    (d : Done) → length ds ≡ length bs
    → AreGivenUpBut P n b bs ds → IsGivenUpFor P (after rules b (kept_of bs ds)) batch d → AreGivenUpBut P n b (bs ++ batch ∷ [])
    (ds ++ d ∷ [])
but_caused P n b [] [] batch d long h one = inl (one, tt)
but_caused P n b [] (y ∷ ds) batch d long h one = absurd (omega (arith, long))
but_caused P n b (x ∷ bs) [] batch d long h one = absurd (omega (arith, long))
but_caused P n b (x ∷ bs) (y ∷ ds) batch d long (inl h) one =
    let fewer : length ds ≡ length bs = omega (arith, long) in
    inl (
      h.0,
      but_caused P n (after rules b (if_kept x y)) bs ds batch d fewer h.1
          (subst (λ k. IsGivenUpFor P k batch d) (after_cut rules b (if_kept x y) (kept_of bs ds)) one),
    )
but_caused P n b (x ∷ bs) (y ∷ ds) batch d long (inr h) one =
    let fewer : length ds ≡ length bs = omega (arith, long) in
    inr (
      h.0,
      h.1,
      but_caused P h.0 (after rules b (if_kept x y)) bs ds batch d fewer h.2
          (subst (λ k. IsGivenUpFor P k batch d) (after_cut rules b (if_kept x y) (kept_of bs ds)) one),
    )

-- one more, behind which only a failure stands
pub but_failed : (P : Book → List Command → Type 0) (n : ℕ) (b : Book) (bs : List (List Taken)) (ds : List Done) (batch : List Taken)
    (d : Done) → length ds ≡ length bs
    → AreGivenUpBut P n b bs ds → AreGivenUpBut P (suc n) b (bs ++ batch ∷ []) (ds ++ d ∷ [])
but_failed P n b [] [] batch d long h = inr (n, refl, tt)
but_failed P n b [] (y ∷ ds) batch d long h = absurd (omega (arith, long))
but_failed P n b (x ∷ bs) [] batch d long h = absurd (omega (arith, long))
but_failed P n b (x ∷ bs) (y ∷ ds) batch d long (inl h) =
    let fewer : length ds ≡ length bs = omega (arith, long) in
    inl (h.0, but_failed P n (after rules b (if_kept x y)) bs ds batch d fewer h.1)
but_failed P n b (x ∷ bs) (y ∷ ds) batch d long (inr h) =
    let fewer : length ds ≡ length bs = omega (arith, long) in
    inr (
      n,
      refl,
      subst (λ k. AreGivenUpBut P k (after rules b (if_kept x y)) (bs ++ batch ∷ []) (ds ++ d ∷ [])) (sym h.1)
          (but_failed P h.0 (after rules b (if_kept x y)) bs ds batch d fewer h.2),
    )

---- From engine to engine

module _ {S : Type 0} (g : Ghosts S) where
  one_or_other : (mid new : Keeping S) (b : Book) (batch : List Taken) (d : Done) → IsGivenUpFor (WasRefused g mid new) b batch d
      → IsGivenUpFor (HasOtherCause g mid new) b batch d ⊎ MoreFaults (state_of g mid.stored).faults (state_of g new.stored).faults
  one_or_other mid new b batch (done.Kept rs) h = inl tt
  one_or_other mid new b batch (done.NotApplied (fault.NoMemory _)) h = inl tt
  one_or_other mid new b batch (done.NotApplied fault.StoreRefused) h = failed_or_other g mid new b (commands_of batch) h
  one_or_other mid new b batch done.Unknown h = inl tt
  one_or_other mid new b batch done.Halted h = inl tt

  pub none_counted : (old : Keeping S) (b : Book) (ds : List Done) → IsCounted g old old b [] ds
  none_counted old b ds = record {
    failures = 0;
    counted = more_none (state_of g old.stored).faults (state_of g old.stored).faults
        (omega arith);
    are = tt;
  }

  -- what was done since gave nothing up
  pub counted_still : (old mid new : Keeping S) (b : Book) (bs : List (List Taken)) (ds : List Done) → (state_of g mid.stored).faults ≤
      (state_of g new.stored).faults → mid.kept ≤ new.kept
      → ((state_of g mid.stored).is_open ≡ false → (state_of g new.stored).is_open ≡ false) → IsCounted g old mid b bs ds
      → IsCounted g old new b bs ds
  counted_still old mid new b bs ds le counts shuts was = record {
    failures = was.failures;
    counted = more_still was.failures (state_of g old.stored).faults (state_of g mid.stored).faults (state_of g new.stored).faults
        was.counted le;
    are = but_on (HasOtherCause g old mid) (HasOtherCause g old new) (other_still g old mid new counts shuts) was.failures b bs ds was.are;
  }

  module _ (old mid new : Keeping S) (b : Book) (bs : List (List Taken)) (ds : List Done) (batch : List Taken) (d : Done)
      (long : length ds ≡ length bs) (since : Since (state_of g old.stored) (state_of g mid.stored)) (on : HasGoneOn g mid new)
      (later : mid.halted ≡ true → d ≡ done.Halted) (same : mid.halted ≡ false → IsUp g mid → kept_book g mid ≡ after rules b
      (kept_of bs ds)) (was : IsCounted g old mid b bs ds) where
    abbrev book : Book
    book = after rules b (kept_of bs ds)

    -- the book read off the tables is the one that the batches before left, unless the connection is shut or the engine has halted
    over_book : (f : ViewFault) → d ≡ done.NotApplied f → HasOtherCause g old new (kept_book g mid) (commands_of batch) → HasOtherCause g
        old new book (commands_of batch)
    over_book f is h = elim (cases_Bool mid.halted) [
      | inl halted ↦ absurd (let clash : done.Halted ≡ done.NotApplied f = sym (later halted) ∙ is in cc)
      | inr goes ↦ elim (cases_Bool (state_of g mid.stored).is_open) [
        | inl up ↦ subst (λ k. HasOtherCause g old new k (commands_of batch)) (same goes up) h
        | inr shut ↦ inr (inr (inl (shut_on (state_of g mid.stored).is_open (state_of g new.stored).is_open on.up shut)))
      ]
    ]

    by_cause : IsGivenUpFor (HasOtherCause g mid new) (kept_book g mid) batch d ⊎ MoreFaults (state_of g mid.stored).faults
        (state_of g new.stored).faults → IsCounted g old new b (bs ++ batch ∷ []) (ds ++ d ∷ [])
    by_cause (inl other) =
        let on_it = counted_still old mid new b bs ds on.since.0 on.counts (shut_on (state_of g mid.stored).is_open
        (state_of g new.stored).is_open on.up) was in
        let since_old = given_up_on (HasOtherCause g mid new) (HasOtherCause g old new) (other_since g old mid new since) (kept_book g mid)
        batch d other in
        record {
          failures = on_it.failures;
          counted = on_it.counted;
          are = but_caused (HasOtherCause g old new) on_it.failures b bs ds batch d long on_it.are
              (given_up_over (HasOtherCause g old new) (kept_book g mid) book batch d over_book since_old);
        }
    by_cause (inr failed) = record {
      failures = suc was.failures;
      counted = more_one was.failures (state_of g old.stored).faults (state_of g mid.stored).faults (state_of g new.stored).faults
          was.counted failed;
      are = but_failed (HasOtherCause g old new) was.failures b bs ds batch d long
          (but_on (HasOtherCause g old mid) (HasOtherCause g old new)
          (other_still g old mid new on.counts (shut_on (state_of g mid.stored).is_open (state_of g new.stored).is_open on.up))
          was.failures b bs ds was.are);
    }

    -- one batch more
    pub counted_then : IsGivenUpFor (WasRefused g mid new) (kept_book g mid) batch d → IsCounted g old new b (bs ++ batch ∷ [])
        (ds ++ d ∷ [])
    counted_then one = by_cause (one_or_other mid new (kept_book g mid) batch d one)
