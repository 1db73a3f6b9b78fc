-- A batch that is answered as a whole.
use Rattle.std.proofs.Common.{◌≡◌, inl, inr, ℕ, ◌≤◌, ◌+◌, Bool, true, false, List, [], ◌∷◌, ◌++◌, length, map, refl, sym, ap, ◌∙◌, subst, arith, append-nil, append_assoc}
use Rattle.std.specs.Prelude.{Result, Ok, Err, slice_index_or}
use Rattle.std.proofs.lemmas.List.{length-map, map-append}
use Rattle.sqlite_trees.specs.declared.store.Store.{Ghosts}
use Rattle.flow_base.specs.declared.command.Command.{Command}
use Rattle.flow_base.specs.declared.command.Reply.{Reply}
use Rattle.flow_model.specs.Apply.{after, replies}
use Rattle.flow_model.specs.Book.{Book}
use Rattle.flow_base.specs.declared.code.Code.TheVariants as code
use Rattle.flow_model.specs.Answers.{IsGivenUp}
use Rattle.flow_model.specs.declared.answer.Stop.{Stop}
use Rattle.flow_model.specs.declared.answer.Together.{Together}
use Rattle.flow_model.specs.declared.answer.Together.TheVariants as together
use Rattle.flow_base.specs.declared.submission.Taken.{Taken}
use Rattle.flow_base.specs.declared.submission.Receipt.{Receipt}
use Rattle.flow_tables.specs.Owned.{state_of, LeavesEither}
use Rattle.flow_commit.specs.Keeping.{Keeping, rules, IsFit, IsUp, KeepsBook, kept_book, command_of, commands_of}
use Rattle.flow_engine.specs.declared.done.Done.{Done}
use Rattle.flow_engine.specs.declared.done.Done.TheVariants as done
use Rattle.flow_engine.specs.Answering.{IsSure, HasStopped}
use Rattle.flow_engine.specs.Driving.{NotesAll, Runs, has_unknown, kept_of, in_hand, replies_of, reply_of}
use Rattle.flow_engine.specs.Together.{HasRunOnce, IsToldOf, IsTogether, are_kept}
use Rattle.flow_engine.proofs.Committed.{one_book}
use Rattle.flow_engine.proofs.OneMore.{WasOwn}
use Rattle.flow_engine.specs.Counting.{IsCounted}
use Rattle.flow_engine.specs.GivingUp.{AreGivenUp, GivesUp, WasRefused}
use Rattle.flow_commit.specs.Committing.{HasGoneOn}
use Rattle.flow_commit.proofs.Refusing.{gone_on_self}
use Rattle.flow_engine.proofs.GivingUp.{given_up_by, gives_up_by, no_memory}

-- What the loop tells of one batch.
pub record HasDrivenOne {S : Type 0} (g : Ghosts S) (old new : Keeping S) (batch : List Taken) (d : Done) : Type 0 where
  pub some : 1 ≤ length batch
  pub runs : Runs g old new (batch ∷ []) (d ∷ [])
  pub noted : old.halted ≡ false → NotesAll old new (batch ∷ []) (d ∷ [])
  pub up : IsFit g new → IsUp g new → IsUp g old
  pub own : IsFit g new → IsUp g old → WasOwn g old new
  pub given_up : IsFit g new → AreGivenUp (WasRefused g old new) (kept_book g old) (batch ∷ []) (d ∷ [])
  pub counted : IsFit g new → IsCounted g old new (kept_book g old) (batch ∷ []) (d ∷ [])
  pub on : IsFit g new → HasGoneOn g old new

abbrev head_of : Done → List Done → Done
head_of d [] = d
head_of d (e ∷ es) = e

-- one answer is the first of one
same_head : (d e : Done) → d ∷ [] ≡ e ∷ [] → d ≡ e
same_head d e is = ap (head_of d) is

module _ {S : Type 0} (g : Ghosts S) (old new : Keeping S) (batch : List Taken) where
  -- one command at least was kept, so something has changed
  counted : (n m : ℕ) (cs : List Command) → n ≡ m → 1 ≤ length batch → cs ≡ commands_of batch → n ≡ m + length cs → ⊥
  counted n m cs same some are more =
      let long : length cs ≡ length batch = ap length are ∙ length-map batch command_of in
      omega (arith, same, some, long, more)

  module _ (d : Done) (driven : HasDrivenOne g old new batch d) where
    -- an engine that had halted before answers so
    later : old.halted ≡ true → d ≡ done.Halted
    later h = same_head d done.Halted (driven.runs.still h).1

    goes : (d ≡ done.Halted → ⊥) → (v : Bool) → old.halted ≡ v → old.halted ≡ false
    goes other true h = absurd (other (later h))
    goes other false h = h

    is_sure : IsSure g new → IsSure g old
    is_sure sure = record { fit = driven.runs.fit sure.fit; up = driven.up sure.fit sure.up }

    part_of : (t : Result Together Stop) → IsToldOf d t → HasRunOnce g old new (commands_of batch) t
    part_of t told = record { batch = batch; done = d; are = refl; runs = driven.runs; counted = driven.counted; told = told }

    module _ (went : old.halted ≡ false) where
      -- all are kept
      module _ (l : List Reply) (told : replies_of (batch ∷ []) (d ∷ []) ≡ l) (kept : kept_of (batch ∷ []) (d ∷ []) ≡ commands_of batch) (known : has_unknown (d ∷ []) ≡ false) where
        all_kept : IsFit g new → (b : Book) → KeepsBook g old b → (l ≡ replies rules b (commands_of batch)) × KeepsBook g new (after rules b (commands_of batch))
        all_kept fit b keeps =
            let drove = driven.runs.drives fit b keeps went in
            (sym told ∙ drove.replies ∙ ap (replies rules b) kept, subst (λ cs. KeepsBook g new (after rules b cs)) kept (drove.leads.book known))

        all_own : IsSure g new → WasOwn g old new → (l ≡ replies rules (kept_book g old) (commands_of batch)) × (kept_book g new ≡ after rules (kept_book g old) (commands_of batch))
        all_own sure (inl same) = absurd (counted new.kept old.kept _ (ap (λ (k : Keeping S). k.kept) same) driven.some kept (driven.noted went).counts)
        all_own sure (inr keeps) =
            let its = all_kept sure.fit (kept_book g old) keeps in
            (its.0, one_book g new _ sure.up its.1)

        all_sure : IsSure g new → (l ≡ replies rules (kept_book g old) (commands_of batch)) × (kept_book g new ≡ after rules (kept_book g old) (commands_of batch))
        all_sure sure = all_own sure (driven.own sure.fit (driven.up sure.fit sure.up))

      -- none is kept
      module _ (none : kept_of (batch ∷ []) (d ∷ []) ≡ []) (known : has_unknown (d ∷ []) ≡ false) where
        none_kept : IsFit g new → (b : Book) → KeepsBook g old b → KeepsBook g new b
        none_kept fit b keeps = subst (λ cs. KeepsBook g new (after rules b cs)) none ((driven.runs.drives fit b keeps went).leads.book known)

        none_own : IsSure g new → WasOwn g old new → kept_book g new ≡ kept_book g old
        none_own sure (inl same) = ap (kept_book g) same
        none_own sure (inr keeps) = one_book g new _ sure.up (none_kept sure.fit (kept_book g old) keeps)

        none_sure : IsSure g new → kept_book g new ≡ kept_book g old
        none_sure sure = none_own sure (driven.own sure.fit (driven.up sure.fit sure.up))

      -- they are in hand
      hand_left : kept_of (batch ∷ []) (d ∷ []) ≡ [] → in_hand (batch ∷ []) (d ∷ []) ≡ commands_of batch → IsFit g new → (b : Book) → KeepsBook g old b → LeavesEither (state_of g new.stored) b (after rules b (commands_of batch))
      hand_left none hand fit b keeps =
          let stops = (driven.runs.drives fit b keeps went).leads.stops in
          let over = subst (λ cs. LeavesEither (state_of g new.stored) (after rules b cs) (after rules b (cs ++ in_hand (batch ∷ []) (d ∷ [])))) none stops in
          subst (λ cs. LeavesEither (state_of g new.stored) b (after rules b cs)) hand over

  -- what becomes of them
  pub all_together : (d : Done) (t : Result Together Stop) → HasDrivenOne g old new batch d → IsToldOf d t → IsTogether g old new (commands_of batch) t
  all_together (done.Kept rs) (Ok (together.Replied l)) driven told =
      let went = goes (done.Kept rs) driven (λ e. cc) old.halted refl in
      let all : replies_of (batch ∷ []) (done.Kept rs ∷ []) ≡ l.items = append-nil (map reply_of rs.items) ∙ sym told in
      let kept : kept_of (batch ∷ []) (done.Kept rs ∷ []) ≡ commands_of batch = append-nil (commands_of batch) in
      let long : length rs.items ≡ length batch = (driven.noted went).answers.0 in
      record {
        answers = all_sure (done.Kept rs) driven went l.items all kept refl;
        kept = all_kept (done.Kept rs) driven went l.items all kept refl;
        count = ap length told ∙ length-map rs.items reply_of ∙ long ∙ sym (length-map batch command_of);
        cause = tt;
        stopped = tt;
        unstopped = inl (went, (driven.noted went).halted);
        leaves = tt;
        sure = is_sure (done.Kept rs) driven;
        follows = (driven.runs.opened, driven.runs.fit);
        goes_on = driven.on;
        part = inl (part_of (done.Kept rs) driven (Ok (together.Replied l)) told);
      }
  all_together (done.Kept rs) (Ok (together.NotApplied k)) driven told = absurd told
  all_together (done.Kept rs) (Err s) driven told = absurd told
  all_together (done.NotApplied f) (Ok (together.Replied l)) driven told = absurd told
  all_together (done.NotApplied f) (Ok (together.NotApplied k)) driven told =
      let went = goes (done.NotApplied f) driven (λ e. cc) old.halted refl in
      record {
        answers = none_sure (done.NotApplied f) driven went refl refl;
        kept = none_kept (done.NotApplied f) driven went refl refl;
        count = tt;
        cause = subst (λ x. IsGivenUp x × GivesUp g old new (kept_book g old) (commands_of batch) x) (sym told) (given_up_by f, gives_up_by g old new (kept_book g old) batch f (λ fit. (driven.given_up fit).0));
        stopped = tt;
        unstopped = inl (went, (driven.noted went).halted);
        leaves = tt;
        sure = is_sure (done.NotApplied f) driven;
        follows = (driven.runs.opened, driven.runs.fit);
        goes_on = driven.on;
        part = inl (part_of (done.NotApplied f) driven (Ok (together.NotApplied k)) told);
      }
  all_together (done.NotApplied f) (Err s) driven told = absurd told
  all_together done.Unknown (Ok t) driven told = absurd told
  all_together done.Unknown (Err s) driven told =
      let went = goes done.Unknown driven (λ e. cc) old.halted refl in
      record {
        answers = tt;
        kept = tt;
        count = tt;
        cause = tt;
        stopped = subst (HasStopped old new) (sym told) (went, (driven.noted went).halted);
        unstopped = tt;
        leaves = hand_left done.Unknown driven went refl (append-nil (commands_of batch));
        sure = is_sure done.Unknown driven;
        follows = (driven.runs.opened, driven.runs.fit);
        goes_on = driven.on;
        part = inl (part_of done.Unknown driven (Err s) told);
      }
  all_together done.Halted (Ok t) driven told = absurd told
  all_together done.Halted (Err s) driven told =
      let halted = stopped_before old.halted refl in
      let same = (driven.runs.still halted).0 in
      record {
        answers = tt;
        kept = tt;
        count = tt;
        cause = tt;
        stopped = subst (HasStopped old new) (sym told) (halted, same);
        unstopped = tt;
        leaves = λ fit b keeps db may. inl ((subst (λ k. KeepsBook g k b) (sym same) keeps).stops db may);
        sure = is_sure done.Halted driven;
        follows = (driven.runs.opened, driven.runs.fit);
        goes_on = driven.on;
        part = inl (part_of done.Halted driven (Err s) told);
      }
    where
      stopped_before : (v : Bool) → old.halted ≡ v → old.halted ≡ true
      stopped_before true h = h
      stopped_before false h = absurd (driven.noted h).answers

  -- Where memory was wanting nothing has changed.
  pub none_done : (cs : List Command) → new ≡ old → IsTogether g old new cs (Ok (together.NotApplied code.NoMemory))
  none_done cs same = record {
    answers = λ sure. ap (kept_book g) same;
    kept = λ fit b keeps. subst (λ k. KeepsBook g k b) (sym same) keeps;
    count = tt;
    cause = no_memory g old new (kept_book g old) cs code.NoMemory refl;
    stopped = tt;
    unstopped = inr same;
    leaves = tt;
    sure = λ sure. subst (IsSure g) same sure;
    follows = (ap (λ (k : Keeping S). k.stored.opened) same, λ fit. subst (IsFit g) same fit);
    goes_on = λ fit. subst (λ k. HasGoneOn g old k) (sym same) (gone_on_self g old);
    part = inr (same, refl);
  }

---- The loops

-- one more submission
pub taken_more : (whole now left : List Command) (ts : List Taken) (t : Taken) → now ≡ t.command ∷ left → whole ≡ commands_of ts ++ now → whole ≡ commands_of (ts ++ t ∷ []) ++ left
taken_more whole now left ts t next split = split ∙ ap (λ l. commands_of ts ++ l) next ∙ sym (append_assoc (commands_of ts) (t.command ∷ []) left) ∙ ap (λ l. l ++ left) (sym (map-append command_of ts (t ∷ [])))

-- one more reply
pub replies_more : (whole now left : List Receipt) (rs : List Reply) (r : Receipt) → now ≡ r ∷ left → rs ++ map reply_of now ≡ map reply_of whole → (rs ++ r.reply ∷ []) ++ map reply_of left ≡ map reply_of whole
replies_more whole now left rs r next split = append_assoc rs (r.reply ∷ []) (map reply_of left) ∙ ap (λ l. rs ++ map reply_of l) (sym next) ∙ split

---- One batch

-- a list of one
pub first_of : {A : Type 0} (xs : List A) (x : A) → length xs ≡ 1 → x ≡ slice_index_or xs 0 x → xs ≡ x ∷ []
first_of [] x one is = absurd (omega (arith, one))
first_of (y ∷ []) x one is = ap (λ z. z ∷ []) (sym is)
first_of (y ∷ (z ∷ xs)) x one is = absurd (omega (arith, one))

pub driven_one : {S : Type 0} (g : Ghosts S) (old new : Keeping S) (bs : List (List Taken)) (ds : List Done) (batch : List Taken) (d : Done) → bs ≡ batch ∷ [] → ds ≡ d ∷ [] → 1 ≤ length batch
    → Runs g old new bs ds → (old.halted ≡ false → NotesAll old new bs ds) → (IsFit g new → IsUp g new → IsUp g old) → (IsFit g new → IsUp g old → WasOwn g old new)
    → (IsFit g new → AreGivenUp (WasRefused g old new) (kept_book g old) bs ds) → (IsFit g new → IsCounted g old new (kept_book g old) bs ds)
    → (IsFit g new → HasGoneOn g old new) → HasDrivenOne g old new batch d
driven_one g old new bs ds batch d one_batch one_done some runs noted up own given_up counts on = record {
  some = some;
  runs = subst (λ x. Runs g old new x (d ∷ [])) one_batch (subst (λ x. Runs g old new bs x) one_done runs);
  noted = λ goes. subst (λ x. NotesAll old new x (d ∷ [])) one_batch (subst (λ x. NotesAll old new bs x) one_done (noted goes));
  up = up;
  own = own;
  given_up = λ fit. subst (λ x. AreGivenUp (WasRefused g old new) (kept_book g old) x (d ∷ [])) one_batch (subst (λ x. AreGivenUp (WasRefused g old new) (kept_book g old) bs x) one_done (given_up fit));
  counted = λ fit. subst (λ x. IsCounted g old new (kept_book g old) x (d ∷ [])) one_batch (subst (λ x. IsCounted g old new (kept_book g old) bs x) one_done (counts fit));
  on = on;
}

-- a batch has a receipt for each command at most
pub few_kept : {S : Type 0} (g : Ghosts S) (old new : Keeping S) (batch : List Taken) (d : Done) → HasDrivenOne g old new batch d → are_kept d ≤ length batch
few_kept g old new batch (done.Kept rs) driven =
    let went = goes g old new batch (done.Kept rs) driven (λ e. cc) old.halted refl in
    let long : length rs.items ≡ length batch = (driven.noted went).answers.0 in
    omega (arith, long)
few_kept g old new batch (done.NotApplied f) driven = omega arith
few_kept g old new batch done.Unknown driven = omega arith
few_kept g old new batch done.Halted driven = omega arith
