-- Batches that an engine has answered in several calls are batches that it has answered in one.
use Rattle.std.proofs.Common.{◌≡◌, ℕ, ◌+◌, Bool, true, false, List, [], ◌∷◌, ◌++◌, length, refl, sym, ap, ◌∙◌, subst, arith, append-nil, append_assoc, length-append}
use Rattle.std.proofs.lemmas.List.{length-map, map-append}
use Rattle.sqlite_trees.specs.declared.store.Store.{Ghosts}
use Rattle.flow_base.specs.declared.command.Command.{Command}
use Rattle.flow_model.specs.Book.{Book}
use Rattle.flow_model.specs.Apply.{after}
use Rattle.flow_model.proofs.Logs.{after_cut}
use Rattle.flow_base.specs.declared.submission.Taken.{Taken}
use Rattle.flow_tables.specs.Owned.{state_of, LeavesEither}
use Rattle.flow_commit.specs.Keeping.{Keeping, rules, IsFit, KeepsBook, command_of, commands_of}
use Rattle.flow_engine.specs.declared.done.Done.{Done}
use Rattle.flow_engine.specs.declared.done.Done.TheVariants as done
use Rattle.flow_engine.specs.Driving.{AreAnswers, Passes, LeadsTo, Drives, Runs, all_halted, has_unknown, gathered, if_kept, kept_of, in_hand}
use Rattle.flow_engine.proofs.OneMore.{Stands, nothing_yet}
use Rattle.flow_engine.proofs.Gathering.{off, same_length, none_in_hand, no_hand_of_halted, none_kept_of_halted, replies_told}

gathered_join : {A : Type 0} (f : List Taken → Done → List A) (bs cs : List (List Taken)) (ds es : List Done) → length bs ≡ length ds → gathered f (bs ++ cs) (ds ++ es) ≡ gathered f bs ds ++ gathered f cs es
gathered_join f [] cs [] es e = refl
gathered_join f [] cs (y ∷ ds) es e = absurd (omega (arith, e))
gathered_join f (x ∷ bs) cs [] es e = absurd (omega (arith, e))
gathered_join f (x ∷ bs) cs (y ∷ ds) es e =
    ap (λ l. f x y ++ l) (gathered_join f bs cs ds es (omega (arith, e))) ∙ sym (append_assoc (f x y) (gathered f bs ds) (gathered f cs es))

unknown_join : (ds es : List Done) → has_unknown ds ≡ false → has_unknown (ds ++ es) ≡ has_unknown es
unknown_join [] es e = refl
unknown_join (done.Kept rs ∷ ds) es e = unknown_join ds es e
unknown_join (done.NotApplied f ∷ ds) es e = unknown_join ds es e
unknown_join (done.Unknown ∷ ds) es e = off e
unknown_join (done.Halted ∷ ds) es e = unknown_join ds es e

unknown_stays : (ds es : List Done) → has_unknown ds ≡ true → has_unknown (ds ++ es) ≡ true
unknown_stays [] es e = off (sym e)
unknown_stays (done.Kept rs ∷ ds) es e = unknown_stays ds es e
unknown_stays (done.NotApplied f ∷ ds) es e = unknown_stays ds es e
unknown_stays (done.Unknown ∷ ds) es e = refl
unknown_stays (done.Halted ∷ ds) es e = unknown_stays ds es e

-- over the book that the first ones have led to
answers_join : (n : ℕ) (b : Book) (bs cs : List (List Taken)) (ds es : List Done) → has_unknown ds ≡ false → AreAnswers n b bs ds
    → AreAnswers (n + length (kept_of bs ds)) (after rules b (kept_of bs ds)) cs es → AreAnswers n b (bs ++ cs) (ds ++ es)
answers_join n b [] cs [] es e h more = subst (λ k. AreAnswers k b cs es) (omega arith) more
answers_join n b [] cs (y ∷ ds) es e h more = absurd h
answers_join n b (x ∷ bs) cs [] es e h more = absurd h
answers_join n b (x ∷ bs) cs (done.Kept rs ∷ ds) es e h more =
    let long : length (commands_of x ++ kept_of bs ds) ≡ length x + length (kept_of bs ds) = length-append (commands_of x) (kept_of bs ds) ∙ ap (λ k. k + length (kept_of bs ds)) (length-map x command_of) in
    let place : n + length (commands_of x ++ kept_of bs ds) ≡ n + length x + length (kept_of bs ds) = omega (arith, long) in
    let at = subst (λ k. AreAnswers k (after rules b (commands_of x ++ kept_of bs ds)) cs es) place more in
    let over = subst (λ k. AreAnswers (n + length x + length (kept_of bs ds)) k cs es) (after_cut rules b (commands_of x) (kept_of bs ds)) at in
    (h.0, answers_join (n + length x) (after rules b (commands_of x)) bs cs ds es e h.1 over)
answers_join n b (x ∷ bs) cs (done.NotApplied f ∷ ds) es e h more = answers_join n b bs cs ds es e h more
answers_join n b (x ∷ bs) cs (done.Unknown ∷ ds) es e h more = off e
answers_join n b (x ∷ bs) cs (done.Halted ∷ ds) es e h more = absurd h

-- behind a batch of which nobody knows
halted_join : (n : ℕ) (b : Book) (bs cs : List (List Taken)) (ds : List Done) → has_unknown ds ≡ true → AreAnswers n b bs ds → AreAnswers n b (bs ++ cs) (ds ++ all_halted cs)
halted_join n b [] cs [] e h = off (sym e)
halted_join n b [] cs (y ∷ ds) e h = absurd h
halted_join n b (x ∷ bs) cs [] e h = absurd h
halted_join n b (x ∷ bs) cs (done.Kept rs ∷ ds) e h = (h.0, halted_join (n + length x) (after rules b (commands_of x)) bs cs ds e h.1)
halted_join n b (x ∷ bs) cs (done.NotApplied f ∷ ds) e h = halted_join n b bs cs ds e h
halted_join n b (x ∷ bs) cs (done.Unknown ∷ ds) e h = ap (λ l. l ++ all_halted cs) h ∙ sym (map-append (λ _. done.Halted) bs cs)
halted_join n b (x ∷ bs) cs (done.Halted ∷ ds) e h = absurd h

module _ {S : Type 0} (g : Ghosts S) where
  passes_join : (old mid new : Keeping S) (b : Book) (bs cs : List (List Taken)) (ds es : List Done) → Passes g old mid b bs ds → Passes g mid new (after rules b (kept_of bs ds)) cs es → Passes g old new b (bs ++ cs) (ds ++ es)
  passes_join old mid new b [] cs [] es same more = subst (λ k. Passes g k new b cs es) same more
  passes_join old mid new b [] cs (y ∷ ds) es passes more = absurd passes
  passes_join old mid new b (x ∷ bs) cs [] es passes more = absurd passes
  passes_join old mid new b (x ∷ bs) cs (y ∷ ds) es passes more =
      let over = subst (λ k. Passes g mid new k cs es) (after_cut rules b (if_kept x y) (kept_of bs ds)) more in
      (passes.0, passes.1, passes.2, passes_join passes.0 mid new (after rules b (if_kept x y)) bs cs ds es passes.3 over)

  -- an engine that has halted stays
  pub passes_halted : (old new : Keeping S) (b : Book) (cs : List (List Taken)) → old.halted ≡ true → new ≡ old → Passes g old new b cs (all_halted cs)
  passes_halted old new b [] halted same = same
  passes_halted old new b (c ∷ cs) halted same = (old, (halted, refl), tt, passes_halted old new b cs halted same)

  leads_by : (old new : Keeping S) (b : Book) (u u' : Bool) (k k' h h' : List Command) → u' ≡ u → k' ≡ k → h' ≡ h → LeadsTo g old new b u k h → LeadsTo g old new b u' k' h'
  leads_by old new b u u' k k' h h' same_u same_k same_h leads =
      subst (λ x. LeadsTo g old new b x k' h') (sym same_u) (subst (λ x. LeadsTo g old new b u x h') (sym same_k) (subst (λ x. LeadsTo g old new b u k x) (sym same_h) leads))

  -- one behind the other
  leads_on : (old mid new : Keeping S) (b : Book) (u : Bool) (k l h : List Command) → mid.kept ≡ old.kept + length k → LeadsTo g mid new (after rules b k) u l h → LeadsTo g old new b u (k ++ l) h
  leads_on old mid new b u k l h counted two =
      let long : length (k ++ l) ≡ length k + length l = length-append k l in
      record {
        halted = two.halted;
        book = λ goes. subst (KeepsBook g new) (sym (after_cut rules b k l)) (two.book goes);
        still = λ up. subst (KeepsBook g new) (sym (after_cut rules b k l)) (two.still up);
        counts = λ goes. (let counts : new.kept ≡ mid.kept + length l = two.counts goes in omega (arith, long, counted, counts));
        stops =
            subst (λ x. LeavesEither (state_of g new.stored) (after rules b (k ++ l)) x) (ap (after rules b) (sym (append_assoc k l h)))
            (subst (λ x. LeavesEither (state_of g new.stored) (after rules b (k ++ l)) x) (sym (after_cut rules b k (l ++ h)))
            (subst (λ x. LeavesEither (state_of g new.stored) x (after rules (after rules b k) (l ++ h))) (sym (after_cut rules b k l)) two.stops));
      }

  -- Batches that lead somewhere, and more behind them.
  module _ (old mid new : Keeping S) (b : Book) (bs cs : List (List Taken)) (ds es : List Done) (one : Stands g old b mid bs ds) where
    long : length bs ≡ length ds
    long = same_length old.kept b bs ds one.0

    kept_join : kept_of (bs ++ cs) (ds ++ es) ≡ kept_of bs ds ++ kept_of cs es
    kept_join = gathered_join _ bs cs ds es long

    hand_join : in_hand (bs ++ cs) (ds ++ es) ≡ in_hand bs ds ++ in_hand cs es
    hand_join = gathered_join _ bs cs ds es long

    pub stands_join : has_unknown ds ≡ false → Stands g mid (after rules b (kept_of bs ds)) new cs es → Stands g old b new (bs ++ cs) (ds ++ es)
    stands_join known two =
        let counted : mid.kept ≡ old.kept + length (kept_of bs ds) = one.1.counts known in (
          answers_join old.kept b bs cs ds es known one.0 (subst (λ n. AreAnswers n (after rules b (kept_of bs ds)) cs es) counted two.0),
          leads_by old new b (has_unknown es) (has_unknown (ds ++ es)) _ _ _ _ (unknown_join ds es known) kept_join (hand_join ∙ ap (λ l. l ++ in_hand cs es) (none_in_hand bs ds known))
              (leads_on old mid new b (has_unknown es) (kept_of bs ds) (kept_of cs es) (in_hand cs es) counted two.1),
        )

    pub stands_stays : has_unknown ds ≡ true → new ≡ mid → es ≡ all_halted cs → Stands g old b new (bs ++ cs) (ds ++ es)
    stands_stays unknown same halted =
        let no_more = ap (kept_of cs) halted ∙ none_kept_of_halted cs cs in
        let no_hand = ap (in_hand cs) halted ∙ no_hand_of_halted cs cs in (
          subst (λ l. AreAnswers old.kept b (bs ++ cs) (ds ++ l)) (sym halted) (halted_join old.kept b bs cs ds unknown one.0),
          leads_by old new b (has_unknown ds) (has_unknown (ds ++ es)) _ _ _ _ (unknown_stays ds es unknown ∙ sym unknown)
              (kept_join ∙ ap (λ l. kept_of bs ds ++ l) no_more ∙ append-nil (kept_of bs ds)) (hand_join ∙ ap (λ l. in_hand bs ds ++ l) no_hand ∙ append-nil (in_hand bs ds))
              (subst (λ k. LeadsTo g old k b (has_unknown ds) (kept_of bs ds) (in_hand bs ds)) (sym same) one.1),
        )

  pub drives_by : (old new : Keeping S) (b : Book) (bs : List (List Taken)) (ds : List Done) → Stands g old b new bs ds → Passes g old new b bs ds → Drives g old new b bs ds
  drives_by old new b bs ds stands passes = record { answers = stands.0; replies = replies_told old.kept b bs ds stands.0; leads = stands.1; passes = passes }

  drives_join : (old mid new : Keeping S) (b : Book) (bs cs : List (List Taken)) (ds es : List Done) → IsFit g new → Runs g mid new cs es → Drives g old mid b bs ds → (u : Bool) → has_unknown ds ≡ u → Drives g old new b (bs ++ cs) (ds ++ es)
  drives_join old mid new b bs cs ds es fit two one true unknown =
      let still = two.still (one.leads.halted ∙ unknown) in
      drives_by old new b (bs ++ cs) (ds ++ es) (stands_stays old mid new b bs cs ds es (one.answers, one.leads) unknown still.0 still.1)
      (passes_join old mid new b bs cs ds es one.passes
      (subst (λ l. Passes g mid new (after rules b (kept_of bs ds)) cs l) (sym still.1) (passes_halted mid new (after rules b (kept_of bs ds)) cs (one.leads.halted ∙ unknown) still.0)))
  drives_join old mid new b bs cs ds es fit two one false known =
      let more = two.drives fit (after rules b (kept_of bs ds)) (one.leads.book known) (one.leads.halted ∙ known) in
      drives_by old new b (bs ++ cs) (ds ++ es) (stands_join old mid new b bs cs ds es (one.answers, one.leads) known (more.answers, more.leads))
      (passes_join old mid new b bs cs ds es one.passes more.passes)

  pub runs_join : (old mid new : Keeping S) (bs cs : List (List Taken)) (ds es : List Done) → Runs g old mid bs ds → Runs g mid new cs es → Runs g old new (bs ++ cs) (ds ++ es)
  runs_join old mid new bs cs ds es one two = record {
    opened = two.opened ∙ one.opened;
    fit = λ h. one.fit (two.fit h);
    drives = λ h b keeps goes. drives_join old mid new b bs cs ds es h two (one.drives (two.fit h) b keeps goes) (has_unknown ds) refl;
    still = λ h. (
        let was = one.still h in
        let same : mid ≡ old = was.0 in
        let later = two.still (ap (λ (k : Keeping S). k.halted) same ∙ h) in
        (later.0 ∙ same, ap (λ l. l ++ es) was.1 ∙ ap (λ l. all_halted bs ++ l) later.1 ∙ sym (map-append (λ _. done.Halted) bs cs))
        );
  }

  -- No call is one with no batch.
  pub runs_none : (k : Keeping S) → Runs g k k [] []
  runs_none k = record {
    opened = refl;
    fit = λ h. h;
    drives = λ h b keeps goes. (
        let it = nothing_yet g k b keeps goes in
        record { answers = it.0; replies = refl; leads = it.1; passes = refl }
        );
    still = λ h. (refl, refl);
  }
