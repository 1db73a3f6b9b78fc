-- Answers to batches, with one more behind them.
use Rattle.std.proofs.Common.{◌≡◌, ℕ, suc, ◌+◌, true, false, true≢false, List, [], ◌∷◌, ◌++◌, length, map, refl, sym, ap, ◌∙◌, subst, arith, append-nil, append_assoc, length-append}
use Rattle.std.proofs.lemmas.List.{length-map, map-append}
use Rattle.flow_model.specs.Book.{Book}
use Rattle.flow_model.specs.Apply.{after, after_one, replies}
use Rattle.flow_model.proofs.Logs.{after_cut, replies_cut}
use Rattle.flow_base.specs.declared.submission.Taken.{Taken}
use Rattle.flow_commit.specs.Keeping.{rules, command_of, commands_of, receipt_of, receipts_of}
use Rattle.flow_engine.specs.declared.done.Done.{Done}
use Rattle.flow_engine.specs.declared.done.Done.TheVariants as done
use Rattle.flow_engine.specs.Driving.{AreAnswers, AreNoted, all_halted, has_unknown, gathered, reply_of, replies_of, kept_of, in_hand}

pub off : {A : Type 0} → true ≡ false → A
off e = absurd (true≢false e)

-- as many answers as batches
pub same_length : (n : ℕ) (b : Book) (bs : List (List Taken)) (ds : List Done) → AreAnswers n b bs ds → length bs ≡ length ds
same_length n b [] [] h = refl
same_length n b [] (d ∷ ds) h = absurd h
same_length n b (x ∷ bs) [] h = absurd h
same_length n b (x ∷ bs) (done.Kept rs ∷ ds) h = ap suc (same_length (n + length x) (after rules b (commands_of x)) bs ds h.1)
same_length n b (x ∷ bs) (done.NotApplied f ∷ ds) h = ap suc (same_length n b bs ds h)
same_length n b (x ∷ bs) (done.Unknown ∷ ds) h = ap suc (sym (ap length h ∙ length-map bs (λ _. done.Halted)))
same_length n b (x ∷ bs) (done.Halted ∷ ds) h = absurd h

pub gathered_more : {A : Type 0} (f : List Taken → Done → List A) (bs : List (List Taken)) (ds : List Done) (batch : List Taken) (d : Done) → length bs ≡ length ds → gathered f (bs ++ batch ∷ []) (ds ++ d ∷ []) ≡ gathered f bs ds ++ f batch d
gathered_more f [] [] batch d e = append-nil (f batch d)
gathered_more f [] (y ∷ ds) batch d e = absurd (omega (arith, e))
gathered_more f (x ∷ bs) [] batch d e = absurd (omega (arith, e))
gathered_more f (x ∷ bs) (y ∷ ds) batch d e =
    ap (λ l. f x y ++ l) (gathered_more f bs ds batch d (omega (arith, e))) ∙ sym (append_assoc (f x y) (gathered f bs ds) (f batch d))

pub unknown_behind : (ds : List Done) → has_unknown (ds ++ done.Unknown ∷ []) ≡ true
unknown_behind [] = refl
unknown_behind (done.Kept rs ∷ ds) = unknown_behind ds
unknown_behind (done.NotApplied f ∷ ds) = unknown_behind ds
unknown_behind (done.Unknown ∷ ds) = refl
unknown_behind (done.Halted ∷ ds) = unknown_behind ds

pub known_behind : (ds : List Done) (d : Done) → has_unknown (d ∷ []) ≡ false → has_unknown (ds ++ d ∷ []) ≡ has_unknown ds
known_behind [] d e = e
known_behind (done.Kept rs ∷ ds) d e = known_behind ds d e
known_behind (done.NotApplied f ∷ ds) d e = known_behind ds d e
known_behind (done.Unknown ∷ ds) d e = refl
known_behind (done.Halted ∷ ds) d e = known_behind ds d e

-- where nobody is in doubt nothing is in hand
pub none_in_hand : (bs : List (List Taken)) (ds : List Done) → has_unknown ds ≡ false → in_hand bs ds ≡ []
none_in_hand [] ds e = refl
none_in_hand (x ∷ bs) [] e = refl
none_in_hand (x ∷ bs) (done.Kept rs ∷ ds) e = none_in_hand bs ds e
none_in_hand (x ∷ bs) (done.NotApplied f ∷ ds) e = none_in_hand bs ds e
none_in_hand (x ∷ bs) (done.Unknown ∷ ds) e = off e
none_in_hand (x ∷ bs) (done.Halted ∷ ds) e = none_in_hand bs ds e

-- one more batch is answered over the book that the others have led to
pub answers_more : (n : ℕ) (b : Book) (bs : List (List Taken)) (ds : List Done) (batch : List Taken) (d : Done) → has_unknown ds ≡ false → AreAnswers n b bs ds
    → AreAnswers (n + length (kept_of bs ds)) (after rules b (kept_of bs ds)) (batch ∷ []) (d ∷ []) → AreAnswers n b (bs ++ batch ∷ []) (ds ++ d ∷ [])
answers_more n b [] [] batch d e h more = subst (λ k. AreAnswers k b (batch ∷ []) (d ∷ [])) (omega arith) more
answers_more n b [] (y ∷ ds) batch d e h more = absurd h
answers_more n b (x ∷ bs) [] batch d e h more = absurd h
answers_more n b (x ∷ bs) (done.Kept rs ∷ ds) batch d e h more =
    let long : length (commands_of x ++ kept_of bs ds) ≡ length x + length (kept_of bs ds) = length-append (commands_of x) (kept_of bs ds) ∙ ap (λ k. k + length (kept_of bs ds)) (length-map x command_of) in
    let place : n + length (commands_of x ++ kept_of bs ds) ≡ n + length x + length (kept_of bs ds) = omega (arith, long) in
    let at = subst (λ k. AreAnswers k (after rules b (commands_of x ++ kept_of bs ds)) (batch ∷ []) (d ∷ [])) place more in
    let over = subst (λ k. AreAnswers (n + length x + length (kept_of bs ds)) k (batch ∷ []) (d ∷ [])) (after_cut rules b (commands_of x) (kept_of bs ds)) at in
    (h.0, answers_more (n + length x) (after rules b (commands_of x)) bs ds batch d e h.1 over)
answers_more n b (x ∷ bs) (done.NotApplied f ∷ ds) batch d e h more = answers_more n b bs ds batch d e h more
answers_more n b (x ∷ bs) (done.Unknown ∷ ds) batch d e h more = off e
answers_more n b (x ∷ bs) (done.Halted ∷ ds) batch d e h more = absurd h

pub all_halted_more : (bs : List (List Taken)) (ds : List Done) (batch : List Taken) → ds ≡ all_halted bs → ds ++ done.Halted ∷ [] ≡ all_halted (bs ++ batch ∷ [])
all_halted_more bs ds batch h = ap (λ l. l ++ done.Halted ∷ []) h ∙ sym (map-append (λ _. done.Halted) bs (batch ∷ []))

-- behind one of which nobody knows the next one is halted
pub halted_more : (n : ℕ) (b : Book) (bs : List (List Taken)) (ds : List Done) (batch : List Taken) → has_unknown ds ≡ true → AreAnswers n b bs ds → AreAnswers n b (bs ++ batch ∷ []) (ds ++ done.Halted ∷ [])
halted_more n b [] [] batch e h = off (sym e)
halted_more n b [] (y ∷ ds) batch e h = absurd h
halted_more n b (x ∷ bs) [] batch e h = absurd h
halted_more n b (x ∷ bs) (done.Kept rs ∷ ds) batch e h = (h.0, halted_more (n + length x) (after rules b (commands_of x)) bs ds batch e h.1)
halted_more n b (x ∷ bs) (done.NotApplied f ∷ ds) batch e h = halted_more n b bs ds batch e h
halted_more n b (x ∷ bs) (done.Unknown ∷ ds) batch e h = all_halted_more bs ds batch h
halted_more n b (x ∷ bs) (done.Halted ∷ ds) batch e h = absurd h

---- What is noted

-- one more is noted behind others of which none is in doubt
pub noted_more : (bs : List (List Taken)) (ds : List Done) (batch : List Taken) (d : Done) → has_unknown ds ≡ false → AreNoted bs ds → AreNoted (batch ∷ []) (d ∷ []) → AreNoted (bs ++ batch ∷ []) (ds ++ d ∷ [])
noted_more [] [] batch d e h more = more
noted_more [] (y ∷ ds) batch d e h more = absurd h
noted_more (x ∷ bs) [] batch d e h more = absurd h
noted_more (x ∷ bs) (done.Kept rs ∷ ds) batch d e h more = (h.0, noted_more bs ds batch d e h.1 more)
noted_more (x ∷ bs) (done.NotApplied f ∷ ds) batch d e h more = noted_more bs ds batch d e h more
noted_more (x ∷ bs) (done.Unknown ∷ ds) batch d e h more = off e
noted_more (x ∷ bs) (done.Halted ∷ ds) batch d e h more = absurd h

pub noted_halted : (bs : List (List Taken)) (ds : List Done) (batch : List Taken) → has_unknown ds ≡ true → AreNoted bs ds → AreNoted (bs ++ batch ∷ []) (ds ++ done.Halted ∷ [])
noted_halted [] [] batch e h = off (sym e)
noted_halted [] (y ∷ ds) batch e h = absurd h
noted_halted (x ∷ bs) [] batch e h = absurd h
noted_halted (x ∷ bs) (done.Kept rs ∷ ds) batch e h = (h.0, noted_halted bs ds batch e h.1)
noted_halted (x ∷ bs) (done.NotApplied f ∷ ds) batch e h = noted_halted bs ds batch e h
noted_halted (x ∷ bs) (done.Unknown ∷ ds) batch e h = all_halted_more bs ds batch h
noted_halted (x ∷ bs) (done.Halted ∷ ds) batch e h = absurd h

---- Replies

receipts_reply : (n : ℕ) (b : Book) (ts : List Taken) → map reply_of (receipts_of n b ts) ≡ replies rules b (commands_of ts)
receipts_reply n b [] = refl
receipts_reply n b (t ∷ ts) = ap (λ rs. reply_of (receipt_of n b t) ∷ rs) (receipts_reply (n + 1) (after_one rules b t.command) ts)

none_of_halted : (bs cs : List (List Taken)) → replies_of bs (all_halted cs) ≡ []
none_of_halted [] cs = refl
none_of_halted (x ∷ bs) [] = refl
none_of_halted (x ∷ bs) (y ∷ cs) = none_of_halted bs cs

pub no_hand_of_halted : (bs cs : List (List Taken)) → in_hand bs (all_halted cs) ≡ []
no_hand_of_halted [] cs = refl
no_hand_of_halted (x ∷ bs) [] = refl
no_hand_of_halted (x ∷ bs) (y ∷ cs) = no_hand_of_halted bs cs

pub none_kept_of_halted : (bs cs : List (List Taken)) → kept_of bs (all_halted cs) ≡ []
none_kept_of_halted [] cs = refl
none_kept_of_halted (x ∷ bs) [] = refl
none_kept_of_halted (x ∷ bs) (y ∷ cs) = none_kept_of_halted bs cs

-- the replies of all kept batches are those of their commands
pub replies_told : (n : ℕ) (b : Book) (bs : List (List Taken)) (ds : List Done) → AreAnswers n b bs ds → replies_of bs ds ≡ replies rules b (kept_of bs ds)
replies_told n b [] [] h = refl
replies_told n b [] (y ∷ ds) h = absurd h
replies_told n b (x ∷ bs) [] h = absurd h
replies_told n b (x ∷ bs) (done.Kept rs ∷ ds) h =
    ap (λ l. map reply_of l ++ replies_of bs ds) h.0 ∙ ap (λ l. l ++ replies_of bs ds) (receipts_reply n b x)
    ∙ ap (λ l. replies rules b (commands_of x) ++ l) (replies_told (n + length x) (after rules b (commands_of x)) bs ds h.1)
    ∙ sym (replies_cut rules b (commands_of x) (kept_of bs ds))
replies_told n b (x ∷ bs) (done.NotApplied f ∷ ds) h = replies_told n b bs ds h
replies_told n b (x ∷ bs) (done.Unknown ∷ ds) h =
    ap (replies_of bs) h ∙ none_of_halted bs bs ∙ sym (ap (λ l. replies rules b (kept_of bs l)) h ∙ ap (replies rules b) (none_kept_of_halted bs bs))
replies_told n b (x ∷ bs) (done.Halted ∷ ds) h = absurd h
