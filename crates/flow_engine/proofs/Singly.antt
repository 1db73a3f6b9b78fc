-- Commands that are cut into batches of one.
use Rattle.std.proofs.Common.{◌≡◌, inl, inr, ℕ, suc, ◌+◌, ◌<◌, Bool, true, false, List, [], ◌∷◌, ◌++◌, length, map, Option, Some, None, refl, sym, ap, ◌∙◌, subst, arith, append-nil, append_assoc}
use Rattle.std.specs.Prelude.{Result, Ok, Err, IfOk, IfErr, MatchResult}
use Rattle.std.proofs.lemmas.List.{length-map, map-append}
use Rattle.std.proofs.lemmas.Option.{same_Some}
use Rattle.sqlite_trees.specs.declared.store.Store.{Ghosts}
use Rattle.flow_base.specs.declared.command.Command.{Command}
use Rattle.flow_base.specs.declared.command.Reply.{Reply}
use Rattle.flow_view.specs.declared.fault.ViewFault.{ViewFault}
use Rattle.flow_view.specs.declared.fault.ViewFault.TheVariants as fault
use Rattle.flow_view.specs.Codes.{view_fault_code}
use Rattle.flow_model.specs.Book.{Book}
use Rattle.flow_model.specs.Apply.{after, after_one}
use Rattle.flow_model.proofs.Logs.{after_cut}
use Rattle.flow_model.specs.Answers.{Answers, CausedAnswer}
use Rattle.flow_model.specs.declared.answer.Answer.{Answer}
use Rattle.flow_model.specs.declared.answer.Answer.TheVariants as answer
use Rattle.flow_model.specs.declared.answer.Stop.{Stop}
use Rattle.flow_model.specs.declared.answer.Stop.TheVariants as stop
use Rattle.flow_base.specs.declared.submission.Taken.{Taken}
use Rattle.flow_base.specs.declared.submission.Receipt.{Receipt}
use Rattle.flow_tables.specs.Owned.{state_of, LeavesEither}
use Rattle.flow_commit.specs.Keeping.{Keeping, rules, IsFit, IsUp, KeepsBook, kept_book, command_of, commands_of}
use Rattle.flow_engine.specs.declared.done.Done.{Done}
use Rattle.flow_engine.specs.declared.done.Done.TheVariants as done
use Rattle.flow_engine.specs.declared.done.Unanswered.{Unanswered}
use Rattle.flow_engine.specs.declared.done.Unanswered.TheVariants as unanswered
use Rattle.flow_engine.specs.Driving.{AreAnswers, AreNoted, NotesAll, Drives, Runs, all_halted, commands_in, has_unknown, kept_of, in_hand}
use Rattle.flow_engine.specs.Answering.{IsSure, HasAnswered, HasStopped, AnswersAll, AreCaused, KeepsAnswered, StopsBehind, IsStopped, EndsEarly, LeavesBehind, TellsStop, AreAlone, AreCut, AreSingle, alone, replied, given, first_stop, IsPart, IsPartUpTo}
use Rattle.flow_engine.proofs.Committed.{one_book}
use Rattle.flow_engine.proofs.Gathering.{no_hand_of_halted, none_kept_of_halted}
use Rattle.flow_engine.specs.Counting.{IsCounted}
use Rattle.flow_engine.specs.GivingUp.{AreGivenUp, GivesUp, WasRefused}
use Rattle.flow_engine.proofs.GivingUp.{given_caused}
use Rattle.flow_engine.proofs.OneMore.{WasOwn}

none_is : {A : Type 0} {x : Stop} → Some x ≡ None → A
none_is e = absurd (cc)

---- Batches that weren't looked at

pub single_halted : (bs : List (List Taken)) → AreSingle (all_halted bs)
single_halted [] = tt
single_halted (x ∷ bs) = (tt, single_halted bs)

given_halted : (bs : List (List Taken)) → given (all_halted bs) ≡ []
given_halted [] = refl
given_halted (x ∷ bs) = refl

stop_halted : (bs : List (List Taken)) (s : Stop) → first_stop (all_halted bs) ≡ Some s → s ≡ stop.Halted
stop_halted [] s e = absurd (cc)
stop_halted (x ∷ bs) s e = sym (same_Some stop.Halted s e)

none_halted : (ts : List Taken) → first_stop (all_halted (map alone ts)) ≡ None → ts ≡ []
none_halted [] e = refl
none_halted (t ∷ ts) e = none_is e

---- One answer for each batch

single_noted : (ts : List Taken) (ds : List Done) → AreNoted (map alone ts) ds → AreSingle ds
single_noted [] [] h = tt
single_noted [] (d ∷ ds) h = absurd h
single_noted (t ∷ ts) [] h = absurd h
single_noted (t ∷ ts) (done.Kept rs ∷ ds) h = (h.0, single_noted ts ds h.1)
single_noted (t ∷ ts) (done.NotApplied f ∷ ds) h = (tt, single_noted ts ds h)
single_noted (t ∷ ts) (done.Unknown ∷ ds) h = (tt, subst AreSingle (sym h) (single_halted (map alone ts)))
single_noted (t ∷ ts) (done.Halted ∷ ds) h = absurd h

-- a batch of one has one answer, if it has one at all
one_long : (rs : List Receipt) (rest : List Answer) → length rs ≡ 1 → length (map replied rs ++ rest) ≡ 1 + length rest
one_long [] rest e = absurd (omega (arith, e))
one_long (r ∷ []) rest e = omega arith
one_long (r ∷ (s ∷ rs)) rest e = absurd (omega (arith, e))

pub given_long : (ds : List Done) → AreSingle ds → first_stop ds ≡ None → length (given ds) ≡ length ds
given_long [] h e = refl
given_long (done.Kept rs ∷ ds) h e = one_long rs.items (given ds) h.0 ∙ ap (λ n. 1 + n) (given_long ds h.1 e) ∙ omega arith
given_long (done.NotApplied f ∷ ds) h e = ap suc (given_long ds h.1 e)
given_long (done.Unknown ∷ ds) h e = none_is e
given_long (done.Halted ∷ ds) h e = none_is e

pub given_fewer : (ds : List Done) (s : Stop) → AreSingle ds → first_stop ds ≡ Some s → length (given ds) < length ds
given_fewer [] s h e = absurd (cc)
given_fewer (done.Kept rs ∷ ds) s h e =
    let one : length (map replied rs.items ++ given ds) ≡ 1 + length (given ds) = one_long rs.items (given ds) h.0 in
    let rest : length (given ds) < length ds = given_fewer ds s h.1 e in
    omega (arith, one, rest)
given_fewer (done.NotApplied f ∷ ds) s h e = let rest : length (given ds) < length ds = given_fewer ds s h.1 e in omega (arith, rest)
given_fewer (done.Unknown ∷ ds) s h e = omega arith
given_fewer (done.Halted ∷ ds) s h e = omega arith

---- Stops

-- nobody is in doubt where there is no stop
known_on : (ds : List Done) → first_stop ds ≡ None → has_unknown ds ≡ false
known_on [] e = refl
known_on (done.Kept rs ∷ ds) e = known_on ds e
known_on (done.NotApplied f ∷ ds) e = known_on ds e
known_on (done.Unknown ∷ ds) e = none_is e
known_on (done.Halted ∷ ds) e = none_is e

stop_noted : (bs : List (List Taken)) (ds : List Done) (s : Stop) → AreNoted bs ds → first_stop ds ≡ Some s → (s ≡ stop.Unknown) × (has_unknown ds ≡ true)
stop_noted [] [] s h e = absurd (cc)
stop_noted [] (d ∷ ds) s h e = absurd h
stop_noted (x ∷ bs) [] s h e = absurd h
stop_noted (x ∷ bs) (done.Kept rs ∷ ds) s h e = stop_noted bs ds s h.1 e
stop_noted (x ∷ bs) (done.NotApplied f ∷ ds) s h e = stop_noted bs ds s h e
stop_noted (x ∷ bs) (done.Unknown ∷ ds) s h e = (sym (same_Some stop.Unknown s e), refl)
stop_noted (x ∷ bs) (done.Halted ∷ ds) s h e = absurd h

---- Over a book

-- the answers before a stop, or all of them, over the book that they are kept in
pub told_all : (n : ℕ) (b : Book) (ts : List Taken) (ds : List Done) → AreAnswers n b (map alone ts) ds → first_stop ds ≡ None → AnswersAll rules b (after rules b (kept_of (map alone ts) ds)) (commands_of ts) (given ds)
told_all n b [] [] h e = refl
told_all n b [] (d ∷ ds) h e = absurd h
told_all n b (t ∷ ts) [] h e = absurd h
told_all n b (t ∷ ts) (done.Kept rs ∷ ds) h e =
    subst (λ l. AnswersAll rules b (after rules (after_one rules b t.command) (kept_of (map alone ts) ds)) (t.command ∷ commands_of ts) (map replied l ++ given ds)) (sym h.0)
    (refl, told_all (n + 1) (after_one rules b t.command) ts ds h.1 e)
told_all n b (t ∷ ts) (done.NotApplied f ∷ ds) h e = told_all n b ts ds h e
told_all n b (t ∷ ts) (done.Unknown ∷ ds) h e = none_is e
told_all n b (t ∷ ts) (done.Halted ∷ ds) h e = none_is e

-- Where nothing is kept nothing was applied.
told_none : (b : Book) (ts : List Taken) (ds : List Done) → AreNoted (map alone ts) ds → first_stop ds ≡ None → length (kept_of (map alone ts) ds) ≡ 0 → AnswersAll rules b b (commands_of ts) (given ds)
told_none b [] [] h e none = refl
told_none b [] (d ∷ ds) h e none = absurd h
told_none b (t ∷ ts) [] h e none = absurd h
told_none b (t ∷ ts) (done.Kept rs ∷ ds) h e none = absurd (omega (arith, none))
told_none b (t ∷ ts) (done.NotApplied f ∷ ds) h e none = told_none b ts ds h e none
told_none b (t ∷ ts) (done.Unknown ∷ ds) h e none = none_is e
told_none b (t ∷ ts) (done.Halted ∷ ds) h e none = none_is e

-- The batch at which a stop came, with the answers before it.
record CutAt (b : Book) (ts : List Taken) (ds : List Done) : Type 0 where
  pub first : List Taken
  pub here : Taken
  pub behind : List Taken
  pub split : ts ≡ first ++ here ∷ behind
  pub told : AnswersAll rules b (after rules b (kept_of (map alone ts) ds)) (commands_of first) (given ds)
  pub hand : in_hand (map alone ts) ds ≡ here.command ∷ []

cut_at : (n : ℕ) (b : Book) (ts : List Taken) (ds : List Done) (s : Stop) → AreAnswers n b (map alone ts) ds → first_stop ds ≡ Some s → CutAt b ts ds
cut_at n b [] [] s h e = absurd (cc)
cut_at n b [] (d ∷ ds) s h e = absurd h
cut_at n b (t ∷ ts) [] s h e = absurd h
cut_at n b (t ∷ ts) (done.Kept rs ∷ ds) s h e =
    let rest = cut_at (n + 1) (after_one rules b t.command) ts ds s h.1 e in
    record {
      first = t ∷ rest.first;
      here = rest.here;
      behind = rest.behind;
      split = ap (λ l. t ∷ l) rest.split;
      told =
          subst (λ l. AnswersAll rules b (after rules (after_one rules b t.command) (kept_of (map alone ts) ds)) (t.command ∷ commands_of rest.first) (map replied l ++ given ds)) (sym h.0)
          (refl, rest.told);
      hand = rest.hand;
    }
cut_at n b (t ∷ ts) (done.NotApplied f ∷ ds) s h e =
    let rest = cut_at n b ts ds s h e in
    record { first = t ∷ rest.first; here = rest.here; behind = rest.behind; split = ap (λ l. t ∷ l) rest.split; told = rest.told; hand = rest.hand }
cut_at n b (t ∷ ts) (done.Unknown ∷ ds) s h e = record {
  first = [];
  here = t;
  behind = ts;
  split = refl;
  told = ap (λ l. after rules b (kept_of (map alone ts) l)) h ∙ ap (after rules b) (none_kept_of_halted (map alone ts) (map alone ts));
  hand = ap (λ l. t.command ∷ in_hand (map alone ts) l) h ∙ ap (λ l. t.command ∷ l) (no_hand_of_halted (map alone ts) (map alone ts));
}
cut_at n b (t ∷ ts) (done.Halted ∷ ds) s h e = absurd h

commands_split : (ts us vs : List Taken) (t : Taken) → ts ≡ us ++ t ∷ vs → commands_of ts ≡ commands_of us ++ ((t.command ∷ []) ++ commands_of vs)
commands_split ts us vs t e = ap commands_of e ∙ map-append command_of us (t ∷ vs)

---- What becomes of an engine

-- What is told of batches of one by the loop.
pub record HasDriven {S : Type 0} (g : Ghosts S) (old new : Keeping S) (ts : List Taken) (ds : List Done) : Type 0 where
  pub drives : IsFit g new → (b : Book) → KeepsBook g old b → old.halted ≡ false → Drives g old new b (map alone ts) ds
  pub noted : old.halted ≡ false → NotesAll old new (map alone ts) ds
  pub halted : old.halted ≡ true → new ≡ old
  pub later : old.halted ≡ true → ds ≡ all_halted (map alone ts)
  pub count : length ds ≡ length (map alone ts)
  pub fit : IsFit g new → IsFit g old
  pub up : IsFit g new → IsUp g new → IsUp g old
  pub own : IsFit g new → IsUp g old → WasOwn g old new
  pub given_up : IsFit g new → AreGivenUp (WasRefused g old new) (kept_book g old) (map alone ts) ds

pub driven_alone : {S : Type 0} (g : Ghosts S) (old new : Keeping S) (bs : List (List Taken)) (ds : List Done) (ts : List Taken) → bs ≡ map alone ts
    → (IsFit g new → (b : Book) → KeepsBook g old b → old.halted ≡ false → Drives g old new b bs ds) → (old.halted ≡ false → NotesAll old new bs ds)
    → (old.halted ≡ true → new ≡ old) → (old.halted ≡ true → ds ≡ all_halted bs) → length ds ≡ length bs
    → (IsFit g new → IsFit g old) → (IsFit g new → IsUp g new → IsUp g old) → (IsFit g new → IsUp g old → WasOwn g old new)
    → (IsFit g new → AreGivenUp (WasRefused g old new) (kept_book g old) bs ds) → HasDriven g old new ts ds
driven_alone g old new bs ds ts are drives noted halted later count fit up own given_up = record {
  drives = λ f b keeps goes. subst (λ l. Drives g old new b l ds) are (drives f b keeps goes);
  noted = λ goes. subst (λ l. NotesAll old new l ds) are (noted goes);
  halted = halted;
  later = λ h. later h ∙ ap all_halted are;
  count = count ∙ ap length are;
  fit = fit;
  up = up;
  own = own;
  given_up = λ f. subst (λ l. AreGivenUp (WasRefused g old new) (kept_book g old) l ds) are (given_up f);
}

module _ {S : Type 0} (g : Ghosts S) (old new : Keeping S) (ts : List Taken) (ds : List Done) (driven : HasDriven g old new ts ds) where
  single_by : (v : Bool) → old.halted ≡ v → AreSingle ds
  single_by true e = subst AreSingle (sym (driven.later e)) (single_halted (map alone ts))
  single_by false e = single_noted ts ds (driven.noted e).answers

  pub are_single : AreSingle ds
  are_single = single_by old.halted refl

  pub as_many : length ds ≡ length (commands_of ts)
  as_many = driven.count ∙ length-map ts alone ∙ sym (length-map ts command_of)

  pub are_caused : AreCaused (GivesUp g old new) (kept_book g old) (commands_of ts) (given ds)
  are_caused = given_caused g old new (kept_book g old) ts ds (driven.count ∙ length-map ts alone) are_single driven.given_up

  -- an engine that had halted before answers nothing
  answers_none : (b last : Book) → ds ≡ all_halted (map alone ts) → first_stop ds ≡ None → last ≡ b → AnswersAll rules b last (commands_of ts) (given ds)
  answers_none b last later e same =
      let none : ts ≡ [] = none_halted ts (sym (ap first_stop later) ∙ e) in
      let ended : given ds ≡ [] = ap given later ∙ given_halted (map alone ts) in
      subst (λ l. AnswersAll rules b last (commands_of l) (given ds)) (sym none) (subst (λ l. AnswersAll rules b last [] l) (sym ended) same)

  -- Over the book that was read off the tables, the one read off them behind the answers.
  module _ (sure : IsSure g new) (e : first_stop ds ≡ None) where
    answers_own : old.halted ≡ false → WasOwn g old new → AnswersAll rules (kept_book g old) (kept_book g new) (commands_of ts) (given ds)
    answers_own goes (inl same) =
        let notes = driven.noted goes in
        let counts : new.kept ≡ old.kept + length (kept_of (map alone ts) ds) = notes.counts in
        let kept : new.kept ≡ old.kept = ap (λ (k : Keeping S). k.kept) same in
        subst (λ x. AnswersAll rules (kept_book g old) x (commands_of ts) (given ds)) (sym (ap (kept_book g) same)) (told_none (kept_book g old) ts ds notes.answers e (omega (arith, counts, kept)))
    answers_own goes (inr keeps) =
        let drove = driven.drives sure.fit (kept_book g old) keeps goes in
        subst (λ x. AnswersAll rules (kept_book g old) x (commands_of ts) (given ds)) (sym (one_book g new _ sure.up (drove.leads.book (known_on ds e))))
        (told_all old.kept (kept_book g old) ts ds drove.answers e)

    answers_by : (v : Bool) → old.halted ≡ v → AnswersAll rules (kept_book g old) (kept_book g new) (commands_of ts) (given ds)
    answers_by true h = answers_none (kept_book g old) (kept_book g new) (driven.later h) e (ap (kept_book g) (driven.halted h))
    answers_by false h = answers_own h (driven.own sure.fit (driven.up sure.fit sure.up))

    pub answers_sure : AnswersAll rules (kept_book g old) (kept_book g new) (commands_of ts) (given ds)
    answers_sure = answers_by old.halted refl

  -- Over a book that is kept.
  module _ (fit : IsFit g new) (b : Book) (keeps : KeepsBook g old b) where
    keeps_by : first_stop ds ≡ None → (v : Bool) → old.halted ≡ v → KeepsAnswered g new b (commands_of ts) (given ds)
    keeps_by e true h = record { book = b; kept = subst (λ k. KeepsBook g k b) (sym (driven.halted h)) keeps; told = answers_none b b (driven.later h) e refl }
    keeps_by e false h =
        let drove = driven.drives fit b keeps h in
        record { book = after rules b (kept_of (map alone ts) ds); kept = drove.leads.book (known_on ds e); told = told_all old.kept b ts ds drove.answers e }

    pub keeps_answered : first_stop ds ≡ None → KeepsAnswered g new b (commands_of ts) (given ds)
    keeps_answered e = keeps_by e old.halted refl

    -- the first command of those that an engine which had halted before was given
    stops_none : (us : List Taken) (s : Stop) → first_stop (all_halted (map alone us)) ≡ Some s → KeepsBook g new b → StopsBehind g new b (commands_of us) (given (all_halted (map alone us)))
    stops_none [] s e kept = absurd (cc)
    stops_none (u ∷ us) s e kept = record {
      first = [];
      hand = u.command ∷ [];
      behind = commands_of us;
      split = refl;
      some = omega arith;
      few = omega arith;
      book = b;
      told = refl;
      either = λ db may. inl (kept.stops db may);
    }

    stops_at : old.halted ≡ false → (cut : CutAt b ts ds) → StopsBehind g new b (commands_of ts) (given ds)
    stops_at goes cut =
        let drove = driven.drives fit b keeps goes in
        let kept = kept_of (map alone ts) ds in
        let hand = cut.here.command ∷ [] in
        let whole = ap (λ l. after rules b (kept ++ l)) cut.hand ∙ after_cut rules b kept hand in
        record {
          first = commands_of cut.first;
          hand = hand;
          behind = commands_of cut.behind;
          split = commands_split ts cut.first cut.behind cut.here cut.split;
          some = omega arith;
          few = omega arith;
          book = after rules b kept;
          told = cut.told;
          either = subst (λ x. LeavesEither (state_of g new.stored) (after rules b kept) x) whole drove.leads.stops;
        }

    stops_by : (s : Stop) → first_stop ds ≡ Some s → (v : Bool) → old.halted ≡ v → StopsBehind g new b (commands_of ts) (given ds)
    stops_by s e true h =
        let later = driven.later h in
        subst (λ l. StopsBehind g new b (commands_of ts) (given l)) (sym later)
        (stops_none ts s (sym (ap first_stop later) ∙ e) (subst (λ k. KeepsBook g k b) (sym (driven.halted h)) keeps))
    stops_by s e false h = stops_at h (cut_at old.kept b ts ds s (driven.drives fit b keeps h).answers e)

    pub stops_behind : (s : Stop) → first_stop ds ≡ Some s → StopsBehind g new b (commands_of ts) (given ds)
    stops_behind s e = stops_by s e old.halted refl

  -- No stop, whatever the disk tells.
  answered_by : first_stop ds ≡ None → (v : Bool) → old.halted ≡ v → HasAnswered old new
  answered_by e true h = inr (driven.halted h)
  answered_by e false h = inl (h, (driven.noted h).halted ∙ known_on ds e)

  pub has_answered : first_stop ds ≡ None → HasAnswered old new
  has_answered e = answered_by e old.halted refl

  -- A stop, whatever the disk tells.
  module _ (s : Stop) (e : first_stop ds ≡ Some s) where
    stopped_by : (v : Bool) → old.halted ≡ v → HasStopped old new s × (s ≡ stop.Halted → given ds ≡ [])
    stopped_by true h =
        let later = driven.later h in
        let is : s ≡ stop.Halted = stop_halted (map alone ts) s (sym (ap first_stop later) ∙ e) in
        (subst (HasStopped old new) (sym is) (h, driven.halted h), λ _. ap given later ∙ given_halted (map alone ts))
    stopped_by false h =
        let notes = driven.noted h in
        let its = stop_noted (map alone ts) ds s notes.answers e in
        (subst (HasStopped old new) (sym its.0) (h, notes.halted ∙ its.1), λ is. absurd (let clash : stop.Unknown ≡ stop.Halted = sym its.0 ∙ is in cc))

    pub has_stopped : HasStopped old new s
    has_stopped = (stopped_by old.halted refl).0

    pub is_stopped : IsStopped g old new (commands_of ts) (given ds) s
    is_stopped =
        let fewer : length (given ds) < length ds = given_fewer ds s are_single e in
        let many : length ds ≡ length (commands_of ts) = as_many in
        record { how = has_stopped; fewer = omega (arith, fewer, many); none = (stopped_by old.halted refl).1; caused = are_caused }

---- One command

pub one_answered : (b last : Book) (t : Taken) (a : Answer) → AnswersAll rules b last (t.command ∷ []) (a ∷ []) → Answers rules b last t.command a
one_answered b last t (answer.Replied r) h = h
one_answered b last t (answer.NotApplied k) h = h

pub one_caused : {S : Type 0} (g : Ghosts S) (old new : Keeping S) (b : Book) (c : Command) (a : Answer) → AreCaused (GivesUp g old new) b (c ∷ []) (a ∷ []) → CausedAnswer (GivesUp g old new b (c ∷ [])) a
one_caused g old new b c (answer.Replied r) h = tt
one_caused g old new b c (answer.NotApplied k) h = h.0

pub one_of : {A : Type 0} (xs : List A) → length xs ≡ 1 → (x : A) × (xs ≡ x ∷ [])
one_of [] e = absurd (omega (arith, e))
one_of (x ∷ []) e = (x, refl)
one_of (x ∷ (y ∷ xs)) e = absurd (omega (arith, e))

---- The cut

-- one more command has its batch
pub one_cut : (whole now left : List Command) (behind : List Taken) (bs : List (List Taken)) (t : Taken) → now ≡ t.command ∷ left → whole ≡ commands_of behind ++ now → bs ≡ map alone behind
    → (whole ≡ commands_of (behind ++ t ∷ []) ++ left) × (bs ++ (t ∷ []) ∷ [] ≡ map alone (behind ++ t ∷ []))
one_cut whole now left behind bs t next split are = (split ∙ ap (λ l. commands_of behind ++ l) next ∙ past behind left, ap (λ l. l ++ (t ∷ []) ∷ []) are ∙ cut_behind behind)
  where
    past : (us : List Taken) (cs : List Command) → commands_of us ++ t.command ∷ cs ≡ commands_of (us ++ t ∷ []) ++ cs
    past [] cs = refl
    past (u ∷ us) cs = ap (λ l. u.command ∷ l) (past us cs)

    cut_behind : (us : List Taken) → map alone us ++ (t ∷ []) ∷ [] ≡ map alone (us ++ t ∷ [])
    cut_behind [] = refl
    cut_behind (u ∷ us) = ap (λ l. alone u ∷ l) (cut_behind us)

---- One by one

-- an answer stands before those behind it
pub given_first : (d : Done) (ds : List Done) (a : Answer) → given (d ∷ []) ≡ a ∷ [] → first_stop (d ∷ []) ≡ None → (given (d ∷ ds) ≡ a ∷ given ds) × (first_stop (d ∷ ds) ≡ first_stop ds)
given_first (done.Kept rs) ds a is e = (sym (append_assoc (map replied rs.items) [] (given ds)) ∙ ap (λ l. l ++ given ds) is, refl)
given_first (done.NotApplied f) ds a is e = (ap (λ l. l ++ given ds) is, refl)
given_first done.Unknown ds a is e = none_is e
given_first done.Halted ds a is e = none_is e

-- and a stop before all of them
pub stop_first : (d : Done) (ds : List Done) (s : Stop) → first_stop (d ∷ []) ≡ Some s → (given (d ∷ ds) ≡ []) × (first_stop (d ∷ ds) ≡ Some s)
stop_first (done.Kept rs) ds s e = none_is (sym e)
stop_first (done.NotApplied f) ds s e = none_is (sym e)
stop_first done.Unknown ds s e = (refl, e)
stop_first done.Halted ds s e = (refl, e)

-- What is still to be answered, with the answers so far, is the whole.
pub record Answering (start : List Answer) (whole : List Done) (now : List Answer) (left : List Done) : Type 0 where
  pub single : AreSingle left
  pub told : now ++ given left ≡ start ++ given whole
  pub stop : first_stop left ≡ first_stop whole

pub answering_more : (start : List Answer) (whole : List Done) (now : List Answer) (all left : List Done) (d : Done) (a : Answer) → all ≡ d ∷ left → Answering start whole now all
    → (given (d ∷ []) ≡ a ∷ []) × (first_stop (d ∷ []) ≡ None) → Answering start whole (now ++ a ∷ []) left
answering_more start whole now all left d a next was one =
    let its = given_first d left a one.0 one.1 in
    record {
      single = (subst AreSingle next was.single).1;
      told = append_assoc now (a ∷ []) (given left) ∙ ap (λ l. now ++ l) (sym its.0) ∙ ap (λ l. now ++ given l) (sym next) ∙ was.told;
      stop = sym its.1 ∙ ap first_stop (sym next) ∙ was.stop;
    }

pub answering_stops : (start : List Answer) (whole : List Done) (now : List Answer) (all left : List Done) (d : Done) (s : Stop) → all ≡ d ∷ left → Answering start whole now all
    → first_stop (d ∷ []) ≡ Some s → (now ≡ start ++ given whole) × (first_stop whole ≡ Some s)
answering_stops start whole now all left d s next was e =
    let its = stop_first d left s e in
    (sym (append-nil now) ∙ ap (λ l. now ++ l) (sym its.0) ∙ ap (λ l. now ++ given l) (sym next) ∙ was.told, sym was.stop ∙ ap first_stop next ∙ its.1)

pub answering_done : (start : List Answer) (whole : List Done) (now : List Answer) (left : List Done) → Answering start whole now left → left ≡ [] → (now ≡ start ++ given whole) × (first_stop whole ≡ None)
answering_done start whole now left was none = (sym (append-nil now) ∙ ap (λ l. now ++ given l) (sym none) ∙ was.told, sym was.stop ∙ ap first_stop none)

-- The commands behind have their batches.
pub record Cutting (whole left : List Command) (batches : List (List Taken)) : Type 0 where
  pub behind : List Taken
  pub split : whole ≡ commands_of behind ++ left
  pub are : batches ≡ map alone behind

pub cutting_more : (whole now left : List Command) (bs : List (List Taken)) (t : Taken) → now ≡ t.command ∷ left → Cutting whole now bs → Cutting whole left (bs ++ (t ∷ []) ∷ [])
cutting_more whole now left bs t next was =
    let one = one_cut whole now left was.behind bs t next was.split was.are in
    record { behind = was.behind ++ t ∷ []; split = one.0; are = one.1 }

pub cutting_done : (whole left : List Command) (bs : List (List Taken)) → Cutting whole left bs → left ≡ [] → AreCut whole bs
cutting_done whole left bs was none = record { taken = was.behind; are = was.are; same = sym (was.split ∙ ap (λ l. commands_of was.behind ++ l) none ∙ append-nil (commands_of was.behind)) }

-- the receipt of a batch of one
pub kept_given : (rs : List Receipt) (reply : Reply) → length rs ≡ 1 → ((r : Receipt) → rs ≡ r ∷ [] → reply ≡ r.reply) → map replied rs ++ [] ≡ answer.Replied reply ∷ []
kept_given [] reply one told = absurd (omega (arith, one))
kept_given (r ∷ []) reply one told = ap (λ x. answer.Replied x ∷ []) (sym (told r refl))
kept_given (r ∷ (s ∷ rs)) reply one told = absurd (omega (arith, one))

-- What a list of commands is told, behind no other answers.
module _ {S : Type 0} (g : Ghosts S) (old new : Keeping S) (ts : List Taken) (ds : List Done) (driven : HasDriven g old new ts ds) (before : List Answer) (none : before ≡ []) where
  from_none : (l : List Answer) → l ≡ before ++ given ds → l ≡ given ds
  from_none l is = is ∙ ap (λ x. x ++ given ds) none

  pub all_sure : (l : List Answer) → l ≡ before ++ given ds → first_stop ds ≡ None → IsSure g new → AnswersAll rules (kept_book g old) (kept_book g new) (commands_of ts) l
  all_sure l is e sure = subst (AnswersAll rules (kept_book g old) (kept_book g new) (commands_of ts)) (sym (from_none l is)) (answers_sure g old new ts ds driven sure e)

  pub all_kept : (l : List Answer) → l ≡ before ++ given ds → first_stop ds ≡ None → IsFit g new → (b : Book) → KeepsBook g old b → KeepsAnswered g new b (commands_of ts) l
  all_kept l is e fit b keeps = subst (KeepsAnswered g new b (commands_of ts)) (sym (from_none l is)) (keeps_answered g old new ts ds driven fit b keeps e)

  pub all_there : (l : List Answer) → l ≡ before ++ given ds → first_stop ds ≡ None → length l ≡ length ds
  all_there l is e = ap length (from_none l is) ∙ given_long ds (are_single g old new ts ds driven) e

  pub all_caused : (l : List Answer) → l ≡ before ++ given ds → AreCaused (GivesUp g old new) (kept_book g old) (commands_of ts) l
  all_caused l is = subst (AreCaused (GivesUp g old new) (kept_book g old) (commands_of ts)) (sym (from_none l is)) (are_caused g old new ts ds driven)

  pub ends_early : (u : Unanswered) → TellsStop before ds u → EndsEarly g old new (commands_of ts) u
  ends_early (unanswered.NoMemory _) h = absurd h
  ends_early (unanswered.Stopped l s) h = subst (λ x. IsStopped g old new (commands_of ts) x s) (sym (from_none l.items h.0)) (is_stopped g old new ts ds driven s h.1)

  pub leaves_early : (u : Unanswered) → TellsStop before ds u → IsFit g new → (b : Book) → KeepsBook g old b → LeavesBehind g new b (commands_of ts) u
  leaves_early (unanswered.NoMemory _) h fit b keeps = absurd h
  leaves_early (unanswered.Stopped l s) h fit b keeps = subst (StopsBehind g new b (commands_of ts)) (sym (from_none l.items h.0)) (stops_behind g old new ts ds driven fit b keeps s h.1)

---- A part of a life

pub alone_commands : (ts : List Taken) → commands_of ts ≡ commands_in (map alone ts)
alone_commands [] = refl
alone_commands (t ∷ ts) = ap (λ l. t.command ∷ l) (alone_commands ts)

module _ {S : Type 0} (g : Ghosts S) (old new : Keeping S) (bs : List (List Taken)) (ds : List Done) (commands : List Command)
    (are : commands ≡ commands_in bs) (runs : Runs g old new bs ds)
    (counted : IsFit g new → IsCounted g old new (kept_book g old) bs ds) where
  pub part_of : (answers : List Answer) (stops : Option Stop) → given ds ≡ answers → first_stop ds ≡ stops → IsPart g old new commands answers stops
  part_of answers stops told stop = inl (record {
    batches = bs;
    dones = ds;
    are = are;
    runs = runs;
    counted = counted;
    told = told;
    stop =
        stop;
  })

  pub one_part : (r : Result Answer Stop) → IfOk r (λ a. (given ds ≡ a ∷ []) × (first_stop ds ≡ None)) → IfErr r (λ s. (given ds ≡ []) × (first_stop ds ≡ Some s))
      → MatchResult r (λ a. IsPart g old new commands (a ∷ []) None) (λ s. IsPart g old new commands [] (Some s))
  one_part (Ok a) h none = part_of (a ∷ []) None h.0 h.1
  one_part (Err s) none h = part_of [] (Some s) h.0 h.1

  pub early_part : (before : List Answer) → before ≡ [] → (u : Unanswered) → TellsStop before ds u → IsPartUpTo g old new commands u
  early_part before none (unanswered.NoMemory _) h = absurd h
  early_part before none (unanswered.Stopped l s) h = part_of l.items (Some s) (sym (h.0 ∙ ap (λ x. x ++ given ds) none)) h.1

  pub both_parts : {V : Type 0} (items : V → List Answer) (before : List Answer) → before ≡ [] → (r : Result V Unanswered) → IfOk r (λ all. (items all ≡ before ++ given ds) × (first_stop ds ≡ None)) → IfErr r (TellsStop before ds)
      → MatchResult r (λ all. IsPart g old new commands (items all) None) (IsPartUpTo g old new commands)
  both_parts items before none (Ok all) h nothing = part_of (items all) None (sym (h.0 ∙ ap (λ x. x ++ given ds) none)) h.1
  both_parts items before none (Err u) nothing h = early_part before none u h

-- as many batches as commands
pub cut_long : (commands : List Command) (bs : List (List Taken)) → AreCut commands bs → length bs ≡ length commands
cut_long commands bs cut = ap length cut.are ∙ length-map cut.taken alone ∙ sym (length-map cut.taken command_of) ∙ ap length cut.same

pub one_alone : (t : Taken) (bs : List (List Taken)) → bs ≡ (t ∷ []) ∷ [] → AreAlone bs
one_alone t bs is = record { taken = t ∷ []; are = is }

pub cut_alone : (commands : List Command) (bs : List (List Taken)) → AreCut commands bs → AreAlone bs
cut_alone commands bs cut = record { taken = cut.taken; are = cut.are }
