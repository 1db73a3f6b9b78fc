-- The lives of an engine, one after the other.
use Rattle.std.proofs.Common.{◌≡◌, ◌⊎◌, inl, inr, ℕ, zero, suc, ◌+◌, List, [], ◌∷◌, ◌++◌, length, refl, sym, ap, ◌∙◌, subst, arith, append-nil, append_assoc, Some}
use Rattle.std.specs.Prelude.{slice_get, IsTrue}
use Rattle.std.proofs.Math.Logic.{∥∥₁_elim, ∥∥₁_map}
use Rattle.std.proofs.lemmas.List.{map-append}
use Rattle.std.proofs.lemmas.Option.{none-some, same_Some}
use Rattle.sqlite_trees.specs.declared.store.Store.{Ghosts}
use Rattle.sqlite.specs.Tree.{Trees}
use Rattle.sqlite.specs.Held.{Held, state}
use Rattle.sqlite.specs.State.{HasCleanDisk, State}
use Rattle.flow_base.specs.declared.command.Command.{Command}
use Rattle.flow_base.specs.declared.fault.Fault.{Fault}
use Rattle.flow_base.specs.declared.submission.Taken.{Taken}
use Rattle.flow_base.specs.declared.submission.Receipt.{Receipt}
use Rattle.flow_check.specs.Language.{meaning_of}
use Rattle.flow_model.specs.Book.{Book, nth}
use Rattle.flow_model.specs.Apply.{after, after_one, replies}
use Rattle.flow_model.proofs.Logs.{after_cut, replies_cut, length-replies, nth_at}
use Rattle.flow_tables.specs.Owned.{IsOurs, IsFound, state_of}
use Rattle.flow_view.specs.declared.fault.ViewFault.TheVariants as fault
use Rattle.flow_tables.specs.Opening.{IsOfStore}
use Rattle.flow_tables.proofs.Opened.{of_tables}
use Rattle.flow_commit.specs.Keeping.{Keeping, IsFit, IsWell, KeepsBook, rules, command_of, commands_of, receipt_of, receipts_of}
use Rattle.flow_commit.proofs.RunningOut.{only_numbers}
use Rattle.flow_recover.specs.declared.positions.Position.{Position}
use Rattle.flow_recover.specs.Positions.{ArePositions}
use Rattle.flow_recover.specs.Recovering.{HoldBook, IsOpenedOver, StillHolds}
use Rattle.flow_recover.proofs.Recovering.{one_found, found_ours, kept_found, held_found, well_before, well_sound}
use Rattle.flow_engine.specs.declared.done.Done.{Done}
use Rattle.flow_engine.specs.declared.done.Done.TheVariants as done
use Rattle.flow_engine.specs.Boarding.{PassesBoarded, PassesBoardedOnly}
use Rattle.flow_engine.specs.Driving.{AreAnswers, IsDoneFor, IsDoneOnlyFor, LeadsTo, Passes, PassesOnly, all_halted, has_unknown, if_kept, in_hand, gathered, kept_of, receipts_in}
use Rattle.flow_engine.specs.Opening.{HasFound, IsUnopened, Opens}
use Rattle.flow_engine.proofs.Found.{found_of}
use Rattle.flow_engine.proofs.OneMore.{after_well, left_well}
use Rattle.flow_engine.specs.Headline.{Life, Lived, Served, Refused, seen, IsLife, Begins, Continues, Lives, Finds, Works, IsIn, AreIn, Headline, OpenedBegin}

---- Places in a list

get_past : {A : Type 0} (xs ys : List A) (m i : ℕ) → m ≡ length xs + i → slice_get (xs ++ ys) m ≡ slice_get ys i
get_past [] ys m i e = let same : m ≡ i = omega (arith, e) in ap (slice_get ys) same
get_past (x ∷ xs) ys zero i e = absurd (omega (arith, e))
get_past (x ∷ xs) ys (suc m) i e = get_past xs ys m i (omega (arith, e))

get_front : {A : Type 0} (xs ys : List A) (i : ℕ) (x : A) → slice_get xs i ≡ Some x → slice_get (xs ++ ys) i ≡ Some x
get_front [] ys i x e = absurd (none-some x e)
get_front (y ∷ xs) ys zero x e = e
get_front (y ∷ xs) ys (suc i) x e = get_front xs ys i x e

-- what stands in the middle
nth_within : {A : Type 0} (xs ys zs : List A) (i n : ℕ) (x : A) → n ≡ length xs + suc i → slice_get ys i ≡ Some x → nth (xs ++ (ys ++ zs)) n ≡ Some x
nth_within xs ys zs i n x e there =
    nth_at (xs ++ (ys ++ zs)) n (length xs + i) (omega (arith, e)) ∙ get_past xs (ys ++ zs) (length xs + i) i refl ∙ get_front ys zs i x there

---- Receipts

abbrev taken_if : List Taken → Done → List Taken
taken_if batch (done.Kept receipts) = batch
taken_if batch (done.NotApplied f) = []
taken_if batch done.Unknown = []
taken_if batch done.Halted = []

receipts_cut : (k : ℕ) (b : Book) (x y : List Taken) → receipts_of k b (x ++ y) ≡ receipts_of k b x ++ receipts_of (k + length x) (after rules b (commands_of x)) y
receipts_cut k b [] y = ap (λ n. receipts_of n b y) (omega arith)
receipts_cut k b (t ∷ x) y =
    let place : k + 1 + length x ≡ k + suc (length x) = omega arith in
    let next = after_one rules b t.command in
    ap (λ l. receipt_of (k + 1) b t ∷ l) (receipts_cut (k + 1) next x y ∙ ap (λ n. receipts_of (k + 1) next x ++ receipts_of n (after rules next (commands_of x)) y) place)

none_of : {A : Type 0} (f : List Taken → Done → List A) → ((batch : List Taken) → f batch done.Halted ≡ []) → (bs cs : List (List Taken)) → gathered f bs (all_halted cs) ≡ []
none_of f none [] cs = refl
none_of f none (x ∷ bs) [] = refl
none_of f none (x ∷ bs) (y ∷ cs) = ap (λ l. l ++ gathered f bs (all_halted cs)) (none x) ∙ none_of f none bs cs

told_all : (k : ℕ) (b : Book) (bs : List (List Taken)) (ds : List Done) → AreAnswers k b bs ds → gathered receipts_in bs ds ≡ receipts_of k b (gathered taken_if bs ds)
told_all k b [] [] h = refl
told_all k b [] (d ∷ ds) h = absurd h
told_all k b (x ∷ bs) [] h = absurd h
told_all k b (x ∷ bs) (done.Kept rs ∷ ds) h =
    ap (λ l. l ++ gathered receipts_in bs ds) h.0 ∙ ap (λ l. receipts_of k b x ++ l) (told_all (k + length x) (after rules b (commands_of x)) bs ds h.1)
    ∙ sym (receipts_cut k b x (gathered taken_if bs ds))
told_all k b (x ∷ bs) (done.NotApplied f ∷ ds) h = told_all k b bs ds h
told_all k b (x ∷ bs) (done.Unknown ∷ ds) h =
    ap (gathered receipts_in bs) h ∙ none_of receipts_in (λ _. refl) bs bs
    ∙ sym (ap (λ l. receipts_of k b (gathered taken_if bs l)) h ∙ ap (receipts_of k b) (none_of taken_if (λ _. refl) bs bs))
told_all k b (x ∷ bs) (done.Halted ∷ ds) h = absurd h

kept_is : (bs : List (List Taken)) (ds : List Done) → kept_of bs ds ≡ commands_of (gathered taken_if bs ds)
kept_is [] ds = refl
kept_is (x ∷ bs) [] = refl
kept_is (x ∷ bs) (done.Kept rs ∷ ds) = ap (λ l. commands_of x ++ l) (kept_is bs ds) ∙ sym (map-append command_of x (gathered taken_if bs ds))
kept_is (x ∷ bs) (done.NotApplied f ∷ ds) = kept_is bs ds
kept_is (x ∷ bs) (done.Unknown ∷ ds) = kept_is bs ds
kept_is (x ∷ bs) (done.Halted ∷ ds) = kept_is bs ds

-- a receipt, among those of a list of commands
abbrev IsAt : ℕ → Book → List Command → ℕ → Receipt → Type 0
IsAt k b cs i r = (r.place ≡ k + suc i) × (slice_get cs i ≡ Some r.command) × (slice_get (replies rules b cs) i ≡ Some r.reply)

receipt_at : (k : ℕ) (b : Book) (ts : List Taken) (i : ℕ) (r : Receipt) → slice_get (receipts_of k b ts) i ≡ Some r → IsAt k b (commands_of ts) i r
receipt_at k b [] i r e = absurd (none-some r e)
receipt_at k b (t ∷ ts) zero r e =
    let same : receipt_of (k + 1) b t ≡ r = same_Some (receipt_of (k + 1) b t) r e in
    let place : r.place ≡ k + 1 = sym (ap (λ (y : Receipt). y.place) same) in
    (omega (arith, place), ap (λ (y : Receipt). Some y.command) same, ap (λ (y : Receipt). Some y.reply) same)
receipt_at k b (t ∷ ts) (suc i) r e =
    let later = receipt_at (k + 1) (after_one rules b t.command) ts i r e in
    let place : r.place ≡ k + 1 + suc i = later.0 in
    (omega (arith, place), later.1, later.2)

answer_at : (k : ℕ) (b : Book) (bs : List (List Taken)) (ds : List Done) → AreAnswers k b bs ds → (i : ℕ) (r : Receipt) → slice_get (gathered receipts_in bs ds) i ≡ Some r → IsAt k b (kept_of bs ds) i r
answer_at k b bs ds h i r e =
    subst (λ cs. IsAt k b cs i r) (sym (kept_is bs ds)) (receipt_at k b (gathered taken_if bs ds) i r (ap (λ l. slice_get l i) (sym (told_all k b bs ds h)) ∙ e))

-- within a log that goes on
in_log : (b : Book) (log before kept more : List Command) → log ≡ before ++ (kept ++ more) → (i : ℕ) (r : Receipt) → IsAt 0 (after rules b before) kept i r
    → (nth log (length before + r.place) ≡ Some r.command) × (nth (replies rules b log) (length before + r.place) ≡ Some r.reply)
in_log b log before kept more is i r at =
    let place : r.place ≡ 0 + suc i = at.0 in
    let n : length before + r.place ≡ length before + suc i = omega (arith, place) in
    let long : length (replies rules b before) ≡ length before = length-replies rules b before in
    let m : length before + r.place ≡ length (replies rules b before) + suc i = omega (arith, place, long) in
    let over = after rules b before in
    let cut : replies rules b log ≡ replies rules b before ++ (replies rules over kept ++ replies rules (after rules over kept) more) =
    ap (replies rules b) is ∙ replies_cut rules b before (kept ++ more) ∙ ap (λ l. replies rules b before ++ l) (replies_cut rules over kept more) in (
      ap (λ l. nth l (length before + r.place)) is ∙ nth_within before kept more i (length before + r.place) r.command n at.1,
      ap (λ l. nth l (length before + r.place)) cut
          ∙ nth_within (replies rules b before) (replies rules over kept) (replies rules (after rules over kept) more) i (length before + r.place) r.reply m at.2,
    )

---- One life

module _ {S : Type 0} (g : Ghosts S) where
  -- an open connection holds this book
  abbrev pub StandsOver : Book → Held S → Type 0
  StandsOver k conn = HasCleanDisk (state g conn) → IsTrue (state g conn).is_open × IsFound (state g conn) k

  -- why a batch has ended so, over a book such as commands make
  only_for : (old new : Keeping S) (b : Book) (batch : List Taken) (d : Done) → IsWell b → IsDoneFor g old new b batch d → IsDoneOnlyFor g old new b batch d
  only_for old new b batch (done.Kept receipts) well h = tt
  only_for old new b batch (done.NotApplied (fault.NoMemory _)) well h = tt
  only_for old new b batch (done.NotApplied fault.StoreRefused) well (inl room) = inl room
  only_for old new b batch (done.NotApplied fault.StoreRefused) well (inr (inl cant)) = inr (inl (only_numbers b (commands_of batch) well cant))
  only_for old new b batch (done.NotApplied fault.StoreRefused) well (inr (inr given_up)) = inr (inr given_up)
  only_for old new b batch done.Unknown well h = h
  only_for old new b batch done.Halted well h = tt

  passes_only : (old new : Keeping S) (b : Book) (bs : List (List Taken)) (ds : List Done) → IsWell b → Passes g old new b bs ds → PassesOnly g old new b bs ds
  passes_only old new b [] [] well same = same
  passes_only old new b [] (d ∷ ds) well none = absurd none
  passes_only old new b (x ∷ bs) [] well none = absurd none
  passes_only old new b (x ∷ bs) (d ∷ ds) well h =
      (h.0, h.1, only_for old h.0 b x d well h.2, passes_only h.0 new (after rules b (if_kept x d)) bs ds (after_well b (if_kept x d) well) h.3)

  boarded_only : (old new : Keeping S) (b : Book) (bs : List (List Taken)) (ds : List Done) → IsWell b → PassesBoarded g old new b bs ds → PassesBoardedOnly g old new b bs ds
  boarded_only old new b [] [] well still = still
  boarded_only old new b [] (d ∷ ds) well none = absurd none
  boarded_only old new b (x ∷ bs) [] well none = absurd none
  boarded_only old new b (x ∷ bs) (d ∷ ds) well h =
      let one = h.1 in (
        h.0,
        record { asked = one.asked; still = one.still; does = one.does; cause = only_for one.asked h.0 b x d well one.cause },
        boarded_only h.0 new (after rules b (if_kept x d)) bs ds (after_well b (if_kept x d) well) h.2,
      )

  -- the engine keeps the book that the store held
  book_again : (k : Book) (conn : Held S) (first : Keeping S) → (HasCleanDisk (state g conn) → IsFound (state g conn) k) → Opens g conn first → IsFit g first → KeepsBook g first k
  book_again k conn first held opens fit =
      let its = opens.found fit in
      subst (KeepsBook g first) (one_found (state g conn) its.book k its.found (held (opens.clean fit.1))) its.kept

  -- the book that the next life begins over, of the part that this one put into the log
  abbrev pub Next : Book → Life S → Life S → Type 0
  Next k l m = (part : List Command) × ((part ≡ (seen l).kept) ⊎ (part ≡ (seen l).kept ++ (seen l).hand)) × IsWell (after rules k part) × StandsOver (after rules k part) (seen m).conn

  -- what its batches were answered
  abbrev pub IsAnswered : Book → Life S → Type 0
  IsAnswered k (Lived conn first qs last bs ds) = AreAnswers 0 k bs ds
  IsAnswered k (Served conn first qs last bs ds) = AreAnswers 0 k bs ds
  IsAnswered k (Refused conn f back) = Unit {0}

  pub record Step (k : Book) (l : Life S) : Type 0 where
    pub found : Finds g k l
    pub works : Works g k l
    pub answered : IsAnswered k l
    pub left : (db : Trees) → (state g (seen l).last).may_leave db → (commands : List Command) × ((commands ≡ (seen l).kept) ⊎ (commands ≡ (seen l).kept ++ (seen l).hand)) × HoldBook db (after rules k commands)
    pub told : (i : ℕ) (r : Receipt) → slice_get (seen l).receipts i ≡ Some r → IsAt 0 k (seen l).kept i r
    pub next : (m : Life S) → Continues g (seen l) (seen m) → ∥ Next k l m ∥₁

  opened_again : (k : Book) (db : Trees) (conn : Held S) → HoldBook db k → (HasCleanDisk (state g conn) → IsOpenedOver (state g conn) db) → StandsOver k conn
  opened_again k db conn holds opened clean = let over = opened clean in (over.opens.is_open, held_found (state g conn) db k holds over)

  handed_back : (k : Book) (held conn : Held S) → conn ≡ held → IsTrue (state g held).is_open → IsFound (state g held) k → StandsOver k conn
  handed_back k held conn same up found clean = (subst (λ (h : Held S). IsTrue (state g h).is_open) (sym same) up, subst (λ (h : Held S). IsFound (state g h) k) (sym same) found)

  next_lived : (k : Book) (conn : Held S) (first : Keeping S) (qs : List Position) (last : Keeping S) (bs : List (List Taken)) (ds : List Done) → IsWell k → LeadsTo g first last k (has_unknown ds) (kept_of bs ds) (in_hand bs ds)
      → (m : Life S) → Continues g (seen (Lived conn first qs last bs ds)) (seen m) → ∥ Next k (Lived conn first qs last bs ds) m ∥₁
  next_lived k conn first qs last bs ds well leads m (inl stopped) = ∥∥₁_map stopped (λ s.
      let left = left_well g first last k bs ds well leads s.0 s.1 in
      (left.commands, left.are, left.well, opened_again (after rules k left.commands) s.0 (seen m).conn (inl left.file) s.2))
  next_lived k conn first qs last bs ds well leads m (inr closed) =
      let over = after rules k (kept_of bs ds) in
      let found = kept_found (state g last.stored.held) over (closed.1, leads.still closed.1) in
      ∣ (kept_of bs ds, inl refl, after_well k (kept_of bs ds) well, handed_back over last.stored.held (seen m).conn closed.0 closed.1 found) ∣₁

  next_refused : (k : Book) (conn back : Held S) (f : Fault) → IsWell k → StillHolds (state g conn) (state g back) k → (m : Life S) → Continues g (seen (Refused conn f back)) (seen m) → ∥ Next k (Refused conn f back) m ∥₁
  next_refused k conn back f well holds m (inl stopped) = ∥∥₁_map stopped (λ s. ([], inl refl, well, opened_again k s.0 (seen m).conn (holds.stops s.0 s.1) s.2))
  next_refused k conn back f well holds m (inr closed) = ∣ ([], inl refl, well, handed_back k back (seen m).conn closed.0 closed.1 (holds.found closed.1)) ∣₁

  -- what is told of a store that holds a book such as commands make
  told_so : (k : Book) (conn back : Held S) (f : Fault) → IsWell k → IsUnopened g (state g conn) (state g back) f → HasCleanDisk (state g back) → IsFound (state g conn) k → IsOfStore f
  told_so k conn back f well told clean (inl held) = of_tables f (told.own clean (λ _. well_sound (state g conn) k held well))
  told_so k conn back f well told clean (inr before) = told.own_before clean (λ _. well_before (state g conn) k before well)

  -- the tables that were opened were ours or none, at the end of a life too
  fit_last : (k : Book) (conn : Held S) (first last : Keeping S) → (HasCleanDisk (state g conn) → IsFound (state g conn) k) → HasCleanDisk (state_of g last.stored) → Opens g conn first
      → last.stored.opened ≡ first.stored.opened → IsFit g last
  fit_last k conn first last begin clean opens same =
      let ours : IsOurs (state g conn) = found_ours (state g conn) k begin in
      (subst (λ (h : Held S). IsOurs (state g h)) (sym (same ∙ opens.opened)) ours, clean)

  -- what opening found
  found_first : (k : Book) (conn : Held S) (first : Keeping S) (qs : List Position) → (HasCleanDisk (state g conn) → IsFound (state g conn) k) → Opens g conn first → (IsFit g first → HasFound g first qs) → IsFit g first
      → KeepsBook g first k × ArePositions meaning_of k qs
  found_first k conn first qs begin opens has fit =
      let its = subst (λ (h : Held S). IsFound (state g h) k) (sym opens.opened) (begin (opens.clean fit.1)) in
      (book_again k conn first begin opens fit, found_of g first qs k (has fit) its)

  pub stepped : (k : Book) (l : Life S) → IsWell k → Begins g k l → IsLife g l → Step k l
  stepped k (Lived conn first qs last bs ds) well begin (clean, opens, has, runs) =
      let fit = fit_last k conn first last begin clean opens runs.opened in
      let found = found_first k conn first qs begin opens has (runs.fit fit) in
      let drives = runs.drives fit k found.0 opens.anew.1 in
      let answers = subst (λ n. AreAnswers n k bs ds) opens.anew.0 drives.answers in
      record {
        found = found;
        works = passes_only first last k bs ds well drives.passes;
        answered = answers;
        left = λ db may. (let left = left_well g first last k bs ds well drives.leads db may in (left.commands, left.are, inl left.file));
        told = answer_at 0 k bs ds answers;
        next = next_lived k conn first qs last bs ds well drives.leads;
      }
  stepped k (Served conn first qs last bs ds) well begin (clean, opens, has, runs) =
      let fit = fit_last k conn first last begin clean opens runs.opened in
      let found = found_first k conn first qs begin opens has (runs.fit fit) in
      let serves = runs.serves fit k found.0 opens.anew.1 in
      let answers = subst (λ n. AreAnswers n k bs ds) opens.anew.0 serves.answers in
      record {
        found = found;
        works = boarded_only first last k bs ds well serves.passes;
        answered = answers;
        left = λ db may. (let left = left_well g first last k bs ds well serves.leads db may in (left.commands, left.are, inl left.file));
        told = answer_at 0 k bs ds answers;
        next = next_lived k conn first qs last bs ds well serves.leads;
      }
  stepped k (Refused conn f back) well begin (clean, told) =
      let its = told.holds clean k begin in
      let was = (told.stops clean k (λ old. (begin old).1)).0 in
      record {
        found = (its, told_so k conn back f well told clean (begin was).1, (told.why clean, told.moving clean));
        works = tt;
        answered = tt;
        left = λ db may. ([], inl refl, its.stops db may);
        told = λ i r e. absurd (none-some r e);
        next = next_refused k conn back f well its;
      }

  ---- All of them

  pub begins_over : (k : Book) (m : Life S) → StandsOver k (seen m).conn → Begins g k m
  begins_over k (Lived conn first qs last bs ds) over = λ clean. (over clean).1
  begins_over k (Served conn first qs last bs ds) over = λ clean. (over clean).1
  begins_over k (Refused conn f back) over = over

  pub opened_begin : OpenedBegin g
  opened_begin b l (inl h) = begins_over b l (opened_again b h.0 (seen l).conn h.1 h.2)
  opened_begin b l (inr h) = begins_over b l (λ clean. ((h clean).0, kept_found (state g (seen l).conn) b (h clean)))

  -- the log begins with what stands before these lives
  log_before : (b : Book) (log before : List Command) (ls : List (Life S)) → AreIn g b log before ls → (more : List Command) × (log ≡ before ++ more)
  log_before b log before [] e = ([], sym e ∙ sym (append-nil before))
  log_before b log before (l ∷ ls) h =
      let p = log_before b log (before ++ h.0) ls h.2 in
      (h.0 ++ p.0, p.1 ∙ append_assoc before h.0 p.0)

  part_is : (l : Life S) (part : List Command) → (part ≡ (seen l).kept) ⊎ (part ≡ (seen l).kept ++ (seen l).hand) → (x : List Command) × (part ≡ (seen l).kept ++ x)
  part_is l part (inl e) = ([], e ∙ sym (append-nil (seen l).kept))
  part_is l part (inr e) = ((seen l).hand, e)

  is_in : (b : Book) (log before part more : List Command) (l : Life S) → Step (after rules b before) l → (part ≡ (seen l).kept) ⊎ (part ≡ (seen l).kept ++ (seen l).hand) → log ≡ (before ++ part) ++ more → IsIn g b log before part l
  is_in b log before part more l step whole is =
      let x = part_is l part whole in
      let all : log ≡ before ++ ((seen l).kept ++ (x.0 ++ more)) =
      is ∙ append_assoc before part more ∙ ap (λ p. before ++ (p ++ more)) x.1 ∙ ap (λ p. before ++ p) (append_assoc (seen l).kept x.0 more) in
      record {
        found = step.found;
        works = step.works;
        whole = whole;
        receipts = λ i r e. in_log b log before (seen l).kept (x.0 ++ more) all i r (step.told i r e);
      }

  all_in : (b : Book) (before : List Command) (l : Life S) (ls : List (Life S)) → IsWell (after rules b before) → Begins g (after rules b before) l → IsLife g l → Lives g (λ m. Continues g (seen l) (seen m)) ls
      → ∥ ((log : List Command) × AreIn g b log before (l ∷ ls)) ∥₁
  all_in b before l [] well begin life rest =
      let step = stepped (after rules b before) l well begin life in
      ∣ (before ++ (seen l).kept, ((seen l).kept, is_in b (before ++ (seen l).kept) before (seen l).kept [] l step (inl refl) (sym (append-nil (before ++ (seen l).kept))), refl)) ∣₁
  all_in b before l (m ∷ ls) well begin life rest =
      let step = stepped (after rules b before) l well begin life in
      ∥∥₁_elim (step.next m rest.0) squash₁ (λ next.
      let part = next.0 in
      let same : after rules b (before ++ part) ≡ after rules (after rules b before) part = after_cut rules b before part in
      let over = begins_over (after rules b (before ++ part)) m (subst (λ k. StandsOver k (seen m).conn) (sym same) next.3) in
      ∥∥₁_map (all_in b (before ++ part) m ls (subst IsWell (sym same) next.2) over rest.1 rest.2) (λ tail.
      let more = log_before b tail.0 (before ++ part) (m ∷ ls) tail.1 in
      (tail.0, (part, is_in b tail.0 before part more.0 l step next.1 more.1, tail.1))))

  pub one_log : Headline g
  one_log b well [] h = ∣ ([], refl) ∣₁
  one_log b well (l ∷ ls) h = all_in b [] l ls well h.0 h.1 h.2
