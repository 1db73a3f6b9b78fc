-- One more batch that is committed.
use Rattle.std.proofs.Common.{◌≡◌, ◌⊎◌, inl, inr, ◌+◌, Bool, true, false, List, [], ◌∷◌, ◌++◌, length, refl, sym, ap, ◌∙◌, subst, arith, append-nil, append_assoc, length-append}
use Rattle.std.proofs.lemmas.Bool.{cases_Bool}
use Rattle.std.proofs.lemmas.List.{length-map}
use Rattle.sqlite_trees.specs.declared.store.Store.{Ghosts}
use Rattle.flow_base.specs.declared.command.Command.{Command}
use Rattle.flow_model.specs.Book.{Book}
use Rattle.flow_model.specs.Apply.{after}
use Rattle.flow_model.proofs.Logs.{after_cut}
use Rattle.flow_machine.proofs.Keeps.{after_keeps}
use Rattle.flow_machine.proofs.Meaning.{reads_well_formed}
use Rattle.flow_machine.proofs.Orderly.{orderly_after}
use Rattle.sqlite.specs.Tree.{Trees}
use Rattle.flow_base.specs.declared.submission.Taken.{Taken}
use Rattle.flow_base.specs.declared.submission.Receipt.{Receipt}
use Rattle.flow_tables.specs.Owned.{state_of, LeavesEither}
use Rattle.flow_commit.specs.Keeping.{Keeping, rules, IsFit, IsUp, IsWell, KeepsBook, kept_book, HasKept, HasRefused, IsUnknown, command_of, commands_of, receipts_of}
use Rattle.flow_engine.specs.declared.done.Done.{Done}
use Rattle.flow_engine.specs.declared.done.Done.TheVariants as done
use Rattle.flow_engine.specs.Driving.{HasDone, IsDoneFor, Passes, IsNoted, AreAnswers, NotesAll, LeadsTo, Drives, IsLeft, all_halted, has_unknown, if_kept, if_unknown, kept_of, in_hand}
use Rattle.flow_engine.specs.Following.{gone_on_then, refused_since}
use Rattle.flow_engine.specs.Counting.{IsCounted}
use Rattle.flow_engine.specs.GivingUp.{AreGivenUp, IsGivenUpFor, WasRefused}
use Rattle.flow_commit.specs.Committing.{HasGoneOn}
use Rattle.flow_commit.proofs.Refusing.{gone_on_self}
use Rattle.flow_engine.proofs.Committed.{one_book}
use Rattle.flow_engine.proofs.Counting.{counted_then, none_counted}
use Rattle.flow_engine.proofs.GivingUp.{given_up_then}
use Rattle.flow_engine.proofs.Gathering.{off, same_length, gathered_more, unknown_behind, known_behind, none_in_hand, answers_more, all_halted_more, halted_more, noted_more, noted_halted, replies_told}

-- one batch more, from the engine that the others have led to
passes_more : {S : Type 0} (g : Ghosts S) (old mid new : Keeping S) (b : Book) (bs : List (List Taken)) (ds : List Done) (batch : List Taken) (d : Done) → Passes g old mid b bs ds
    → HasDone g mid new (after rules b (kept_of bs ds)) batch d → IsDoneFor g mid new (after rules b (kept_of bs ds)) batch d → Passes g old new b (bs ++ batch ∷ []) (ds ++ d ∷ [])
passes_more g old mid new b [] [] batch d same has why = (new, subst (λ k. HasDone g k new b batch d) same has, subst (λ k. IsDoneFor g k new b batch d) same why, refl)
passes_more g old mid new b [] (y ∷ ds) batch d passes has why = absurd passes
passes_more g old mid new b (x ∷ bs) [] batch d passes has why = absurd passes
passes_more g old mid new b (x ∷ bs) (y ∷ ds) batch d passes has why =
    let later = after_cut rules b (if_kept x y) (kept_of bs ds) in
    let over = after rules b (if_kept x y) in (
      passes.0,
      passes.1,
      passes.2,
      passes_more g passes.0 mid new over bs ds batch d passes.3 (subst (λ k. HasDone g mid new k batch d) later has) (subst (λ k. IsDoneFor g mid new k batch d) later why),
    )

module _ {S : Type 0} (g : Ghosts S) (old : Keeping S) (b : Book) where
  abbrev Leads : Keeping S → Bool → List Command → List Command → Type 0
  Leads new u kept hand = LeadsTo g old new b u kept hand

  leads_as : (new : Keeping S) (u u' : Bool) (k k' h h' : List Command) → u' ≡ u → k' ≡ k → h' ≡ h → Leads new u k h → Leads new u' k' h'
  leads_as new u u' k k' h h' same_u same_k same_h leads =
      subst (λ x. Leads new x k' h') (sym same_u) (subst (λ x. Leads new u x h') (sym same_k) (subst (λ x. Leads new u k x) (sym same_h) leads))

  -- the same engine, which keeps the book, with anything in hand
  lead_kept : (mid new : Keeping S) (k h h' : List Command) (batch : List Taken) (rs : List Receipt) → Leads mid false k h → HasKept g mid new (after rules b k) batch rs → Leads new false (k ++ commands_of batch) h'
  lead_kept mid new k h h' batch rs was one =
      let book = subst (λ x. KeepsBook g new x) (sym (after_cut rules b k (commands_of batch))) one.book in
      let long : length (k ++ commands_of batch) ≡ length k + length batch = length-append k (commands_of batch) ∙ ap (λ n. length k + n) (length-map batch command_of) in
      let before : mid.kept ≡ old.kept + length k = was.counts refl in
      let counts : new.kept ≡ mid.kept + length batch = one.counts in
      record { halted = one.goes_on; book = λ _. book; still = λ _. book; counts = λ _. omega (arith, long, before, counts); stops = λ db may. inl (book.stops db may) }

  lead_refused : (mid new : Keeping S) (k h h' : List Command) → Leads mid false k h → HasRefused g mid new (after rules b k) → Leads new false k h'
  lead_refused mid new k h h' was one =
      record { halted = one.goes_on; book = λ _. one.book; still = λ _. one.book; counts = λ _. one.counts ∙ was.counts refl; stops = λ db may. inl (one.book.stops db may) }

  lead_unknown : (mid new : Keeping S) (k : List Command) (batch : List Taken) → IsUnknown g mid new (after rules b k) batch → Leads new true k (commands_of batch)
  lead_unknown mid new k batch one =
      record {
        halted = one.halted;
        book = λ e. off e;
        still = one.still;
        counts = λ e. off e;
        stops = subst (λ x. LeavesEither (state_of g new.stored) (after rules b k) x) (sym (after_cut rules b k (commands_of batch))) one.either;
      }

  -- The batches so far have these answers, and the engine is where they lead.
  abbrev pub Stands : Keeping S → List (List Taken) → List Done → Type 0
  Stands now bs ds = AreAnswers old.kept b bs ds × LeadsTo g old now b (has_unknown ds) (kept_of bs ds) (in_hand bs ds)

  -- and it went there from one to the next
  abbrev pub Reached : Keeping S → List (List Taken) → List Done → Type 0
  Reached now bs ds = Stands now bs ds × Passes g old now b bs ds

  module _ (mid new : Keeping S) (bs : List (List Taken)) (ds : List Done) (batch : List Taken) (was : Stands mid bs ds) where
    -- what is kept and in hand with one more
    kept_now : (d : Done) → kept_of (bs ++ batch ∷ []) (ds ++ d ∷ []) ≡ kept_of bs ds ++ if_kept batch d
    kept_now d = gathered_more if_kept bs ds batch d (same_length old.kept b bs ds was.0)

    hand_now : (d : Done) → in_hand (bs ++ batch ∷ []) (ds ++ d ∷ []) ≡ in_hand bs ds ++ if_unknown batch d
    hand_now d = gathered_more if_unknown bs ds batch d (same_length old.kept b bs ds was.0)

    -- over an engine that keeps the book
    goes_on : has_unknown ds ≡ false → (d : Done) → HasDone g mid new (after rules b (kept_of bs ds)) batch d → Stands new (bs ++ batch ∷ []) (ds ++ d ∷ [])
    goes_on known (done.Kept rs) one =
        let leads = subst (λ u. LeadsTo g old mid b u (kept_of bs ds) (in_hand bs ds)) known was.1 in
        let told = one.1.told ∙ ap (λ n. receipts_of n (after rules b (kept_of bs ds)) batch) (leads.counts refl) in (
          answers_more old.kept b bs ds batch (done.Kept rs) known was.0 (told, tt),
          leads_as new false (has_unknown (ds ++ done.Kept rs ∷ [])) _ _ _ _ (known_behind ds (done.Kept rs) refl ∙ known) (kept_now (done.Kept rs)) refl
              (lead_kept mid new (kept_of bs ds) (in_hand bs ds) (in_hand (bs ++ batch ∷ []) (ds ++ done.Kept rs ∷ [])) batch rs.items leads one.1),
        )
    goes_on known (done.NotApplied f) one =
        let leads = subst (λ u. LeadsTo g old mid b u (kept_of bs ds) (in_hand bs ds)) known was.1 in (
          answers_more old.kept b bs ds batch (done.NotApplied f) known was.0 tt,
          leads_as new false (has_unknown (ds ++ done.NotApplied f ∷ [])) _ _ _ _ (known_behind ds (done.NotApplied f) refl ∙ known) (kept_now (done.NotApplied f) ∙ append-nil (kept_of bs ds)) refl
              (lead_refused mid new (kept_of bs ds) (in_hand bs ds) (in_hand (bs ++ batch ∷ []) (ds ++ done.NotApplied f ∷ [])) leads one.1),
        )
    goes_on known done.Unknown one = (
      answers_more old.kept b bs ds batch done.Unknown known was.0 refl,
      leads_as new true (has_unknown (ds ++ done.Unknown ∷ [])) _ _ _ _ (unknown_behind ds) (kept_now done.Unknown ∙ append-nil (kept_of bs ds)) (hand_now done.Unknown ∙ ap (λ l. l ++ commands_of batch) (none_in_hand bs ds known))
          (lead_unknown mid new (kept_of bs ds) batch one.1),
    )
    goes_on known done.Halted one = off (sym one.0 ∙ was.1.halted ∙ known)

    -- over one that has halted
    stays : has_unknown ds ≡ true → new ≡ mid → Stands new (bs ++ batch ∷ []) (ds ++ done.Halted ∷ [])
    stays unknown same =
        let leads = subst (λ k. LeadsTo g old k b (has_unknown ds) (kept_of bs ds) (in_hand bs ds)) (sym same) was.1 in (
          halted_more old.kept b bs ds batch unknown was.0,
          leads_as new (has_unknown ds) (has_unknown (ds ++ done.Halted ∷ [])) _ _ _ _ (known_behind ds done.Halted refl) (kept_now done.Halted ∙ append-nil (kept_of bs ds)) (hand_now done.Halted ∙ append-nil (in_hand bs ds)) leads,
        )

    pub one_more : (d : Done) → ((k : Book) → KeepsBook g mid k → HasDone g mid new k batch d) → (mid.halted ≡ true → new ≡ mid) → (mid.halted ≡ true → d ≡ done.Halted) → (u : Bool) → has_unknown ds ≡ u → Stands new (bs ++ batch ∷ []) (ds ++ d ∷ [])
    one_more d does halted later true e =
        let stopped = was.1.halted ∙ e in
        subst (λ x. Stands new (bs ++ batch ∷ []) (ds ++ x ∷ [])) (sym (later stopped)) (stays e (halted stopped))
    one_more d does halted later false e = goes_on e d (does (after rules b (kept_of bs ds)) (was.1.book e))

    one_passes : Passes g old mid b bs ds → (d : Done) → ((k : Book) → KeepsBook g mid k → HasDone g mid new k batch d) → ((k : Book) → KeepsBook g mid k → IsDoneFor g mid new k batch d) → (mid.halted ≡ true → new ≡ mid) → (mid.halted ≡ true → d ≡ done.Halted) → (u : Bool) → has_unknown ds ≡ u → Passes g old new b (bs ++ batch ∷ []) (ds ++ d ∷ [])
    one_passes passes d does why halted later true e =
        let stopped = was.1.halted ∙ e in
        subst (λ x. Passes g old new b (bs ++ batch ∷ []) (ds ++ x ∷ [])) (sym (later stopped)) (passes_more g old mid new b bs ds batch done.Halted passes (stopped, halted stopped) tt)
    one_passes passes d does why halted later false e =
        let keeps = was.1.book e in
        passes_more g old mid new b bs ds batch d passes (does (after rules b (kept_of bs ds)) keeps) (why (after rules b (kept_of bs ds)) keeps)

---- What is noted of one more

module _ {S : Type 0} (old mid new : Keeping S) (bs : List (List Taken)) (ds : List Done) (batch : List Taken) (long : length ds ≡ length bs) (was : NotesAll old mid bs ds) where
  -- so many are kept with one more
  counts_now : (d : Done) → new.kept ≡ mid.kept + length (if_kept batch d) → new.kept ≡ old.kept + length (kept_of (bs ++ batch ∷ []) (ds ++ d ∷ []))
  counts_now d counted =
      let all : length (kept_of (bs ++ batch ∷ []) (ds ++ d ∷ [])) ≡ length (kept_of bs ds) + length (if_kept batch d) =
      ap length (gathered_more if_kept bs ds batch d (sym long)) ∙ length-append (kept_of bs ds) (if_kept batch d) in
      let before : mid.kept ≡ old.kept + length (kept_of bs ds) = was.counts in
      omega (arith, all, before, counted)

  -- by one that hasn't halted
  notes_on : has_unknown ds ≡ false → (d : Done) → IsNoted mid new batch d → NotesAll old new (bs ++ batch ∷ []) (ds ++ d ∷ [])
  notes_on known (done.Kept rs) one = record {
    answers = noted_more bs ds batch (done.Kept rs) known was.answers (one.2, tt);
    halted = one.0 ∙ sym (known_behind ds (done.Kept rs) refl ∙ known);
    counts = counts_now (done.Kept rs) (one.1 ∙ ap (λ n. mid.kept + n) (sym (length-map batch command_of)));
  }
  notes_on known (done.NotApplied f) one = record {
    answers = noted_more bs ds batch (done.NotApplied f) known was.answers tt;
    halted = one.0 ∙ sym (known_behind ds (done.NotApplied f) refl ∙ known);
    counts = counts_now (done.NotApplied f) (let same : new.kept ≡ mid.kept = one.1 in omega (arith, same));
  }
  notes_on known done.Unknown one = record {
    answers = noted_more bs ds batch done.Unknown known was.answers refl;
    halted = one.0 ∙ sym (unknown_behind ds);
    counts = counts_now done.Unknown (let same : new.kept ≡ mid.kept = one.1 in omega (arith, same));
  }
  notes_on known done.Halted one = off (sym one.0 ∙ ap (λ (k : Keeping S). k.halted) one.1 ∙ was.halted ∙ known)

  -- by one that has
  notes_still : has_unknown ds ≡ true → new ≡ mid → NotesAll old new (bs ++ batch ∷ []) (ds ++ done.Halted ∷ [])
  notes_still unknown same = record {
    answers = noted_halted bs ds batch unknown was.answers;
    halted = ap (λ (k : Keeping S). k.halted) same ∙ was.halted ∙ sym (known_behind ds done.Halted refl);
    counts = counts_now done.Halted (let kept : new.kept ≡ mid.kept = ap (λ (k : Keeping S). k.kept) same in omega (arith, kept));
  }

  pub one_noted : (d : Done) → IsNoted mid new batch d → (mid.halted ≡ true → new ≡ mid) → (mid.halted ≡ true → d ≡ done.Halted) → (u : Bool) → has_unknown ds ≡ u → NotesAll old new (bs ++ batch ∷ []) (ds ++ d ∷ [])
  one_noted d one halted later true e =
      let stopped = was.halted ∙ e in
      subst (λ x. NotesAll old new (bs ++ batch ∷ []) (ds ++ x ∷ [])) (sym (later stopped)) (notes_still e (halted stopped))
  one_noted d one halted later false e = notes_on e d one

---- The loop

pub none_left : {A : Type 0} (xs : List A) → length xs ≡ 0 → xs ≡ []
none_left [] e = refl
none_left (x ∷ xs) e = absurd (omega (arith, e))

-- nothing has changed, or the book read off the tables was kept
abbrev pub WasOwn : {S : Type 0} → Ghosts S → Keeping S → Keeping S → Type 0
WasOwn g old new = (new ≡ old) ⊎ KeepsBook g old (kept_book g old)

pub own_more : {S : Type 0} (g : Ghosts S) (old mid new : Keeping S) → IsUp g old → WasOwn g old mid → (IsUp g mid → WasOwn g mid new) → WasOwn g old new
own_more g old mid new up (inl same) one = subst (λ k. WasOwn g k new) same (one (subst (IsUp g) (sym same) up))
own_more g old mid new up (inr keeps) one = inr keeps

-- The batches behind have these answers, and these are left.
pub record Drove {S : Type 0} (g : Ghosts S) (old now : Keeping S) (whole left : List (List Taken)) (ds : List Done) : Type 0 where
  pub behind : List (List Taken)
  pub split : whole ≡ behind ++ left
  pub fit : IsFit g now → IsFit g old
  pub reached : IsFit g now → (b : Book) → KeepsBook g old b → old.halted ≡ false → Reached g old b now behind ds
  pub halted : old.halted ≡ true → now ≡ old
  pub later : old.halted ≡ true → ds ≡ all_halted behind
  pub count : length ds ≡ length behind
  pub noted : old.halted ≡ false → NotesAll old now behind ds
  pub opened : now.stored.opened ≡ old.stored.opened
  pub up : IsFit g now → IsUp g now → IsUp g old
  pub own : IsFit g now → IsUp g old → WasOwn g old now
  pub on : IsFit g now → HasGoneOn g old now
  pub given : IsFit g now → AreGivenUp (WasRefused g old now) (kept_book g old) behind ds
  pub counted : IsFit g now → IsCounted g old now (kept_book g old) behind ds

-- before the first batch
pub nothing_yet : {S : Type 0} (g : Ghosts S) (old : Keeping S) (b : Book) → KeepsBook g old b → old.halted ≡ false → Stands g old b old [] []
nothing_yet g old b keeps goes = (tt, record { halted = goes; book = λ _. keeps; still = λ _. keeps; counts = λ _. omega arith; stops = λ db may. inl (keeps.stops db may) })

pub none_yet : {S : Type 0} (g : Ghosts S) (old : Keeping S) (whole left : List (List Taken)) (ds : List Done) → whole ≡ left → ds ≡ [] → Drove g old old whole left ds
none_yet {S = S} g old whole left ds all none = record {
  behind = [];
  split = all;
  fit = λ h. h;
  reached = λ fit b keeps goes. subst (λ l. Reached g old b old [] l) (sym none) (nothing_yet g old b keeps goes, refl);
  halted = λ _. refl;
  later = λ _. none;
  count = ap length none;
  noted = λ goes. subst (λ l. NotesAll old old [] l) (sym none) (record { answers = tt; halted = goes; counts = omega arith });
  opened = refl;
  up = λ _ up. up;
  own = λ _ _. inl refl;
  on = λ _. gone_on_self g old;
  given = λ _. tt;
  counted = λ _. none_counted g old (kept_book g old) ds;
}

-- while the engine goes on and its connection is open, the book read off the tables is the one that the batches left
pub book_left : {S : Type 0} (g : Ghosts S) (old mid : Keeping S) (bs : List (List Taken)) (ds : List Done) → (old.halted ≡ true → mid ≡ old) → (old.halted ≡ false → NotesAll old mid bs ds) → (IsUp g mid → IsUp g old) → (IsUp g old → WasOwn g old mid)
    → ((b : Book) → KeepsBook g old b → old.halted ≡ false → Stands g old b mid bs ds) → mid.halted ≡ false → IsUp g mid → kept_book g mid ≡ after rules (kept_book g old) (kept_of bs ds)
book_left {S} g old mid bs ds halted noted above own stands goes up =
    let went : old.halted ≡ false = elim (cases_Bool old.halted) [
      | inl h ↦ off (sym (ap (λ (k : Keeping S). k.halted) (halted h) ∙ h) ∙ goes)
      | inr on ↦ on
    ] in
    elim (own (above up)) [
      | inl same ↦
          let counts : mid.kept ≡ old.kept + length (kept_of bs ds) = (noted went).counts in
          let kept : mid.kept ≡ old.kept = ap (λ (k : Keeping S). k.kept) same in
          let none = none_left (kept_of bs ds) (omega (arith, counts, kept)) in
          ap (kept_book g) same ∙ sym (ap (after rules (kept_book g old)) none)
      | inr keeps ↦ one_book g mid _ up ((stands (kept_book g old) keeps went).1.book (sym (noted went).halted ∙ goes))
    ]

book_here : {S : Type 0} (g : Ghosts S) (old mid : Keeping S) (whole now : List (List Taken)) (ds : List Done) (was : Drove g old mid whole now ds) → IsFit g mid → mid.halted ≡ false → IsUp g mid → kept_book g mid ≡ after rules (kept_book g old) (kept_of was.behind ds)
book_here g old mid whole now ds was fit = book_left g old mid was.behind ds was.halted was.noted (was.up fit) (was.own fit) (λ b keeps went. (was.reached fit b keeps went).0)

pub drove_more : {S : Type 0} (g : Ghosts S) (old mid new : Keeping S) (whole now left : List (List Taken)) (ds : List Done) (batch : List Taken) (d : Done) → now ≡ batch ∷ left → Drove g old mid whole now ds
    → (IsFit g new → IsFit g mid) → (IsFit g new → (b : Book) → KeepsBook g mid b → HasDone g mid new b batch d) → (IsFit g new → (b : Book) → KeepsBook g mid b → IsDoneFor g mid new b batch d) → (mid.halted ≡ true → new ≡ mid) → (mid.halted ≡ true → d ≡ done.Halted)
    → IsNoted mid new batch d → new.stored.opened ≡ mid.stored.opened → (IsFit g new → IsUp g new → IsUp g mid) → (IsFit g new → IsUp g mid → WasOwn g mid new)
    → (IsFit g new → HasGoneOn g mid new) → (IsFit g new → IsGivenUpFor (WasRefused g mid new) (kept_book g mid) batch d)
    → Drove g old new whole left (ds ++ d ∷ [])
drove_more {S = S} g old mid new whole now left ds batch d next was fit does why halted later noted opened up own on given = record {
  behind = was.behind ++ batch ∷ [];
  split = was.split ∙ ap (λ l. was.behind ++ l) next ∙ sym (append_assoc was.behind (batch ∷ []) left);
  fit = λ h. was.fit (fit h);
  reached = λ h b keeps goes. (let r = was.reached (fit h) b keeps goes in (
    one_more g old b mid new was.behind ds batch r.0 d (does h) halted later (has_unknown ds) refl,
    one_passes g old b mid new was.behind ds batch r.0 r.1 d (does h) (why h) halted later (has_unknown ds) refl,
  ));
  halted = λ h. halted (ap (λ (k : Keeping S). k.halted) (was.halted h) ∙ h) ∙ was.halted h;
  later = λ h. ap (λ x. ds ++ x ∷ []) (later (ap (λ (k : Keeping S). k.halted) (was.halted h) ∙ h)) ∙ all_halted_more was.behind ds batch (was.later h);
  count = length-append ds (d ∷ []) ∙ ap (λ n. n + 1) was.count ∙ sym (length-append was.behind (batch ∷ []));
  noted = λ goes. one_noted old mid new was.behind ds batch was.count (was.noted goes) d noted halted later (has_unknown ds) refl;
  opened = opened ∙ was.opened;
  up = λ h above. was.up (fit h) (up h above);
  own = λ h above. own_more g old mid new above (was.own (fit h) above) (own h);
  on = λ h. gone_on_then g old mid new (was.on (fit h)) (on h);
  given = λ h. given_up_then g old mid new (kept_book g old) was.behind ds batch d was.count (λ k cs w. refused_since g old mid new k cs (was.on (fit h)) w) (on h) later (book_here g old mid whole now ds was (fit h)) (was.given (fit h)) (given h);
  counted = λ h. counted_then g old mid new (kept_book g old) was.behind ds batch d was.count (was.on (fit h)).since (on h) later
      (book_here g old mid whole now ds was (fit h)) (was.counted (fit h)) (given h);
}

module _ {S : Type 0} (g : Ghosts S) (old new : Keeping S) (whole left : List (List Taken)) (ds : List Done) (drove : Drove g old new whole left ds) (none : left ≡ []) where
  all_behind : drove.behind ≡ whole
  all_behind = sym (drove.split ∙ ap (λ l. drove.behind ++ l) none ∙ append-nil drove.behind)

  pub drives : IsFit g new → (b : Book) → KeepsBook g old b → old.halted ≡ false → Drives g old new b whole ds
  drives fit b keeps goes =
      let all = subst (λ bs. Reached g old b new bs ds) all_behind (drove.reached fit b keeps goes) in
      record { answers = all.0.0; replies = replies_told old.kept b whole ds all.0.0; leads = all.0.1; passes = all.1 }

  pub all_later : old.halted ≡ true → ds ≡ all_halted whole
  all_later h = drove.later h ∙ ap all_halted all_behind

  pub all_given_up : IsFit g new → AreGivenUp (WasRefused g old new) (kept_book g old) whole ds
  all_given_up fit = subst (λ bs. AreGivenUp (WasRefused g old new) (kept_book g old) bs ds) all_behind (drove.given fit)

  pub all_failures : IsFit g new → IsCounted g old new (kept_book g old) whole ds
  all_failures fit = subst (λ bs. IsCounted g old new (kept_book g old) bs ds) all_behind (drove.counted fit)

  pub all_counted : length ds ≡ length whole
  all_counted = drove.count ∙ ap length all_behind

  pub all_noted : old.halted ≡ false → NotesAll old new whole ds
  all_noted goes = subst (λ bs. NotesAll old new bs ds) all_behind (drove.noted goes)

---- Books such as commands make

pub after_well : (b : Book) (l : List Command) → IsWell b → IsWell (after rules b l)
after_well b l well = record { sound = after_keeps rules b l reads_well_formed well.sound; orderly = orderly_after rules b l well.orderly }

-- what a stop leaves is found again
pub left_well : {S : Type 0} (g : Ghosts S) (old new : Keeping S) (b : Book) (batches : List (List Taken)) (dones : List Done) → IsWell b → LeadsTo g old new b (has_unknown dones) (kept_of batches dones) (in_hand batches dones)
    → (db : Trees) → (state_of g new.stored).may_leave db → IsLeft db b (kept_of batches dones) (in_hand batches dones)
left_well g old new b batches dones well leads db may =
    let kept = kept_of batches dones in
    let hand = in_hand batches dones in
    elim (leads.stops db may) [
      | inl before ↦ record { commands = kept; are = inl refl; file = before; well = after_well b kept well }
      | inr whole ↦ record { commands = kept ++ hand; are = inr refl; file = whole; well = after_well b (kept ++ hand) well }
    ]
