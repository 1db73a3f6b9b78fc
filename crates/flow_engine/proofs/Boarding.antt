-- What boards leave of an engine, and batches with boards in between.
use Rattle.std.proofs.Common.{◌≡◌, inl, Bool, true, false, List, [], ◌∷◌, ◌++◌, refl, sym, ap, ◌∙◌, subst}
use Rattle.std.proofs.lemmas.List.{map-append}
use Rattle.sqlite_trees.specs.declared.store.Store.{Ghosts}
use Rattle.flow_model.specs.Book.{Book}
use Rattle.flow_model.specs.Apply.{after}
use Rattle.flow_model.proofs.Logs.{after_cut}
use Rattle.flow_base.specs.declared.submission.Taken.{Taken}
use Rattle.flow_tables.specs.Owned as tables
use Rattle.flow_commit.specs.Keeping.{Keeping, rules, IsFit, IsUp, KeepsBook}
use Rattle.flow_commit.proofs.Following as following
use Rattle.flow_commit.proofs.Following.{keeps_behind}
use Rattle.flow_engine.specs.declared.done.Done.{Done}
use Rattle.flow_engine.specs.declared.done.Done.TheVariants as done
use Rattle.flow_engine.specs.Answering.{Follows}
use Rattle.flow_engine.specs.Boarding.{IsStill, PassesBoarded, RunsBoarded, Serves}
use Rattle.flow_engine.specs.Driving.{HasDone, IsDoneFor, Passes, Runs, all_halted, has_unknown, if_kept, kept_of}
use Rattle.flow_engine.proofs.Gathering.{replies_told}
use Rattle.flow_engine.proofs.Joining.{passes_halted, stands_join, stands_stays}
use Rattle.flow_engine.proofs.OneMore.{Stands, WasOwn, nothing_yet, own_more}

module _ {S : Type 0} (g : Ghosts S) where
  pub follows_self : (k : Keeping S) → Follows g k k
  follows_self k = (refl, λ fit. fit)

  pub follows_then : (a b c : Keeping S) → Follows g a b → Follows g b c → Follows g a c
  follows_then a b c p q = (q.0 ∙ p.0, λ fit. p.1 (q.1 fit))

  pub still_self : (k : Keeping S) → IsStill g k k
  still_self k = record {
    log = refl;
    found = refl;
    halted = refl;
    kept = refl;
    nothing = λ _. refl;
    follows = follows_self k;
    stored = following.follows_self g k.stored;
    own = λ _ _. inl refl;
  }

  -- by what a call says that keeps all
  pub board_still : (old new : Keeping S) → (new.halted ≡ old.halted) × (new.kept ≡ old.kept) × (new.found ≡ old.found) × (new.log ≡ old.log) → tables.Follows g old.stored new.stored → (IsFit g new → IsFit g old)
      → (IsFit g new → IsUp g old → WasOwn g old new) → (old.halted ≡ true → new ≡ old) → IsStill g old new
  board_still old new same stored fit own nothing = record {
    log = same.3;
    found = same.2;
    halted = same.0;
    kept = same.1;
    nothing = nothing;
    follows = (stored.0, fit);
    stored = stored;
    own = own;
  }

  pub still_then : (a b c : Keeping S) → IsStill g a b → IsStill g b c → IsStill g a c
  still_then a b c p q = record {
    log = q.log ∙ p.log;
    found = q.found ∙ p.found;
    halted = q.halted ∙ p.halted;
    kept = q.kept ∙ p.kept;
    nothing = λ h. q.nothing (p.halted ∙ h) ∙ p.nothing h;
    follows = follows_then a b c p.follows q.follows;
    stored = following.follows_then g a.stored b.stored c.stored p.stored q.stored;
    own = λ fit up. own_more g a b c up (p.own (q.follows.1 fit) up) (q.own fit);
  }

  ---- From engine to engine

  -- Between batches that were driven no board was asked for.
  passes_boarded : (old new : Keeping S) (b : Book) (bs : List (List Taken)) (ds : List Done) → Passes g old new b bs ds → PassesBoarded g old new b bs ds
  passes_boarded old new b [] [] same = subst (IsStill g old) (sym same) (still_self old)
  passes_boarded old new b [] (d ∷ ds) none = absurd none
  passes_boarded old new b (x ∷ bs) [] none = absurd none
  passes_boarded old new b (x ∷ bs) (d ∷ ds) h =
      (h.0, record { asked = old; still = still_self old; does = h.1; cause = h.2 }, passes_boarded h.0 new (after rules b (if_kept x d)) bs ds h.3)

  -- one batch more
  one_behind : (old mid new : Keeping S) (b : Book) (bs : List (List Taken)) (ds : List Done) (batch : List Taken) (d : Done) → PassesBoarded g old mid b bs ds
      → HasDone g mid new (after rules b (kept_of bs ds)) batch d → IsDoneFor g mid new (after rules b (kept_of bs ds)) batch d → PassesBoarded g old new b (bs ++ batch ∷ []) (ds ++ d ∷ [])
  one_behind old mid new b [] [] batch d still has why = (new, record { asked = mid; still = still; does = has; cause = why }, still_self new)
  one_behind old mid new b [] (y ∷ ds) batch d passes has why = absurd passes
  one_behind old mid new b (x ∷ bs) [] batch d passes has why = absurd passes
  one_behind old mid new b (x ∷ bs) (y ∷ ds) batch d passes has why =
      let later = after_cut rules b (if_kept x y) (kept_of bs ds) in
      let over = after rules b (if_kept x y) in
      let rest = one_behind passes.0 mid new over bs ds batch d passes.2 (subst (λ k. HasDone g mid new k batch d) later has) (subst (λ k. IsDoneFor g mid new k batch d) later why) in
      (passes.0, passes.1, rest)

  -- a board behind them
  pub still_behind : (old mid new : Keeping S) (b : Book) (bs : List (List Taken)) (ds : List Done) → PassesBoarded g old mid b bs ds → IsStill g mid new → PassesBoarded g old new b bs ds
  still_behind old mid new b [] [] first more = still_then old mid new first more
  still_behind old mid new b [] (y ∷ ds) passes more = absurd passes
  still_behind old mid new b (x ∷ bs) [] passes more = absurd passes
  still_behind old mid new b (x ∷ bs) (y ∷ ds) passes more = (passes.0, passes.1, still_behind passes.0 mid new (after rules b (if_kept x y)) bs ds passes.2 more)

  -- and one before them
  still_before : (old mid new : Keeping S) (b : Book) (bs : List (List Taken)) (ds : List Done) → IsStill g old mid → PassesBoarded g mid new b bs ds → PassesBoarded g old new b bs ds
  still_before old mid new b [] [] still passes = still_then old mid new still passes
  still_before old mid new b [] (y ∷ ds) still passes = absurd passes
  still_before old mid new b (x ∷ bs) [] still passes = absurd passes
  still_before old mid new b (x ∷ bs) (y ∷ ds) still passes =
      let first = passes.1 in
      (passes.0, record { asked = first.asked; still = still_then old mid first.asked still first.still; does = first.does; cause = first.cause }, passes.2)

  boarded_join : (old mid new : Keeping S) (b : Book) (bs cs : List (List Taken)) (ds es : List Done) → PassesBoarded g old mid b bs ds → PassesBoarded g mid new (after rules b (kept_of bs ds)) cs es → PassesBoarded g old new b (bs ++ cs) (ds ++ es)
  boarded_join old mid new b [] cs [] es still more = still_before old mid new b cs es still more
  boarded_join old mid new b [] cs (y ∷ ds) es passes more = absurd passes
  boarded_join old mid new b (x ∷ bs) cs [] es passes more = absurd passes
  boarded_join old mid new b (x ∷ bs) cs (y ∷ ds) es passes more =
      let over = subst (λ k. PassesBoarded g mid new k cs es) (after_cut rules b (if_kept x y) (kept_of bs ds)) more in
      (passes.0, passes.1, boarded_join passes.0 mid new (after rules b (if_kept x y)) bs cs ds es passes.2 over)

  -- One batch more, from the engine that the others have led to.
  pub one_passed : (old mid new : Keeping S) (b : Book) (bs : List (List Taken)) (ds : List Done) (batch : List Taken) → Stands g old b mid bs ds → PassesBoarded g old mid b bs ds
      → (d : Done) → ((k : Book) → KeepsBook g mid k → HasDone g mid new k batch d) → ((k : Book) → KeepsBook g mid k → IsDoneFor g mid new k batch d) → (mid.halted ≡ true → new ≡ mid) → (mid.halted ≡ true → d ≡ done.Halted)
      → (u : Bool) → has_unknown ds ≡ u → PassesBoarded g old new b (bs ++ batch ∷ []) (ds ++ d ∷ [])
  one_passed old mid new b bs ds batch was passes d does why halted later true e =
      let stopped = was.1.halted ∙ e in
      subst (λ x. PassesBoarded g old new b (bs ++ batch ∷ []) (ds ++ x ∷ [])) (sym (later stopped)) (one_behind old mid new b bs ds batch done.Halted passes (stopped, halted stopped) tt)
  one_passed old mid new b bs ds batch was passes d does why halted later false e =
      let keeps = was.1.book e in
      one_behind old mid new b bs ds batch d passes (does (after rules b (kept_of bs ds)) keeps) (why (after rules b (kept_of bs ds)) keeps)

  ---- Calls

  -- a board over an engine that goes on
  pub stands_on : (old mid new : Keeping S) (b : Book) (bs : List (List Taken)) (ds : List Done) → IsStill g mid new → mid.halted ≡ false → IsFit g new → Stands g old b mid bs ds → Stands g old b new bs ds
  stands_on old mid new b bs ds still goes fit s =
      let book = keeps_behind g mid.stored new.stored still.stored fit (after rules b (kept_of bs ds)) (s.1.book (sym s.1.halted ∙ goes)) in (
        s.0,
        record { halted = still.halted ∙ s.1.halted; book = λ _. book; counts = λ known. still.kept ∙ s.1.counts known; still = λ _. book; stops = λ db may. inl (book.stops db may) },
      )

  -- what has served, by where it stands and how it went there
  pub serves_by : (old new : Keeping S) (b : Book) (bs : List (List Taken)) (ds : List Done) → Stands g old b new bs ds → PassesBoarded g old new b bs ds → Serves g old new b bs ds
  serves_by old new b bs ds stands passes = record { answers = stands.0; replies = replies_told old.kept b bs ds stands.0; leads = stands.1; passes = passes }

  -- It is a call without batches.
  pub board_runs : (old new : Keeping S) → IsStill g old new → RunsBoarded g old new [] []
  board_runs old new still = record {
    opened = still.follows.0;
    fit = still.follows.1;
    serves = λ fit b keeps goes. serves_by old new b [] [] (stands_on old old new b [] [] still goes fit (nothing_yet g old b keeps goes)) still;
    still = λ h. (still.nothing h, refl);
  }

  pub driven_runs : (old new : Keeping S) (bs : List (List Taken)) (ds : List Done) → Runs g old new bs ds → RunsBoarded g old new bs ds
  driven_runs old new bs ds runs = record {
    opened = runs.opened;
    fit = runs.fit;
    serves = λ fit b keeps goes. (let d = runs.drives fit b keeps goes in serves_by old new b bs ds (d.answers, d.leads) (passes_boarded old new b bs ds d.passes));
    still = runs.still;
  }

  serves_join : (old mid new : Keeping S) (b : Book) (bs cs : List (List Taken)) (ds es : List Done) → IsFit g new → RunsBoarded g mid new cs es → Serves g old mid b bs ds → (u : Bool) → has_unknown ds ≡ u → Serves g old new b (bs ++ cs) (ds ++ es)
  serves_join old mid new b bs cs ds es fit two one true unknown =
      let stopped = one.leads.halted ∙ unknown in
      let still = two.still stopped in
      let over = after rules b (kept_of bs ds) in
      let none = passes_boarded mid new over cs (all_halted cs) (passes_halted g mid new over cs stopped still.0) in
      serves_by old new b (bs ++ cs) (ds ++ es) (stands_stays g old mid new b bs cs ds es (one.answers, one.leads) unknown still.0 still.1)
      (boarded_join old mid new b bs cs ds es one.passes (subst (λ l. PassesBoarded g mid new over cs l) (sym still.1) none))
  serves_join old mid new b bs cs ds es fit two one false known =
      let more = two.serves fit (after rules b (kept_of bs ds)) (one.leads.book known) (one.leads.halted ∙ known) in
      serves_by old new b (bs ++ cs) (ds ++ es) (stands_join g old mid new b bs cs ds es (one.answers, one.leads) known (more.answers, more.leads))
      (boarded_join old mid new b bs cs ds es one.passes more.passes)

  pub boarded_calls_join : (old mid new : Keeping S) (bs cs : List (List Taken)) (ds es : List Done) → RunsBoarded g old mid bs ds → RunsBoarded g mid new cs es → RunsBoarded g old new (bs ++ cs) (ds ++ es)
  boarded_calls_join old mid new bs cs ds es one two = record {
    opened = two.opened ∙ one.opened;
    fit = λ h. one.fit (two.fit h);
    serves = λ h b keeps goes. serves_join old mid new b bs cs ds es h two (one.serves (two.fit h) b keeps goes) (has_unknown ds) refl;
    still = λ h. (
        let was = one.still h in
        let same : mid ≡ old = was.0 in
        let later = two.still (ap (λ (k : Keeping S). k.halted) same ∙ h) in
        (later.0 ∙ same, ap (λ l. l ++ es) was.1 ∙ ap (λ l. all_halted bs ++ l) later.1 ∙ sym (map-append (λ _. done.Halted) bs cs))
        );
  }
