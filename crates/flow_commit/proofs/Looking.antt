-- What a board needn't look at: what becomes of it by a change, and behind a board.
use Rattle.std.proofs.Common.{◌≡◌, ◌⊎◌, inl, inr, ◌≤◌, ◌<◌, ◌+◌, ℕ, suc, Bool, true, false, cond, ◌&&◌, not, List, [], ◌∷◌, ◌++◌, length, filter, map, Option, Some, None, slice_set, ◌-◌, refl, sym, ap, ◌∙◌, subst, arith, true≢false}
use Rattle.std.specs.Prelude.{nat_eq, nat_le, nat_lt, if◌then◌else◌}
use Rattle.std.proofs.lemmas.Bool.{cases_Bool, leb-false, ltb-true, ltb-false}
use Rattle.sqlite_trees.specs.declared.store.Store.{Ghosts}
use Rattle.flow_base.specs.Keys.{Key}
use Rattle.flow_base.specs.declared.book.Change.{Change}
use Rattle.flow_base.specs.declared.book.Change.TheVariants.{AddRun, AddText, AddTurn, SetAttempt, SetText}
use Rattle.flow_base.specs.declared.book.OpenActivity.{OpenActivity}
use Rattle.flow_base.specs.declared.book.Run.{Run}
use Rattle.flow_base.specs.declared.book.Turn.{Turn}
use Rattle.flow_base.specs.declared.command.Reply.{Reply}
use Rattle.flow_base.specs.declared.effect.Effect.{Effect}
use Rattle.flow_base.specs.declared.effect.Effect.TheVariants.{Begins, OpensActivity, OpensTimer, EndsActivity, EndsTimer, Closes, Nothing}
use Rattle.flow_base.specs.declared.event.Cmd.{Cmd}
use Rattle.flow_base.specs.declared.event.Event.{Event}
use Rattle.flow_base.specs.Effects.{effect_of}
use Rattle.flow_model.specs.Apply.{Outcome}
use Rattle.flow_model.specs.Book.{Book, nth, changed, changed_by, at_attempt, unbegun_run, with_attempt, with_run, with_text, with_turn}
use Rattle.flow_model.specs.Open.{tasks_after, tasks_after_one, tasks_by, without}
use Rattle.flow_model.specs.Turned.{traces, turn_events}
use Rattle.flow_model.proofs.DueFirst.{Has}
use Rattle.flow_machine.specs.Deciding.{Decides}
use Rattle.flow_maps.specs.Agenda.{tasks_at, tasks_of}
use Rattle.flow_maps.specs.OfRuns.{is_run}
use Rattle.flow_maps.specs.Outlooks.{Waiting, is_by, is_within, outlook_of, ready_by, ready_within, waiting}
use Rattle.flow_maps.specs.Timers.{of_run}
use Rattle.flow_maps.specs.declared.outlook.BookWaits.{BookWaits}
use Rattle.flow_maps.proofs.Planning.{at_more, at_set}
use Rattle.flow_maps.proofs.Slots.{run_is}
use Rattle.flow_maps.proofs.Sooner.{at_waits, waits_at}
use Rattle.flow_tables.specs.Owned.{Stored, IsFit, IsUp, Follows, Keeps, kept_book, state_of}
use Rattle.flow_commit.specs.Boards.{AllWerePosted, AreAmong, WerePosted, draft_of, is_new, is_posted, since_all, since_changed, since_changes, since_next, since_one, sooner_of, tasks_of as tasks_in}
use Rattle.flow_commit.specs.Looking.{HasLooked, IfKept}
use Rattle.flow_commit.specs.declared.transaction.End.{End}
use Rattle.flow_commit.specs.declared.transaction.End.TheVariants as end
use Rattle.flow_commit.specs.declared.waiting.Draft.{Draft}
use Rattle.flow_commit.proofs.Following.{fit_before, keeps_behind, up_before}
use Rattle.flow_commit.proofs.Seating.{one_kept}

---- Moments

no_later : (n m : ℕ) → (sooner_of n m ≤ n) × (sooner_of n m ≤ m)
no_later n m = by (nat_lt m n) refl
  where
    by : (v : Bool) → nat_lt m n ≡ v → ((if v then m else n) ≤ n) × ((if v then m else n) ≤ m)
    by true is = let less = ltb-true m n is in (omega (arith, less), omega arith)
    by false is = (omega arith, ltb-false m n is)

one_no_later : (n : ℕ) (w : Waiting) → (since_one n w ≤ n) × (since_one n w ≤ w.1.ready)
one_no_later n w = no_later n w.1.ready

all_no_later : (n : ℕ) (ws : List Waiting) → since_all n ws ≤ n
all_no_later n [] = omega arith
all_no_later n (w ∷ ws) = let rest = all_no_later (since_one n w) ws in let first = (one_no_later n w).0 in omega (arith, rest, first)

none_sooner : (n : ℕ) (ws : List Waiting) (w : Waiting) → Has ws w → since_all n ws ≤ w.1.ready
none_sooner n [] w has = absurd has
none_sooner n (x ∷ ws) w (inl same) =
    let rest = all_no_later (since_one n x) ws in
    let first = (one_no_later n x).1 in
    let ready : w.1.ready ≡ x.1.ready = ap (λ (y : Waiting). y.1.ready) same in
    omega (arith, rest, first, ready)
none_sooner n (x ∷ ws) w (inr has) = none_sooner (since_one n x) ws w has

---- One run's activities

were_before : (posted : List Key) (since less n : ℕ) (ts : List OpenActivity) → less ≤ since → WerePosted posted since n ts → WerePosted posted less n ts
were_before posted since less n [] before were = tt
were_before posted since less n (t ∷ ts) before were = (λ sooner. were.0 (omega (arith, sooner, before)), were_before posted since less n ts before were.1)

were_one : (posted : List Key) (since n : ℕ) (ts : List OpenActivity) (t : OpenActivity) → WerePosted posted since n ts → Has ts t → t.ready < since → is_posted posted (n, t.event, t.attempt) ≡ true
were_one posted since n [] t were has = absurd has
were_one posted since n (x ∷ ts) t were (inl same) =
    subst (λ (y : OpenActivity). y.ready < since → is_posted posted (n, y.event, y.attempt) ≡ true) (sym same) were.0
were_one posted since n (x ∷ ts) t were (inr has) = were_one posted since n ts t were.1 has

were_all : (posted : List Key) (since n : ℕ) (ts : List OpenActivity) → ((t : OpenActivity) → Has ts t → t.ready < since → is_posted posted (n, t.event, t.attempt) ≡ true) → WerePosted posted since n ts
were_all posted since n [] each = tt
were_all posted since n (t ∷ ts) each = (each t (inl refl), were_all posted since n ts (λ x has. each x (inr has)))

were_on : (posted : List Key) (since n : ℕ) (ts ss : List OpenActivity) → WerePosted posted since n ts → WerePosted posted since n ss → WerePosted posted since n (ts ++ ss)
were_on posted since n [] ss first more = more
were_on posted since n (t ∷ ts) ss first more = (first.0, were_on posted since n ts ss first.1 more)

were_without : (posted : List Key) (since n m : ℕ) (ts : List OpenActivity) → WerePosted posted since n ts → WerePosted posted since n (without m ts)
were_without posted since n m [] were = tt
were_without posted since n m (t ∷ ts) were = by (not (nat_eq t.event m)) (were_without posted since n m ts were.1)
  where
    by : (v : Bool) → WerePosted posted since n (without m ts) → WerePosted posted since n (cond v (t ∷ without m ts) (without m ts))
    by true rest = (were.0, rest)
    by false rest = rest

were_by : (posted : List Key) (since n id at : ℕ) (ts : List OpenActivity) (e : Effect) → since ≤ at → WerePosted posted since n ts → WerePosted posted since n (tasks_by ts id at e)
were_by posted since n id at ts Begins late were = were
were_by posted since n id at ts OpensActivity late were =
    were_on posted since n ts (record { event = id; attempt = 1; ready = at } ∷ []) were (λ sooner. absurd (omega (arith, sooner, late)), tt)
were_by posted since n id at ts (OpensTimer due) late were = were
were_by posted since n id at ts (EndsActivity m) late were = were_without posted since n m ts were
were_by posted since n id at ts (EndsTimer m) late were = were
were_by posted since n id at ts (Closes s) late were = tt
were_by posted since n id at ts Nothing late were = were

-- all events of a turn are of its moment
abbrev AreAt : ℕ → List Event → Type 0
AreAt at [] = Unit {0}
AreAt at (e ∷ es) = (e.at ≡ at) × AreAt at es

traces_at : (n at : ℕ) (cs : List Cmd) → AreAt at (traces n at cs)
traces_at n at [] = tt
traces_at n at (c ∷ cs) = (refl, traces_at (n + 1) at cs)

were_after : (posted : List Key) (since n at : ℕ) (ts : List OpenActivity) (es : List Event) → since ≤ at → AreAt at es → WerePosted posted since n ts → WerePosted posted since n (tasks_after ts es)
were_after posted since n at ts [] late all were = were
were_after posted since n at ts (e ∷ es) late all were =
    were_after posted since n at (tasks_after_one ts e) es late all.1 (were_by posted since n e.id e.at ts (effect_of e.what) (omega (arith, late, all.0)) were)

were_turned : (posted : List Key) (since n : ℕ) (r : Run) (t : Turn) → since ≤ t.at → WerePosted posted since n r.tasks → WerePosted posted since n (with_turn t r).tasks
were_turned posted since n r t late were =
    were_after posted since n t.at r.tasks (turn_events (length r.history + 1) t.at t.input t.commands) late (refl, traces_at (length r.history + 1 + 1) t.at t.commands) were

abbrev Was : List Key → ℕ → ℕ → OpenActivity → Type 0
Was posted since n t = t.ready < since → is_posted posted (n, t.event, t.attempt) ≡ true

were_attempted : (posted : List Key) (since n event attempt ready : ℕ) (ts : List OpenActivity) → since ≤ ready → WerePosted posted since n ts → WerePosted posted since n (map (at_attempt event attempt ready) ts)
were_attempted posted since n event attempt ready [] late were = tt
were_attempted posted since n event attempt ready (t ∷ ts) late were = (by (nat_eq t.event event), were_attempted posted since n event attempt ready ts late were.1)
  where
    by : (v : Bool) → Was posted since n (if v then record { event = t.event; attempt = attempt; ready = ready } else t)
    by true sooner = absurd (omega (arith, sooner, late))
    by false sooner = were.0 sooner

---- A book that is changed

module _ (posted : List Key) (b : Book) where
  -- one run has another list
  of_one : (since run : ℕ) (g h : ℕ → List OpenActivity) (ts : List OpenActivity) → ((n : ℕ) → h n ≡ cond (is_run run n) ts (g n)) → ((n : ℕ) → is_run run n ≡ true → WerePosted posted since n ts)
      → ((n : ℕ) → WerePosted posted since n (g n)) → (n : ℕ) → WerePosted posted since n (h n)
  of_one since run g h ts are own others n = subst (WerePosted posted since n) (sym (are n)) (by (is_run run n) refl)
    where
      by : (v : Bool) → is_run run n ≡ v → WerePosted posted since n (cond v ts (g n))
      by true is = own n is
      by false is = others n

  abbrev made : ℕ → (Run → Run) → Option Run → Book
  made run f o = elim o [ None ↦ b | Some r ↦ record b { runs = slice_set b.runs (run - 1) (f r) } ]

  of_run_changed : (since run : ℕ) (f : Run → Run) → ((n : ℕ) (r : Run) → WerePosted posted since n r.tasks → WerePosted posted since n (f r).tasks) → AllWerePosted posted since b → AllWerePosted posted since (with_run b run f)
  of_run_changed since run f on were = by (nth b.runs run) refl
    where
      by : (o : Option Run) → nth b.runs run ≡ o → AllWerePosted posted since (made run f o)
      by None is = were
      by (Some r) is =
          of_one since run (tasks_at b) (tasks_at (made run f (Some r))) (f r).tasks (at_set tasks_of b.runs run r (f r) is)
          (λ n own. on n r (subst (λ m. WerePosted posted since m r.tasks) (run_is run n own) (subst (λ o. WerePosted posted since run (of_run tasks_of o)) is (were run)))) were

  were_changed : (since : ℕ) (c : Change) → AllWerePosted posted since b → AllWerePosted posted (since_changed since c) (changed b c)
  were_changed since (AddText body) were = were
  were_changed since (AddRun flow request text t) were =
      let less = no_later since t.at in
      let new : Run = with_turn t (unbegun_run flow request text) in
      of_one (sooner_of since t.at) (suc (length b.runs)) (tasks_at b) (tasks_at (changed b (AddRun flow request text t))) new.tasks (at_more tasks_of b.runs new)
      (λ n own. were_turned posted (sooner_of since t.at) n (unbegun_run flow request text) t less.1 tt) (λ n. were_before posted since (sooner_of since t.at) n (tasks_at b n) less.0 (were n))
  were_changed since (AddTurn run t) were =
      let less = no_later since t.at in
      of_run_changed (sooner_of since t.at) run (with_turn t) (λ n r had. were_turned posted (sooner_of since t.at) n r t less.1 had) (λ n. were_before posted since (sooner_of since t.at) n (tasks_at b n) less.0 (were n))
  were_changed since (SetAttempt run event attempt ready) were =
      let less = no_later since ready in
      of_run_changed (sooner_of since ready) run (with_attempt event attempt ready) (λ n r had. were_attempted posted (sooner_of since ready) n event attempt ready r.tasks less.1 had) (λ n. were_before posted since (sooner_of since ready) n (tasks_at b n) less.0 (were n))
  were_changed since (SetText run text) were = of_run_changed since run (with_text text) (λ n r had. had) were

pub were_changed_by : (posted : List Key) (b : Book) (since : ℕ) (cs : List Change) → AllWerePosted posted since b → AllWerePosted posted (since_changes since cs) (changed_by b cs)
were_changed_by posted b since [] were = were
were_changed_by posted b since (c ∷ cs) were = were_changed_by posted (changed b c) (since_changed since c) cs (were_changed posted b since c were)

-- what one more command has changed
pub were_decided : (posted : List Key) (old new : Book) (reply : Reply) (changes : List Change) (o : Outcome) (since next : ℕ) → Decides old new reply changes o → next ≡ since_changes since changes → AllWerePosted posted since old → AllWerePosted posted next new
were_decided posted old new reply changes o since next decides is were =
    subst (λ m. AllWerePosted posted m new) (sym (is ∙ ap (since_changes since) decides.changes_are)) (subst (AllWerePosted posted (since_changes since o.changes)) (sym decides.book_is) (were_changed_by posted old since o.changes were))

---- A board

waits_posted : (posted : List Key) (since : ℕ) (b : Book) → AllWerePosted posted since b → (w : Waiting) → Has (waiting b) w → w.1.ready < since → is_new posted w ≡ false
waits_posted posted since b were w has sooner = ap not (were_one posted since w.0 (tasks_at b w.0) w.1 (were w.0) (waits_at b w has) sooner)

-- what was posted is new to nobody, whether it is looked at or not
same_new : (posted : List Key) (since at : ℕ) (ws : List Waiting) → ((w : Waiting) → Has ws w → w.1.ready < since → is_new posted w ≡ false) → filter (is_new posted) (filter (is_within since at) ws) ≡ filter (is_new posted) (filter (is_by at) ws)
same_new posted since at [] told = refl
same_new posted since at (w ∷ ws) told =
    let rest = same_new posted since at ws (λ x has. told x (inr has)) in elim (cases_Bool (nat_le since w.1.ready)) [
      | inl late ↦ ap (λ v. fresh (cond (v && is_by at w) (w ∷ within) within)) late ∙ here rest (is_by at w)
      | inr early ↦
          let less = leb-false since w.1.ready early in
          let none : is_new posted w ≡ false = told w (inl refl) (omega (arith, less)) in
          ap (λ v. fresh (cond (v && is_by at w) (w ∷ within) within)) early ∙ rest ∙ sym (gone none (is_by at w))
    ]
  where
    fresh : List Waiting → List Waiting
    fresh vs = filter (is_new posted) vs

    within : List Waiting
    within = filter (is_within since at) ws

    soon : List Waiting
    soon = filter (is_by at) ws

    here : fresh within ≡ fresh soon → (v : Bool) → fresh (cond v (w ∷ within) within) ≡ fresh (cond v (w ∷ soon) soon)
    here rest true = ap (λ vs. cond (is_new posted w) (w ∷ vs) vs) rest
    here rest false = rest

    gone : is_new posted w ≡ false → (v : Bool) → fresh (cond v (w ∷ soon) soon) ≡ fresh soon
    gone none true = ap (λ n. cond n (w ∷ fresh soon) (fresh soon)) none
    gone none false = refl

pub looked_same : (posted : List Key) (since at : ℕ) (b : Book) → AllWerePosted posted since b → filter (is_new posted) (ready_within since at b) ≡ filter (is_new posted) (ready_by at b)
looked_same posted since at b were = same_new posted since at (waiting b) (waits_posted posted since b were)

has_kept : (p : Waiting → Bool) (ws : List Waiting) (w : Waiting) → Has ws w → p w ≡ true → Has (filter p ws) w
has_kept p [] w has is = absurd has
has_kept p (x ∷ ws) w (inl same) is = subst (λ v. Has (cond v (x ∷ filter p ws) (filter p ws)) w) (sym (ap p (sym same) ∙ is)) (inl same)
has_kept p (x ∷ ws) w (inr has) is = by (p x) (has_kept p ws w has is)
  where
    by : (v : Bool) → Has (filter p ws) w → Has (cond v (x ∷ filter p ws) (filter p ws)) w
    by true more = inr more
    by false more = more

module _ (posted : List Key) (at : ℕ) (b : Book) where
  abbrev named : List Waiting
  named = filter (is_new posted) (ready_by at b)

  by_then : (t : OpenActivity) → t.ready < since_all (at + 1) named → nat_le t.ready at ≡ true
  by_then t sooner = elim (cases_Bool (nat_le t.ready at)) [
    | inl is ↦ is
    | inr late ↦
        let after = leb-false t.ready at late in
        let before = all_no_later (at + 1) named in
        absurd (omega (arith, after, sooner, before))
  ]

  was_posted : (n : ℕ) (t : OpenActivity) → Has (tasks_at b n) t → t.ready < since_all (at + 1) named → (v : Bool) → is_posted posted (n, t.event, t.attempt) ≡ v → is_posted posted (n, t.event, t.attempt) ≡ true
  was_posted n t has sooner true is = is
  was_posted n t has sooner false is =
      let there : Has named (n, t) = has_kept (is_new posted) (ready_by at b) (n, t) (has_kept (is_by at) (waiting b) (n, t) (at_waits b n t has) (by_then t sooner)) (ap not is) in
      let least = none_sooner (at + 1) named (n, t) there in
      absurd (omega (arith, least, sooner))

  -- behind a board all that is ready before the next moment was posted, but for what it names
  pub looked_after : AllWerePosted posted (since_next posted at b) b
  looked_after n = were_all posted (since_next posted at b) n (tasks_at b n) (λ t has sooner. was_posted n t has sooner (is_posted posted (n, t.event, t.attempt)) refl)

-- what is read of what waits, and of what it names, is the draft
pub draft_is : (posted : List Key) (since at : ℕ) (b : Book) (o : BookWaits) (new : List Waiting) (d : Draft) → AllWerePosted posted since b → o ≡ outlook_of since at b → new ≡ filter (is_new posted) o.ready
    → d.tasks ≡ tasks_in b new → d.due ≡ o.due → d.open_runs ≡ o.open_runs → d.since ≡ since_all (at + 1) new → d ≡ draft_of posted at b
draft_is posted since at b o new d were waits is tasks due open_runs next =
    let named : new ≡ filter (is_new posted) (ready_by at b) = is ∙ ap (λ (v : BookWaits). filter (is_new posted) v.ready) waits ∙ looked_same posted since at b were in
    λ i. record {
      tasks = (tasks ∙ ap (tasks_in b) named) i;
      due = (due ∙ ap (λ (v : BookWaits). v.due) waits) i;
      open_runs = (open_runs ∙ ap (λ (v : BookWaits). v.open_runs) waits) i;
      since = (next ∙ ap (since_all (at + 1)) named) i;
    }

-- a list of nothing
pub none_there : (ws : List Waiting) → length ws ≡ 0 → ws ≡ []
none_there [] none = refl
none_there (w ∷ ws) none = absurd (omega (arith, none))

---- The keeper

pub among_self : (posted : List Key) → AreAmong posted posted
among_self posted q is = is

pub none_among : (posted : List Key) → AreAmong [] posted
none_among posted q is = absurd (true≢false (sym is))

never_sooner : (posted : List Key) (n : ℕ) (ts : List OpenActivity) → WerePosted posted 0 n ts
never_sooner posted n [] = tt
never_sooner posted n (t ∷ ts) = (λ sooner. absurd (omega (arith, sooner)), never_sooner posted n ts)

module _ {S : Type 0} (g : Ghosts S) where
  -- where all is looked at
  pub none_looked : (t : Stored S) (posted : List Key) → HasLooked g t 0 posted
  none_looked t posted fit up b keeps n = never_sooner posted n (tasks_at b n)

  -- of the one book that an open connection keeps
  pub looked_at : (t : Stored S) (since : ℕ) (posted : List Key) (first : Book) → (IsFit g t → IsUp g t → Keeps (state_of g t) first × AllWerePosted posted since first) → HasLooked g t since posted
  looked_at t since posted first one fit up b keeps = let it = one fit up in subst (AllWerePosted posted since) (one_kept g t first b up it.0 keeps) it.1

  -- it stays so
  pub looked_behind : (old new : Stored S) (since : ℕ) (posted : List Key) → Follows g old new → (IsFit g new → IsUp g old → Keeps (state_of g old) (kept_book g old)) → HasLooked g old since posted → HasLooked g new since posted
  looked_behind old new since posted follows own looked = looked_at new since posted (kept_book g old) (λ fit up.
      let was_up = up_before g old new follows fit up in
      let held = own fit was_up in (
        keeps_behind g old new follows fit (kept_book g old) held,
        looked (fit_before g old new follows fit) was_up (kept_book g old) held,
      ))

  -- behind a board
  pub looked_next : (old new : Stored S) (posted : List Key) (at : ℕ) (d : Draft) → Follows g old new → (IsFit g new → IsUp g old → Keeps (state_of g old) (kept_book g old))
      → (IsFit g new → (b : Book) → Keeps (state_of g old) b → d ≡ draft_of posted at b) → HasLooked g new d.since posted
  looked_next old new posted at d follows own made = looked_at new d.since posted (kept_book g old) (λ fit up.
      let held = own fit (up_before g old new follows fit up) in (
        keeps_behind g old new follows fit (kept_book g old) held,
        subst (λ m. AllWerePosted posted m (kept_book g old)) (sym (ap (λ (x : Draft). x.since) (made fit (kept_book g old) held))) (looked_after posted at (kept_book g old)),
      ))

---- How a transaction ends

pub never_kept : (holds : Type 0) (e : End) → IfKept ⊥ e → IfKept holds e
never_kept holds (end.Kept rs) none = absurd none
never_kept holds (end.Refused f) none = tt
never_kept holds (end.Unknown f _) none = tt
