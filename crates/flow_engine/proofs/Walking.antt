-- Lives as steps of the world.
use Rattle.std.proofs.Common.{◌≡◌, inl, inr, ⊎_elim, ℕ, zero, suc, ◌+◌, ◌-◌, ◌≤◌, true, false, List, [], ◌∷◌, ◌++◌, length, map, take, drop, refl, sym, ap, ◌∙◌, subst, arith, append-nil, append_assoc, length-append, le-leb}
use Rattle.std.specs.Prelude.{◌⊎◌, ◌≢◌, nat_eq, nat_le, Contains}
use Rattle.std.specs.List.{AllByRecursion}
use Rattle.std.proofs.Math.Logic.{∥∥₁_elim, ∥∥₁_map}
use Rattle.std.proofs.lemmas.Bool.Decides.{eqb_tells}
use Rattle.std.proofs.lemmas.List.{length-map, map-append}
use Rattle.std.proofs.lemmas.List.Elements.{Contains-append_left, Contains-append_right}
use Rattle.sqlite_trees.specs.declared.store.Store.{Ghosts}
use Rattle.flow_base.specs.declared.command.Command.{Command}
use Rattle.flow_base.specs.declared.submission.Taken.{Taken}
use Rattle.flow_base.specs.declared.submission.Receipt.{Receipt}
use Rattle.flow_model.specs.Apply.{after, after_one, replies}
use Rattle.flow_model.specs.Book.{Book}
use Rattle.flow_model.specs.Logs.{Entry, entry, entered, its_command, commands_in, after_log, log_replies}
use Rattle.flow_model.proofs.Logs.{after_log_cut, log_replies_cut, length-log_replies, after_one_limit, replies_one_limit}
use Rattle.flow_model.specs.World.{Stage, Idle, Writing, Committing, Halted, World, first, Step, Submit, Take, WriteFails, CommitBegins, CommitDone, CommitFails, Publish, Crash, Reopen, Migrate, taken, stopped, migrated, batch_limit, receipts_from, Comes, IsSafe, WorldIsSafe}
use Rattle.flow_model.specs.World as world
use Rattle.flow_model.specs.Sound.{IsSound}
use Rattle.flow_commit.specs.Keeping.{IsWell, rules, command_of, commands_of, receipt_of, receipts_of}
use Rattle.flow_recover.proofs.Recovering.{one_held}
use Rattle.flow_engine.specs.declared.done.Done.{Done}
use Rattle.flow_engine.specs.declared.done.Done.TheVariants as done
use Rattle.flow_engine.specs.Driving.{AreAnswers, all_halted, kept_of, in_hand, receipts_told}
use Rattle.flow_engine.specs.Headline.{Life, Lived, Served, Refused, seen, IsLife, Begins, Continues, Lives}
use Rattle.flow_engine.specs.Worlds.{given_at, IsTakenAtOnce, AreGathered, EndsIn, AreSteps, LivesAreSteps}
use Rattle.flow_engine.proofs.Gathering.{none_kept_of_halted, no_hand_of_halted}
use Rattle.flow_engine.proofs.Lives as lives
use Rattle.flow_engine.proofs.Lives.{IsAnswered, StandsOver}
use Rattle.flow_engine.proofs.Same.{Decided, same_book}

---- Lists

drop_front : {A : Type 0} (xs ys : List A) → drop (length xs) (xs ++ ys) ≡ ys
drop_front [] ys = refl
drop_front (x ∷ xs) ys = drop_front xs ys

take_whole : {A : Type 0} (xs : List A) → take (length xs) xs ≡ xs
take_whole [] = refl
take_whole (x ∷ xs) = ap (λ l. x ∷ l) (take_whole xs)

drop_whole : {A : Type 0} (xs : List A) → drop (length xs) xs ≡ []
drop_whole [] = refl
drop_whole (x ∷ xs) = drop_whole xs

in_one : {A : Type 0} (x : A) → Contains (x ∷ []) x
in_one x = (0, omega arith, refl)

same_number : (n : ℕ) → nat_eq n n ≡ true
same_number n = ⊎_elim (λ (t : (nat_eq n n ≡ true) × (n ≡ n)). t.0) (λ (t : (nat_eq n n ≡ false) × (n ≢ n)). absurd (t.1 refl)) (eqb_tells n n)

---- The log

-- these commands as they stand in it
abbrev pub logged : List Command → List Entry
logged cs = entered rules.limit cs

asked_are : (cs : List Command) → commands_in (logged cs) ≡ cs
asked_are [] = refl
asked_are (c ∷ cs) = ap (λ l. c ∷ l) (asked_are cs)

-- a log and more commands behind it
behind : (b : Book) (log : List Entry) (cs : List Command) → after_log rules b (log ++ logged cs) ≡ after rules (after_log rules b log) cs
behind b log cs = after_log_cut rules b log (logged cs) ∙ after_one_limit rules rules.limit (after_log rules b log) cs

---- Steps

comes_on : (w x y : World) (ss ts : List Step) → Comes rules w ss x → Comes rules x ts y → Comes rules w (ss ++ ts) y
comes_on w x y [] ts a c = subst (λ z. Comes rules z ts y) a c
comes_on w x y (s ∷ ss) ts a c = (a.0, (a.1.0, comes_on a.0 x y ss ts a.1.1 c))

-- a world in which nobody waits, but for these commands in the inbox
abbrev pub under : ℕ → Book → List Command → List Entry → List Entry → List Book → ℕ → List world.Receipt → Stage → World
under limit b inbox log batch may opening receipts stage =
    record {
      base = b;
      inbox = inbox;
      limit = limit;
      batch = batch;
      log = log;
      may = may;
      opening = opening;
      published = length log;
      receipts = receipts;
      dispatched = [];
      stage = stage;
    }

-- one of a life that commits
abbrev pub at : Book → List Command → List Entry → List Entry → List Book → ℕ → List world.Receipt → Stage → World
at b inbox log batch may opening receipts stage = under rules.limit b inbox log batch may opening receipts stage

module _ (b : Book) (opening : ℕ) (log : List Entry) (may : List Book) (rs : List world.Receipt) where
  submits : (xs cs : List Command) → Comes rules (at b xs log [] may opening rs Idle) (map Submit cs) (at b (xs ++ cs) log [] may opening rs Idle)
  submits xs [] = ap (λ l. at b l log [] may opening rs Idle) (append-nil xs)
  submits xs (c ∷ cs) =
      (at b (xs ++ c ∷ []) log [] may opening rs Idle, (refl, subst (λ l. Comes rules (at b (xs ++ c ∷ []) log [] may opening rs Idle) (map Submit cs) (at b l log [] may opening rs Idle)) (append_assoc xs (c ∷ []) cs) (submits (xs ++ c ∷ []) cs)))

  takes : (cs : List Command) → 1 ≤ length cs → length cs ≤ batch_limit → at b [] log (logged cs) may opening rs Writing ≡ taken (at b cs log [] may opening rs Idle) Idle (length cs)
  takes cs some few =
      let one : nat_le 1 (length cs) ≡ true = le-leb _ _ some in
      let most : nat_le (length cs) batch_limit ≡ true = le-leb _ _ few in
      let all : nat_le (length cs) (length cs) ≡ true = le-leb _ _ (omega arith) in
      rw (one, most, all, take_whole cs, drop_whole cs) refl

  -- commands are submitted and taken at once
  gathered : (cs : List Command) → 1 ≤ length cs → length cs ≤ batch_limit → Comes rules (at b [] log [] may opening rs Idle) (map Submit cs ++ Take (length cs) ∷ []) (at b [] log (logged cs) may opening rs Writing)
  gathered cs some few = comes_on _ _ _ (map Submit cs) (Take (length cs) ∷ []) (submits [] cs) (at b [] log (logged cs) may opening rs Writing, (takes cs some few, refl))

-- the receipts that are published, in the words of the engine
told_receipts : (opening k : ℕ) (b : Book) (ts : List Taken) → receipts_from opening (suc k) (commands_of ts) (replies rules b (commands_of ts)) ≡ map (given_at opening) (receipts_of k b ts)
told_receipts opening k b [] = refl
told_receipts opening k b (t ∷ ts) =
    let next = after_one rules b t.command in
    let place : k + 1 ≡ suc k = omega arith in
    ap (λ l. given_at opening (receipt_of (suc k) b t) ∷ l) (told_receipts opening (suc k) next ts)
    ∙ sym (ap (λ n. given_at opening (receipt_of n b t) ∷ map (given_at opening) (receipts_of n next ts)) place)

published_are : (b : Book) (opening k : ℕ) (log : List Entry) (ts : List Taken) → length log ≡ opening + k
    → (let all = log ++ logged (commands_of ts) in receipts_from opening (suc (length log - opening)) (drop (length log) (commands_in all)) (drop (length log) (log_replies rules b all)))
    ≡ map (given_at opening) (receipts_of k (after_log rules b log) ts)
published_are b opening k log ts long =
    let cs = commands_of ts in
    let all = log ++ logged cs in
    let next = after_log rules b log in
    let place : length log - opening ≡ k = omega (arith, long) in
    let count : length log ≡ length (log_replies rules b log) = sym (length-log_replies rules b log) in
    let asked : drop (length log) (commands_in all) ≡ cs =
    ap (λ n. drop n (commands_in all)) (sym (length-map log its_command)) ∙ ap (drop (length (commands_in log))) (map-append its_command log (logged cs))
    ∙ drop_front (commands_in log) (commands_in (logged cs)) ∙ asked_are cs in
    let told : drop (length log) (log_replies rules b all) ≡ replies rules next cs =
    ap (λ n. drop n (log_replies rules b all)) count ∙ ap (drop (length (log_replies rules b log))) (log_replies_cut rules b log (logged cs))
    ∙ drop_front (log_replies rules b log) (log_replies rules next (logged cs)) ∙ replies_one_limit rules rules.limit next cs in
    ap (λ n. receipts_from opening (suc n) (drop (length log) (commands_in all)) (drop (length log) (log_replies rules b all))) place
    ∙ ap (λ l. receipts_from opening (suc k) l (drop (length log) (log_replies rules b all))) asked
    ∙ ap (receipts_from opening (suc k) cs) told
    ∙ told_receipts opening k next ts

---- The batches of a life

-- Where the batches of a life lead in the world.
pub record Walk (limit : ℕ) (b : Book) (opening : ℕ) (log : List Entry) (may : List Book) (rs : List world.Receipt) (kept hand : List Command) (told : List Receipt) : Type 0 where
  pub steps : List Step
  pub limit1 : ℕ
  pub log1 : List Entry
  pub batch1 : List Entry
  pub may1 : List Book
  pub receipts1 : List world.Receipt
  pub stage1 : Stage
  pub comes : Comes rules (under limit b [] log [] may opening rs Idle) steps (under limit1 b [] log1 batch1 may1 opening receipts1 stage1)
  pub log_is : log1 ≡ log ++ logged kept
  pub batch_is : batch1 ≡ logged hand
  pub receipts_are : receipts1 ≡ rs ++ map (given_at opening) told
  pub has : Contains may1 (after_log rules b log1)
  pub whole : Contains may1 (after_log rules b (log1 ++ batch1))

module _ (b : Book) (opening : ℕ) where
  none_more : (limit : ℕ) (log : List Entry) (may : List Book) (rs : List world.Receipt) → Contains may (after_log rules b log) → Walk limit b opening log may rs [] [] []
  none_more limit log may rs has = record {
    steps = [];
    limit1 = limit;
    log1 = log;
    batch1 = [];
    may1 = may;
    receipts1 = rs;
    stage1 = Idle;
    comes = refl;
    log_is = sym (append-nil log);
    batch_is = refl;
    receipts_are = sym (append-nil rs);
    has = has;
    whole = subst (λ l. Contains may (after_log rules b l)) (sym (append-nil log)) has;
  }

  module _ (log : List Entry) (may : List Book) (rs : List world.Receipt) (x : List Taken) (some : IsTakenAtOnce x) where
    abbrev cs : List Command
    cs = commands_of x

    begun : Comes rules (at b [] log [] may opening rs Idle) (map Submit cs ++ Take (length cs) ∷ []) (at b [] log (logged cs) may opening rs Writing)
    begun =
        let long : length cs ≡ length x = length-map x command_of in
        let one : 1 ≤ length x = some.0 in
        let most : length x ≤ batch_limit = some.1 in
        gathered b opening log may rs cs (omega (arith, long, one)) (subst (λ n. n ≤ batch_limit) (sym long) most)

    -- a batch that is kept
    kept_steps : (k : ℕ) → length log ≡ opening + k
        → Comes rules (at b [] log [] may opening rs Idle) ((map Submit cs ++ Take (length cs) ∷ []) ++ CommitBegins ∷ CommitDone ∷ Publish ∷ [])
        (at b [] (log ++ logged cs) [] (after_log rules b (log ++ logged cs) ∷ []) opening (rs ++ map (given_at opening) (receipts_of k (after_log rules b log) x)) Idle)
    kept_steps k long =
        let more = map (given_at opening) (receipts_of k (after_log rules b log) x) in
        let writing = at b [] log (logged cs) may opening rs Writing in
        let committing = record writing { stage = Committing; may = may ++ after_log rules b (log ++ logged cs) ∷ [] } in
        let done_ = record committing { stage = Idle; log = log ++ logged cs; batch = []; may = after_log rules b (log ++ logged cs) ∷ [] } in
        let end = at b [] (log ++ logged cs) [] (after_log rules b (log ++ logged cs) ∷ []) opening (rs ++ more) Idle in
        let published = ap (λ l. record end { receipts = rs ++ l }) (sym (published_are b opening k log x long)) in
        comes_on _ writing end (map Submit cs ++ Take (length cs) ∷ []) (CommitBegins ∷ CommitDone ∷ Publish ∷ []) begun (committing, (refl, (done_, (refl, (end, (published, refl))))))

    -- one that isn't
    refused_steps : Comes rules (at b [] log [] may opening rs Idle) ((map Submit cs ++ Take (length cs) ∷ []) ++ WriteFails ∷ []) (at b [] log [] may opening rs Idle)
    refused_steps = comes_on _ (at b [] log (logged cs) may opening rs Writing) _ (map Submit cs ++ Take (length cs) ∷ []) (WriteFails ∷ []) begun (at b [] log [] may opening rs Idle, (refl, refl))

    -- one of which nobody knows
    unknown_steps : Comes rules (at b [] log [] may opening rs Idle) ((map Submit cs ++ Take (length cs) ∷ []) ++ CommitBegins ∷ CommitFails ∷ []) (at b [] log (logged cs) (may ++ after_log rules b (log ++ logged cs) ∷ []) opening rs Halted)
    unknown_steps =
        let writing = at b [] log (logged cs) may opening rs Writing in
        let committing = record writing { stage = Committing; may = may ++ after_log rules b (log ++ logged cs) ∷ [] } in
        let end = at b [] log (logged cs) (may ++ after_log rules b (log ++ logged cs) ∷ []) opening rs Halted in
        comes_on _ writing end (map Submit cs ++ Take (length cs) ∷ []) (CommitBegins ∷ CommitFails ∷ []) begun (committing, (refl, (end, (refl, refl))))

  no_receipts_of_halted : (bs ys : List (List Taken)) → receipts_told bs (all_halted ys) ≡ []
  no_receipts_of_halted [] ys = refl
  no_receipts_of_halted (x ∷ bs) [] = refl
  no_receipts_of_halted (x ∷ bs) (y ∷ ys) = no_receipts_of_halted bs ys

  walk : (k : ℕ) (log : List Entry) (may : List Book) (rs : List world.Receipt) (bs : List (List Taken)) (ds : List Done) → length log ≡ opening + k → Contains may (after_log rules b log)
      → AllByRecursion IsTakenAtOnce bs → AreAnswers k (after_log rules b log) bs ds → Walk rules.limit b opening log may rs (kept_of bs ds) (in_hand bs ds) (receipts_told bs ds)
  walk k log may rs [] [] long has some h = none_more rules.limit log may rs has
  walk k log may rs [] (d ∷ ds) long has some h = absurd h
  walk k log may rs (x ∷ bs) [] long has some h = absurd h
  walk k log may rs (x ∷ bs) (done.Kept l ∷ ds) long has some h =
      let cs = commands_of x in
      let log2 = log ++ logged cs in
      let more = map (given_at opening) (receipts_of k (after_log rules b log) x) in
      let count : length log2 ≡ length log + length x = length-append log (logged cs) ∙ ap (λ n. length log + n) (length-map cs (entry rules.limit) ∙ length-map x command_of) in
      let later = subst (λ y. AreAnswers (k + length x) y bs ds) (sym (behind b log cs)) h.1 in
      let rest = walk (k + length x) log2 (after_log rules b log2 ∷ []) (rs ++ more) bs ds (omega (arith, count, long)) (in_one (after_log rules b log2)) some.1 later in
      let same : map (given_at opening) (l.items ++ receipts_told bs ds) ≡ more ++ map (given_at opening) (receipts_told bs ds) =
      map-append (given_at opening) l.items (receipts_told bs ds) ∙ ap (λ r. map (given_at opening) r ++ map (given_at opening) (receipts_told bs ds)) h.0 in
      record {
        steps = ((map Submit cs ++ Take (length cs) ∷ []) ++ CommitBegins ∷ CommitDone ∷ Publish ∷ []) ++ rest.steps;
        limit1 = rest.limit1;
        log1 = rest.log1;
        batch1 = rest.batch1;
        may1 = rest.may1;
        receipts1 = rest.receipts1;
        stage1 = rest.stage1;
        comes = comes_on _ _ _ ((map Submit cs ++ Take (length cs) ∷ []) ++ CommitBegins ∷ CommitDone ∷ Publish ∷ []) rest.steps (kept_steps log may rs x some.0 k long) rest.comes;
        log_is = rest.log_is ∙ append_assoc log (logged cs) (logged (kept_of bs ds)) ∙ ap (λ l. log ++ l) (sym (map-append (entry rules.limit) cs (kept_of bs ds)));
        batch_is = rest.batch_is;
        receipts_are = rest.receipts_are ∙ append_assoc rs more (map (given_at opening) (receipts_told bs ds)) ∙ ap (λ r. rs ++ r) (sym same);
        has = rest.has;
        whole = rest.whole;
      }
  walk k log may rs (x ∷ bs) (done.NotApplied f ∷ ds) long has some h =
      let cs = commands_of x in
      let rest = walk k log may rs bs ds long has some.1 h in
      record {
        steps = ((map Submit cs ++ Take (length cs) ∷ []) ++ WriteFails ∷ []) ++ rest.steps;
        limit1 = rest.limit1;
        log1 = rest.log1;
        batch1 = rest.batch1;
        may1 = rest.may1;
        receipts1 = rest.receipts1;
        stage1 = rest.stage1;
        comes = comes_on _ _ _ ((map Submit cs ++ Take (length cs) ∷ []) ++ WriteFails ∷ []) rest.steps (refused_steps log may rs x some.0) rest.comes;
        log_is = rest.log_is;
        batch_is = rest.batch_is;
        receipts_are = rest.receipts_are;
        has = rest.has;
        whole = rest.whole;
      }
  walk k log may rs (x ∷ bs) (done.Unknown ∷ ds) long has some h =
      let cs = commands_of x in
      record {
        steps = (map Submit cs ++ Take (length cs) ∷ []) ++ CommitBegins ∷ CommitFails ∷ [];
        limit1 = rules.limit;
        log1 = log;
        batch1 = logged cs;
        may1 = may ++ after_log rules b (log ++ logged cs) ∷ [];
        receipts1 = rs;
        stage1 = Halted;
        comes = unknown_steps log may rs x some.0;
        log_is = sym (append-nil log) ∙ ap (λ l. log ++ logged l) (sym (ap (kept_of bs) h ∙ none_kept_of_halted bs bs));
        batch_is = ap logged (sym (append-nil cs) ∙ ap (λ l. cs ++ l) (sym (ap (in_hand bs) h ∙ no_hand_of_halted bs bs)));
        receipts_are = sym (append-nil rs) ∙ ap (λ l. rs ++ map (given_at opening) l) (sym (ap (receipts_told bs) h ∙ no_receipts_of_halted bs bs));
        has = Contains-append_left may (after_log rules b (log ++ logged cs) ∷ []) (after_log rules b log) has;
        whole = Contains-append_right may (after_log rules b (log ++ logged cs) ∷ []) (after_log rules b (log ++ logged cs)) (in_one (after_log rules b (log ++ logged cs)));
      }
  walk k log may rs (x ∷ bs) (done.Halted ∷ ds) long has some h = absurd h

---- From a life to the next

of_one : {A : Type 0} (x y : A) → Contains (x ∷ []) y → y ≡ x
of_one x y (zero, k, e) = sym e
of_one x y (suc n, k, e) = absurd (omega (arith, k))

-- How the world is opened again over a book.
record Reopened (limit : ℕ) (b : Book) (w : World) (receipts : List world.Receipt) (found : Book) : Type 0 where
  pub log : List Entry
  pub comes : Comes rules w (Crash found ∷ Reopen ∷ []) (under limit b [] log [] (found ∷ []) (length log) receipts Idle)
  pub same : found ≡ after_log rules b log

module _ (limit : ℕ) (b : Book) (log batch : List Entry) (may : List Book) (opening : ℕ) (receipts : List world.Receipt) (stage : Stage) where
  -- the book of the log, or of the log and the batch
  abbrev IsOfLog : Book → Type 0
  IsOfLog k = (k ≡ after_log rules b log) ⊎ (k ≡ after_log rules b (log ++ batch))

  in_may : Contains may (after_log rules b log) → Contains may (after_log rules b (log ++ batch)) → (k : Book) → IsOfLog k → Contains may k
  in_may has whole k (inl e) = subst (Contains may) (sym e) has
  in_may has whole k (inr e) = subst (Contains may) (sym e) whole

  reopened_by : (found : Book) → Contains may found → IsOfLog found → Decided found (after_log rules b log) → Reopened limit b (under limit b [] log batch may opening receipts stage) receipts found
  reopened_by found there of_log (inl is) =
      let down = stopped (under limit b [] log batch may opening receipts stage) found in
      let up = under limit b [] log [] (found ∷ []) (length log) receipts Idle in
      record {
        log = log;
        comes = (down, ((there, refl), (up, (inl (subst (Contains (found ∷ [])) is (in_one found), refl), refl))));
        same = is;
      }
  reopened_by found there (inl is) (inr other) = absurd (other is)
  reopened_by found there (inr is) (inr other) =
      let down = stopped (under limit b [] log batch may opening receipts stage) found in
      let up = under limit b [] (log ++ batch) [] (found ∷ []) (length (log ++ batch)) receipts Idle in
      record {
        log = log ++ batch;
        comes = (down, ((there, refl), (up, (inr ((λ c. other (sym (of_one found (after_log rules b log) c))), refl), refl))));
        same = is;
      }

  reopened : (found : Book) → Contains may found → IsOfLog found → Reopened limit b (under limit b [] log batch may opening receipts stage) receipts found
  reopened found there of_log = reopened_by found there of_log (same_book found (after_log rules b log))

module _ {S : Type 0} (g : Ghosts S) (safe : WorldIsSafe rules) (b : Book) (sound : IsSound rules b) where
  -- a life moves the store before it commits anything; where nothing is left to move, this makes nothing of the world
  walked_on : (limit : ℕ) (log : List Entry) (may : List Book) (rs : List world.Receipt) (bs : List (List Taken)) (ds : List Done) → Contains may (after_log rules b log) → AllByRecursion IsTakenAtOnce bs
      → AreAnswers 0 (after_log rules b log) bs ds → Walk limit b (length log) log may rs (kept_of bs ds) (in_hand bs ds) (receipts_told bs ds)
  walked_on limit log may rs bs ds has some h =
      let its = walk b (length log) 0 log may rs bs ds (omega arith) has some h in
      let moved : at b [] log [] may (length log) rs Idle ≡ migrated rules (under limit b [] log [] may (length log) rs Idle) Idle = rw (same_number (length log)) refl in
      record {
        steps = Migrate ∷ its.steps;
        limit1 = its.limit1;
        log1 = its.log1;
        batch1 = its.batch1;
        may1 = its.may1;
        receipts1 = its.receipts1;
        stage1 = its.stage1;
        comes = (at b [] log [] may (length log) rs Idle, (moved, its.comes));
        log_is = its.log_is;
        batch_is = its.batch_is;
        receipts_are = its.receipts_are;
        has = its.has;
        whole = its.whole;
      }

  walked : (limit : ℕ) (log : List Entry) (may : List Book) (rs : List world.Receipt) (l : Life S) → Contains may (after_log rules b log) → AreGathered l → IsAnswered g (after_log rules b log) l
      → Walk limit b (length log) log may rs (seen l).kept (seen l).hand (seen l).receipts
  walked limit log may rs (Lived conn first qs last bs ds) has some h = walked_on limit log may rs bs ds has some h
  walked limit log may rs (Served conn first qs last bs ds) has some h = walked_on limit log may rs bs ds has some h
  walked limit log may rs (Refused conn f back) has some h = none_more b (length log) limit log may rs has

  -- of what a life leaves
  left_by : (limit : ℕ) (log : List Entry) (may : List Book) (rs : List world.Receipt) (kept hand : List Command) (told : List Receipt) (w : Walk limit b (length log) log may rs kept hand told) (commands : List Command)
      → (commands ≡ kept) ⊎ (commands ≡ kept ++ hand) → IsOfLog w.limit1 b w.log1 w.batch1 w.may1 (length log) w.receipts1 w.stage1 (after rules (after_log rules b log) commands)
  left_by limit log may rs kept hand told w commands (inl is) = inl (sym (behind b log commands) ∙ ap (λ l. after_log rules b (log ++ logged l)) is ∙ ap (after_log rules b) (sym w.log_is))
  left_by limit log may rs kept hand told w commands (inr is) =
      inr (sym (behind b log commands) ∙ ap (λ l. after_log rules b (log ++ logged l)) is
      ∙ ap (after_log rules b) (ap (λ l. log ++ l) (map-append (entry rules.limit) kept hand) ∙ sym (append_assoc log (logged kept) (logged hand)) ∙ ap (λ l. l ++ logged hand) (sym w.log_is) ∙ ap (λ l. w.log1 ++ l) (sym w.batch_is)))

  module _ (old limit : ℕ) (sofar : List Step) (log : List Entry) (may : List Book) (rs : List world.Receipt) (come : Comes rules (first old b) sofar (under limit b [] log [] may (length log) rs Idle)) (l : Life S) (step : lives.Step g (after_log rules b log) l)
      (w : Walk limit b (length log) log may rs (seen l).kept (seen l).hand (seen l).receipts) where
    abbrev end : World
    end = under w.limit1 b [] w.log1 w.batch1 w.may1 (length log) w.receipts1 w.stage1

    come_end : Comes rules (first old b) (sofar ++ w.steps) end
    come_end = comes_on (first old b) (under limit b [] log [] may (length log) rs Idle) end sofar w.steps come w.comes

    ends : EndsIn g (under limit b [] log [] may (length log) rs Idle) end l
    ends = record {
      log = w.log_is;
      batch = w.batch_is;
      receipts = w.receipts_are;
      may = λ db k leaves holds. (
          let left = step.left db leaves in
          let same : after rules (after_log rules b log) left.0 ≡ k = one_held db (after rules (after_log rules b log) left.0) k left.2 holds in
          subst (Contains w.may1) same
          (in_may w.limit1 b w.log1 w.batch1 w.may1 (length log) w.receipts1 w.stage1 w.has w.whole (after rules (after_log rules b log) left.0)
          (left_by limit log may rs (seen l).kept (seen l).hand (seen l).receipts w left.0 left.1)));
      safe = (safe old b (sofar ++ w.steps) end sound come_end).1;
    }

    reopen : (part : List Command) → (part ≡ (seen l).kept) ⊎ (part ≡ (seen l).kept ++ (seen l).hand) → Reopened w.limit1 b end w.receipts1 (after rules (after_log rules b log) part)
    reopen part whole =
        let of_log = left_by limit log may rs (seen l).kept (seen l).hand (seen l).receipts w part whole in
        reopened w.limit1 b w.log1 w.batch1 w.may1 (length log) w.receipts1 w.stage1 (after rules (after_log rules b log) part)
        (in_may w.limit1 b w.log1 w.batch1 w.may1 (length log) w.receipts1 w.stage1 w.has w.whole (after rules (after_log rules b log) part) of_log) of_log

  all_steps : (old limit : ℕ) (sofar : List Step) (log : List Entry) (may : List Book) (rs : List world.Receipt) → Comes rules (first old b) sofar (under limit b [] log [] may (length log) rs Idle) → Contains may (after_log rules b log)
      → (l : Life S) (ls : List (Life S)) → IsWell (after_log rules b log) → AllByRecursion AreGathered (l ∷ ls) → Begins g (after_log rules b log) l → IsLife g l → Lives g (λ m. Continues g (seen l) (seen m)) ls
      → ∥ AreSteps g (under limit b [] log [] may (length log) rs Idle) (l ∷ ls) ∥₁
  all_steps old limit sofar log may rs come has l [] well some begin life rest =
      let step = lives.stepped g (after_log rules b log) l well begin life in
      let w = walked limit log may rs l has some.0 step.answered in
      let next = reopen old limit sofar log may rs come l step w (seen l).kept (inl refl) in
      ∣ (step.found, (w.steps, (end old limit sofar log may rs come l step w, (w.comes, (ends old limit sofar log may rs come l step w, (after rules (after_log rules b log) (seen l).kept, (under w.limit1 b [] next.log [] (after rules (after_log rules b log) (seen l).kept ∷ []) (length next.log) w.receipts1 Idle, (next.comes, tt)))))))) ∣₁
  all_steps old limit sofar log may rs come has l (m ∷ ms) well some begin life rest =
      let step = lives.stepped g (after_log rules b log) l well begin life in
      let w = walked limit log may rs l has some.0 step.answered in
      ∥∥₁_elim (step.next m rest.0) squash₁ (λ next.
      let found = after rules (after_log rules b log) next.0 in
      let back = reopen old limit sofar log may rs come l step w next.0 next.1 in
      let x = under w.limit1 b [] back.log [] (found ∷ []) (length back.log) w.receipts1 Idle in
      let come_x = comes_on (first old b) (end old limit sofar log may rs come l step w) x (sofar ++ w.steps) (Crash found ∷ Reopen ∷ []) (come_end old limit sofar log may rs come l step w) back.comes in
      let over = lives.begins_over g (after_log rules b back.log) m (subst (λ k. StandsOver g k (seen m).conn) back.same next.3) in
      let later = all_steps old w.limit1 ((sofar ++ w.steps) ++ Crash found ∷ Reopen ∷ []) back.log (found ∷ []) w.receipts1 come_x (subst (Contains (found ∷ [])) back.same (in_one found)) m ms (subst IsWell back.same next.2) some.1 over rest.1 rest.2 in
      ∥∥₁_map later (λ tail. (step.found, (w.steps, (end old limit sofar log may rs come l step w, (w.comes, (ends old limit sofar log may rs come l step w, (found, (x, (back.comes, tail))))))))))

pub are_steps : {S : Type 0} (g : Ghosts S) → WorldIsSafe rules → LivesAreSteps g
are_steps g safe limit b well [] some h = ∣ tt ∣₁
are_steps g safe limit b well (l ∷ ls) some h = all_steps g safe b well.sound limit limit [] [] (b ∷ []) [] refl (in_one b) l ls well some h.0 h.1 h.2
