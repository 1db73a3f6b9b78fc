-- Each step of the channel keeps its rule.
use Rattle.std.proofs.Common.{◌≡◌, ◌≢◌, ◌⊎◌, ◌≤◌, ◌<◌, ◌+◌, ℕ, zero, suc, ◌==◌, List, [], ◌∷◌, ◌++◌, length, set, Bool, true, false, true≢false, inl, inr, refl, sym, ap, ◌∙◌, subst, ⊎_elim, arith, append_assoc, lt_of_not-le, suc-ne-zero, if◌then◌else◌}
use Rattle.std.proofs.lemmas.Bool.Decides.{nat_tests}
use mathlib.Core.Option.{Option, none, some, some-ne-none, some-injective}
use lib.ListN.{get_elem?}
use Rattle.crossbeam_channel.specs.Fifo.{Pushes, Pops, Forks, Merges, Learns, Held}
use Rattle.atomic_table.proofs.Lists.{at_set}
use Rattle.flow_base.specs.declared.task.Task.{Task}
use Rattle.flow_pool.specs.declared.hand.Hand.{Hand}
use Rattle.flow_pool.specs.declared.hand.Back.{Back}
use Rattle.flow_pool.specs.Orders.{feeding, working, gone, back_of, Takings, tasks_of, took_by, AreBelow, AreTheirs, Delivers, FitsFeed, FitsWorker, AreHome, IsInOrder, Keeps, IsSeen, WasEmpty}

off : false ≡ true → ⊥
off e = true≢false (sym e)

tasks_of-next : (log : Takings) (e : ℕ × Task) → tasks_of (log ++ e ∷ []) ≡ tasks_of log ++ e.1 ∷ []
tasks_of-next [] e = refl
tasks_of-next (x ∷ xs) e = ap (λ ts. x.1 ∷ ts) (tasks_of-next xs e)

took_mine : (n : ℕ) (log : Takings) (x : Task) → took_by n (log ++ (n, x) ∷ []) ≡ took_by n log ++ x ∷ []
took_mine n [] x = let same : (n == n) ≡ true = grind (arith, nat_tests) in rw same refl
took_mine n (e ∷ es) x = go (took_mine n es x) (e.0 == n) refl
  where
    go : took_by n (es ++ (n, x) ∷ []) ≡ took_by n es ++ x ∷ [] → (b : Bool) → (e.0 == n) ≡ b → took_by n ((e ∷ es) ++ (n, x) ∷ []) ≡ took_by n (e ∷ es) ++ x ∷ []
    go rest true is = rw is (ap (λ ts. e.1 ∷ ts) rest)
    go rest false is = rw is rest

took_other : (n m : ℕ) (log : Takings) (x : Task) → m ≢ n → took_by m (log ++ (n, x) ∷ []) ≡ took_by m log
took_other n m [] x away = let other : (n == m) ≡ false = grind (arith, nat_tests) in rw other refl
took_other n m (e ∷ es) x away = go (took_other n m es x away) (e.0 == m) refl
  where
    go : took_by m (es ++ (n, x) ∷ []) ≡ took_by m es → (b : Bool) → (e.0 == m) ≡ b → took_by m ((e ∷ es) ++ (n, x) ∷ []) ≡ took_by m (e ∷ es)
    go rest true is = rw is (ap (λ ts. e.1 ∷ ts) rest)
    go rest false is = rw is rest

-- who isn't made yet took nothing
took_none : (n : ℕ) (log : Takings) → AreBelow n log → took_by n log ≡ []
took_none n [] below = refl
took_none n (e ∷ es) below = let other : (e.0 == n) ≡ false = (let less = below.0 in grind (arith, nat_tests)) in rw other (took_none n es below.1)

below_next : (made n : ℕ) (log : Takings) (x : Task) → n < made → AreBelow made log → AreBelow made (log ++ (n, x) ∷ [])
below_next made n [] x less below = (less, tt)
below_next made n (e ∷ es) x less below = (below.0, below_next made n es x less below.1)

below_more : (made : ℕ) (log : Takings) → AreBelow made log → AreBelow (made + 1) log
below_more made [] below = tt
below_more made (e ∷ es) below = (let less = below.0 in omega arith, below_more made es below.1)

theirs_next : (seat : ℕ → Option ℕ) (made n p : ℕ) (log : Takings) (x : Task) (back : List Back) → seat n ≡ some p → AreHome seat made back → AreTheirs log back → AreTheirs (log ++ (n, x) ∷ []) back
theirs_next seat made n p log x [] at home theirs = tt
theirs_next seat made n p log x (b ∷ bs) at home theirs = (
  took_other n b.worker log x (λ same. some-ne-none p (sym at ∙ (ap seat (sym same) ∙ home.0))) ∙ theirs.0,
  theirs_next seat made n p log x bs at home.2 theirs.1,
)

theirs_back : (log : Takings) (back : List Back) (b : Back) → AreTheirs log back → took_by b.worker log ≡ b.got → AreTheirs log (back ++ b ∷ [])
theirs_back log [] b theirs one = (one, tt)
theirs_back log (c ∷ cs) b theirs one = (theirs.0, theirs_back log cs b theirs.1 one)

-- the pass of a worker: another one, or none
abbrev seated : (ℕ → Option ℕ) → ℕ → Option ℕ → ℕ → Option ℕ
seated seat n to m = if m == n then to else seat m

seated_here : (seat : ℕ → Option ℕ) (n : ℕ) (to : Option ℕ) → seated seat n to n ≡ to
seated_here seat n to = let same : (n == n) ≡ true = grind (arith, nat_tests) in rw same refl

seated_else : (seat : ℕ → Option ℕ) (n : ℕ) (to : Option ℕ) (m : ℕ) → m ≢ n → seated seat n to m ≡ seat m
seated_else seat n to m away = let other : (m == n) ≡ false = grind (arith, nat_tests) in rw other refl

seated_none : (seat : ℕ → Option ℕ) (n m : ℕ) → seat m ≡ none → seated seat n none m ≡ none
seated_none seat n m e = go (m == n) refl
  where
    go : (b : Bool) → (m == n) ≡ b → seated seat n none m ≡ none
    go true is = rw is refl
    go false is = rw is e

-- a worker that has a pass was made
was_made : (seat : ℕ → Option ℕ) (made n p : ℕ) → ((m : ℕ) → made ≤ m → seat m ≡ none) → seat n ≡ some p → n < made
was_made seat made n p later at = lt_of_not-le (λ le. some-ne-none p (sym at ∙ later n le))

home_made : (seat : ℕ → Option ℕ) (made : ℕ) (to : Option ℕ) (back : List Back) → AreHome seat made back → AreHome (seated seat made to) (made + 1) back
home_made seat made to [] home = tt
home_made seat made to (b ∷ bs) home = (
  let less = home.1 in seated_else seat made to b.worker (λ same. omega arith) ∙ home.0,
  let less = home.1 in omega arith,
  home_made seat made to bs home.2,
)

home_back : (seat : ℕ → Option ℕ) (made n : ℕ) (got : List Task) (back : List Back) → n < made → AreHome seat made back → AreHome (seated seat n none) made (back ++ back_of n got ∷ [])
home_back seat made n got [] less home = (seated_here seat n none, less, tt)
home_back seat made n got (b ∷ bs) less home = (seated_none seat n b.worker home.0, home.1, home_back seat made n got bs less home.2)

pub begins : IsInOrder [] (feeding [] 0 [] ∷ [])
begins = (0, [], 0, [], [], (λ n. none), record { flow = refl; below = tt; theirs = tt; home = tt; later = λ n le. refl; feeds = feeds; works = works })
  where
    feeds : (p : ℕ) (v : Hand) → get_elem? (feeding [] 0 [] ∷ []) p ≡ some v → FitsFeed 0 [] 0 [] p v
    feeds zero v e = subst (FitsFeed 0 [] 0 [] 0) (some-injective _ _ e) (λ _. (refl, refl, refl, refl))
    feeds (suc p) v e = absurd (some-ne-none v (sym e))

    works : (p : ℕ) (v : Hand) → get_elem? (feeding [] 0 [] ∷ []) p ≡ some v → FitsWorker (λ n. none) [] p v
    works zero v e = subst (FitsWorker (λ n. none) [] 0) (some-injective _ _ e) (λ w. absurd (off w))
    works (suc p) v e = absurd (some-ne-none v (sym e))

-- a task is put at the back
pub puts : (n p : ℕ) (v : Hand) (x : Task) → v.sends ≡ true → Pushes IsInOrder n p v x (λ w. w ≡ feeding (v.put ++ x ∷ []) v.made v.back)
puts n p v x sends items views room (feed, put, made, back, log, seat, h) at =
    let mine = h.feeds p v at sends in
    let w = feeding (v.put ++ x ∷ []) v.made v.back in (
      w,
      (
        feed,
        put ++ x ∷ [],
        made,
        back,
        log,
        seat,
        record {
          flow = sym (append_assoc (tasks_of log) items (x ∷ [])) ∙ ap (λ ts. ts ++ x ∷ []) h.flow;
          below = h.below;
          theirs = h.theirs;
          home = h.home;
          later = h.later;
          feeds = λ j u e. ⊎_elim
              (λ (t : (j ≡ p) × (w ≡ u)). subst (λ (y : ℕ × Hand). FitsFeed feed (put ++ x ∷ []) made back y.0 y.1) (λ i. (sym t.0 i, t.1 i)) (λ s. (mine.0, ap (λ ts. ts ++ x ∷ []) mine.1, mine.2, mine.3)))
              (λ (t : (j ≢ p) × (get_elem? views j ≡ some u)). λ s. absurd (t.0 ((h.feeds j u t.1 s).0 ∙ sym mine.0)))
              (at_set views p j w u e);
          works = λ j u e. ⊎_elim
              (λ (t : (j ≡ p) × (w ≡ u)). subst (λ (y : Hand). FitsWorker seat log j y) t.1 (λ s. absurd (off s)))
              (λ (t : (j ≢ p) × (get_elem? views j ≡ some u)). h.works j u t.1)
              (at_set views p j w u e);
        },
      ),
      refl,
    )

-- the task at the front is taken
pub takes : (p : ℕ) (v : Hand) → v.works ≡ true → Pops IsInOrder p v (λ x w. w ≡ working v.worker (v.got ++ x ∷ []))
takes p v works x items views (feed, put, made, back, log, seat, h) at =
    let mine = h.works p v at works in
    let more = log ++ (v.worker, x) ∷ [] in
    let w = working v.worker (v.got ++ x ∷ []) in (
      w,
      (
        feed,
        put,
        made,
        back,
        more,
        seat,
        record {
          flow = ap (λ ts. ts ++ items) (tasks_of-next log (v.worker, x)) ∙ (append_assoc (tasks_of log) (x ∷ []) items ∙ h.flow);
          below = below_next made v.worker log x (was_made seat made v.worker p h.later mine.0) h.below;
          theirs = theirs_next seat made v.worker p log x back mine.0 h.home h.theirs;
          home = h.home;
          later = h.later;
          feeds = λ j u e. ⊎_elim
              (λ (t : (j ≡ p) × (w ≡ u)). subst (λ (y : Hand). FitsFeed feed put made back j y) t.1 (λ s. absurd (off s)))
              (λ (t : (j ≢ p) × (get_elem? views j ≡ some u)). h.feeds j u t.1)
              (at_set views p j w u e);
          works = λ j u e. ⊎_elim
              (λ (t : (j ≡ p) × (w ≡ u)). subst (λ (y : ℕ × Hand). FitsWorker seat more y.0 y.1) (λ i. (sym t.0 i, t.1 i)) (λ s. (mine.0, ap (λ ts. ts ++ x ∷ []) mine.1 ∙ sym (took_mine v.worker log x))))
              (λ (t : (j ≢ p) × (get_elem? views j ≡ some u)). λ s.
              let f = h.works j u t.1 s in
              (f.0, f.1 ∙ sym (took_other v.worker u.worker log x (λ same. t.0 (some-injective j p (sym f.0 ∙ (ap seat same ∙ mine.0)))))))
              (at_set views p j w u e);
        },
      ),
      refl,
    )

at_end : (views : List Hand) (w u : Hand) (j : ℕ) → get_elem? (views ++ w ∷ []) j ≡ some u → (get_elem? views j ≡ some u) ⊎ ((j ≡ length views) × (w ≡ u))
at_end [] w u zero e = inr (refl, some-injective _ _ e)
at_end [] w u (suc j) e = absurd (some-ne-none u (sym e))
at_end (v ∷ views) w u zero e = inl e
at_end (v ∷ views) w u (suc j) e = ⊎_elim (λ t. inl t) (λ (t : (j ≡ length views) × (w ≡ u)). inr (ap suc t.0, t.1)) (at_end views w u j e)

-- a pass for one more worker
pub forks : (p : ℕ) (v : Hand) → v.sends ≡ true → Forks IsInOrder p v (feeding v.put (v.made + 1) v.back) (working v.made [])
forks p v sends items views (feed, put, made, back, log, seat, h) at =
    let mine = h.feeds p v at sends in
    let left = feeding v.put (v.made + 1) v.back in
    let right = working v.made [] in
    let seat' = seated seat made (some (length (set views p left))) in (
      feed,
      put,
      made + 1,
      back,
      log,
      seat',
      record {
        flow = h.flow;
        below = below_more made log h.below;
        theirs = h.theirs;
        home = home_made seat made _ back h.home;
        later = λ n le. seated_else seat made _ n (λ same. omega arith) ∙ h.later n (omega arith);
        feeds = λ j u e. ⊎_elim
            (λ (r : get_elem? (set views p left) j ≡ some u). ⊎_elim
            (λ (t : (j ≡ p) × (left ≡ u)). subst (λ (y : ℕ × Hand). FitsFeed feed put (made + 1) back y.0 y.1) (λ i. (sym t.0 i, t.1 i)) (λ s. (mine.0, mine.1, ap (λ k. k + 1) mine.2, mine.3)))
            (λ (t : (j ≢ p) × (get_elem? views j ≡ some u)). λ s. absurd (t.0 ((h.feeds j u t.1 s).0 ∙ sym mine.0)))
            (at_set views p j left u r))
            (λ (t : (j ≡ length (set views p left)) × (right ≡ u)). subst (λ (y : Hand). FitsFeed feed put (made + 1) back j y) t.1 (λ s. absurd (off s)))
            (at_end (set views p left) right u j e);
        works = λ j u e. ⊎_elim
            (λ (r : get_elem? (set views p left) j ≡ some u). ⊎_elim
            (λ (t : (j ≡ p) × (left ≡ u)). subst (λ (y : Hand). FitsWorker seat' log j y) t.1 (λ s. absurd (off s)))
            (λ (t : (j ≢ p) × (get_elem? views j ≡ some u)). λ s.
            let f = h.works j u t.1 s in
            let less = was_made seat made u.worker j h.later f.0 in
            (seated_else seat made _ u.worker (λ same. omega arith) ∙ f.0, f.1))
            (at_set views p j left u r))
            (λ (t : (j ≡ length (set views p left)) × (right ≡ u)). subst (λ (y : ℕ × Hand). FitsWorker seat' log y.0 y.1) (λ i. (sym t.0 i, t.1 i)) (λ s. (
              ap seat' mine.2 ∙ seated_here seat made _,
              sym (ap (λ k. took_by k log) mine.2 ∙ took_none made log h.below),
            )))
            (at_end (set views p left) right u j e);
      },
    )

-- a worker that has come back
pub merges : (p : ℕ) (v : Hand) (q : ℕ) (w : Hand) → v.sends ≡ true → w.works ≡ true → Merges IsInOrder p v q w (feeding v.put v.made (v.back ++ back_of w.worker w.got ∷ [])) gone
merges p v q w sends works items views (feed, put, made, back, log, seat, h) at away other =
    let mine = h.feeds p v at sends in
    let both = feeding v.put v.made (v.back ++ back_of w.worker w.got ∷ []) in
    let there : get_elem? views q ≡ some w = ⊎_elim (λ (t : (q ≡ p) × (both ≡ w)). absurd (away t.0)) (λ (t : (q ≢ p) × (get_elem? views q ≡ some w)). t.1) (at_set views p q both w other) in
    let theirs = h.works q w there works in
    let seat' = seated seat w.worker none in
    let came = back ++ back_of w.worker w.got ∷ [] in (
      feed,
      put,
      made,
      came,
      log,
      seat',
      record {
        flow = h.flow;
        below = h.below;
        theirs = theirs_back log back (back_of w.worker w.got) h.theirs (sym theirs.1);
        home = home_back seat made w.worker w.got back (was_made seat made w.worker q h.later theirs.0) h.home;
        later = λ n le. seated_none seat w.worker n (h.later n le);
        feeds = λ j u e. ⊎_elim
            (λ (t : (j ≡ q) × (gone ≡ u)). subst (λ (y : Hand). FitsFeed feed put made came j y) t.1 (λ s. absurd (off s)))
            (λ (r : (j ≢ q) × (get_elem? (set views p both) j ≡ some u)). ⊎_elim
            (λ (t : (j ≡ p) × (both ≡ u)). subst (λ (y : ℕ × Hand). FitsFeed feed put made came y.0 y.1) (λ i. (sym t.0 i, t.1 i)) (λ s. (mine.0, mine.1, mine.2, ap (λ bs. bs ++ back_of w.worker w.got ∷ []) mine.3)))
            (λ (t : (j ≢ p) × (get_elem? views j ≡ some u)). λ s. absurd (t.0 ((h.feeds j u t.1 s).0 ∙ sym mine.0)))
            (at_set views p j both u r.1))
            (at_set (set views p both) q j gone u e);
        works = λ j u e. ⊎_elim
            (λ (t : (j ≡ q) × (gone ≡ u)). subst (λ (y : Hand). FitsWorker seat' log j y) t.1 (λ s. absurd (off s)))
            (λ (r : (j ≢ q) × (get_elem? (set views p both) j ≡ some u)). ⊎_elim
            (λ (t : (j ≡ p) × (both ≡ u)). subst (λ (y : Hand). FitsWorker seat' log j y) t.1 (λ s. absurd (off s)))
            (λ (t : (j ≢ p) × (get_elem? views j ≡ some u)). λ s.
            let f = h.works j u t.1 s in
            (seated_else seat w.worker none u.worker (λ same. r.0 (some-injective j q (sym f.0 ∙ (ap seat same ∙ theirs.0)))) ∙ f.0, f.1))
            (at_set views p j both u r.1))
            (at_set (set views p both) q j gone u e);
      },
    )

-- what the dispatcher learns
pub learns : (p : ℕ) (v : Hand) → v.sends ≡ true → Learns IsInOrder p v (λ items. Delivers v.put v.made v.back)
learns p v sends items views (feed, put, made, back, log, seat, h) at =
    let mine = h.feeds p v at sends in (
      log,
      items,
      h.flow ∙ sym mine.1,
      subst (λ k. AreBelow k log) (sym mine.2) h.below,
      subst (AreTheirs log) (sym mine.3) h.theirs,
    )

-- what is told where the channel holds nothing stays as it is
pub pushes_on : (told : Type 0) (n p : ℕ) (v : Hand) (x : Task) (outcome : Hand → Type 0) → Pushes IsInOrder n p v x outcome → Pushes (Keeps told) n p v x outcome
pushes_on told n p v x outcome keeps items views room (h, t) at = let (w, kept, is) = keeps items views room h at in (w, (kept, t), is)

pub pops_on : (told : Type 0) (p : ℕ) (v : Hand) (outcome : Task → Hand → Type 0) → Pops IsInOrder p v outcome → Pops (Keeps told) p v outcome
pops_on told p v outcome keeps x items views (h, t) at = let (w, kept, is) = keeps x items views h at in (w, (kept, t), is)

pub forks_on : (told : Type 0) (p : ℕ) (v left right : Hand) → Forks IsInOrder p v left right → Forks (Keeps told) p v left right
forks_on told p v left right keeps items views (h, t) at = (keeps items views h at, t)

pub merges_on : (told : Type 0) (p : ℕ) (v : Hand) (q : ℕ) (w both spent : Hand) → Merges IsInOrder p v q w both spent → Merges (Keeps told) p v q w both spent
merges_on told p v q w both spent keeps items views (h, t) at away other = (keeps items views h at away other, t)

pub learns_on : (told : Type 0) (p : ℕ) (v : Hand) (fact : List Task → Type 0) → Learns IsInOrder p v fact → Learns (Keeps told) p v fact
learns_on told p v fact learns items views (h, t) at = learns items views h at

-- nothing was seen in a channel that held none
pub was_empty : (told : Type 0) (v : Hand) → Held 0 (IsSeen told v) → WasEmpty told v
was_empty told v ([], is, seen) = seen
was_empty told v (x ∷ items, is, seen) = absurd (suc-ne-zero (length items) is)
