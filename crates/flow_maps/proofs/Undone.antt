-- How a change is taken back: what the books before it and behind it have to do with one another.
use Rattle.std.specs.Prelude.{◌≡◌, ◌-◌, ◌+◌, if◌then◌else◌, ◌∷◌, ◌++◌}
use Rattle.flow_maps.proofs.Names.{cases_Bool, inl, inr, ℕ, zero, suc, Bool, true, false, nat_eq, List, [], length, Option, Some, None, Vec, Global, slice_get, slice_set, refl, sym, ap, subst, ◌∙◌, arith, IfSome, MatchOption, Bytes, Change, AddText, AddRun, AddTurn, SetAttempt, SetText, Run, Book, nth, signalled, with_run, Head, IsIndex, name_of, request_key, IsTextCount, KnowsTexts, replaced, Knows, KnowsOpen, KnowsRuns, made_of, KnowsFacts, Serves, IsUntaken, GoesBack, IsUndo, Leads, LeadsBack, Returns, WasBefore, WasBegun, Facts, KnownRuns, Maps, OpenSeats, BookTexts, Journal, RunBefore, Undo}
use Rattle.flow_maps.proofs.Planning.{as_long, here_at, less_at, longer, more_at, next_free, none_is, of_at, same_view, set_at, some_is, twice_at}
use Rattle.flow_maps.proofs.Seating.{known_same}
use Rattle.flow_maps.proofs.Serving.{run_is}

---- One change behind others

pub leads_more : (us : List Undo) (u : Undo) (k b c : Book) → Leads us k b → IsUndo u b c → Leads (us ++ u ∷ []) k c
leads_more [] u k b c same one = (c, subst (λ x. IsUndo u x c) (sym same) one, refl)
leads_more (v ∷ us) u k b c (d, first, rest) one = (d, first, leads_more us u d b c rest one)

pub leads_last : (us : List Undo) (u : Undo) (k c : Book) → Leads (us ++ u ∷ []) k c → (d : Book) × Leads us k d × IsUndo u d c
leads_last [] u k c (d, one, same) = (k, refl, subst (λ x. IsUndo u k x) same one)
leads_last (v ∷ us) u k c (d, first, rest) = let it = leads_last us u d c rest in (it.0, (d, first, it.1), it.2)

-- what was noted, where it is known
pub known_steps : (j : Journal) (v : Vec Undo Global) (b c : Book) → j.steps ≡ Some v → LeadsBack j b c → Leads v.items b c
known_steps j v b c is h = subst (λ o. MatchOption o (Unit {0}) (λ us. Leads us.items b c)) is h

-- the way back from a book of which what is known is
pub returns_by : (m : Maps) (k c : Book) → GoesBack m k c → Serves m c → Returns m k
returns_by m k c back serves = by m.journal.steps back
  where
    by : (o : Option (Vec Undo Global)) → MatchOption o (Unit {0}) (λ us. Leads us.items k c) → MatchOption o (Unit {0}) (λ us. (d : Book) × Leads us.items k d × Serves m d)
    by None h = tt
    by (Some v) h = (c, h, serves)

-- what is known of the same way back
pub returns_on : (m m' : Maps) (k : Book) (o : Option (Vec Undo Global)) → ((b : Book) → Serves m b → Serves m' b) → MatchOption o (Unit {0}) (λ us. (c : Book) × Leads us.items k c × Serves m c)
    → MatchOption o (Unit {0}) (λ us. (c : Book) × Leads us.items k c × Serves m' c)
returns_on m m' k None serves h = tt
returns_on m m' k (Some v) serves (c, leads, known) = (c, leads, serves c known)

pub returns_same : (m m' : Maps) (k : Book) → m'.journal ≡ m.journal → ((b : Book) → Serves m b → Serves m' b) → Returns m k → Returns m' k
returns_same m m' k same serves h = subst (λ (j : Journal). MatchOption j.steps (Unit {0}) (λ us. (c : Book) × Leads us.items k c × Serves m' c)) (sym same) (returns_on m m' k m.journal.steps serves h)

-- where nothing was noted
pub settled_serves : (m : Maps) (b : Book) (o : Option (Vec Undo Global)) → MatchOption o ⊥ (λ us. us.items ≡ []) → MatchOption o (Unit {0}) (λ us. (c : Book) × Leads us.items b c × Serves m c) → Serves m b
settled_serves m b None none h = absurd none
settled_serves m b (Some v) none (c, leads, serves) = let same = subst (λ us. Leads us b c) none leads in subst (λ (x : Book). Serves m x) (sym same) serves

-- the way back isn't known any more
pub lost_leads : (j : Journal) → j.steps ≡ None → (b c : Book) → LeadsBack j b c
lost_leads j is b c = subst (λ o. MatchOption o (Unit {0}) (λ us. Leads us.items b c)) (sym is) tt

pub lost_returns : (m : Maps) → m.journal.steps ≡ None → (b : Book) → Returns m b
lost_returns m is b = subst (λ o. MatchOption o (Unit {0}) (λ us. (c : Book) × Leads us.items b c × Serves m c)) (sym is) tt

---- The runs of the books

-- one more run
pub runs_more : (m m' : KnownRuns) (b : Book) (r : Run) (run : ℕ) → run ≡ length b.runs + 1 → m'.count ≡ run
    → (((f : ℕ → Option Bytes) → f run ≡ None → IsIndex m.requests f → IsIndex m'.requests (replaced run r.request f)))
    → ((rs : ℕ → Option Run) → rs run ≡ None → KnowsOpen m.seats rs → KnowsOpen m'.seats (replaced run (Some r) rs)) → KnowsRuns m b → KnowsRuns m' (record b { runs = b.runs ++ r ∷ [] })
runs_more m m' b r run at count requests seats h = record {
  count = count ∙ at ∙ sym (longer b.runs r);
  requests = subst (λ (f : ℕ → Option Bytes). IsIndex m'.requests f) (λ i n. (sym (of_at (name_of request_key) run (Some r) (λ k. nth b.runs k) n) ∙ ap (name_of request_key) (sym (more_at b.runs r run at n))) i)
      (requests (λ n. name_of request_key (nth b.runs n)) (ap (name_of request_key) (next_free b.runs run at)) h.requests);
  seats = known_same m'.seats (replaced run (Some r) (λ k. nth b.runs k)) (λ n. nth (b.runs ++ r ∷ []) n) (λ n. sym (more_at b.runs r run at n)) (seats (λ n. nth b.runs n) (next_free b.runs run at) h.seats);
}

-- one run less
pub runs_less : (m m' : KnownRuns) (b : Book) (r : Run) → m'.count + 1 ≡ m.count
    → ((f : ℕ → Option Bytes) (run : ℕ) → f run ≡ r.request → IsIndex m.requests f → IsIndex m'.requests (replaced run None f))
    → ((rs : ℕ → Option Run) → KnowsOpen m.seats rs → KnowsOpen m'.seats (replaced m.count None rs)) → KnowsRuns m (record b { runs = b.runs ++ r ∷ [] }) → KnowsRuns m' b
runs_less m m' b r count requests seats h =
    let long = h.count ∙ longer b.runs r in
    record {
      count = let e : m'.count ≡ length b.runs = omega (arith, count, long) in e;
      requests = subst (λ (f : ℕ → Option Bytes). IsIndex m'.requests f) (λ i n. (sym (of_at (name_of request_key) m.count None (λ k. nth (b.runs ++ r ∷ []) k) n) ∙ ap (name_of request_key) (sym (less_at b.runs r m.count long n))) i)
          (requests (λ n. name_of request_key (nth (b.runs ++ r ∷ []) n)) m.count (ap (name_of request_key) (more_at b.runs r m.count long m.count ∙ here_at m.count (Some r) (λ k. nth b.runs k))) h.requests);
      seats = known_same m'.seats (replaced m.count None (λ k. nth (b.runs ++ r ∷ []) k)) (λ n. nth b.runs n) (λ n. sym (less_at b.runs r m.count long n)) (seats (λ n. nth (b.runs ++ r ∷ []) n) h.seats);
    }

-- one run is another, with the same request
module _ (m m' : KnownRuns) (b : Book) (x y : Run) (run : ℕ) (there : nth b.runs run ≡ Some x) (same : y.request ≡ x.request) (h : KnowsRuns m b) where
  pub runs_set : m'.count ≡ m.count → m'.requests ≡ m.requests → KnowsOpen m'.seats (replaced run (Some y) (λ k. nth b.runs k)) → KnowsRuns m' (record b { runs = slice_set b.runs (run - 1) y })
  runs_set count requests seats = record {
    count = count ∙ h.count ∙ sym (as_long b.runs (run - 1) y);
    requests = subst (λ i. IsIndex i (λ n. name_of request_key (nth (slice_set b.runs (run - 1) y) n))) (sym requests)
        (subst (λ (f : ℕ → Option Bytes). IsIndex m.requests f) (λ i n. (same_view (name_of request_key) (λ k. nth b.runs k) run (Some y) (ap (name_of request_key) there ∙ sym same) n ∙ ap (name_of request_key) (sym (set_at b.runs run x y there n))) i) h.requests);
    seats = known_same m'.seats (replaced run (Some y) (λ k. nth b.runs k)) (λ n. nth (slice_set b.runs (run - 1) y) n) (λ n. sym (set_at b.runs run x y there n)) seats;
  }

-- what was taken out is put again
pub put_again : (m : OpenSeats) (run : ℕ) (x : Option Run) (rs : ℕ → Option Run) → KnowsOpen m (replaced run x (replaced run None rs)) → KnowsOpen m (replaced run x rs)
put_again m run x rs h = known_same m (replaced run x (replaced run None rs)) (replaced run x rs) (twice_at run x None rs) h

pub left_out : (run : ℕ) (rs : ℕ → Option Run) → replaced run None rs run ≡ None
left_out run rs = here_at run None rs

---- The book before

slice_again : {A : Type 0} (xs : List A) (i : ℕ) (x y : A) → slice_get xs i ≡ Some y → slice_set (slice_set xs i x) i y ≡ xs
slice_again [] i x y at = absurd (none_is y at)
slice_again (w ∷ xs) zero x y at = ap (λ z. z ∷ xs) (sym (some_is w y at))
slice_again (w ∷ xs) (suc i) x y at = ap (λ l. w ∷ l) (slice_again xs i x y at)

got : {A : Type 0} (xs : List A) (n : ℕ) (x : A) → nth xs n ≡ Some x → slice_get xs (n - 1) ≡ Some x
got xs n x at = go (nat_eq n 0) at
  where
    go : (v : Bool) → (if v then None else slice_get xs (n - 1)) ≡ Some x → slice_get xs (n - 1) ≡ Some x
    go true e = absurd (none_is x e)
    go false e = e

module _ (u : RunBefore) (b c : Book) (h : WasBefore u b c) where
  pub now_there : nth c.runs u.run ≡ Some h.now
  now_there = ap (λ (x : Book). nth x.runs u.run) h.made ∙ set_at b.runs u.run h.was h.now h.there u.run ∙ here_at u.run (Some h.now) (λ k. nth b.runs k)

  pub back_is : record c { runs = slice_set c.runs (u.run - 1) h.was } ≡ b
  back_is = ap (λ (x : Book). record x { runs = slice_set x.runs (u.run - 1) h.was }) h.made ∙ ap (λ rs. record b { runs = rs }) (slice_again b.runs (u.run - 1) h.now h.was (got b.runs u.run h.was h.there))

---- The first book

no_run : {A : Type 0} (xs : List A) (n : ℕ) → xs ≡ [] → None ≡ nth xs n
no_run [] n none = elim (cases_Bool (nat_eq n 0)) [ inl zeroth ↦ rw zeroth refl | inr other ↦ rw other refl ]
no_run (x ∷ xs) n none = absurd (let e = none in cc)

pub no_runs : (m : KnownRuns) (b : Book) → b.runs ≡ [] → m.count ≡ 0 → IsIndex m.requests (λ n. None) → KnowsOpen m.seats (λ n. None) → KnowsRuns m b
no_runs m b none count requests seats = record {
  count = count ∙ sym (ap (λ rs. length rs) none);
  requests = subst (λ (f : ℕ → Option Bytes). IsIndex m.requests f) (λ i n. ap (name_of request_key) (no_run b.runs n none) i) requests;
  seats = known_same m.seats (λ n. None) (λ n. nth b.runs n) (λ n. no_run b.runs n none) seats;
}

-- a run that is changed has the same request
pub made_request : (c : Change) (r : Run) → (made_of c r).request ≡ r.request
made_request (AddTurn run t) r = refl
made_request (SetAttempt run event attempt ready) r = refl
made_request (SetText run text) r = refl
made_request (AddText body) r = refl
made_request (AddRun flow request text t) r = refl

-- of a book without its last text is known what is known of the runs
pub texts_less : (f : Facts) (b c : Book) → ((t : Bytes) × (c ≡ record b { texts = b.texts ++ t ∷ [] })) → Knows f c → Knows f b
texts_less f b c (t, made) h =
    let was = subst (λ (x : Book). Knows f x) made h in
    record { runs = record { count = was.runs.count; requests = was.runs.requests; seats = was.runs.seats }; signals = was.signals }

-- what is known of the runs, where it is
pub known_facts : (o : Option Facts) (f : Facts) (b : Book) → o ≡ Some f → KnowsFacts o b → Knows f b
known_facts o f b is h = subst (λ x. KnowsFacts x b) is h

pub texts_kept : (m : BookTexts) (b c : Book) (rs : List Run) → c ≡ record b { runs = rs } → KnowsTexts m c → KnowsTexts m b
texts_kept m b c rs made h = subst (λ (x : Book). KnowsTexts m x) made h

-- how many texts there are, where that is known
pub counted_is : (m : Maps) (o : Option ℕ) → m.texts.count ≡ o → IfSome o (λ n. (b : Book) → Serves m b → n ≡ length b.texts)
counted_is m None is = tt
counted_is m (Some n) is = λ b h. subst (λ q. IsTextCount q b) is h.texts.1
