-- What is known of the open runs where a run comes, goes, or is another.
use Rattle.std.specs.Prelude.{◌≡◌, ◌+◌, ◌++◌, ◌∷◌, if◌then◌else◌}
use Rattle.flow_maps.proofs.Names.{[], ℕ, Bool, true, false, cond, List, Option, Some, None, is_some, length, filter, refl, sym, ap, subst, true≢false, ◌∙◌, IfSome, BTreeMap, get, keys, nat_cmp, IsStrictlySortedBy, length-keys_of, is_some-lookup, Bytes, OpenActivity, Run, Timer, Book, nth, open_timers, state_of, is_open, Head, is_open_run, tasks_at, tasks_of, HasSlots, date_of_task, date_of_timer, IsIndex, key_if, name_of, open_key, is_run, replaced, IsSeat, IsSeated, KnowsOpen, seat_tasks, of_run, timers_of, OpenSeats, Seat}
use Rattle.flow_maps.proofs.Listing.{in_open, open_many}
use Rattle.flow_maps.proofs.Planning.{none_is, of_at, same_view, some_is}
use Rattle.flow_maps.proofs.Slots.{run_is}

-- the seat that is there is that of a run
pub seat_there : (o : Option Seat) (x : Option Run) (s : Seat) → o ≡ Some s → IsSeated o x → (r : Run) × (x ≡ Some r) × IsSeated (Some s) (Some r)
seat_there None x s is h = absurd (none_is s is)
seat_there (Some t) None s is h = absurd h
seat_there (Some t) (Some r) s is h = (r, refl, subst (λ u. IsSeated (Some u) (Some r)) (some_is t s is) h)

-- where no run is, none is there
no_seat : (o : Option Seat) → IsSeated o None → o ≡ None
no_seat None h = refl
no_seat (Some s) h = absurd h

timers_open : (r : Run) → is_open_run r ≡ true → timers_of r ≡ open_timers r.history
timers_open r is = ap (λ v. if v then open_timers r.history else []) is

-- where it isn't known that the run is there, nothing of it is
nothing_open : (x : Option Run) → IsSeated None x → (name_of open_key x ≡ None) × (of_run timers_of x ≡ []) × (of_run tasks_of x ≡ [])
nothing_open None h = (refl, refl, refl)
nothing_open (Some r) (closed, none) = (ap (λ v. key_if v r.flow) closed, ap (λ v. if v then open_timers r.history else []) closed, none)

-- the same runs by another function
pub known_same : (m : OpenSeats) (f g : ℕ → Option Run) → ((n : ℕ) → f n ≡ g n) → KnowsOpen m f → KnowsOpen m g
known_same m f g same h = subst (λ (x : ℕ → Option Run). KnowsOpen m x) (λ i n. same n i) h

flow_is : (s : Seat) (r : Run) → IsSeated (Some s) (Some r) → open_key r ≡ Some s.head.flow
flow_is s r (seat, opened) = ap (λ v. key_if v r.flow) opened ∙ ap (λ (k : Head). Some k.flow) seat.head

timers_are : (s : Seat) (r : Run) → IsSeated (Some s) (Some r) → timers_of r ≡ s.timers
timers_are s r (seat, opened) = timers_open r opened ∙ seat.timers

tasks_are : (s : Seat) (r : Run) → IsSeated (Some s) (Some r) → tasks_of r ≡ s.head.tasks
tasks_are s r (seat, opened) = ap (λ (k : Head). k.tasks) seat.head

module _ (m m' : OpenSeats) (run : ℕ) (s : Seat) (rs : ℕ → Option Run) (h : KnowsOpen m rs) where
  -- a seat is taken out
  pub seat_out : get nat_cmp m.by_run run ≡ Some s → ((n : ℕ) → get nat_cmp m'.by_run n ≡ replaced run None (λ k. get nat_cmp m.by_run k) n)
      → ((f : ℕ → Option Bytes) → (n : ℕ) → f n ≡ Some s.head.flow → IsIndex m.flows f → IsIndex m'.flows (replaced n None f))
      → ((f : ℕ → List Timer) → f run ≡ s.timers → HasSlots date_of_timer m.due f → HasSlots date_of_timer m'.due (replaced run [] f))
      → ((f : ℕ → List OpenActivity) → f run ≡ s.head.tasks → HasSlots date_of_task m.ready f → HasSlots date_of_task m'.ready (replaced run [] f))
      → (r : Run) × (rs run ≡ Some r) × IsSeated (Some s) (Some r) × KnowsOpen m' (replaced run None rs)
  seat_out there out flows due ready =
      let it = seat_there (get nat_cmp m.by_run run) (rs run) s there (h.by_run run) in (
        it.0,
        it.1,
        it.2,
        record {
          by_run = λ n. subst (λ o. IsSeated o (replaced run None rs n)) (sym (out n)) (go n (is_run run n));
          flows = subst (λ (f : ℕ → Option Bytes). IsIndex m'.flows f) (λ i n. sym (of_at (name_of open_key) run None rs n) i) (flows (λ n. name_of open_key (rs n)) run (ap (name_of open_key) it.1 ∙ flow_is s it.0 it.2) h.flows);
          due = subst (λ (f : ℕ → List Timer). HasSlots date_of_timer m'.due f) (λ i n. sym (of_at (of_run timers_of) run None rs n) i) (due (λ n. of_run timers_of (rs n)) (ap (of_run timers_of) it.1 ∙ timers_are s it.0 it.2) h.due);
          ready = subst (λ (f : ℕ → List OpenActivity). HasSlots date_of_task m'.ready f) (λ i n. sym (of_at (of_run tasks_of) run None rs n) i) (ready (λ n. of_run tasks_of (rs n)) (ap (of_run tasks_of) it.1 ∙ tasks_are s it.0 it.2) h.ready);
        },
      )
    where
      go : (n : ℕ) (v : Bool) → IsSeated (cond v None (get nat_cmp m.by_run n)) (cond v None (rs n))
      go n true = tt
      go n false = h.by_run n

  -- one comes where no run was
  pub seat_in : (r : Run) → rs run ≡ None → IsSeated (Some s) (Some r) → ((n : ℕ) → get nat_cmp m'.by_run n ≡ replaced run (Some s) (λ k. get nat_cmp m.by_run k) n)
      → ((f : ℕ → Option Bytes) → f run ≡ None → IsIndex m.flows f → IsIndex m'.flows (replaced run (Some s.head.flow) f))
      → ((f : ℕ → List Timer) → f run ≡ [] → HasSlots date_of_timer m.due f → HasSlots date_of_timer m'.due (replaced run s.timers f))
      → ((f : ℕ → List OpenActivity) → f run ≡ [] → HasSlots date_of_task m.ready f → HasSlots date_of_task m'.ready (replaced run s.head.tasks f))
      → KnowsOpen m' (replaced run (Some r) rs)
  seat_in r none seated put flows due ready = record {
    by_run = λ n. subst (λ o. IsSeated o (replaced run (Some r) rs n)) (sym (put n)) (go n (is_run run n));
    flows = subst (λ (f : ℕ → Option Bytes). IsIndex m'.flows f) (λ i n. (ap (λ x. replaced run x (λ k. name_of open_key (rs k)) n) (sym (flow_is s r seated)) ∙ sym (of_at (name_of open_key) run (Some r) rs n)) i)
        (flows (λ n. name_of open_key (rs n)) (ap (name_of open_key) none) h.flows);
    due = subst (λ (f : ℕ → List Timer). HasSlots date_of_timer m'.due f) (λ i n. (ap (λ x. replaced run x (λ k. of_run timers_of (rs k)) n) (sym (timers_are s r seated)) ∙ sym (of_at (of_run timers_of) run (Some r) rs n)) i)
        (due (λ n. of_run timers_of (rs n)) (ap (of_run timers_of) none) h.due);
    ready = subst (λ (f : ℕ → List OpenActivity). HasSlots date_of_task m'.ready f) (λ i n. (ap (λ x. replaced run x (λ k. of_run tasks_of (rs k)) n) (sym (tasks_are s r seated)) ∙ sym (of_at (of_run tasks_of) run (Some r) rs n)) i)
        (ready (λ n. of_run tasks_of (rs n)) (ap (of_run tasks_of) none) h.ready);
  }
    where
      go : (n : ℕ) (v : Bool) → IsSeated (cond v (Some s) (get nat_cmp m.by_run n)) (cond v (Some r) (rs n))
      go n true = seated
      go n false = h.by_run n

module _ (m : OpenSeats) (run : ℕ) (rs : ℕ → Option Run) (x : Option Run) (h : KnowsOpen m rs) where
  -- a run without a seat becomes another one without, or goes
  pub unseated : get nat_cmp m.by_run run ≡ None → IsSeated None x → KnowsOpen m (replaced run x rs)
  unseated none closed =
      let was = nothing_open (rs run) (subst (λ o. IsSeated o (rs run)) none (h.by_run run)) in
      let now = nothing_open x closed in
      record {
        by_run = λ n. go n (is_run run n) refl;
        flows = subst (λ (f : ℕ → Option Bytes). IsIndex m.flows f) (λ i n. same_view (name_of open_key) rs run x (was.0 ∙ sym now.0) n i) h.flows;
        due = subst (λ (f : ℕ → List Timer). HasSlots date_of_timer m.due f) (λ i n. same_view (of_run timers_of) rs run x (was.1 ∙ sym now.1) n i) h.due;
        ready = subst (λ (f : ℕ → List OpenActivity). HasSlots date_of_task m.ready f) (λ i n. same_view (of_run tasks_of) rs run x (was.2 ∙ sym now.2) n i) h.ready;
      }
    where
      go : (n : ℕ) (v : Bool) → is_run run n ≡ v → IsSeated (get nat_cmp m.by_run n) (cond v x (rs n))
      go n true own = subst (λ o. IsSeated o x) (sym none ∙ ap (get nat_cmp m.by_run) (run_is run n own)) closed
      go n false other = h.by_run n

  -- one that is closed comes where no run was
  pub closed_in : rs run ≡ None → IsSeated None x → KnowsOpen m (replaced run x rs)
  closed_in none closed = unseated (no_seat (get nat_cmp m.by_run run) (subst (λ o. IsSeated (get nat_cmp m.by_run run) o) none (h.by_run run))) closed

---- What is read off the seats

pub tasks_by_seat : (m : OpenSeats) (rs : ℕ → Option Run) → KnowsOpen m rs → (n : ℕ) → seat_tasks (get nat_cmp m.by_run n) ≡ of_run tasks_of (rs n)
tasks_by_seat m rs h n = by (get nat_cmp m.by_run n) (rs n) (h.by_run n)
  where
    by : (o : Option Seat) (x : Option Run) → IsSeated o x → seat_tasks o ≡ of_run tasks_of x
    by None None h = refl
    by None (Some r) h = sym h.1
    by (Some s) None h = absurd h
    by (Some s) (Some r) h = sym (tasks_are s r h)

pub count_open : (m : OpenSeats) (runs : List Run) (k : ℕ) → k ≡ length m.by_run.entries → IsStrictlySortedBy nat_cmp (keys m.by_run) → KnowsOpen m (λ n. nth runs n) → k ≡ length (filter is_open_run runs)
count_open m runs k is sorted h = is ∙ sym (length-keys_of m.by_run.entries) ∙ open_many runs (keys m.by_run) sorted (λ n. sym (is_some-lookup (is_run n) m.by_run.entries) ∙ by (get nat_cmp m.by_run n) (nth runs n) (h.by_run n))
  where
    by : (o : Option Seat) (x : Option Run) → IsSeated o x → is_some o ≡ in_open x
    by None None h = refl
    by None (Some r) h = sym h.0
    by (Some s) None h = absurd h
    by (Some s) (Some r) h = sym h.1

-- what was taken out isn't there
pub taken_clear : (m m' : OpenSeats) (run : ℕ) (o : Option Seat) (rs : ℕ → Option Run) → is_some o ≡ true
    → IfSome o (λ s. (fs : ℕ → Option Run) → KnowsOpen m fs → (r : Run) × (fs run ≡ Some r) × IsSeated (Some s) (Some r) × KnowsOpen m' (replaced run None fs)) → KnowsOpen m rs → KnowsOpen m' (replaced run None rs)
taken_clear m m' run None rs some is h = absurd (true≢false (sym some))
taken_clear m m' run (Some s) rs some is h = (is rs h).3
