-- Runs that are over in the book that tables keep, and what a board names of them.
use Rattle.std.proofs.Common.{◌≡◌, inl, inr, ℕ, Bool, true, false, cond, ◌||◌, not, List, [], ◌∷◌, ◌++◌, filter, Option, Some, None, refl, sym, ap, ◌∙◌, subst, true≢false}
use Rattle.sqlite_trees.specs.declared.store.Store.{Ghosts}
use Rattle.flow_base.specs.Syntax.{Bytes}
use Rattle.flow_base.specs.Keys.{Key}
use Rattle.flow_base.specs.declared.book.OpenActivity.{OpenActivity}
use Rattle.flow_base.specs.declared.task.Task.{Task}
use Rattle.flow_model.specs.Book.{Book}
use Rattle.flow_model.proofs.DueFirst.{Has}
use Rattle.flow_maps.specs.Agenda.{tasks_at, tasks_of as tasks_in_run}
use Rattle.flow_maps.specs.Outlooks.{Waiting, is_by, ready_by, waiting}
use Rattle.flow_maps.specs.Timers.{of_run}
use Rattle.flow_maps.proofs.Sooner.{waits_at}
use Rattle.flow_tables.specs.Owned.{Stored, IsFit, IsUp, Keeps, state_of}
use Rattle.flow_commit.specs.Boards.{AreStill, Call, WerePosted, call_at, flow_at, is_new, is_posted, names_over, ready_tasks, task_at, task_with, tasks_of}
use Rattle.flow_commit.specs.Looking.{HasLooked}
use Rattle.flow_commit.specs.Over.{is_over}
use Rattle.flow_commit.specs.Shutting.{AreShut, HasShut, IsShut}
use Rattle.flow_commit.proofs.Seating.{one_kept}

---- In a book

not_true : (b : Bool) → (b ≡ true → ⊥) → b ≡ false
not_true true h = absurd (h refl)
not_true false h = refl

-- a run that is shut has no activity
none_at : (b : Book) (n : ℕ) → IsShut b.runs n → tasks_at b n ≡ []
none_at b n s = ap (of_run tasks_in_run) s.there ∙ s.tasks

pub out_of : (over : List ℕ) (b : Book) → AreShut over b → (w : Waiting) → Has (waiting b) w → is_over over w.0 ≡ false
out_of over b shut w has = not_true (is_over over w.0) (λ is. subst (λ (ts : List OpenActivity). Has ts w.1) (none_at b w.0 (shut w.0 is)) (waits_at b w has))

---- What a board names

has_of : (p : Waiting → Bool) (ws : List Waiting) (w : Waiting) → Has (filter p ws) w → Has ws w
has_of p [] w has = has
has_of p (x ∷ ws) w has = by (p x) (has_of p ws w) has
  where
    by : (v : Bool) → (Has (filter p ws) w → Has ws w) → Has (cond v (x ∷ filter p ws) (filter p ws)) w → Has (x ∷ ws) w
    by true more (inl same) = inl same
    by true more (inr rest) = inr (more rest)
    by false more rest = inr (more rest)

or_none : (a b : Bool) → a ≡ false → b ≡ false → (a || b) ≡ false
or_none a b first rest = ap (λ v. v || b) first ∙ rest

names_both : (over : List ℕ) (ts us : List Task) → names_over over ts ≡ false → names_over over us ≡ false → names_over over (ts ++ us) ≡ false
names_both over [] us none more = more
names_both over (t ∷ ts) us none more =
    let apart = by (is_over over t.run) (names_over over ts) none in
    or_none (is_over over t.run) (names_over over (ts ++ us)) apart.0 (names_both over ts us apart.1 more)
  where
    by : (a b : Bool) → (a || b) ≡ false → (a ≡ false) × (b ≡ false)
    by true b e = absurd (true≢false e)
    by false b e = (refl, e)

one_named : (over : List ℕ) (w : Waiting) (f : Option Bytes) (c : Option Call) → is_over over w.0 ≡ false → names_over over (task_with w f c) ≡ false
one_named over w None c out = refl
one_named over w (Some f) None out = refl
one_named over w (Some f) (Some c) out = or_none (is_over over w.0) false out refl

all_named : (over : List ℕ) (b : Book) (ws : List Waiting) → ((w : Waiting) → Has ws w → is_over over w.0 ≡ false) → names_over over (tasks_of b ws) ≡ false
all_named over b [] out = refl
all_named over b (w ∷ ws) out =
    names_both over (task_at b w) (tasks_of b ws) (one_named over w (flow_at b w.0) (call_at b w.0 w.1.event) (out w (inl refl))) (all_named over b ws (λ x has. out x (inr has)))

-- a board names none of a run that is shut
pub never_named : (over : List ℕ) (posted : List Key) (at : ℕ) (b : Book) → AreShut over b → names_over over (ready_tasks posted at b) ≡ false
never_named over posted at b shut =
    all_named over b (filter (is_new posted) (ready_by at b)) (λ w has. out_of over b shut w (has_of (is_by at) (waiting b) w (has_of (is_new posted) (ready_by at b) w has)))

same_filter : (p q : Waiting → Bool) (ws : List Waiting) → ((w : Waiting) → Has ws w → p w ≡ q w) → filter p ws ≡ filter q ws
same_filter p q [] same = refl
same_filter p q (w ∷ ws) same = (λ i. cond (same w (inl refl) i) (w ∷ filter p ws) (filter p ws)) ∙ ap (λ vs. cond (q w) (w ∷ vs) vs) (same_filter p q ws (λ x has. same x (inr has)))

-- What is posted of such a run makes no difference.
pub ready_same : (over : List ℕ) (some all : List Key) (at : ℕ) (b : Book) → AreShut over b → ((q : Key) → is_over over q.0 ≡ false → is_posted some q ≡ is_posted all q) → ready_tasks some at b ≡ ready_tasks all at b
ready_same over some all at b shut same =
    ap (tasks_of b) (same_filter (is_new some) (is_new all) (ready_by at b) (λ w has. ap not (same (w.0, w.1.event, w.1.attempt) (out_of over b shut w (has_of (is_by at) (waiting b) w has)))))

---- Tables

module _ {S : Type 0} (g : Ghosts S) where
  pub none_shut : (t : Stored S) → HasShut g t []
  none_shut t fit up b keeps n is = absurd (true≢false (sym is))

  -- of the one book that an open connection keeps
  pub shut_at : (t : Stored S) (over : List ℕ) (first : Book) → (IsFit g t → IsUp g t → Keeps (state_of g t) first × AreShut over first) → HasShut g t over
  shut_at t over first one fit up b keeps = let it = one fit up in subst (AreShut over) (one_kept g t first b up it.0 keeps) it.1

  -- What was posted of such runs needn't be: the rest was, so what was looked at is.
  pub looked_still : (t : Stored S) (since : ℕ) (over : List ℕ) (some all : List Key) → AreStill over some all → HasShut g t over → HasLooked g t since some → HasLooked g t since all
  looked_still t since over some all still shut looked fit up b keeps n = by (is_over over n) refl
    where
      each : (ts : List OpenActivity) → is_over over n ≡ false → WerePosted some since n ts → WerePosted all since n ts
      each [] out were = tt
      each (x ∷ ts) out were = (λ sooner. still (n, x.event, x.attempt) (were.0 sooner) out, each ts out were.1)

      by : (v : Bool) → is_over over n ≡ v → WerePosted all since n (tasks_at b n)
      by true is = subst (WerePosted all since n) (sym (none_at b n (shut fit up b keeps n is))) tt
      by false out = each (tasks_at b n) out (looked fit up b keeps n)
