-- How reads follow one another.
use Rattle.std.specs.Prelude.{◌≡◌, IsErrAnd}
use Rattle.flow_tables.proofs.Names.{by_run, StoreRows, Tables, Database, events_of, tasks_of, timers_of, State, Bool, IfErr, IsSome, Option, ℕ, IsRefused, IsStill, tables_in, StoreFault, Err, Ok, Result, subst, sym, ◌∙◌, inl, inr}
use Rattle.std.proofs.lemmas.Result.{MatchResult-weaker}
use Rattle.flow_sql.specs.Stored.{HasOddText}
use Rattle.flow_tables.specs.Asking.{AreAsked, StopsAsk}
use Rattle.flow_tables.specs.Faults.{Since}
use Rattle.flow_tables.specs.declared.fault.StoreFault.TheVariants.{NoMemory, Refused}
use Rattle.flow_tables.proofs.Stops.{quiet_then}
use Rattle.flow_tables.proofs.Stopping.{more_after, survived}
use Rattle.flow_tables.proofs.Opened.{rests_on}

pub still_then : (inside : Bool) (a b c : State) → IsStill inside a b → IsStill inside b c → IsStill inside a c
still_then inside a b c one two = (two.0, two.1 ∙ one.1, two.2 ∙ one.2)

pub still_refused : (inside : Bool) (a b c : State) → IsStill inside a b → IsRefused inside b c → IsRefused inside a c
still_refused inside a b c one (inl same) = inl (still_then inside a b c one same)
still_refused inside a b c one (inr undone) =
    inr (record { mode = undone.mode; over = λ up. let u = undone.over up in (u.0, u.1 ∙ one.2, u.2 ∙ one.2) })

stops_after : {V : Type 0} (inside : Bool) (a b c : State) (r : Result V StoreFault) → Since a b → IsStill inside a b → IfErr r (StopsAsk inside b c) → IfErr r (StopsAsk inside a c)
stops_after inside a b c (Ok v) since one h = tt
stops_after inside a b c (Err (NoMemory _)) since one h = tt
stops_after inside a b c (Err (Refused e)) since one (inl (inl more)) = inl (inl (more.0, more_after a.faults b.faults c.faults since.0 more.1))
stops_after inside a b c (Err (Refused e)) since one (inl (inr limit)) = inl (inr (subst (λ (o : Option ℕ). IsSome o) since.1 limit))
stops_after inside a b c (Err (Refused e)) since one (inr odd) = inr (still_then inside a b c one odd.0, subst (λ (d : Database). HasOddText (tables_in d)) one.1 odd.1, odd.2)

-- a question behind another: both tell what they tell
module _ {V W : Type 0} {before why : StoreFault → Type 0} {a b c : State} {P : Tables → V → Type 0} {Q : Tables → W → Type 0} {v : V} {r : Result W StoreFault} where
  pub then_asked : AreAsked before a b (Ok v) P → AreAsked why b c r Q → AreAsked why a c r (λ t x. P t v × Q t x)
  then_asked one two = record {
    reads = λ inside was clean.
        let it = one.reads inside was (two.clean clean) in
        MatchResult-weaker r (two.reads inside (λ _. it.0.0) clean) (λ x h. (still_then inside a b c it.0 h.0, (it.1, subst (λ (d : Database). Q (tables_in d) x) it.0.1 h.1))) (λ _. still_refused inside a b c it.0);
    clean = λ clean. one.clean (two.clean clean);
    cause = two.cause;
    stops = λ inside was clean.
        let it = one.reads inside was (two.clean clean) in
        stops_after inside a b c r (survived a b (λ _. ⊥) one.survives) it.0 (two.stops inside (λ _. it.0.0) clean);
    ended = λ clean rest. rests_on a b c (one.ended (two.clean clean) rest) (two.ended clean);
    survives = quiet_then a b c one.survives two.survives;
  }

-- what is made of an answer, and of a refusal
module _ {V W : Type 0} {before why : StoreFault → Type 0} {a b : State} {P : Tables → V → Type 0} {Q : Tables → W → Type 0} where
  pub made_asked : (v : V) (w : W) → ((t : Tables) → P t v → Q t w) → AreAsked before a b (Ok v) P → AreAsked why a b (Ok w) Q
  made_asked v w tells it = record {
    reads = λ inside was clean. let read = it.reads inside was clean in (read.0, tells (tables_in a.now) read.1);
    clean = it.clean;
    cause = λ _. tt;
    stops = λ _ _ _. tt;
    ended = it.ended;
    survives = it.survives;
  }

  pub not_asked : (f : StoreFault) → (before f → why f) → AreAsked before a b (Err f) P → AreAsked why a b (Err f) Q
  not_asked f so it = record { reads = it.reads; clean = it.clean; cause = λ clean. so (it.cause clean); stops = it.stops; ended = it.ended; survives = it.survives }

  -- as `?` hands it on
  pub left_asked : (r : Result W StoreFault) (f : StoreFault) → IsErrAnd r (λ e. e ≡ f) → (before f → why f) → AreAsked before a b (Err f) P → AreAsked why a b r Q
  left_asked (Ok w) f is so it = absurd is
  left_asked (Err e) f is so it = subst (λ x. AreAsked why a b (Err x) Q) (sym is) (not_asked f so it)

-- rows are the tables where each list of theirs is
pub rows_are : (rows : StoreRows) (t : Tables) → rows.texts ≡ t.texts → rows.runs ≡ t.runs → events_of rows.events ≡ t.events → timers_of rows.timers ≡ t.timers → tasks_of rows.outbox ≡ t.outbox → by_run rows ≡ t
rows_are rows t a b e m o = λ i. record { texts = a i; runs = b i; events = e i; timers = m i; outbox = o i }
