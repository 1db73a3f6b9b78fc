-- Attempts that failed: an activity is tried as often as its event asked, at most 20 times, and a run keeps sound with a later attempt.
use Rattle.std.proofs.Common.{◌≡◌, ℕ, zero, suc, ◌-◌, ◌≤◌, List, [], ◌∷◌, map, All, refl, sym, ap, ◌∙◌, subst, Option, Some, None, Bool, true, false, ⊎_elim}
use Rattle.std.specs.Prelude.{◌≢◌, slice_get, nat_eq, if◌then◌else◌}
use Rattle.std.proofs.lemmas.Option.{none-some, same_Some}
use Rattle.std.proofs.lemmas.Bool.{eqb-true}
use Rattle.std.proofs.lemmas.Bool.Decides.{eqb_tells}
use Rattle.std.proofs.lemmas.List.Elements.{All-nil, All-cons, All-head, All-tail}
use Rattle.flow_base.specs.Syntax.{Program}
use Rattle.flow_base.specs.declared.event.Cmd.{Cmd}
use Rattle.flow_base.specs.declared.event.Cmd.TheVariants.{Schedule, StartTimer, CancelTimer, RecordMarker, Complete, Fail, ContinueAsNew}
use Rattle.flow_base.specs.declared.event.Input.{Input}
use Rattle.flow_base.specs.declared.event.What.{What}
use Rattle.flow_base.specs.declared.event.What.TheVariants.{Came, Asked}
use Rattle.flow_base.specs.declared.event.Event.{Event}
use Rattle.flow_base.specs.declared.book.OpenActivity.{OpenActivity}
use Rattle.flow_base.specs.declared.book.Run.{Run}
use Rattle.flow_model.specs.Configuration.{Configuration, first_configuration}
use Rattle.flow_model.specs.Turn.{Recorded}
use Rattle.flow_model.specs.Stands.{Leads, Stands}
use Rattle.flow_model.specs.Book.{nth, at_attempt, with_attempt}
use Rattle.flow_model.specs.Apply.{task_at, tries_of}
use Rattle.flow_model.specs.Sound.{IsSoundTask}
use Rattle.flow_model.proofs.Tries.{AskedWell, TriedBlock, TriedRest}
use Rattle.flow_model.proofs.Leaves.{turn_leaves}
use Rattle.flow_machine.proofs.Places.{nth_place}
use Rattle.flow_machine.proofs.Tasks.{events_of}

---- What a standing history asked

not_asked : (i : Input) (c : Cmd) → Came i ≡ Asked c → ⊥
not_asked i c e = cc

same_asked : (c d : Cmd) → Asked c ≡ Asked d → c ≡ d
same_asked c d e = cc

asked_well : (p : Program) (n : ℕ) (due : List Cmd) (k : Configuration) (h : List Event) (k' : Configuration) → TriedBlock p.body → TriedRest k.rest → All AskedWell due → Leads p n due k h k'
    → (i : ℕ) (e : Event) (c : Cmd) → slice_get h i ≡ Some e → e.what ≡ Asked c → AskedWell c
asked_well p n due k [] k' b t w l i e c there is = absurd (none-some e there)
asked_well p n [] k (d ∷ later) k' b t w l zero e c there is =
    let a = l.1.1.0 in
    absurd (not_asked a.2.0 c (sym a.2.1 ∙ ap (λ (x : Event). x.what) (same_Some d e there) ∙ is))
asked_well p n [] k (d ∷ later) k' b t w l (suc i) e c there is =
    let a = l.1.1.0 in
    let turn = turn_leaves p (Recorded later) k d.at a.2.0 l.0 l.1.0 b t a.2.2 in asked_well p (suc n) l.0 l.1.0 later k' b turn.tried turn.asked l.1.1.1 i e c there is
asked_well p n (x ∷ due) k (d ∷ later) k' b t w l zero e c there is =
    let a = l.1.1.0 in
    subst AskedWell (same_asked x c (sym a.2 ∙ ap (λ (y : Event). y.what) (same_Some d e there) ∙ is)) (All-head AskedWell x due w)
asked_well p n (x ∷ due) k (d ∷ later) k' b t w l (suc i) e c there is =
    let a = l.1.1.0 in
    asked_well p (suc n) l.0 l.1.0 later k' b (subst (λ (q : Configuration). TriedRest q.rest) (sym a.4) t) (subst (All AskedWell) (sym a.3) (All-tail AskedWell x due w)) l.1.1.1 i e c there is

stands_asked : (p : Program) (h : List Event) (k : Configuration) → TriedBlock p.body → Stands p h k → (n : ℕ) (e : Event) (c : Cmd) → nth h n ≡ Some e → e.what ≡ Asked c → AskedWell c
stands_asked p h k b s n e c there is = asked_well p 1 [] first_configuration h k b tt (All-nil AskedWell) s.1 (n - 1) e c (nth_place h n e there) is

---- The tries of an event

abbrev tries_by : What → Option (ℕ × ℕ)
tries_by w = elim w [ Came i ↦ None | Asked c ↦ elim c [ Schedule a vs tries every k ↦ Some (tries, every) | _ ↦ None ] ]

-- what is tried so often was asked so
abbrev AsksTries : What → ℕ × ℕ → Type 0
AsksTries w x = (a : _) × ((vs : _) × ((k : _) × (w ≡ Asked (Schedule a vs x.0 x.1 k))))

tries_asked : (w : What) (x : ℕ × ℕ) → tries_by w ≡ Some x → AsksTries w x
tries_asked (Came i) x h = absurd (none-some x h)
tries_asked (Asked (Schedule a vs n m k)) x h = (a, (vs, (k, ap (λ (y : ℕ × ℕ). Asked (Schedule a vs y.0 y.1 k)) (same_Some (n, m) x h))))
tries_asked (Asked (StartTimer d)) x h = absurd (none-some x h)
tries_asked (Asked (CancelTimer n)) x h = absurd (none-some x h)
tries_asked (Asked (RecordMarker id)) x h = absurd (none-some x h)
tries_asked (Asked (Complete v)) x h = absurd (none-some x h)
tries_asked (Asked (Fail c t)) x h = absurd (none-some x h)
tries_asked (Asked (ContinueAsNew vs)) x h = absurd (none-some x h)

tried_event : (o : Option Event) (x : ℕ × ℕ) → tries_of o ≡ Some x → (e : Event) × ((o ≡ Some e) × AsksTries e.what x)
tried_event None x h = absurd (none-some x h)
tried_event (Some e) x h = (e, (refl, tries_asked e.what x h))

-- no activity is tried more than 20 times
pub few_tries : (p : Program) (h : List Event) (k : Configuration) (n : ℕ) (x : ℕ × ℕ) → TriedBlock p.body → Stands p h k → tries_of (nth h n) ≡ Some x → x.0 ≤ 20
few_tries p h k n x b s e =
    let its = tried_event (nth h n) x e in
    let asked = its.1.1 in
    let well : AskedWell (Schedule asked.0 asked.1.0 x.0 x.1 asked.1.1.0) = stands_asked p h k b s n its.0 (Schedule asked.0 asked.1.0 x.0 x.1 asked.1.1.0) its.1.0 asked.1.1.1 in
    well.1.1

-- a sound activity is tried as often as its event asked
its_tries : (r : Run) (t : OpenActivity) (s : IsSoundTask r t) (x : ℕ × ℕ) → tries_of (nth r.history t.event) ≡ Some x → s.tries ≡ x.0
its_tries r t s x e =
    let asked = s.asked.1.1 in
    let by : tries_of (nth r.history t.event) ≡ Some (s.tries, asked.0) = ap tries_of s.scheduled ∙ ap tries_by asked.1.1 in
    ap (λ (y : ℕ × ℕ). y.0) (same_Some (s.tries, asked.0) x (sym by ∙ e))

pub task_tried : (r : Run) (t : OpenActivity) (s : IsSoundTask r t) → tries_of (nth r.history t.event) ≡ None → ⊥
task_tried r t s e =
    let asked = s.asked.1.1 in none-some (s.tries, asked.0) (sym e ∙ ap tries_of s.scheduled ∙ ap tries_by asked.1.1)

found_by : (r : Run) (event : ℕ) (t u : OpenActivity) (o : Option OpenActivity) (b : Bool) → nat_eq u.event event ≡ b → IsSoundTask r u → (o ≡ Some t → (t.event ≡ event) × IsSoundTask r t) → (if b then Some u else o) ≡ Some t
    → (t.event ≡ event) × IsSoundTask r t
found_by r event t u o true is s more e = subst (λ (x : OpenActivity). (x.event ≡ event) × IsSoundTask r x) (same_Some u t e) (eqb-true u.event event is, s)
found_by r event t u o false is s more e = more e

found_in : (r : Run) (event : ℕ) (t : OpenActivity) (ts : List OpenActivity) → All (IsSoundTask r) ts → task_at ts event ≡ Some t → (t.event ≡ event) × IsSoundTask r t
found_in r event t [] h e = absurd (none-some t e)
found_in r event t (u ∷ ts) h e =
    found_by r event t u (task_at ts event) (nat_eq u.event event) refl (All-head (IsSoundTask r) u ts h) (found_in r event t ts (All-tail (IsSoundTask r) u ts h)) e

-- a task that is found is sound, and of its event
pub found_task : (r : Run) (event : ℕ) (t : OpenActivity) → All (IsSoundTask r) r.tasks → task_at r.tasks event ≡ Some t → (t.event ≡ event) × IsSoundTask r t
found_task r event t h e = found_in r event t r.tasks h e

---- A later attempt

module _ (r : Run) (event attempt ready : ℕ) where
  abbrev Later : Run
  Later = with_attempt event attempt ready r

  same_task : (t : OpenActivity) → IsSoundTask r t → IsSoundTask Later t
  same_task t s = record { first = s.first; event = s.event; scheduled = s.scheduled; tries = s.tries; asked = s.asked; last = s.last }

  later_task : (t : OpenActivity) (s : IsSoundTask r t) → 1 ≤ attempt → attempt ≤ s.tries → IsSoundTask Later (record { event = t.event; attempt = attempt; ready = ready })
  later_task t s first last = record { first = first; event = s.event; scheduled = s.scheduled; tries = s.tries; asked = s.asked; last = last }

  one_attempt : (t : OpenActivity) (x : ℕ × ℕ) → IsSoundTask r t → tries_of (nth r.history event) ≡ Some x → 1 ≤ attempt → attempt ≤ x.0 → IsSoundTask Later (at_attempt event attempt ready t)
  one_attempt t x s e first last =
      let new : OpenActivity = record { event = t.event; attempt = attempt; ready = ready } in
      let by : Bool → OpenActivity = λ b. if b then new else t in
      ⊎_elim (λ (y : (nat_eq t.event event ≡ true) × (t.event ≡ event)).
      let tries : s.tries ≡ x.0 = its_tries r t s x (ap (λ n. tries_of (nth r.history n)) y.1 ∙ e) in
      subst (IsSoundTask Later) (sym (ap by y.0)) (later_task t s first (subst (λ n. attempt ≤ n) (sym tries) last)))
      (λ (y : (nat_eq t.event event ≡ false) × (t.event ≢ event)). subst (IsSoundTask Later) (sym (ap by y.0)) (same_task t s)) (eqb_tells t.event event)

  pub all_attempts : (ts : List OpenActivity) (x : ℕ × ℕ) → All (IsSoundTask r) ts → tries_of (nth r.history event) ≡ Some x → 1 ≤ attempt → attempt ≤ x.0 → All (IsSoundTask Later) (map (at_attempt event attempt ready) ts)
  all_attempts [] x h e first last = All-nil (IsSoundTask Later)
  all_attempts (t ∷ ts) x h e first last =
      All-cons (IsSoundTask Later) (at_attempt event attempt ready t) (map (at_attempt event attempt ready) ts)
      (one_attempt t x (All-head (IsSoundTask r) t ts h) e first last) (all_attempts ts x (All-tail (IsSoundTask r) t ts h) e first last)

  same_event : (t : OpenActivity) (b : Bool) → (if b then record { event = t.event; attempt = attempt; ready = ready } else t).event ≡ t.event
  same_event t true = refl
  same_event t false = refl

  -- the same activities are open
  pub same_events : (ts : List OpenActivity) → events_of (map (at_attempt event attempt ready) ts) ≡ events_of ts
  same_events [] = refl
  same_events (t ∷ ts) =
      ap (λ n. n ∷ events_of (map (at_attempt event attempt ready) ts)) (same_event t (nat_eq t.event event)) ∙ ap (λ l. t.event ∷ l) (same_events ts)
