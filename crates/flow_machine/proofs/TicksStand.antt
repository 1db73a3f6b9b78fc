-- Where each run's history stands, a tick is never stuck: what is due first is an open timer of a run, which waits on it, and
-- what its firing leaves stands again.
use Rattle.std.proofs.Common.{◌≡◌, ℕ, zero, suc, ◌+◌, ◌-◌, ◌≤◌, List, [], ◌∷◌, ◌++◌, refl, sym, ◌∙◌, subst, arith, Option, Some, None, Bool, true, false, ⊎_elim}
use Rattle.std.specs.Prelude.{slice_get, slice_set, nat_le, if◌then◌else◌}
use Rattle.std.proofs.lemmas.Option.{none-some, same_Some}
use Rattle.std.proofs.lemmas.List.Elements.{All-push, All-set, All-weaker}
use Rattle.flow_base.specs.Syntax.{Program}
use Rattle.flow_base.specs.declared.value.Value.{Value}
use Rattle.flow_base.specs.declared.event.Input.TheVariants.{TimerFired, Terminated}
use Rattle.flow_base.specs.declared.book.Timer.{Timer}
use Rattle.flow_base.specs.declared.book.Due.{Due}
use Rattle.flow_base.specs.declared.book.Run.{Run}
use Rattle.flow_base.specs.declared.book.Turn.{Turn}
use Rattle.flow_base.specs.declared.book.Change.TheVariants.{AddTurn, AddRun}
use Rattle.flow_model.specs.Configuration.{Configuration, is_open}
use Rattle.flow_model.specs.Turn as turn
use Rattle.flow_model.specs.Turn.{Fresh}
use Rattle.flow_model.specs.Stands.{Stands}
use Rattle.flow_model.specs.Open.{open_timers, timers_left, state_of}
use Rattle.flow_model.specs.Book.{Book, nth, is_before, lesser, least_of, least_from, least_due, unbegun_run, with_turn, changed_by}
use Rattle.flow_model.specs.Apply.{Rules, program_at, first_turn, history_limit, firing_limit}
use Rattle.flow_model.specs.Sound.{IsSound}
use Rattle.flow_model.proofs.Chains.{not_both}
use Rattle.flow_model.proofs.OneMore.{stands_on, stands_first}
use Rattle.flow_model.proofs.Positions.{turned_is}
use Rattle.flow_model.proofs.Leaves.{delivered_open, terminates}
use Rattle.flow_machine.specs.Stuck.{HasMismatch, CantDeliver, CantRecord, where_there, needs, StuckInput, StuckFired, StuckFirings, StuckTick}
use Rattle.flow_machine.proofs.Places.{get_all, nth_at, nth_place}
use Rattle.flow_machine.proofs.Changes.{put_run}
use Rattle.flow_machine.proofs.Waiting.{firing_taken}
use Rattle.flow_machine.proofs.MadeChanges.{CoversTurns, now_of, fired_has}
use Rattle.flow_machine.proofs.Standing.{IsStanding, Standing, first_turn_is, sound_stands, taken_stands, turn_put}
use Rattle.flow_machine.proofs.Ticks.{fired_book}

---- The timer that is due first

-- it is an open timer of a run
pub record IsTimer (b : Book) (d : Due) : Type 0 where
  pub run : Run
  pub there : nth b.runs d.run ≡ Some run
  pub place : ℕ
  pub timer : Timer
  pub opened : slice_get (open_timers run.history) place ≡ Some timer
  pub same : timer.id ≡ d.id

module _ (b : Book) (at : ℕ) where
  abbrev IsFound : Option Due → Type 0
  IsFound None = Unit {0}
  IsFound (Some d) = IsTimer b d

  one_of : (t : Bool) (x y : Due) → IsTimer b x → IsTimer b y → IsTimer b (if t then x else y)
  one_of true x y h i = h
  one_of false x y h i = i

  lesser_found : (best : Option Due) (d : Due) → IsFound best → IsTimer b d → IsTimer b (lesser best d)
  lesser_found None d h i = i
  lesser_found (Some a) d h i = one_of (is_before a d) a d h i

  if_due : (t : Bool) (best : Option Due) (d : Due) → IsFound best → IsTimer b d → IsFound (if t then Some (lesser best d) else best)
  if_due true best d h i = lesser_found best d h i
  if_due false best d h i = h

  least_of_found : (run : ℕ) (best : Option Due) (ts : List Timer) → IsFound best
      → ((i : ℕ) (t : Timer) → slice_get ts i ≡ Some t → IsTimer b (record { due = t.due; run = run; id = t.id })) → IsFound (least_of at run best ts)
  least_of_found run best [] h f = h
  least_of_found run best (t ∷ ts) h f =
      let d : Due = record { due = t.due; run = run; id = t.id } in
      least_of_found run (if nat_le t.due at then Some (lesser best d) else best) ts (if_due (nat_le t.due at) best d h (f 0 t refl)) (λ i x g. f (suc i) x g)

  left_opened : (o : Bool) (ts : List Timer) (i : ℕ) (t : Timer) → slice_get (if o then ts else []) i ≡ Some t → slice_get ts i ≡ Some t
  left_opened true ts i t e = e
  left_opened false ts i t e = absurd (none-some t e)

  least_from_found : (n : ℕ) (best : Option Due) (rs : List Run) → ((i : ℕ) → nth b.runs (n + i) ≡ slice_get rs i) → IsFound best → IsFound (least_from at n best rs)
  least_from_found n best [] there h = h
  least_from_found n best (r ∷ rs) there h =
      let here : n + 0 ≡ n = omega arith in
      let its : nth b.runs n ≡ Some r = subst (λ j. nth b.runs j ≡ Some r) here (there 0) in
      least_from_found (n + 1) (least_of at n best (timers_left r.history)) rs
      (λ i. let next : n + suc i ≡ n + 1 + i = omega arith in subst (λ j. nth b.runs j ≡ slice_get rs i) next (there (suc i)))
      (least_of_found n best (timers_left r.history) h
      (λ i t e. record { run = r; there = its; place = i; timer = t; opened = left_opened (is_open (state_of r.history)) (open_timers r.history) i t e; same = refl }))

  pub least_due_found : (d : Due) → least_due b at ≡ Some d → IsTimer b d
  least_due_found d e = subst IsFound e (least_from_found 1 None b.runs (λ i. nth_at b.runs (1 + i) i (omega arith)) tt)

---- What stands stays so

module _ (u : Rules) where
  -- texts are as they were
  kept_run : (b : Book) (rs : List Run) (r : Run) → IsStanding u b r → IsStanding u (record b { runs = rs }) r
  kept_run b rs r s = record { program = s.program; its_text = s.its_text; place = s.place; stands = s.stands }

  standing_run : (b : Book) (q : Run) → Standing u b → IsStanding u b q → Standing u (record b { runs = b.runs ++ q ∷ [] })
  standing_run b q h s =
      let rs = b.runs ++ q ∷ [] in
      let new : Book = record b { runs = rs } in
      All-push (IsStanding u new) b.runs q (All-weaker (IsStanding u b) (IsStanding u new) (kept_run b rs) b.runs h) (kept_run b rs q s)

  standing_put : (b : Book) (n : ℕ) (q : Run) → Standing u b → IsStanding u b q → Standing u (put_run b n q)
  standing_put b n q h s =
      let rs = slice_set b.runs (n - 1) q in
      let new = put_run b n q in
      All-set (IsStanding u new) b.runs (n - 1) q (kept_run b rs q s) (All-weaker (IsStanding u b) (IsStanding u new) (kept_run b rs) b.runs h)

  ---- A run takes an input

  module _ (b : Book) (h : Standing u b) (n : ℕ) (r : Run) (there : nth b.runs n ≡ Some r) (p : Program) (text : program_at u.program_of b r.text ≡ Some p) (k : Configuration) (stands : Stands p r.history k) where
    turn_stays : (t : Turn) (k2 : Configuration) → k.moment ≤ t.at → turn.Turn p Fresh k t.at t.input t.commands k2 → Standing u (put_run b n (with_turn t r))
    turn_stays t k2 le made =
        standing_put b n (with_turn t r) h (record { program = p; its_text = text; place = k2; stands = stands_on p r.history k t.at t.input t.commands k2 stands le made })

    -- it goes on as a new run
    next_stays : (t first : Turn) (k2 : Configuration) (vs : List Value) → k.moment ≤ t.at → turn.Turn p Fresh k t.at t.input t.commands k2 → first_turn p t.at vs ≡ Some first
        → Standing u (changed_by b (AddTurn n t ∷ AddRun r.flow None r.text first ∷ []))
    next_stays t first k2 vs le made e =
        let begun = first_turn_is p t.at vs first e in
        subst (λ (x : Book). Standing u (changed_by x (AddRun r.flow None r.text first ∷ []))) (sym (turn_put b n r t there))
        (standing_run (put_run b n (with_turn t r)) (with_turn first (unbegun_run r.flow None r.text)) (turn_stays t k2 le made)
        (record { program = p; its_text = text; place = begun.0; stands = stands_first p first.at first.input first.commands begun.0 begun.1 }))

  turns_covered : (b : Book) → Standing u b → CoversTurns u b (λ cs. Standing u (changed_by b cs))
  turns_covered b h =
      record {
        nothing = h;
        turn = λ n r p k at i t taken.
            let stands = taken_stands u b n r p k at i t h taken in
            let made : Turn = record { at = now_of r at; input = i; commands = t.0 } in
            subst (Standing u) (sym (turn_put b n r made taken.there))
            (turn_stays b h n r taken.there p taken.reads k stands.0 made t.1 stands.1 (turned_is p Fresh k (now_of r at) i t.0 t.1 taken.turn));
        next = λ n r p k at i t taken vs first ends begins.
            let stands = taken_stands u b n r p k at i t h taken in
            next_stays b h n r taken.there p taken.reads k stands.0 (record { at = now_of r at; input = i; commands = t.0 }) first t.1 vs stands.1
            (turned_is p Fresh k (now_of r at) i t.0 t.1 taken.turn) begins;
        full = λ n r p k at i t taken.
            let stands = taken_stands u b n r p k at i t h taken in
            let made = turned_is p Fresh k (now_of r at) i t.0 t.1 taken.turn in
            let ends = terminates p k (now_of r at) history_limit (delivered_open p k i made.start taken.no_start made.delivered) in
            let closes : Turn = record { at = now_of r at; input = Terminated history_limit; commands = [] } in
            subst (Standing u) (sym (turn_put b n r closes taken.there))
            (turn_stays b h n r taken.there p taken.reads k stands.0 closes ends.0 stands.1 ends.1);
      }

  fired_stays : (at : ℕ) (b : Book) (d : Due) → Standing u b → Standing u (fired_book u at b d)
  fired_stays at b d h = fired_has u b (λ cs. Standing u (changed_by b cs)) (turns_covered b h) at d

  ---- It is never stuck

  -- a run that stands takes the firing of its open timer
  fires : (b : Book) (r : Run) (p : Program) (place n : ℕ) (t : Timer) → IsStanding u b r → program_at u.program_of b r.text ≡ Some p → slice_get (open_timers r.history) place ≡ Some t → t.id ≡ n
      → CantRecord p r.history (TimerFired n) → ⊥
  fires b r p place n t its text opened is =
      let same : its.program ≡ p = same_Some its.program p (sym its.its_text ∙ text) in
      let stands : Stands p r.history its.place = subst (λ (q : Program). Stands q r.history its.place) same its.stands in
      ⊎_elim (λ (m : HasMismatch p r.history). not_both p r.history its.place m.0 m.1.0 m.1.1 stands)
      (λ (c : CantDeliver p r.history (TimerFired n)).
      let none = subst (λ m. CantDeliver p r.history (TimerFired m)) (sym is) c in
      firing_taken p r.history none.0 place t none.1.0 opened none.1.1)

  needs_not : {A : Type 0} (o : Option A) (X : A → Type 0) (x : A) → o ≡ Some x → (X x → ⊥) → needs o X → ⊥
  needs_not None X x e f h = none-some x e
  needs_not (Some y) X x e f h = f (subst X (same_Some y x e) h)

  firing_goes_on : (b : Book) (d : Due) → Standing u b → IsTimer b d → StuckFired u.program_of b d → ⊥
  unfolding StuckFired StuckInput
  firing_goes_on b d h it =
      let r = it.run in
      let its : IsStanding u b r = get_all (IsStanding u b) b.runs (d.run - 1) r (nth_place b.runs d.run r it.there) h in
      let cant = λ (q : Run) (p : Program). CantRecord p q.history (TimerFired d.id) in
      needs_not (nth b.runs d.run) (λ q. needs (program_at u.program_of b q.text) (cant q)) r it.there
      (needs_not (program_at u.program_of b r.text) (cant r) its.program its.its_text (fires b r its.program it.place d.id it.timer its its.its_text it.opened it.same))

  where_not : {A : Type 0} (o : Option A) (X : A → Type 0) → ((x : A) → o ≡ Some x → X x → ⊥) → where_there o X → ⊥
  where_not None X f h = h
  where_not (Some x) X f h = f x refl h

  firings_go_on : (at n : ℕ) (b : Book) → Standing u b → StuckFirings u at n b → ⊥
  unfolding StuckFirings
  firings_go_on at zero b h stuck = stuck
  firings_go_on at (suc n) b h stuck =
      where_not (least_due b at) _
      (λ d e. ⊎_elim (λ (s : StuckFired u.program_of b d). firing_goes_on b d h (least_due_found b at d e) s)
      (λ (s : StuckFirings u at n (fired_book u at b d)). firings_go_on at n (fired_book u at b d) (fired_stays at b d h) s)) stuck

  pub tick_goes_on : (b : Book) (at : ℕ) → IsSound u b → StuckTick u b at → ⊥
  unfolding StuckTick
  tick_goes_on b at h stuck = firings_go_on at firing_limit b (sound_stands u b h) stuck
