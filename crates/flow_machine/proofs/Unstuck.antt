-- Over a sound book nothing but the end of the numbers keeps a command from being decided.
use Rattle.std.proofs.Common.{◌≡◌, ℕ, ◌-◌, List, [], ◌∷◌, length, take, refl, sym, ap, ◌∙◌, subst, Option, Some, None, Bool, true, false, inl, inr, ⊎_elim}
use Rattle.std.specs.Prelude.{nat_eq, nat_lt}
use Rattle.std.proofs.lemmas.Option.{none-some, same_Some}
use Rattle.flow_base.specs.Syntax.{Bytes, Program}
use Rattle.flow_base.specs.declared.value.Value.{Value}
use Rattle.flow_base.specs.declared.code.Code.{Code}
use Rattle.flow_base.specs.declared.event.Input.TheVariants.{Signaled, ActivityCompleted, ActivityFailed}
use Rattle.flow_base.specs.declared.book.OpenActivity.{OpenActivity}
use Rattle.flow_base.specs.declared.book.Run.{Run}
use Rattle.flow_base.specs.declared.command.Command.TheVariants as command
use Rattle.flow_model.specs.WellFormed.{signal_of}
use Rattle.flow_model.specs.Configuration.{is_open}
use Rattle.flow_model.specs.Deliver.{all_fit, has_kind}
use Rattle.flow_model.specs.Open.{state_of}
use Rattle.flow_model.specs.Stands.{Stands}
use Rattle.flow_model.specs.Book.{Book, nth, text_number, requested, open_run, open_runs, signalled}
use Rattle.flow_model.specs.Apply.{Rules, program_if, program_at, on_task, refuse_unless, task_at, gives_kind, report_refusal, failure_refusal, tries_of}
use Rattle.flow_model.specs.Sound.{IsSoundRun, IsSound}
use Rattle.flow_model.proofs.Chains.{not_both}
use Rattle.flow_model.specs.Sound.{IsProgram}
use Rattle.flow_machine.specs.Soundness.{TextsRead, NumbersEnd, SoundDecides}
use Rattle.flow_machine.specs.Stuck.{HasMismatch, CantDeliver, CantRecord, unless_there, where_there, where_holds, unless_holds, needs, IsFull, StuckRegister, StuckStart, StuckSent, StuckSignal, StuckInput, StuckComplete, StuckFail, StuckUpgrade, StuckTold, StuckRuns, StuckOpen, IsStuck}
use Rattle.flow_machine.proofs.Places.{get_all, nth_place}
use Rattle.flow_machine.proofs.Waiting.{completion_taken, failure_taken}
use Rattle.flow_machine.proofs.TicksStand.{tick_goes_on}
use Rattle.flow_machine.proofs.Heard.{signal_taken, open_is_there}
use Rattle.flow_machine.proofs.Tried.{found_task, task_tried}
use Rattle.flow_machine.proofs.OpenRuns.{AreThere, first_there, open_there}

---- Tests

module _ (Y : Type 0) where
  unless_then : {A : Type 0} (o : Option A) (X : Type 0) → (o ≡ None → X → Y) → unless_there o X → Y
  unless_then None X f h = f refl h
  unless_then (Some x) X f h = absurd h

  where_then : {A : Type 0} (o : Option A) (X : A → Type 0) → ((x : A) → o ≡ Some x → X x → Y) → where_there o X → Y
  where_then None X f h = absurd h
  where_then (Some x) X f h = f x refl h

  held_then : (b : Bool) (X : Type 0) → (b ≡ true → X → Y) → where_holds b X → Y
  held_then true X f h = f refl h
  held_then false X f h = absurd h

  holds_then : (b : Bool) (X : Type 0) → (X → Y) → where_holds b X → Y
  holds_then true X f h = f h
  holds_then false X f h = absurd h

  needs_then : {A : Type 0} (o : Option A) (X : A → Type 0) → (o ≡ None → ⊥) → ((x : A) → o ≡ Some x → X x → Y) → needs o X → Y
  needs_then None X f g h = absurd (f refl)
  needs_then (Some x) X f g h = g x refl h

  unheld_then : (b : Bool) (X : Type 0) → (X → Y) → unless_holds b X → Y
  unheld_then true X f h = absurd h
  unheld_then false X f h = f h

task_found : (o : Option OpenActivity) (next : OpenActivity → Option Code) → on_task o next ≡ None → (t : OpenActivity) × ((o ≡ Some t) × (next t ≡ None))
task_found None next e = absurd (none-some _ (sym e))
task_found (Some t) next e = (t, (refl, e))

refuses_none : (b : Bool) (c : Code) (next : Option Code) → refuse_unless b c next ≡ None → (b ≡ true) × (next ≡ None)
refuses_none true c next e = (refl, e)
refuses_none false c next e = absurd (none-some c (sym e))

-- a report that nothing refuses is of an open activity, with a value of the type that it gives
reported : (r : Run) (event attempt : ℕ) (v : Value) → report_refusal r event attempt v ≡ None → (t : OpenActivity) × ((task_at r.tasks event ≡ Some t) × (gives_kind (nth r.history event) v ≡ true))
unfolding report_refusal
reported r event attempt v e =
    let found = task_found (task_at r.tasks event) _ e in
    let attempted = refuses_none (nat_eq found.0.attempt attempt) _ _ found.1.1 in
    (found.0, (found.1.0, (refuses_none (gives_kind (nth r.history event) v) _ None attempted.1).0))

-- a failed attempt that nothing refuses is of an open activity
failed : (r : Run) (event attempt : ℕ) → failure_refusal r event attempt ≡ None → (t : OpenActivity) × (task_at r.tasks event ≡ Some t)
unfolding failure_refusal
failed r event attempt e = let found = task_found (task_at r.tasks event) _ e in (found.0, found.1.0)

---- Commands

module _ (u : Rules) (b : Book) where
  register_decides : (body : Bytes) → StuckRegister u.program_of b body → NumbersEnd b
  unfolding StuckRegister
  register_decides body =
      where_then (NumbersEnd b) (program_if (u.program_of body)) (λ p. unless_there (text_number b body) (IsFull (length b.texts)))
      (λ p e. unless_then (NumbersEnd b) (text_number b body) (IsFull (length b.texts)) (λ new full. inl full))

  pub text_reads : TextsRead u b → (text : ℕ) (body : Bytes) → nth b.texts text ≡ Some body → program_if (u.program_of body) ≡ None → ⊥
  text_reads reads text body there none =
      let its = get_all (IsProgram u) b.texts (text - 1) body (nth_place b.texts text body there) reads in
      none-some its.0 (sym none ∙ ap program_if its.1)

  start_decides : (request flow : Bytes) (text : ℕ) (vs : List Value) → TextsRead u b → StuckStart u.program_of b request flow text vs → NumbersEnd b
  unfolding StuckStart
  start_decides request flow text vs reads =
      let numbered : Type 0 = IsFull (length b.runs) in
      let alone : Type 0 = unless_there (open_run b flow) numbered in
      let fits = λ (p : Program). where_holds (all_fit p.parameters vs) alone in
      let read = λ (body : Bytes). needs (program_if (u.program_of body)) fits in
      unless_then (NumbersEnd b) (requested b request) (where_there (nth b.texts text) read)
      (λ new. where_then (NumbersEnd b) (nth b.texts text) read
      (λ body there. needs_then (NumbersEnd b) (program_if (u.program_of body)) fits (text_reads reads text body there)
      (λ p e. holds_then (NumbersEnd b) (all_fit p.parameters vs) alone
      (unless_then (NumbersEnd b) (open_run b flow) numbered (λ none full. inr full)))))

  -- a sound run takes what its open activity gave
  records : (r : Run) (p : Program) (event attempt : ℕ) (v : Value) → IsSoundRun u b r → program_at u.program_of b r.text ≡ Some p → report_refusal r event attempt v ≡ None → CantRecord p r.history (ActivityCompleted event v) → ⊥
  records r p event attempt v its text e =
      let same : its.program ≡ p = same_Some its.program p (sym its.its_text ∙ text) in
      let stands : Stands p r.history its.place = subst (λ (q : Program). Stands q r.history its.place) same its.stands in
      let report = reported r event attempt v e in
      ⊎_elim (λ (m : HasMismatch p r.history). not_both p r.history its.place m.0 m.1.0 m.1.1 stands)
      (λ (c : CantDeliver p r.history (ActivityCompleted event v)).
      completion_taken p r.history c.0 r.tasks event v report.0 c.1.0 its.activities report.1.0 report.1.1 c.1.1)

  -- it is never stuck
  pub complete_goes_on : (run event attempt : ℕ) (v : Value) → IsSound u b → StuckComplete u.program_of b run event attempt v → ⊥
  unfolding StuckComplete StuckInput
  complete_goes_on run event attempt v h =
      let records_in = λ (r : Run) (p : Program). CantRecord p r.history (ActivityCompleted event v) in
      let taken = λ (r : Run). needs (program_at u.program_of b r.text) (records_in r) in
      where_then ⊥ (nth b.runs run) (λ r. unless_there (report_refusal r event attempt v) (taken r))
      (λ r there.
      let its : IsSoundRun u b r = get_all (IsSoundRun u b) b.runs (run - 1) r (nth_place b.runs run r there) h.runs in
      unless_then ⊥ (report_refusal r event attempt v) (taken r)
      (λ unrefused. needs_then ⊥ (program_at u.program_of b r.text) (records_in r) (λ none. none-some its.program (sym none ∙ its.its_text))
      (λ p text stuck. records r p event attempt v its text unrefused stuck)))

  -- a sound run takes that its open activity failed
  records_failure : (r : Run) (p : Program) (event : ℕ) (reason : Bytes) (t : OpenActivity) → IsSoundRun u b r → program_at u.program_of b r.text ≡ Some p → task_at r.tasks event ≡ Some t → CantRecord p r.history (ActivityFailed event reason) → ⊥
  records_failure r p event reason t its text there =
      let same : its.program ≡ p = same_Some its.program p (sym its.its_text ∙ text) in
      let stands : Stands p r.history its.place = subst (λ (q : Program). Stands q r.history its.place) same its.stands in
      ⊎_elim (λ (m : HasMismatch p r.history). not_both p r.history its.place m.0 m.1.0 m.1.1 stands)
      (λ (c : CantDeliver p r.history (ActivityFailed event reason)). failure_taken p r.history c.0 r.tasks event reason t c.1.0 its.activities there c.1.1)

  -- nor is it here: the event of an open activity says how often it is tried
  pub fail_goes_on : (run event attempt : ℕ) (reason : Bytes) → IsSound u b → StuckFail u.program_of b run event attempt reason → ⊥
  unfolding StuckFail StuckInput
  fail_goes_on run event attempt reason h =
      let records_in = λ (r : Run) (p : Program). CantRecord p r.history (ActivityFailed event reason) in
      let taken = λ (r : Run). needs (program_at u.program_of b r.text) (records_in r) in
      let tried = λ (r : Run) (x : ℕ × ℕ). unless_holds (nat_lt attempt x.0) (taken r) in
      let fails = λ (r : Run). needs (tries_of (nth r.history event)) (tried r) in
      where_then ⊥ (nth b.runs run) (λ r. unless_there (failure_refusal r event attempt) (fails r))
      (λ r there.
      let its : IsSoundRun u b r = get_all (IsSoundRun u b) b.runs (run - 1) r (nth_place b.runs run r there) h.runs in
      unless_then ⊥ (failure_refusal r event attempt) (fails r)
      (λ unrefused.
      let task = failed r event attempt unrefused in
      let found = found_task r event task.0 its.attempts task.1 in
      needs_then ⊥ (tries_of (nth r.history event)) (tried r) (λ none. task_tried r task.0 found.1 (ap (λ n. tries_of (nth r.history n)) found.0 ∙ none))
      (λ x e. unheld_then ⊥ (nat_lt attempt x.0) (taken r)
      (needs_then ⊥ (program_at u.program_of b r.text) (records_in r) (λ none. none-some its.program (sym none ∙ its.its_text))
      (λ p text stuck. records_failure r p event reason task.0 its text task.1 stuck)))))

  -- a text of the book is a program
  pub upgrade_goes_on : (run text : ℕ) → TextsRead u b → StuckUpgrade u.program_of b run text → ⊥
  unfolding StuckUpgrade
  upgrade_goes_on run text reads =
      let never = λ (p : Program). ⊥ in
      let read = λ (body : Bytes). needs (program_if (u.program_of body)) never in
      let opened = where_there (nth b.texts text) read in
      where_then ⊥ (nth b.runs run) (λ r. where_holds (is_open (state_of r.history)) opened)
      (λ r there. holds_then ⊥ (is_open (state_of r.history)) opened
      (where_then ⊥ (nth b.texts text) read
      (λ body e. needs_then ⊥ (program_if (u.program_of body)) never (text_reads reads text body e) (λ p g stuck. stuck))))

  -- an open sound run takes a signal that its program declares
  hears : (r : Run) (p : Program) (request name : Bytes) (v : Value) → IsSoundRun u b r → program_at u.program_of b r.text ≡ Some p → is_open (state_of r.history) ≡ true → StuckSent r request name v p → ⊥
  hears r p request name v its text opened =
      let same : its.program ≡ p = same_Some its.program p (sym its.its_text ∙ text) in
      let stands : Stands p r.history its.place = subst (λ (q : Program). Stands q r.history its.place) same its.stands in
      where_then ⊥ (signal_of p.declarations name) (λ k. where_holds (has_kind k v) (CantRecord p r.history (Signaled name request v)))
      (λ k declared. held_then ⊥ (has_kind k v) (CantRecord p r.history (Signaled name request v))
      (λ fits. ⊎_elim (λ (m : HasMismatch p r.history). not_both p r.history its.place m.0 m.1.0 m.1.1 stands)
      (λ (c : CantDeliver p r.history (Signaled name request v)). signal_taken p r.history c.0 request name v k c.1.0 opened declared fits c.1.1)))

  pub signal_goes_on : (request flow name : Bytes) (v : Value) → IsSound u b → StuckSignal u.program_of b request flow name v → ⊥
  unfolding StuckSignal
  signal_goes_on request flow name v h =
      let sent = λ (r : Run). StuckSent r request name v in
      let read = λ (r : Run). needs (program_at u.program_of b r.text) (sent r) in
      let opened = λ (n : ℕ). needs (nth b.runs n) read in
      unless_then ⊥ (signalled b flow request) (where_there (open_run b flow) opened)
      (λ new. where_then ⊥ (open_run b flow) opened
      (λ n found. let there = open_is_there b flow n found in
      needs_then ⊥ (nth b.runs n) read (λ none. none-some there.0 (sym none ∙ there.1.0))
      (λ r e.
      let its : IsSoundRun u b r = get_all (IsSoundRun u b) b.runs (n - 1) r (nth_place b.runs n r e) h.runs in
      let is_it : there.0 ≡ r = same_Some there.0 r (sym there.1.0 ∙ e) in
      needs_then ⊥ (program_at u.program_of b r.text) (sent r) (λ none. none-some its.program (sym none ∙ its.its_text))
      (λ p text. hears r p request name v its text (subst (λ (q : Run). is_open (state_of q.history) ≡ true) is_it there.1.1)))))

  -- a sound run is told
  told_goes_on : (n : ℕ) (r : Run) → IsSound u b → nth b.runs n ≡ Some r → StuckTold u.program_of b r → ⊥
  told_goes_on n r h there =
      let its : IsSoundRun u b r = get_all (IsSoundRun u b) b.runs (n - 1) r (nth_place b.runs n r there) h.runs in
      needs_then ⊥ (program_at u.program_of b r.text) (λ p. HasMismatch p r.history) (λ none. none-some its.program (sym none ∙ its.its_text))
      (λ p text (m : HasMismatch p r.history).
      let same : its.program ≡ p = same_Some its.program p (sym its.its_text ∙ text) in
      not_both p r.history its.place m.0 m.1.0 m.1.1 (subst (λ (q : Program). Stands q r.history its.place) same its.stands))

  runs_go_on : (ps : List (ℕ × Run)) → IsSound u b → AreThere b.runs ps → StuckRuns u.program_of b ps → ⊥
  runs_go_on [] h there stuck = stuck
  runs_go_on (p ∷ ps) h there (inl stuck) = told_goes_on p.0 p.1 h there.0 stuck
  runs_go_on (p ∷ ps) h there (inr stuck) = runs_go_on ps h there.1 stuck

  -- so are all that are listed
  pub list_goes_on : (from most : ℕ) → IsSound u b → StuckOpen u.program_of b from most → ⊥
  unfolding StuckOpen
  list_goes_on from most h stuck = runs_go_on (take most (open_runs b from)) h (first_there b.runs most (open_runs b from) (open_there b from)) stuck

pub sound_decides : SoundDecides
unfolding IsStuck
sound_decides u b (command.Register body) reads h stuck = register_decides u b body stuck
sound_decides u b (command.Start s) reads h stuck = start_decides u b s.request s.flow s.text s.arguments reads stuck
sound_decides u b (command.Signal request flow name v at) reads h stuck = absurd (signal_goes_on u b request flow name v h stuck)
sound_decides u b (command.Complete c) reads h stuck = absurd (complete_goes_on u b c.run c.event c.attempt c.value h stuck)
sound_decides u b (command.Fail f) reads h stuck = absurd (fail_goes_on u b f.run f.event f.attempt f.reason h stuck)
sound_decides u b (command.Tick at) reads h stuck = absurd (tick_goes_on u b at h stuck)
sound_decides u b (command.Terminate run reason at) reads h stuck = absurd stuck
sound_decides u b (command.Upgrade run text) reads h stuck = absurd (upgrade_goes_on u b run text reads stuck)
sound_decides u b (command.Describe run) reads h stuck = absurd stuck
sound_decides u b (command.History run) reads h stuck = absurd stuck
sound_decides u b (command.Open from most) reads h stuck = absurd (list_goes_on u b from most h stuck)
