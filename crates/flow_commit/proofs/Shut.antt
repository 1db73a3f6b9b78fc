-- A run that a command has closed has nothing open in any later book.
use Rattle.std.proofs.Common.{◌≡◌, ◌⊎◌, inl, inr, ◌+◌, ◌-◌, ℕ, zero, suc, Bool, true, false, cond, ◌||◌, List, [], ◌∷◌, ◌++◌, length, map, max, Option, Some, None, Result, Ok, Err, slice_get, slice_set, nat_eq, refl, sym, ap, ◌∙◌, subst, arith, append_assoc, true≢false}
use Rattle.std.specs.Prelude.{nat_le, nat_lt, if◌then◌else◌}
use Rattle.std.specs.Ordering.{nat_cmp, is_eq}
use Rattle.std.proofs.Common.{Ordering, Less, Equal, Greater}
use Rattle.std.proofs.lemmas.Cmp.{ranked}
use Rattle.std.proofs.lemmas.Bool.{eqb-true, eqb-false}
use Rattle.std.proofs.lemmas.Option.{none-some, same_Some}
use Rattle.flow_base.specs.Syntax.{Bytes, Program}
use Rattle.flow_base.specs.Effects.{effect_of_command, effect_of_input, state_by}
use Rattle.flow_base.specs.declared.value.Value.{Value}
use Rattle.flow_base.specs.declared.event.Cmd.{Cmd}
use Rattle.flow_base.specs.declared.event.Cmd.TheVariants.{Schedule, StartTimer, CancelTimer, RecordMarker, Complete, Fail, ContinueAsNew}
use Rattle.flow_base.specs.declared.event.Event.{Event}
use Rattle.flow_base.specs.declared.event.Input.{Input}
use Rattle.flow_base.specs.declared.event.Input.TheVariants.{Started, Signaled, ActivityCompleted, ActivityFailed, TimerFired, Terminated}
use Rattle.flow_base.specs.declared.event.State.{State}
use Rattle.flow_base.specs.declared.event.State.TheVariants as state
use Rattle.flow_base.specs.declared.event.Wrong.{Wrong}
use Rattle.flow_base.specs.declared.book.OpenActivity.{OpenActivity}
use Rattle.flow_base.specs.declared.book.Timer.{Timer}
use Rattle.flow_base.specs.declared.book.Due.{Due}
use Rattle.flow_base.specs.declared.book.Run.{Run}
use Rattle.flow_base.specs.declared.book.Turn.{Turn}
use Rattle.flow_base.specs.declared.book.Change.{Change}
use Rattle.flow_base.specs.declared.book.Change.TheVariants.{AddText, AddRun, AddTurn, SetAttempt, SetText}
use Rattle.flow_base.specs.declared.code.Code.{Code}
use Rattle.flow_base.specs.declared.code.Code.TheVariants.{NoText, BadArguments, AlreadyOpen, NoOpenRun, NotOpen, OldAttempt, WrongType, NoSuchSignal, NoRun}
use Rattle.flow_base.specs.declared.command.Command.{Command}
use Rattle.flow_base.specs.declared.command.Command.TheVariants as command
use Rattle.flow_base.specs.declared.command.TextFault.{TextFault}
use Rattle.flow_base.specs.declared.command.Reply.{Reply}
use Rattle.flow_base.specs.declared.command.Reply.TheVariants as reply
use Rattle.flow_model.specs.Configuration.{Configuration, is_open}
use Rattle.flow_model.specs.WellFormed.{signal_of}
use Rattle.flow_model.specs.Deliver.{all_fit, has_kind}
use Rattle.flow_model.specs.Turn.{Fresh}
use Rattle.flow_model.specs.Turned.{turned, position_by_inputs, traces, turn_events}
use Rattle.flow_model.specs.Open.{tasks_after, tasks_by, timers_left, state_after, state_after_one, state_of, moment_of, open_timers}
use Rattle.flow_model.specs.Verdict.{verdict}
use Rattle.flow_model.specs.Book.{Book, nth, text_number, requested, open_run, signalled, least_due, changed, changed_by, with_run, with_turn, with_attempt, with_text, at_attempt, unbegun_run}
use Rattle.flow_model.specs.Apply.{Rules, Outcome, says, none_there, must_be, must_hold, tested, if_sound, program_if, program_at, first_turn, continued, run_from, next_run, history_limit, turn_made, recorded, input_recorded, report_refusal, gives_kind, refuse_unless, on_task, task_at, tries_of, failure_refusal, on_program, register, start, signal_recorded, signal, complete, ready_after, retried, attempt_failed, fail, terminated, terminate, if_stands, upgrade, describe, history, list_open, outcome, after, after_one, fired, firings, firing_limit, on_due, tick}
use Rattle.flow_model.proofs.DueFirst.{Has as Among, InRuns, IsLeast, runs_least}
use Rattle.flow_model.proofs.Logs.{nth_at}
use Rattle.flow_machine.specs.Deciding.{Decides}
use Rattle.flow_machine.proofs.Heard.{open_is_there}
use Rattle.flow_machine.proofs.Places.{get_past, nth_kept}
use Rattle.flow_machine.proofs.Ticks.{changed_append, fired_book, goes_on}
use Rattle.flow_commit.specs.Over.{is_over, is_same}
use Rattle.flow_commit.specs.Shutting.{AreShut, IsShut, ends, ends_at, ends_after, ends_by, shut_by, shut_in, started_by}

---- Runs by their numbers

or_false : (a : Bool) → (a || false) ≡ a
or_false true = refl
or_false false = refl

or_assoc : (a b c : Bool) → (a || (b || c)) ≡ ((a || b) || c)
or_assoc true b c = refl
or_assoc false b c = refl

same_is : (n m : ℕ) → is_same n m ≡ true → n ≡ m
same_is n m h = by (nat_cmp n m) refl h
  where
    by : (o : Ordering) → o ≡ nat_cmp n m → is_eq o ≡ true → n ≡ m
    by Less is e = absurd (true≢false (sym e))
    by Equal is e = ranked n m Equal is
    by Greater is e = absurd (true≢false (sym e))

pub over_both : (xs ys : List ℕ) (n : ℕ) → is_over (xs ++ ys) n ≡ (is_over xs n || is_over ys n)
over_both [] ys n = refl
over_both (x ∷ xs) ys n = ap (λ b. is_same x n || b) (over_both xs ys n) ∙ or_assoc (is_same x n) (is_over xs n) (is_over ys n)

own_set : (rs : List Run) (i : ℕ) (x y : Run) → slice_get rs i ≡ Some x → slice_get (slice_set rs i y) i ≡ Some y
own_set [] i x y there = absurd (none-some x there)
own_set (r ∷ rs) zero x y there = refl
own_set (r ∷ rs) (suc i) x y there = own_set rs i x y there

other_set : (rs : List Run) (i j : ℕ) (y : Run) → (i ≡ j → ⊥) → slice_get (slice_set rs i y) j ≡ slice_get rs j
other_set [] i j y apart = refl
other_set (r ∷ rs) zero zero y apart = absurd (apart refl)
other_set (r ∷ rs) zero (suc j) y apart = refl
other_set (r ∷ rs) (suc i) zero y apart = refl
other_set (r ∷ rs) (suc i) (suc j) y apart = other_set rs i j y (λ e. apart (ap suc e))

nth_own : (rs : List Run) (n : ℕ) (x y : Run) → nth rs n ≡ Some x → nth (slice_set rs (n - 1) y) n ≡ Some y
nth_own rs zero x y there = absurd (none-some x there)
nth_own rs (suc k) x y there =
    let e : k ≡ suc k - 1 = omega arith in
    subst (λ i. nth (slice_set rs i y) (suc k) ≡ Some y) e (nth_at (slice_set rs k y) (suc k) k refl ∙ own_set rs k x y (sym (nth_at rs (suc k) k refl) ∙ there))

nth_other : (rs : List Run) (i n : ℕ) (x y z : Run) → nth rs i ≡ Some x → nth rs n ≡ Some z → (i ≡ n → ⊥) → nth (slice_set rs (i - 1) y) n ≡ Some z
nth_other rs zero n x y z at there apart = absurd (none-some x at)
nth_other rs (suc k) zero x y z at there apart = absurd (none-some z there)
nth_other rs (suc k) (suc j) x y z at there apart =
    let e : k ≡ suc k - 1 = omega arith in
    subst (λ i. nth (slice_set rs i y) (suc j) ≡ Some z) e (nth_at (slice_set rs k y) (suc j) j refl ∙ other_set rs k j y (λ same. apart (ap suc same)) ∙ sym (nth_at rs (suc j) j refl) ∙ there)

last_there : (rs : List Run) (r : Run) → nth (rs ++ r ∷ []) (length rs + 1) ≡ Some r
last_there rs r = nth_at (rs ++ r ∷ []) (length rs + 1) (length rs) (omega arith) ∙ get_past rs (r ∷ []) (length rs) 0 (omega arith)

---- A run that is shut stays so

set_shut : (rs : List Run) (i n : ℕ) (x y : Run) → nth rs i ≡ Some x → ((s : IsShut rs n) → i ≡ n → (y.tasks ≡ []) × (is_open (state_of y.history) ≡ false)) → IsShut rs n → IsShut (slice_set rs (i - 1) y) n
set_shut rs i n x y at own s = by (nat_eq i n) refl
  where
    by : (v : Bool) → nat_eq i n ≡ v → IsShut (slice_set rs (i - 1) y) n
    by true is =
        let same : i ≡ n = eqb-true i n is in
        let so = own s same in
        record { run = y; there = subst (λ m. nth (slice_set rs (i - 1) y) m ≡ Some y) same (nth_own rs i x y at); tasks = so.0; closed = so.1 }
    by false is = record { run = s.run; there = nth_other rs i n x y s.run at s.there (eqb-false i n is); tasks = s.tasks; closed = s.closed }

abbrev put_by : Book → ℕ → (Run → Run) → Option Run → Book
put_by b i f o = elim o [ None ↦ b | Some q ↦ record b { runs = slice_set b.runs (i - 1) (f q) } ]

-- what leaves a closed run closed
abbrev Leaves : (Run → Run) → Type 0
Leaves f = (r : Run) → r.tasks ≡ [] → is_open (state_of r.history) ≡ false → ((f r).tasks ≡ []) × (is_open (state_of (f r).history) ≡ false)

in_run : (b : Book) (i n : ℕ) (f : Run → Run) → Leaves f → IsShut b.runs n → IsShut (with_run b i f).runs n
in_run b i n f leaves s = by (nth b.runs i) refl
  where
    by : (o : Option Run) → nth b.runs i ≡ o → IsShut (put_by b i f o).runs n
    by None at = s
    by (Some q) at = set_shut b.runs i n q (f q) at (λ t same.
        let one : t.run ≡ q = same_Some t.run q (sym t.there ∙ ap (nth b.runs) (sym same) ∙ at) in
        leaves q (ap (λ (r : Run). r.tasks) (sym one) ∙ t.tasks) (ap (λ (r : Run). is_open (state_of r.history)) (sym one) ∙ t.closed)) s

other_turn : (b : Book) (i n : ℕ) (t : Turn) → (i ≡ n → ⊥) → IsShut b.runs n → IsShut (changed b (AddTurn i t)).runs n
other_turn b i n t apart s = by (nth b.runs i) refl
  where
    by : (o : Option Run) → nth b.runs i ≡ o → IsShut (put_by b i (with_turn t) o).runs n
    by None at = s
    by (Some q) at = set_shut b.runs i n q (with_turn t q) at (λ x same. absurd (apart same)) s

more_shut : (b : Book) (r : Run) (n : ℕ) → IsShut b.runs n → IsShut (b.runs ++ r ∷ []) n
more_shut b r n s = record { run = s.run; there = nth_kept b.runs (r ∷ []) n s.run s.there; tasks = s.tasks; closed = s.closed }

---- A turn that closes its run

asked_tasks : (before : Bool) (ts : List OpenActivity) (n at : ℕ) (cs : List Cmd) → (before ≡ true → ts ≡ []) → ends_after before cs ≡ true → tasks_after ts (traces n at cs) ≡ []
asked_tasks before ts n at [] none is = none is
asked_tasks before ts n at (c ∷ cs) none is = asked_tasks (ends_by c) (tasks_by ts n at (effect_of_command c)) (n + 1) at cs (closing c) is
  where
    closing : (c : Cmd) → ends_by c ≡ true → tasks_by ts n at (effect_of_command c) ≡ []
    closing (Schedule a vs tries every k) e = absurd (true≢false (sym e))
    closing (StartTimer due) e = absurd (true≢false (sym e))
    closing (CancelTimer m) e = absurd (true≢false (sym e))
    closing (RecordMarker p) e = absurd (true≢false (sym e))
    closing (Complete v) e = refl
    closing (Fail code text) e = refl
    closing (ContinueAsNew vs) e = refl

turn_tasks : (ts : List OpenActivity) (n : ℕ) (t : Turn) → ends t ≡ true → tasks_after ts (turn_events n t.at t.input t.commands) ≡ []
turn_tasks ts n t is = asked_tasks (ends_at t.input) (tasks_by ts n t.at (effect_of_input t.input)) (n + 1) t.at t.commands (came t.input) is
  where
    came : (i : Input) → ends_at i ≡ true → tasks_by ts n t.at (effect_of_input i) ≡ []
    came (Started vs) e = absurd (true≢false (sym e))
    came (Signaled a r v) e = absurd (true≢false (sym e))
    came (ActivityCompleted m v) e = absurd (true≢false (sym e))
    came (ActivityFailed m x) e = absurd (true≢false (sym e))
    came (TimerFired m) e = absurd (true≢false (sym e))
    came (Terminated x) e = refl

asked_state : (before : Bool) (s : State) (n at : ℕ) (cs : List Cmd) → (before ≡ true → is_open s ≡ false) → ends_after before cs ≡ true → is_open (state_after s (traces n at cs)) ≡ false
asked_state before s n at [] none is = none is
asked_state before s n at (c ∷ cs) none is = asked_state (ends_by c) (state_by s (effect_of_command c)) (n + 1) at cs (closing c) is
  where
    closing : (c : Cmd) → ends_by c ≡ true → is_open (state_by s (effect_of_command c)) ≡ false
    closing (Schedule a vs tries every k) e = absurd (true≢false (sym e))
    closing (StartTimer due) e = absurd (true≢false (sym e))
    closing (CancelTimer m) e = absurd (true≢false (sym e))
    closing (RecordMarker p) e = absurd (true≢false (sym e))
    closing (Complete v) e = refl
    closing (Fail code text) e = refl
    closing (ContinueAsNew vs) e = refl

turn_state : (s : State) (n : ℕ) (t : Turn) → ends t ≡ true → is_open (state_after s (turn_events n t.at t.input t.commands)) ≡ false
turn_state s n t is = asked_state (ends_at t.input) (state_by s (effect_of_input t.input)) (n + 1) t.at t.commands (came t.input) is
  where
    came : (i : Input) → ends_at i ≡ true → is_open (state_by s (effect_of_input i)) ≡ false
    came (Started vs) e = absurd (true≢false (sym e))
    came (Signaled a r v) e = absurd (true≢false (sym e))
    came (ActivityCompleted m v) e = absurd (true≢false (sym e))
    came (ActivityFailed m x) e = absurd (true≢false (sym e))
    came (TimerFired m) e = absurd (true≢false (sym e))
    came (Terminated x) e = refl

state_on : (s : State) (h es : List Event) → state_after s (h ++ es) ≡ state_after (state_after s h) es
state_on s [] es = refl
state_on s (e ∷ h) es = state_on (state_after_one s e) h es

shut_turn : (r : Run) (t : Turn) → ends t ≡ true → ((with_turn t r).tasks ≡ []) × (is_open (state_of (with_turn t r).history) ≡ false)
shut_turn r t is = (
  turn_tasks r.tasks (length r.history + 1) t is,
  ap is_open (state_on state.Unbegun r.history (turn_events (length r.history + 1) t.at t.input t.commands)) ∙ turn_state (state_of r.history) (length r.history + 1) t is,
)

own_turn : (b : Book) (run : ℕ) (r : Run) (t : Turn) → nth b.runs run ≡ Some r → ends t ≡ true → IsShut (changed b (AddTurn run t)).runs run
own_turn b run r t there is = by (nth b.runs run) refl
  where
    by : (o : Option Run) → nth b.runs run ≡ o → IsShut (put_by b run (with_turn t) o).runs run
    by None at = absurd (none-some r (sym at ∙ there))
    by (Some q) at = let so = shut_turn q t is in record { run = with_turn t q; there = nth_own b.runs run q (with_turn t q) at; tasks = so.0; closed = so.1 }

---- Changes

-- What was shut is so after these changes, and so is what they close.
abbrev Goes : Book → Reply → List Change → Type 0
Goes b said cs = (n : ℕ) → IsShut b.runs n ⊎ (is_over (shut_in said cs) n ≡ true) → IsShut (changed_by b cs).runs n

none_goes : (b : Book) (said : Reply) → Goes b said []
none_goes b said n (inl s) = s
none_goes b said n (inr is) = absurd (true≢false (sym is))

-- runs that come, by another reply than that one was started
abbrev AreRuns : List Change → Type 0
AreRuns [] = Unit {0}
AreRuns (AddRun flow request text t ∷ cs) = AreRuns cs
AreRuns (AddText body ∷ cs) = ⊥
AreRuns (AddTurn run t ∷ cs) = ⊥
AreRuns (SetAttempt run event attempt ready ∷ cs) = ⊥
AreRuns (SetText run text ∷ cs) = ⊥

runs_stay : (b : Book) (cs : List Change) (n : ℕ) → AreRuns cs → IsShut b.runs n → IsShut (changed_by b cs).runs n
runs_stay b [] n are s = s
runs_stay b (AddRun flow request text t ∷ cs) n are s = runs_stay (changed b (AddRun flow request text t)) cs n are (more_shut b (with_turn t (unbegun_run flow request text)) n s)
runs_stay b (AddText body ∷ cs) n are s = absurd are
runs_stay b (AddTurn run t ∷ cs) n are s = absurd are
runs_stay b (SetAttempt run event attempt ready ∷ cs) n are s = absurd are
runs_stay b (SetText run text ∷ cs) n are s = absurd are

runs_close : (said : Reply) (cs : List Change) → started_by said ≡ [] → AreRuns cs → shut_in said cs ≡ []
runs_close said [] none are = refl
runs_close said (AddRun flow request text t ∷ cs) none are = ap (λ xs. xs ++ shut_in said cs) (by (ends t)) ∙ runs_close said cs none are
  where
    by : (v : Bool) → cond v (started_by said) [] ≡ []
    by true = none
    by false = refl
runs_close said (AddText body ∷ cs) none are = absurd are
runs_close said (AddTurn run t ∷ cs) none are = absurd are
runs_close said (SetAttempt run event attempt ready ∷ cs) none are = absurd are
runs_close said (SetText run text ∷ cs) none are = absurd are

only_first : (a b : Bool) → b ≡ false → (a || b) ≡ true → a ≡ true
only_first true b none h = refl
only_first false b none h = absurd (true≢false (sym h ∙ none))

-- a turn of a run that isn't shut, and runs after it
turn_goes : (b : Book) (said : Reply) (run : ℕ) (r : Run) (t : Turn) (cs : List Change) → nth b.runs run ≡ Some r → (IsShut b.runs run → ⊥) → started_by said ≡ [] → AreRuns cs → Goes b said (AddTurn run t ∷ cs)
turn_goes b said run r t cs there alive none are n (inl s) =
    runs_stay (changed b (AddTurn run t)) cs n are (other_turn b run n t (λ same. alive (subst (IsShut b.runs) (sym same) s)) s)
turn_goes b said run r t cs there alive none are n (inr is) =
    runs_stay (changed b (AddTurn run t)) cs n are (by (ends t) refl (sym (over_both (cond (ends t) (run ∷ []) []) (shut_in said cs) n) ∙ is))
  where
    rest : is_over (shut_in said cs) n ≡ false
    rest = ap (λ xs. is_over xs n) (runs_close said cs none are)

    by : (v : Bool) → ends t ≡ v → (is_over (cond v (run ∷ []) []) n || is_over (shut_in said cs) n) ≡ true → IsShut (changed b (AddTurn run t)).runs n
    by true ended has =
        let here = only_first (is_over (run ∷ []) n) (is_over (shut_in said cs) n) rest has in
        let own : run ≡ n = same_is run n (sym (or_false (is_same run n)) ∙ here) in
        subst (IsShut (changed b (AddTurn run t)).runs) own (own_turn b run r t there ended)
    by false ended has = absurd (true≢false (sym (only_first false (is_over (shut_in said cs) n) rest has)))

attempt_goes : (b : Book) (said : Reply) (run event attempt ready : ℕ) → Goes b said (SetAttempt run event attempt ready ∷ [])
attempt_goes b said run event attempt ready n (inl s) = in_run b run n (with_attempt event attempt ready) (λ r none closed. (ap (λ ts. map (at_attempt event attempt ready) ts) none, closed)) s
attempt_goes b said run event attempt ready n (inr is) = absurd (true≢false (sym is))

text_goes : (b : Book) (said : Reply) (run text : ℕ) → Goes b said (SetText run text ∷ [])
text_goes b said run text n (inl s) = in_run b run n (with_text text) (λ r none closed. (none, closed)) s
text_goes b said run text n (inr is) = absurd (true≢false (sym is))

body_goes : (b : Book) (said : Reply) (body : Bytes) → Goes b said (AddText body ∷ [])
body_goes b said body n (inl s) = s
body_goes b said body n (inr is) = absurd (true≢false (sym is))

-- the run that the reply names
started_goes : (b : Book) (flow : Bytes) (request : Option Bytes) (text : ℕ) (t : Turn) → Goes b (reply.Started (length b.runs + 1)) (AddRun flow request text t ∷ [])
started_goes b flow request text t n (inl s) = more_shut b (with_turn t (unbegun_run flow request text)) n s
started_goes b flow request text t n (inr is) = by (ends t) refl is
  where
    new : Run
    new = with_turn t (unbegun_run flow request text)

    by : (v : Bool) → ends t ≡ v → is_over (cond v ((length b.runs + 1) ∷ []) [] ++ []) n ≡ true → IsShut (b.runs ++ new ∷ []) n
    by true ended has =
        let own : length b.runs + 1 ≡ n = same_is (length b.runs + 1) n (sym (or_false (is_same (length b.runs + 1) n)) ∙ has) in
        let so = shut_turn (unbegun_run flow request text) t ended in
        subst (IsShut (b.runs ++ new ∷ [])) own (record { run = new; there = last_there b.runs new; tasks = so.0; closed = so.1 })
    by false ended has = absurd (true≢false (sym has))

shut_append : (said : Reply) (cs ds : List Change) → shut_in said (cs ++ ds) ≡ shut_in said cs ++ shut_in said ds
shut_append said [] ds = refl
shut_append said (c ∷ cs) ds = ap (λ xs. shut_by said c ++ xs) (shut_append said cs ds) ∙ sym (append_assoc (shut_by said c) (shut_in said cs) (shut_in said ds))

join_goes : (b : Book) (said : Reply) (cs ds : List Change) → Goes b said cs → Goes (changed_by b cs) said ds → Goes b said (cs ++ ds)
join_goes b said cs ds one two n (inl s) = subst (λ (c : Book). IsShut c.runs n) (sym (changed_append b cs ds)) (two n (inl (one n (inl s))))
join_goes b said cs ds one two n (inr is) =
    subst (λ (c : Book). IsShut c.runs n) (sym (changed_append b cs ds))
    (by (is_over (shut_in said cs) n) refl (sym (over_both (shut_in said cs) (shut_in said ds) n) ∙ ap (λ xs. is_over xs n) (sym (shut_append said cs ds)) ∙ is))
  where
    by : (v : Bool) → is_over (shut_in said cs) n ≡ v → (v || is_over (shut_in said ds) n) ≡ true → IsShut (changed_by (changed_by b cs) ds).runs n
    by true e h = two n (inl (one n (inr e)))
    by false e h = two n (inr h)

---- The tests of commands

module _ (H : Outcome → Type 0) (says_h : (r : Reply) → started_by r ≡ [] → H (says r)) where
  none_there_has : {A : Type 0} (o : Option A) (answer : A → Reply) (next : Outcome) → ((x : A) → started_by (answer x) ≡ []) → H next → H (none_there o answer next)
  none_there_has None answer next none h = h
  none_there_has (Some x) answer next none h = says_h (answer x) (none x)

  must_be_has : {A : Type 0} (o : Option A) (code : Code) (next : A → Outcome) → ((x : A) → o ≡ Some x → H (next x)) → H (must_be o code next)
  must_be_has None code next h = says_h (reply.Refused code) refl
  must_be_has (Some x) code next h = h x refl

  must_hold_has : (t : Bool) (code : Code) (next : Outcome) → (t ≡ true → H next) → H (must_hold t code next)
  must_hold_has true code next h = h refl
  must_hold_has false code next h = says_h (reply.Refused code) refl

  tested_has : (o : Option Code) (next : Outcome) → (o ≡ None → H next) → H (tested o next)
  tested_has None next h = h refl
  tested_has (Some code) next h = says_h (reply.Refused code) refl

  if_sound_has : {A : Type 0} (o : Option A) (next : A → Outcome) → ((x : A) → o ≡ Some x → H (next x)) → H (if_sound o next)
  if_sound_has None next h = says_h (reply.Refused NotOpen) refl
  if_sound_has (Some x) next h = h x refl

  on_program_has : (r : Result Program TextFault) (next : Program → Outcome) → ((p : Program) → H (next p)) → H (on_program r next)
  on_program_has (Ok p) next h = h p
  on_program_has (Err f) next h = says_h (reply.BadText f) refl

---- Which runs take turns

module _ (b : Book) (run : ℕ) (r : Run) (there : nth b.runs run ≡ Some r) where
  its_run : (s : IsShut b.runs run) → s.run ≡ r
  its_run s = same_Some s.run r (sym s.there ∙ there)

  open_alive : is_open (state_of r.history) ≡ true → IsShut b.runs run → ⊥
  open_alive opened s = true≢false (sym opened ∙ ap (λ (x : Run). is_open (state_of x.history)) (sym (its_run s)) ∙ s.closed)

  task_alive : (r.tasks ≡ [] → ⊥) → IsShut b.runs run → ⊥
  task_alive some s = some (ap (λ (x : Run). x.tasks) (sym (its_run s)) ∙ s.tasks)

-- an activity that is reported is open
reported : (r : Run) (event attempt : ℕ) (v : Value) → report_refusal r event attempt v ≡ None → r.tasks ≡ [] → ⊥
unfolding report_refusal
reported r event attempt v passed none =
    let judged : OpenActivity → Option Code = λ t. refuse_unless (nat_eq t.attempt attempt) OldAttempt (refuse_unless (gives_kind (nth r.history event) v) WrongType None) in
    none-some NotOpen (sym passed ∙ ap (λ ts. on_task (task_at ts event) judged) none)

failed : (r : Run) (event attempt : ℕ) → failure_refusal r event attempt ≡ None → r.tasks ≡ [] → ⊥
unfolding failure_refusal
failed r event attempt passed none =
    let judged : OpenActivity → Option Code = λ t. refuse_unless (nat_eq t.attempt attempt) OldAttempt None in
    none-some NotOpen (sym passed ∙ ap (λ ts. on_task (task_at ts event) judged) none)

-- a timer that is due is of an open run
due_alive : (b : Book) (at : ℕ) (d : Due) → least_due b at ≡ Some d → IsShut b.runs d.run → ⊥
due_alive b at d is s =
    let least = subst (IsLeast at (λ x. ⊥ ⊎ InRuns 1 b.runs x)) is (runs_least at 1 b.runs (λ x. ⊥) None (λ x it by. it)) in
    of_runs least.0
  where
    none_open : (r : Run) (t : Timer) → is_open (state_of r.history) ≡ false → Among (timers_left r.history) t → ⊥
    none_open r t closed has = subst (λ v. Among (if v then open_timers r.history else []) t) closed has

    of_runs : ⊥ ⊎ InRuns 1 b.runs d → ⊥
    of_runs (inl none) = none
    of_runs (inr (k, m, r, there, place, (t, has, same))) =
        let number : d.run ≡ m = ap (λ (x : Due). x.run) same in
        let at_place : nth b.runs d.run ≡ Some r = nth_at b.runs d.run k (let e : d.run ≡ suc k = omega (arith, number, place) in e) ∙ there in
        let one : s.run ≡ r = same_Some s.run r (sym s.there ∙ at_place) in
        none_open r t (ap (λ (x : Run). is_open (state_of x.history)) (sym one) ∙ s.closed) has

next_are : (p : Program) (r : Run) (at : ℕ) (o : Option (List Value)) → AreRuns (next_run p r at o)
next_are p r at None = tt
next_are p r at (Some vs) = from (first_turn p at vs)
  where
    from : (o : Option Turn) → AreRuns (run_from r o)
    from None = tt
    from (Some t) = tt

---- The commands

module _ (u : Rules) (b : Book) where
  -- A command that starts no run goes so, by any such reply.
  abbrev Has : Outcome → Type 0
  Has o = (started_by o.reply ≡ []) × ((r : Reply) → started_by r ≡ [] → Goes b r o.changes)

  says_has : (r : Reply) → started_by r ≡ [] → Has (says r)
  says_has r none = (none, λ x no. none_goes b x)

  made_has : (limit : ℕ) (p : Program) (run : ℕ) (r : Run) (at : ℕ) (i : Input) (cs : List Cmd) → nth b.runs run ≡ Some r → (IsShut b.runs run → ⊥) → Has (turn_made limit p r run at i cs)
  made_has limit p run r at i cs there alive = by (nat_le (length r.history + 1 + length cs) limit)
    where
      made : Turn
      made = record { at = at; input = i; commands = cs }

      full : Turn
      full = record { at = at; input = Terminated history_limit; commands = [] }

      by : (v : Bool) → Has (
          if v
          then record { reply = reply.Recorded run (length r.history + 1); changes = AddTurn run made ∷ next_run p r at (continued cs) }
          else record { reply = reply.Full run (length r.history + 1); changes = AddTurn run full ∷ [] })
      by true = (refl, λ x none. turn_goes b x run r made (next_run p r at (continued cs)) there alive none (next_are p r at (continued cs)))
      by false = (refl, λ x none. turn_goes b x run r full [] there alive none tt)

  recorded_has : (limit : ℕ) (p : Program) (run : ℕ) (r : Run) (at : ℕ) (i : Input) → nth b.runs run ≡ Some r → (IsShut b.runs run → ⊥) → Has (recorded limit p r run at i)
  unfolding recorded
  recorded_has limit p run r at i there alive =
      let now : ℕ = max at (moment_of r.history) in
      if_sound_has Has says_has (position_by_inputs p r.history) (λ k. if_sound (turned p Fresh k now i) (λ t. turn_made limit p r run now i t.0))
      (λ k place. if_sound_has Has says_has (turned p Fresh k now i) (λ t. turn_made limit p r run now i t.0)
      (λ t turn. made_has limit p run r now i t.0 there alive))

  input_has : (run : ℕ) (r : Run) (at : ℕ) (i : Input) → nth b.runs run ≡ Some r → (IsShut b.runs run → ⊥) → Has (input_recorded u b r run at i)
  unfolding input_recorded
  input_has run r at i there alive =
      if_sound_has Has says_has (program_at u.program_of b r.text) (λ p. recorded u.limit p r run at i) (λ p reads. recorded_has u.limit p run r at i there alive)

  register_has : (body : Bytes) → Has (register u.program_of b body)
  unfolding register
  register_has body =
      let adds : Outcome = record { reply = reply.Registered (length b.texts + 1); changes = AddText body ∷ [] } in
      on_program_has Has says_has (u.program_of body) (λ p. none_there (text_number b body) reply.Registered adds)
      (λ p. none_there_has Has says_has (text_number b body) reply.Registered adds (λ x. refl) (refl, λ x none. body_goes b x body))

  signal_has : (request flow name : Bytes) (v : Value) (at : ℕ) → Has (signal u b request flow name v at)
  unfolding signal
  signal_has request flow name v at =
      let taken : ℕ → Run → Program → Outcome = λ n r p. recorded u.limit p r n at (Signaled name request v) in
      let sent : ℕ → Run → Program → Outcome = λ n r. signal_recorded u.limit r n request name v at in
      let read : ℕ → Run → Outcome = λ n r. if_sound (program_at u.program_of b r.text) (sent n r) in
      let opened : ℕ → Outcome = λ n. if_sound (nth b.runs n) (read n) in
      none_there_has Has says_has (signalled b flow request) (λ x. reply.DuplicateSignal x.0 x.1) (must_be (open_run b flow) NoOpenRun opened) (λ x. refl)
      (must_be_has Has says_has (open_run b flow) NoOpenRun opened
      (λ n is. if_sound_has Has says_has (nth b.runs n) (read n)
      (λ r there. if_sound_has Has says_has (program_at u.program_of b r.text) (sent n r)
      (λ p reads. must_be_has Has says_has (signal_of p.declarations name) NoSuchSignal (λ k. must_hold (has_kind k v) WrongType (taken n r p))
      (λ k declared. must_hold_has Has says_has (has_kind k v) WrongType (taken n r p)
      (λ fits.
      let its = open_is_there b flow n is in
      let one : its.0 ≡ r = same_Some its.0 r (sym its.1.0 ∙ there) in
      recorded_has u.limit p n r at (Signaled name request v) there (open_alive b n r there (ap (λ (x : Run). is_open (state_of x.history)) (sym one) ∙ its.1.1))))))))

  complete_has : (run event attempt : ℕ) (v : Value) (at : ℕ) → Has (complete u b run event attempt v at)
  unfolding complete
  complete_has run event attempt v at =
      let takes : Run → Outcome = λ r. input_recorded u b r run at (ActivityCompleted event v) in
      must_be_has Has says_has (nth b.runs run) NoRun (λ r. tested (report_refusal r event attempt v) (takes r))
      (λ r there. tested_has Has says_has (report_refusal r event attempt v) (takes r)
      (λ passed. input_has run r at (ActivityCompleted event v) there (task_alive b run r there (reported r event attempt v passed))))

  failed_has : (run : ℕ) (r : Run) (event attempt : ℕ) (reason : Bytes) (at : ℕ) (x : ℕ × ℕ) → nth b.runs run ≡ Some r → (IsShut b.runs run → ⊥) → Has (attempt_failed u b r run event attempt reason at x)
  failed_has run r event attempt reason at x there alive = by (nat_lt attempt x.0)
    where
      ready : ℕ
      ready = ready_after (max at (moment_of r.history)) x.1

      by : (v : Bool) → Has (if v then retried run event attempt ready else input_recorded u b r run at (ActivityFailed event reason))
      by true = (refl, λ y none. attempt_goes b y run event (attempt + 1) ready)
      by false = input_has run r at (ActivityFailed event reason) there alive

  fail_has : (run event attempt : ℕ) (reason : Bytes) (at : ℕ) → Has (fail u b run event attempt reason at)
  unfolding fail
  fail_has run event attempt reason at =
      let fails : Run → Outcome = λ r. if_sound (tries_of (nth r.history event)) (attempt_failed u b r run event attempt reason at) in
      must_be_has Has says_has (nth b.runs run) NoRun (λ r. tested (failure_refusal r event attempt) (fails r))
      (λ r there. tested_has Has says_has (failure_refusal r event attempt) (fails r)
      (λ passed. if_sound_has Has says_has (tries_of (nth r.history event)) (attempt_failed u b r run event attempt reason at)
      (λ x tries. failed_has run r event attempt reason at x there (task_alive b run r there (failed r event attempt passed)))))

  terminate_has : (run : ℕ) (reason : Bytes) (at : ℕ) → Has (terminate b run reason at)
  unfolding terminate
  terminate_has run reason at =
      let closes : Run → Outcome = λ r. terminated r run reason at in
      must_be_has Has says_has (nth b.runs run) NoRun (λ r. must_hold (is_open (state_of r.history)) NotOpen (closes r))
      (λ r there. must_hold_has Has says_has (is_open (state_of r.history)) NotOpen (closes r)
      (λ opened. (refl, λ x none. turn_goes b x run r (record { at = max at (moment_of r.history); input = Terminated reason; commands = [] }) [] there (open_alive b run r there opened) none tt)))

  stands_has : (run text : ℕ) (o : Result Configuration (ℕ × Wrong)) → Has (if_stands run text o)
  stands_has run text (Ok k) = (refl, λ x none. text_goes b x run text)
  stands_has run text (Err m) = says_has (reply.Mismatch m.0 m.1) refl

  upgrade_has : (run text : ℕ) → Has (upgrade u.program_of b run text)
  unfolding upgrade
  upgrade_has run text =
      let judged : Run → Program → Outcome = λ r p. if_stands run text (verdict p r.history) in
      let read : Run → Bytes → Outcome = λ r body. if_sound (program_if (u.program_of body)) (judged r) in
      let goes : Run → Outcome = λ r. must_be (nth b.texts text) NoText (read r) in
      must_be_has Has says_has (nth b.runs run) NoRun (λ r. must_hold (is_open (state_of r.history)) NotOpen (goes r))
      (λ r there. must_hold_has Has says_has (is_open (state_of r.history)) NotOpen (goes r)
      (λ opened. must_be_has Has says_has (nth b.texts text) NoText (read r)
      (λ body its. if_sound_has Has says_has (program_if (u.program_of body)) (judged r) (λ p reads. stands_has run text (verdict p r.history)))))

  describe_has : (run : ℕ) → Has (describe b run)
  unfolding describe
  describe_has run = elim (nth b.runs run) as (λ o. Has (must_be o NoRun (λ r. says (reply.Run (record {
    flow = r.flow;
    text = r.text;
    state = state_of r.history;
    events = length r.history;
    activities = map (λ (t : OpenActivity). t.event) r.tasks;
    timers = map (λ (t : Timer). t.id) (timers_left r.history);
  }))))) [ None ↦ says_has (reply.Refused NoRun) refl | Some r ↦ (refl, λ x none. none_goes b x) ]

  history_has : (run : ℕ) → Has (history b run)
  unfolding history
  history_has run = must_be_has Has says_has (nth b.runs run) NoRun (λ r. says (reply.History r.history)) (λ r there. says_has (reply.History r.history) refl)

  list_has : (from most : ℕ) → Has (list_open u.program_of b from most)
  unfolding list_open
  list_has from most = (refl, λ x none. none_goes b x)

  fired_has : (at : ℕ) (d : Due) → least_due b at ≡ Some d → Has (fired u b at d)
  unfolding fired
  fired_has at d is =
      let takes : Run → Outcome = λ r. input_recorded u b r d.run at (TimerFired d.id) in
      if_sound_has Has says_has (nth b.runs d.run) takes (λ r there. input_has d.run r at (TimerFired d.id) there (due_alive b at d is))

  abbrev Starts : Outcome → Type 0
  Starts o = Goes b o.reply o.changes

  start_goes : (request flow : Bytes) (text : ℕ) (vs : List Value) (at : ℕ) → Starts (start u.program_of b request flow text vs at)
  unfolding start
  start_goes request flow text vs at =
      let told : (r : Reply) → started_by r ≡ [] → Starts (says r) = λ r none. none_goes b r in
      let adds : Turn → Outcome = λ t. record { reply = reply.Started (length b.runs + 1); changes = AddRun flow (Some request) text t ∷ [] } in
      let begins : Program → Outcome = λ p. if_sound (first_turn p at vs) adds in
      let alone : Program → Outcome = λ p. none_there (open_run b flow) (λ n. reply.Refused AlreadyOpen) (begins p) in
      let fits : Program → Outcome = λ p. must_hold (all_fit p.parameters vs) BadArguments (alone p) in
      let read : Bytes → Outcome = λ body. if_sound (program_if (u.program_of body)) fits in
      none_there_has Starts told (requested b request) reply.Duplicate (must_be (nth b.texts text) NoText read) (λ x. refl)
      (must_be_has Starts told (nth b.texts text) NoText read
      (λ body there. if_sound_has Starts told (program_if (u.program_of body)) fits
      (λ p reads. must_hold_has Starts told (all_fit p.parameters vs) BadArguments (alone p)
      (λ they_fit. none_there_has Starts told (open_run b flow) (λ n. reply.Refused AlreadyOpen) (begins p) (λ x. refl)
      (if_sound_has Starts told (first_turn p at vs) adds (λ t made. started_goes b flow (Some request) text t))))))

module _ (u : Rules) (at : ℕ) (r : Reply) (none : started_by r ≡ []) where
  firings_go : (k : ℕ) (b : Book) → Goes b r (firings u at k b).changes
  unfolding firings
  firings_go zero b = none_goes b r
  firings_go (suc k) b =
      elim (least_due b at) as (λ o. least_due b at ≡ o → Goes b r (on_due o b (goes_on u at k b)).changes) [
        | None ↦ λ is. none_goes b r
        | Some d ↦ λ is. join_goes b r (fired u b at d).changes (firings u at k (fired_book u at b d)).changes ((fired_has u b at d is).1 r none) (firings_go k (fired_book u at b d))
      ] refl

  tick_goes : (b : Book) → Goes b r (tick u b at).changes
  unfolding tick
  tick_goes b = firings_go firing_limit b

module _ (u : Rules) (b : Book) where
  goes_by : (o : Outcome) → Has u b o → Goes b o.reply o.changes
  goes_by o h = h.1 o.reply h.0

  tick_told : (at : ℕ) → started_by (tick u b at).reply ≡ []
  unfolding tick
  tick_told at = refl

  goes : (c : Command) → Goes b (outcome u b c).reply (outcome u b c).changes
  unfolding outcome
  goes (command.Register body) = goes_by (register u.program_of b body) (register_has u b body)
  goes (command.Start s) = start_goes u b s.request s.flow s.text s.arguments s.at
  goes (command.Signal request flow name v at) = goes_by (signal u b request flow name v at) (signal_has u b request flow name v at)
  goes (command.Complete c) = goes_by (complete u b c.run c.event c.attempt c.value c.at) (complete_has u b c.run c.event c.attempt c.value c.at)
  goes (command.Fail f) = goes_by (fail u b f.run f.event f.attempt f.reason f.at) (fail_has u b f.run f.event f.attempt f.reason f.at)
  goes (command.Tick at) = tick_goes u at (tick u b at).reply (tick_told at) b
  goes (command.Terminate run reason at) = goes_by (terminate b run reason at) (terminate_has u b run reason at)
  goes (command.Upgrade run text) = goes_by (upgrade u.program_of b run text) (upgrade_has u b run text)
  goes (command.Describe run) = goes_by (describe b run) (describe_has u b run)
  goes (command.History run) = goes_by (history b run) (history_has u b run)
  goes (command.Open from most) = goes_by (list_open u.program_of b from most) (list_has u b from most)

-- After one more command what was shut is so, and what it closes.
pub shut_decided : (u : Rules) (before now : List ℕ) (old new : Book) (r : Reply) (changes : List Change) (c : Command) → Decides old new r changes (outcome u old c) → now ≡ before ++ shut_in r changes
    → AreShut before old → AreShut now new
shut_decided u before now old new r changes c d is shut n among =
    let o = outcome u old c in
    let whole : now ≡ before ++ shut_in o.reply o.changes = is ∙ ap (λ xs. before ++ xs) (λ i. shut_in (d.reply_is i) (d.changes_are i)) in
    subst (λ (k : Book). IsShut k.runs n) (sym d.book_is)
    (goes u old c n (either (is_over before n) refl (sym (over_both before (shut_in o.reply o.changes) n) ∙ ap (λ xs. is_over xs n) (sym whole) ∙ among)))
  where
    either : (v : Bool) → is_over before n ≡ v → (v || is_over (shut_in (outcome u old c).reply (outcome u old c).changes) n) ≡ true
        → IsShut old.runs n ⊎ (is_over (shut_in (outcome u old c).reply (outcome u old c).changes) n ≡ true)
    either true e h = inl (shut n e)
    either false e h = inr h

-- After any commands what was shut is so.
pub stays_shut : (u : Rules) (b : Book) (cs : List Command) (over : List ℕ) → AreShut over b → AreShut over (after u b cs)
stays_shut u b [] over shut = shut
stays_shut u b (c ∷ cs) over shut = stays_shut u (after_one u b c) cs over (λ n is. goes u b c n (inl (shut n is)))
