-- Which changes commands make of a book, with what their tests have found before. What all of these have, the changes of each command
-- have: the one walk through the definitions of the commands.
use Rattle.std.proofs.Common.{◌≡◌, ℕ, ◌+◌, List, [], ◌∷◌, length, map, max, refl, ap, ◌∙◌, Option, Some, None, Result, Ok, Err, Bool, true, false}
use Rattle.std.specs.Prelude.{◌<◌, nat_le, nat_lt, if◌then◌else◌}
use Rattle.std.proofs.lemmas.Bool.{ltb-true}
use Rattle.flow_base.specs.Syntax.{Bytes, Program}
use Rattle.flow_base.specs.declared.value.Value.{Value}
use Rattle.flow_base.specs.declared.event.Cmd.{Cmd}
use Rattle.flow_base.specs.declared.event.Wrong.{Wrong}
use Rattle.flow_base.specs.declared.event.Input.{Input}
use Rattle.flow_base.specs.declared.event.Input.TheVariants.{Signaled, ActivityCompleted, ActivityFailed, Terminated, TimerFired}
use Rattle.flow_base.specs.declared.book.OpenActivity.{OpenActivity}
use Rattle.flow_base.specs.declared.book.Timer.{Timer}
use Rattle.flow_base.specs.declared.book.Due.{Due}
use Rattle.flow_base.specs.declared.book.Run.{Run}
use Rattle.flow_base.specs.declared.book.Turn.{Turn}
use Rattle.flow_base.specs.declared.book.Change.{Change}
use Rattle.flow_base.specs.declared.book.Change.TheVariants.{AddText, AddTurn, AddRun, SetAttempt, SetText}
use Rattle.flow_base.specs.declared.code.Code.{Code}
use Rattle.flow_base.specs.declared.code.Code.TheVariants.{NoText, BadArguments, AlreadyOpen, NoOpenRun, NotOpen, WrongType, NoSuchSignal, NoRun}
use Rattle.flow_base.specs.declared.command.Command.{Command}
use Rattle.flow_base.specs.declared.command.Command.TheVariants as command
use Rattle.flow_base.specs.declared.command.TextFault.{TextFault}
use Rattle.flow_base.specs.declared.command.Reply.{Reply}
use Rattle.flow_base.specs.declared.command.Reply.TheVariants as reply
use Rattle.flow_model.specs.Configuration.{Configuration, is_open}
use Rattle.flow_model.specs.WellFormed.{signal_of}
use Rattle.flow_model.specs.Deliver.{all_fit, has_kind}
use Rattle.flow_model.specs.Turn.{Fresh, is_started}
use Rattle.flow_model.specs.Turned.{turned, position_by_inputs}
use Rattle.flow_model.specs.Open.{timers_left, state_of, moment_of}
use Rattle.flow_model.specs.Verdict.{verdict}
use Rattle.flow_model.specs.Book.{Book, nth, text_number, requested, open_run, signalled}
use Rattle.flow_model.specs.Apply.{Rules, Outcome, says, none_there, must_be, must_hold, tested, if_sound, program_if, program_at, first_turn, continued, run_from, next_run, history_limit, turn_made, recorded, input_recorded, report_refusal, tries_of, failure_refusal, on_program, register, start, signal_recorded, signal, complete, ready_after, retried, attempt_failed, fail, terminated, terminate, if_stands, upgrade, describe, history, list_open, outcome, fired, tick}

-- the moment of a turn that a run takes
abbrev pub now_of : Run → ℕ → ℕ
now_of r at = max at (moment_of r.history)

-- A run of the book takes an input, with a turn of these commands.
pub record IsTaken (u : Rules) (b : Book) (n : ℕ) (r : Run) (p : Program) (k : Configuration) (at : ℕ) (i : Input) (t : List Cmd × Configuration) : Type 0 where
  pub there : nth b.runs n ≡ Some r
  pub reads : program_at u.program_of b r.text ≡ Some p
  pub place : position_by_inputs p r.history ≡ Some k
  pub turn : turned p Fresh k (now_of r at) i ≡ Some t
  pub no_start : is_started i ≡ false

-- The turns of a run that takes an input have this.
pub record CoversTurns (u : Rules) (b : Book) (Q : List Change → Type 0) : Type 0 where
  pub nothing : Q []
  pub turn : (n : ℕ) (r : Run) (p : Program) (k : Configuration) (at : ℕ) (i : Input) (t : List Cmd × Configuration) → IsTaken u b n r p k at i t
      → Q (AddTurn n (record { at = now_of r at; input = i; commands = t.0 }) ∷ [])
  pub next : (n : ℕ) (r : Run) (p : Program) (k : Configuration) (at : ℕ) (i : Input) (t : List Cmd × Configuration) → IsTaken u b n r p k at i t
      → (vs : List Value) (first : Turn) → continued t.0 ≡ Some vs → first_turn p (now_of r at) vs ≡ Some first
      → Q (AddTurn n (record { at = now_of r at; input = i; commands = t.0 }) ∷ AddRun r.flow None r.text first ∷ [])
  -- the history is full
  pub full : (n : ℕ) (r : Run) (p : Program) (k : Configuration) (at : ℕ) (i : Input) (t : List Cmd × Configuration) → IsTaken u b n r p k at i t
      → Q (AddTurn n (record { at = now_of r at; input = Terminated history_limit; commands = [] }) ∷ [])

-- And so do the other changes of commands.
pub record Covers (u : Rules) (b : Book) (Q : List Change → Type 0) : Type 0 where
  pub text : (body : Bytes) (p : Program) → u.program_of body ≡ Ok p → text_number b body ≡ None → Q (AddText body ∷ [])
  pub run : (request flow : Bytes) (text : ℕ) (body : Bytes) (vs : List Value) (at : ℕ) (p : Program) (t : Turn) → requested b request ≡ None → open_run b flow ≡ None → nth b.texts text ≡ Some body
      → program_at u.program_of b text ≡ Some p → first_turn p at vs ≡ Some t → Q (AddRun flow (Some request) text t ∷ [])
  pub closed : (n : ℕ) (r : Run) (reason : Bytes) (at : ℕ) → nth b.runs n ≡ Some r → is_open (state_of r.history) ≡ true
      → Q (AddTurn n (record { at = now_of r at; input = Terminated reason; commands = [] }) ∷ [])
  pub attempt : (n : ℕ) (r : Run) (event attempt ready : ℕ) (x : ℕ × ℕ) → nth b.runs n ≡ Some r → tries_of (nth r.history event) ≡ Some x → attempt < x.0
      → Q (SetAttempt n event (attempt + 1) ready ∷ [])
  pub other : (n text : ℕ) (r : Run) (body : Bytes) (p : Program) (k : Configuration) → nth b.runs n ≡ Some r → nth b.texts text ≡ Some body
      → program_at u.program_of b text ≡ Some p → verdict p r.history ≡ Ok k → Q (SetText n text ∷ [])

-- the program of a text that is there
read_at : (u : Rules) (b : Book) (text : ℕ) (body : Bytes) (p : Program) → nth b.texts text ≡ Some body → program_if (u.program_of body) ≡ Some p → program_at u.program_of b text ≡ Some p
read_at u b text body p there reads = ap (λ (o : Option Bytes). elim o [ None ↦ None | Some x ↦ program_if (u.program_of x) ]) there ∙ reads

module _ (u : Rules) (b : Book) (Q : List Change → Type 0) (c : CoversTurns u b Q) where
  abbrev Has : Outcome → Type 0
  Has o = Q o.changes

  ---- Tests

  none_there_has : {A : Type 0} (o : Option A) (answer : A → Reply) (next : Outcome) → (o ≡ None → Has next) → Has (none_there o answer next)
  none_there_has None answer next h = h refl
  none_there_has (Some x) answer next h = c.nothing

  must_be_has : {A : Type 0} (o : Option A) (code : Code) (next : A → Outcome) → ((x : A) → o ≡ Some x → Has (next x)) → Has (must_be o code next)
  must_be_has None code next h = c.nothing
  must_be_has (Some x) code next h = h x refl

  must_hold_has : (t : Bool) (code : Code) (next : Outcome) → (t ≡ true → Has next) → Has (must_hold t code next)
  must_hold_has true code next h = h refl
  must_hold_has false code next h = c.nothing

  tested_has : (o : Option Code) (next : Outcome) → Has next → Has (tested o next)
  tested_has None next h = h
  tested_has (Some code) next h = c.nothing

  if_sound_has : {A : Type 0} (o : Option A) (next : A → Outcome) → ((x : A) → o ≡ Some x → Has (next x)) → Has (if_sound o next)
  if_sound_has None next h = c.nothing
  if_sound_has (Some x) next h = h x refl

  on_program_has : (r : Result Program TextFault) (next : Program → Outcome) → ((p : Program) → r ≡ Ok p → Has (next p)) → Has (on_program r next)
  on_program_has (Ok p) next h = h p refl
  on_program_has (Err f) next h = c.nothing

  ---- Turns

  turn_has : (n : ℕ) (r : Run) (p : Program) (k : Configuration) (at : ℕ) (i : Input) (t : List Cmd × Configuration) → IsTaken u b n r p k at i t
      → Q (AddTurn n (record { at = now_of r at; input = i; commands = t.0 }) ∷ next_run p r (now_of r at) (continued t.0))
  turn_has n r p k at i t taken =
      let made : Turn = record { at = now_of r at; input = i; commands = t.0 } in
      elim (continued t.0) as (λ o. continued t.0 ≡ o → Q (AddTurn n made ∷ next_run p r (now_of r at) o)) [
        | None ↦ λ e. c.turn n r p k at i t taken
        | Some vs ↦ λ e.
            elim (first_turn p (now_of r at) vs) as (λ o. first_turn p (now_of r at) vs ≡ o → Q (AddTurn n made ∷ run_from r o)) [
              | None ↦ λ g. c.turn n r p k at i t taken
              | Some first ↦ λ g. c.next n r p k at i t taken vs first e g
            ] refl
      ] refl

  made_has : (n : ℕ) (r : Run) (p : Program) (k : Configuration) (at : ℕ) (i : Input) (t : List Cmd × Configuration) → IsTaken u b n r p k at i t
      → Has (turn_made u.limit p r n (now_of r at) i t.0)
  made_has n r p k at i t taken =
      let made : Turn = record { at = now_of r at; input = i; commands = t.0 } in
      let full : Turn = record { at = now_of r at; input = Terminated history_limit; commands = [] } in
      elim (nat_le (length r.history + 1 + length t.0) u.limit) as (λ x. Has (
      if x
      then record { reply = reply.Recorded n (length r.history + 1); changes = AddTurn n made ∷ next_run p r (now_of r at) (continued t.0) }
      else record { reply = reply.Full n (length r.history + 1); changes = AddTurn n full ∷ [] })) [
        | true ↦ turn_has n r p k at i t taken
        | false ↦ c.full n r p k at i t taken
      ]

  -- a run takes an input other than its start
  recorded_has : (n : ℕ) (r : Run) (p : Program) (at : ℕ) (i : Input) → nth b.runs n ≡ Some r → program_at u.program_of b r.text ≡ Some p → is_started i ≡ false → Has (recorded u.limit p r n at i)
  unfolding recorded
  recorded_has n r p at i there reads no_start =
      let now : ℕ = now_of r at in
      if_sound_has (position_by_inputs p r.history) (λ k. if_sound (turned p Fresh k now i) (λ t. turn_made u.limit p r n now i t.0))
      (λ k place. if_sound_has (turned p Fresh k now i) (λ t. turn_made u.limit p r n now i t.0)
      (λ t turn. made_has n r p k at i t (record { there = there; reads = reads; place = place; turn = turn; no_start = no_start })))

  input_has : (n : ℕ) (r : Run) (at : ℕ) (i : Input) → nth b.runs n ≡ Some r → is_started i ≡ false → Has (input_recorded u b r n at i)
  unfolding input_recorded
  input_has n r at i there no_start =
      if_sound_has (program_at u.program_of b r.text) (λ p. recorded u.limit p r n at i) (λ p reads. recorded_has n r p at i there reads no_start)

  -- a timer fires
  pub fired_has : (at : ℕ) (d : Due) → Has (fired u b at d)
  unfolding fired
  fired_has at d =
      let takes : Run → Outcome = λ r. input_recorded u b r d.run at (TimerFired d.id) in
      if_sound_has (nth b.runs d.run) takes (λ r there. input_has d.run r at (TimerFired d.id) there refl)

  ---- Commands

  module _ (more : Covers u b Q) where
    register_has : (body : Bytes) → Has (register u.program_of b body)
    unfolding register
    register_has body =
        let adds : Outcome = record { reply = reply.Registered (length b.texts + 1); changes = AddText body ∷ [] } in
        on_program_has (u.program_of body) (λ p. none_there (text_number b body) reply.Registered adds)
        (λ p reads. none_there_has (text_number b body) reply.Registered adds (λ new. more.text body p reads new))

    start_has : (request flow : Bytes) (text : ℕ) (vs : List Value) (at : ℕ) → Has (start u.program_of b request flow text vs at)
    unfolding start
    start_has request flow text vs at =
        let adds : Turn → Outcome = λ t. record { reply = reply.Started (length b.runs + 1); changes = AddRun flow (Some request) text t ∷ [] } in
        let begins : Program → Outcome = λ p. if_sound (first_turn p at vs) adds in
        let alone : Program → Outcome = λ p. none_there (open_run b flow) (λ n. reply.Refused AlreadyOpen) (begins p) in
        let fits : Program → Outcome = λ p. must_hold (all_fit p.parameters vs) BadArguments (alone p) in
        let read : Bytes → Outcome = λ body. if_sound (program_if (u.program_of body)) fits in
        none_there_has (requested b request) reply.Duplicate (must_be (nth b.texts text) NoText read)
        (λ new. must_be_has (nth b.texts text) NoText read
        (λ body there. if_sound_has (program_if (u.program_of body)) fits
        (λ p reads. must_hold_has (all_fit p.parameters vs) BadArguments (alone p)
        (λ they_fit. none_there_has (open_run b flow) (λ n. reply.Refused AlreadyOpen) (begins p)
        (λ none. if_sound_has (first_turn p at vs) adds
        (λ t made. more.run request flow text body vs at p t new none there (read_at u b text body p there reads) made))))))

    signal_has : (request flow name : Bytes) (v : Value) (at : ℕ) → Has (signal u b request flow name v at)
    unfolding signal
    signal_has request flow name v at =
        let taken : ℕ → Run → Program → Outcome = λ n r p. recorded u.limit p r n at (Signaled name request v) in
        let sent : ℕ → Run → Program → Outcome = λ n r. signal_recorded u.limit r n request name v at in
        let read : ℕ → Run → Outcome = λ n r. if_sound (program_at u.program_of b r.text) (sent n r) in
        let opened : ℕ → Outcome = λ n. if_sound (nth b.runs n) (read n) in
        none_there_has (signalled b flow request) (λ x. reply.DuplicateSignal x.0 x.1) (must_be (open_run b flow) NoOpenRun opened)
        (λ new. must_be_has (open_run b flow) NoOpenRun opened
        (λ n is_open. if_sound_has (nth b.runs n) (read n)
        (λ r there. if_sound_has (program_at u.program_of b r.text) (sent n r)
        (λ p reads. must_be_has (signal_of p.declarations name) NoSuchSignal (λ k. must_hold (has_kind k v) WrongType (taken n r p))
        (λ k declared. must_hold_has (has_kind k v) WrongType (taken n r p)
        (λ fits. recorded_has n r p at (Signaled name request v) there reads refl))))))

    complete_has : (n event attempt : ℕ) (v : Value) (at : ℕ) → Has (complete u b n event attempt v at)
    unfolding complete
    complete_has n event attempt v at =
        let takes : Run → Outcome = λ r. input_recorded u b r n at (ActivityCompleted event v) in
        must_be_has (nth b.runs n) NoRun (λ r. tested (report_refusal r event attempt v) (takes r))
        (λ r there. tested_has (report_refusal r event attempt v) (takes r) (input_has n r at (ActivityCompleted event v) there refl))

    failed_has : (n : ℕ) (r : Run) (event attempt : ℕ) (reason : Bytes) (at : ℕ) (x : ℕ × ℕ) → nth b.runs n ≡ Some r → tries_of (nth r.history event) ≡ Some x
        → Has (attempt_failed u b r n event attempt reason at x)
    failed_has n r event attempt reason at x there tries =
        let ready : ℕ = ready_after (now_of r at) x.1 in
        elim (nat_lt attempt x.0) as (λ t. nat_lt attempt x.0 ≡ t → Has (if t then retried n event attempt ready else input_recorded u b r n at (ActivityFailed event reason))) [
          | true ↦ λ less. more.attempt n r event attempt ready x there tries (ltb-true attempt x.0 less)
          | false ↦ λ last. input_has n r at (ActivityFailed event reason) there refl
        ] refl

    fail_has : (n event attempt : ℕ) (reason : Bytes) (at : ℕ) → Has (fail u b n event attempt reason at)
    unfolding fail
    fail_has n event attempt reason at =
        let fails : Run → Outcome = λ r. if_sound (tries_of (nth r.history event)) (attempt_failed u b r n event attempt reason at) in
        must_be_has (nth b.runs n) NoRun (λ r. tested (failure_refusal r event attempt) (fails r))
        (λ r there. tested_has (failure_refusal r event attempt) (fails r)
        (if_sound_has (tries_of (nth r.history event)) (attempt_failed u b r n event attempt reason at) (λ x tries. failed_has n r event attempt reason at x there tries)))

    terminate_has : (n : ℕ) (reason : Bytes) (at : ℕ) → Has (terminate b n reason at)
    unfolding terminate
    terminate_has n reason at =
        let closes : Run → Outcome = λ r. terminated r n reason at in
        must_be_has (nth b.runs n) NoRun (λ r. must_hold (is_open (state_of r.history)) NotOpen (closes r))
        (λ r there. must_hold_has (is_open (state_of r.history)) NotOpen (closes r) (λ opened. more.closed n r reason at there opened))

    stands_has : (n text : ℕ) (r : Run) (body : Bytes) (p : Program) (o : Result Configuration (ℕ × Wrong)) → nth b.runs n ≡ Some r → nth b.texts text ≡ Some body
        → program_at u.program_of b text ≡ Some p → verdict p r.history ≡ o → Has (if_stands n text o)
    stands_has n text r body p (Ok k) there its reads stands = more.other n text r body p k there its reads stands
    stands_has n text r body p (Err m) there its reads stands = c.nothing

    upgrade_has : (n text : ℕ) → Has (upgrade u.program_of b n text)
    unfolding upgrade
    upgrade_has n text =
        let judged : Run → Program → Outcome = λ r p. if_stands n text (verdict p r.history) in
        let read : Run → Bytes → Outcome = λ r body. if_sound (program_if (u.program_of body)) (judged r) in
        let goes : Run → Outcome = λ r. must_be (nth b.texts text) NoText (read r) in
        must_be_has (nth b.runs n) NoRun (λ r. must_hold (is_open (state_of r.history)) NotOpen (goes r))
        (λ r there. must_hold_has (is_open (state_of r.history)) NotOpen (goes r)
        (λ opened. must_be_has (nth b.texts text) NoText (read r)
        (λ body its. if_sound_has (program_if (u.program_of body)) (judged r)
        (λ p reads. stands_has n text r body p (verdict p r.history) there its (read_at u b text body p its reads) refl))))

    describe_has : (n : ℕ) → Has (describe b n)
    unfolding describe
    describe_has n = elim (nth b.runs n) as (λ o. Has (must_be o NoRun (λ r. says (reply.Run (record {
      flow = r.flow;
      text = r.text;
      state = state_of r.history;
      events = length r.history;
      activities = map (λ (t : OpenActivity). t.event) r.tasks;
      timers = map (λ (t : Timer). t.id) (timers_left r.history);
    }))))) [ None ↦ c.nothing | Some r ↦ c.nothing ]

    history_has : (n : ℕ) → Has (history b n)
    unfolding history
    history_has n = must_be_has (nth b.runs n) NoRun (λ r. says (reply.History r.history)) (λ r there. c.nothing)

    list_has : (from most : ℕ) → Has (list_open u.program_of b from most)
    unfolding list_open
    list_has from most = c.nothing

    -- Each command but a tick, whose firings change the book between them.
    pub changes_have : ((at : ℕ) → Has (tick u b at)) → (x : Command) → Has (outcome u b x)
    unfolding outcome
    changes_have ticks (command.Register body) = register_has body
    changes_have ticks (command.Start s) = start_has s.request s.flow s.text s.arguments s.at
    changes_have ticks (command.Signal request flow name v at) = signal_has request flow name v at
    changes_have ticks (command.Complete c) = complete_has c.run c.event c.attempt c.value c.at
    changes_have ticks (command.Fail f) = fail_has f.run f.event f.attempt f.reason f.at
    changes_have ticks (command.Tick at) = ticks at
    changes_have ticks (command.Terminate run reason at) = terminate_has run reason at
    changes_have ticks (command.Upgrade run text) = upgrade_has run text
    changes_have ticks (command.Describe run) = describe_has run
    changes_have ticks (command.History run) = history_has run
    changes_have ticks (command.Open from most) = list_has from most
