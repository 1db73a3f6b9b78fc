-- Where a command can't be decided: what a sound book never lacks isn't there, or no number is left. Beside a refusal of the
-- store this is all that stands behind E80.
use Rattle.std.specs.Prelude.{◌≡◌, ◌≤◌, ◌+◌, ◌^◌, ◌⊎◌, ℕ, zero, suc, Bool, true, false, List, [], ◌∷◌, length, take, Option, Some, None, Result, nat_lt}
use Rattle.flow_base.specs.Syntax.{Bytes, Program}
use Rattle.flow_base.specs.declared.value.Value.{Value}
use Rattle.flow_base.specs.declared.event.Cmd.{Cmd}
use Rattle.flow_base.specs.declared.event.Event.{Event}
use Rattle.flow_base.specs.declared.event.Input.{Input}
use Rattle.flow_base.specs.declared.event.Input.TheVariants.{Signaled, ActivityCompleted, ActivityFailed, TimerFired}
use Rattle.flow_base.specs.declared.event.Wrong.{Wrong}
use Rattle.flow_base.specs.declared.book.Due.{Due}
use Rattle.flow_base.specs.declared.book.Run.{Run}
use Rattle.flow_base.specs.declared.command.Command.{Command}
use Rattle.flow_base.specs.declared.command.Command.TheVariants as command
use Rattle.flow_base.specs.declared.command.TextFault.{TextFault}
use Rattle.flow_model.specs.Configuration.{Configuration, is_open}
use Rattle.flow_model.specs.WellFormed.{signal_of}
use Rattle.flow_model.specs.Deliver.{deliver, all_fit, has_kind}
use Rattle.flow_model.specs.Stands.{Stands, FirstMismatch}
use Rattle.flow_model.specs.Open.{state_of}
use Rattle.flow_model.specs.Book.{Book, nth, text_number, requested, open_run, signalled, least_due, open_runs, changed_by}
use Rattle.flow_model.specs.Apply.{Rules, program_if, program_at, continued, report_refusal, failure_refusal, tries_of, fired, firing_limit, after_one}

-- Turns.

abbrev pub HasMismatch : Program → List Event → Type 0
HasMismatch p h = (place : ℕ) × ((w : Wrong) × FirstMismatch p h place w)

-- a standing history after which an input can't be delivered
abbrev pub CantDeliver : Program → List Event → Input → Type 0
CantDeliver p h i = (k : Configuration) × (Stands p h k × (deliver p k i ≡ None))

-- commands that continue a run as a new one, with arguments that don't fit
abbrev pub ContinuesUnfit : Program → List Cmd → Type 0
ContinuesUnfit p cs = (vs : List Value) × ((continued cs ≡ Some vs) × (all_fit p.parameters vs ≡ false))

-- No turn of the input can be recorded behind the history.
abbrev pub CantRecord : Program → List Event → Input → Type 0
CantRecord p h i = HasMismatch p h ⊎ CantDeliver p h i

-- Tests in the order of `Apply`. One that gives a reply ends them, and then nothing is stuck.

-- what is there is answered
abbrev pub unless_there : {A : Type 0} → Option A → Type 0 → Type 0
unless_there None stuck = stuck
unless_there (Some x) stuck = ⊥

-- what isn't there is answered
abbrev pub where_there : {A : Type 0} → Option A → (A → Type 0) → Type 0
where_there None stuck = ⊥
where_there (Some x) stuck = stuck x

abbrev pub where_holds : Bool → Type 0 → Type 0
where_holds true stuck = stuck
where_holds false stuck = ⊥

abbrev pub unless_holds : Bool → Type 0 → Type 0
unless_holds true stuck = ⊥
unless_holds false stuck = stuck

-- a sound book has it: without it nothing goes on
abbrev pub needs : {A : Type 0} → Option A → (A → Type 0) → Type 0
needs None stuck = Unit {0}
needs (Some x) stuck = stuck x

-- the next of so many would have a number past the last one
abbrev pub IsFull : ℕ → Type 0
IsFull count = 2 ^ 63 ≤ count + 1

-- Commands.

unfoldable pub StuckRegister : (Bytes → Result Program TextFault) → Book → Bytes → Type 0
StuckRegister program_of b body =
    where_there (program_if (program_of body)) (λ p.
    unless_there (text_number b body) (IsFull (length b.texts)))

unfoldable pub StuckStart : (Bytes → Result Program TextFault) → Book → Bytes → Bytes → ℕ → List Value → Type 0
StuckStart program_of b request flow text vs =
    unless_there (requested b request) (
    where_there (nth b.texts text) (λ body.
    needs (program_if (program_of body)) (λ p.
    where_holds (all_fit p.parameters vs) (
    unless_there (open_run b flow) (IsFull (length b.runs))))))

-- a run that is to take an input
unfoldable pub StuckInput : (Bytes → Result Program TextFault) → Book → Run → Input → Type 0
StuckInput program_of b r i = needs (program_at program_of b r.text) (λ p. CantRecord p r.history i)

-- a run that is to take a signal
abbrev pub StuckSent : Run → Bytes → Bytes → Value → Program → Type 0
StuckSent r request name v p =
    where_there (signal_of p.declarations name) (λ k.
    where_holds (has_kind k v) (CantRecord p r.history (Signaled name request v)))

unfoldable pub StuckSignal : (Bytes → Result Program TextFault) → Book → Bytes → Bytes → Bytes → Value → Type 0
StuckSignal program_of b request flow name v =
    unless_there (signalled b flow request) (
    where_there (open_run b flow) (λ run.
    needs (nth b.runs run) (λ r.
    needs (program_at program_of b r.text) (StuckSent r request name v))))

unfoldable pub StuckComplete : (Bytes → Result Program TextFault) → Book → ℕ → ℕ → ℕ → Value → Type 0
StuckComplete program_of b run event attempt v =
    where_there (nth b.runs run) (λ r.
    unless_there (report_refusal r event attempt v) (
    StuckInput program_of b r (ActivityCompleted event v)))

-- an attempt that failed, of an activity with so many attempts
abbrev pub StuckFailed : (Bytes → Result Program TextFault) → Book → Run → ℕ → ℕ → Bytes → ℕ × ℕ → Type 0
StuckFailed program_of b r event attempt reason tries = unless_holds (nat_lt attempt tries.0) (StuckInput program_of b r (ActivityFailed event reason))

unfoldable pub StuckFail : (Bytes → Result Program TextFault) → Book → ℕ → ℕ → ℕ → Bytes → Type 0
StuckFail program_of b run event attempt reason =
    where_there (nth b.runs run) (λ r.
    unless_there (failure_refusal r event attempt) (
    needs (tries_of (nth r.history event)) (StuckFailed program_of b r event attempt reason)))

-- a timer that is to fire
unfoldable pub StuckFired : (Bytes → Result Program TextFault) → Book → Due → Type 0
StuckFired program_of b d = needs (nth b.runs d.run) (λ r. StuckInput program_of b r (TimerFired d.id))

-- one of so many firings, over the book that those before it leave
unfoldable pub StuckFirings : Rules → ℕ → ℕ → Book → Type 0
StuckFirings u at zero b = ⊥
StuckFirings u at (suc n) b =
    where_there (least_due b at) (λ d. StuckFired u.program_of b d ⊎ StuckFirings u at n (changed_by b (fired u b at d).changes))

unfoldable pub StuckTick : Rules → Book → ℕ → Type 0
StuckTick u b at = StuckFirings u at firing_limit b

unfoldable pub StuckUpgrade : (Bytes → Result Program TextFault) → Book → ℕ → ℕ → Type 0
StuckUpgrade program_of b run text =
    where_there (nth b.runs run) (λ r.
    where_holds (is_open (state_of r.history)) (
    where_there (nth b.texts text) (λ body.
    needs (program_if (program_of body)) (λ p. ⊥))))

-- a run that can't be told: it lacks its program, or its history has a mismatch
abbrev pub StuckTold : (Bytes → Result Program TextFault) → Book → Run → Type 0
StuckTold program_of b r = needs (program_at program_of b r.text) (λ p. HasMismatch p r.history)

-- one of several
abbrev pub StuckRuns : (Bytes → Result Program TextFault) → Book → List (ℕ × Run) → Type 0
StuckRuns program_of b [] = ⊥
StuckRuns program_of b (p ∷ ps) = StuckTold program_of b p.1 ⊎ StuckRuns program_of b ps

-- one of the open runs that are listed
unfoldable pub StuckOpen : (Bytes → Result Program TextFault) → Book → ℕ → ℕ → Type 0
StuckOpen program_of b from most = StuckRuns program_of b (take most (open_runs b from))

-- A command can't be decided over a book.
unfoldable pub IsStuck : Rules → Book → Command → Type 0
IsStuck u b (command.Register body) = StuckRegister u.program_of b body
IsStuck u b (command.Start s) = StuckStart u.program_of b s.request s.flow s.text s.arguments
IsStuck u b (command.Signal request flow name v at) = StuckSignal u.program_of b request flow name v
IsStuck u b (command.Complete c) = StuckComplete u.program_of b c.run c.event c.attempt c.value
IsStuck u b (command.Fail f) = StuckFail u.program_of b f.run f.event f.attempt f.reason
IsStuck u b (command.Tick at) = StuckTick u b at
IsStuck u b (command.Terminate run reason at) = ⊥
IsStuck u b (command.Upgrade run text) = StuckUpgrade u.program_of b run text
IsStuck u b (command.Describe run) = ⊥
IsStuck u b (command.History run) = ⊥
IsStuck u b (command.Open from most) = StuckOpen u.program_of b from most

-- One of several can't, over the book that those before it leave.
abbrev pub IsStuckWithin : Rules → Book → List Command → Type 0
IsStuckWithin u b [] = ⊥
IsStuckWithin u b (c ∷ cs) = IsStuck u b c ⊎ IsStuckWithin u (after_one u b c) cs
