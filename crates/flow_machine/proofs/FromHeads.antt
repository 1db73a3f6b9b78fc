-- What is said of a command by its run's head is said of it by the book.
use Rattle.std.proofs.Common.{◌≡◌, ℕ, Result, sym, subst}
use Rattle.flow_base.specs.Syntax.{Bytes}
use Rattle.flow_base.specs.declared.value.Value.{Value}
use Rattle.flow_base.specs.declared.command.Command.{Command}
use Rattle.flow_base.specs.declared.command.Complete.{Complete}
use Rattle.flow_base.specs.declared.command.Fail.{Fail}
use Rattle.flow_base.specs.declared.command.Command.TheVariants as command
use Rattle.flow_model.specs.Book.{Book}
use Rattle.flow_model.specs.Apply.{Rules, Outcome, rules_of, outcome, complete, fail, signal}
use Rattle.flow_view.specs.declared.fault.ViewFault.{ViewFault}
use Rattle.flow_view.specs.declared.view.View.{Ghosts}
use Rattle.flow_machine.specs.ByHead.{complete_at, StuckCompleteAt, fail_at, StuckFailAt, sent_at, StuckSendAt}
use Rattle.flow_machine.specs.Going.{StepCalled}
use Rattle.flow_machine.specs.Reached.{Meaning}
use Rattle.flow_machine.specs.Stuck.{IsStuck, StuckComplete, StuckFail, StuckSignal}
use Rattle.flow_machine.specs.declared.going.Step.{Step}
use Rattle.flow_machine.proofs.ByHeads.{complete_is, complete_stuck, fail_is, fail_stuck, signal_is, signal_stuck}
use Rattle.flow_machine.proofs.Stepping.{comes_as, sticks_as, called_as}

module _ {V : Type 0} (g : Ghosts V) (m : Meaning) (old new : V) (r : Result Step ViewFault) where
  -- an outcome in other words
  step_as : (o p : Outcome) (X Y : Type 0) → o ≡ p → (X → Y) → StepCalled g m old new r o X → StepCalled g m old new r p Y
  step_as o p X Y is on h =
      record {
        comes = comes_as r (g.is_sure new) (rules_of m) (g.book old) (g.book new) o p is h.comes;
        sticks = sticks_as r (g.is_sure new) (g.book old) X Y on h.sticks;
        called = called_as g old new r X Y on h.called;
      }

  -- what a call says that decides the command
  abbrev pub Decided : Command → Type 0
  Decided c = StepCalled g m old new r (outcome (rules_of m) (g.book old) c) (IsStuck (rules_of m) (g.book old) c)

  pub completes : (x : Complete) (c : Command) → c ≡ command.Complete x → StepCalled g m old new r (complete_at (rules_of m) (g.book old) x) (StuckCompleteAt m (g.book old) x) → Decided c
  unfolding outcome IsStuck
  completes x c is h =
      let u : Rules = rules_of m in
      let b : Book = g.book old in
      let same = sym (complete_is u b x) in
      let stuck = complete_stuck m b x in
      subst Decided (sym is) (step_as (complete_at u b x) (complete u b x.run x.event x.attempt x.value x.at) (StuckCompleteAt m b x) (StuckComplete m b x.run x.event x.attempt x.value) same stuck h)

  pub fails : (x : Fail) (c : Command) → c ≡ command.Fail x → StepCalled g m old new r (fail_at (rules_of m) (g.book old) x) (StuckFailAt m (g.book old) x) → Decided c
  unfolding outcome IsStuck
  fails x c is h =
      let u : Rules = rules_of m in
      let b : Book = g.book old in
      let same = sym (fail_is u b x) in
      let stuck = fail_stuck m b x in
      subst Decided (sym is) (step_as (fail_at u b x) (fail u b x.run x.event x.attempt x.reason x.at) (StuckFailAt m b x) (StuckFail m b x.run x.event x.attempt x.reason) same stuck h)

  pub signals : (request flow name : Bytes) (v : Value) (at : ℕ) (c : Command) → c ≡ command.Signal request flow name v at
      → StepCalled g m old new r (sent_at (rules_of m) (g.book old) request flow name v at) (StuckSendAt m (g.book old) request flow name v) → Decided c
  unfolding outcome IsStuck
  signals request flow name v at c is h =
      let u : Rules = rules_of m in
      let b : Book = g.book old in
      let same = sym (signal_is u b request flow name v at) in
      let stuck = signal_stuck m b request flow name v in
      subst Decided (sym is) (step_as (sent_at u b request flow name v at) (signal u b request flow name v at) (StuckSendAt m b request flow name v) (StuckSignal m b request flow name v) same stuck h)
