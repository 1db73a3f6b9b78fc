-- What is said of a step in some words is said of it in others.
use Rattle.std.proofs.Common.{◌≡◌, ℕ, Bool, true, Option, Some, sym, ap, ◌∙◌, subst, Result, Ok, Err, inl, inr}
use Rattle.std.specs.Prelude.{◌⊎◌, IfOk}
use Rattle.flow_base.specs.Syntax.{Bytes, Program}
use Rattle.flow_base.specs.declared.book.Due.{Due}
use Rattle.flow_base.specs.declared.command.Complete.{Complete}
use Rattle.flow_base.specs.declared.command.TextFault.{TextFault}
use Rattle.flow_base.specs.declared.event.Event.{Event}
use Rattle.flow_base.specs.declared.event.Input.{Input}
use Rattle.flow_base.specs.declared.event.Input.TheVariants.{ActivityCompleted, TimerFired}
use Rattle.flow_base.specs.declared.value.Value.{Value}
use Rattle.flow_model.specs.Book.{Book}
use Rattle.flow_model.specs.Apply.{Rules, Outcome, gives_kind}
use Rattle.flow_view.specs.Heads.{event_at, head_at}
use Rattle.flow_view.specs.declared.head.Head.{Head}
use Rattle.flow_view.specs.Called.{Called}
use Rattle.flow_view.specs.Reading.{Caused}
use Rattle.flow_view.specs.declared.view.View.{Ghosts}
use Rattle.flow_view.specs.declared.fault.ViewFault.{ViewFault}
use Rattle.flow_view.specs.declared.fault.ViewFault.TheVariants as fault
use Rattle.flow_machine.specs.ByHead.{history_at, StuckInputAt, StuckGivenAt, StuckFiredAt}
use Rattle.flow_machine.specs.Stuck.{where_holds, needs, CantRecord}
use Rattle.flow_machine.specs.Going.{Comes, IsStuckStep, Sticks}
use Rattle.flow_machine.specs.declared.going.Step.{Step}
use Rattle.flow_machine.specs.declared.going.Step.TheVariants as step

pub comes_as : (r : Result Step ViewFault) (sure : Type 0) (u : Rules) (old new : Book) (o p : Outcome) → o ≡ p → IfOk r (λ s. sure → Comes u old new s o) → IfOk r (λ s. sure → Comes u old new s p)
comes_as r sure u old new o p is h = subst (λ (x : Outcome). IfOk r (λ s. sure → Comes u old new s x)) is h

pub sticks_on : (b : Book) (s : Step) (X Y : Type 0) → (X → Y) → Sticks b s X → Sticks b s Y
sticks_on b (step.Answered reply cs) X Y on h = h
sticks_on b (step.Leads reply cs led) X Y on h = h
sticks_on b (step.Ends reply cs n) X Y on h = h
sticks_on b (step.GoesOn g) X Y on h = λ stuck. on (h stuck)

pub sticks_as : (r : Result Step ViewFault) (sure : Type 0) (b : Book) (X Y : Type 0) → (X → Y) → IfOk r (λ s. sure → Sticks b s X) → IfOk r (λ s. sure → Sticks b s Y)
sticks_as (Ok s) sure b X Y on h = λ now. sticks_on b s X Y on (h now)
sticks_as (Err f) sure b X Y on h = h

caused_as : {A : Type 0} (r : Result A ViewFault) (R X Y : Type 0) → (X → Y) → Caused r (R ⊎ X) → Caused r (R ⊎ Y)
caused_as (Ok x) R X Y on h = tt
caused_as (Err (fault.NoMemory _)) R X Y on h = tt
caused_as (Err fault.StoreRefused) R X Y on (inl x) = inl x
caused_as (Err fault.StoreRefused) R X Y on (inr x) = inr (on x)

pub called_as : {V A : Type 0} (g : Ghosts V) (old new : V) (r : Result A ViewFault) (X Y : Type 0) → (X → Y) → Called g old new r X → Called g old new r Y
called_as g old new r X Y on h =
    record {
      cause = λ a begun now first. caused_as r (g.refuses a new) X Y on (h.cause a begun now first);
      goes_on = h.goes_on;
      sure = h.sure;
      was_true = h.was_true;
      follows = h.follows;
    }

pub step_stuck : (b : Book) (s : Step) (X : Type 0) → Sticks b s X → IsStuckStep b s → X
step_stuck b (step.Answered reply cs) X h stuck = absurd stuck
step_stuck b (step.Leads reply cs led) X h stuck = absurd stuck
step_stuck b (step.Ends reply cs n) X h stuck = absurd stuck
step_stuck b (step.GoesOn g) X h stuck = h stuck

---- What is behind a run that can't take its input

module _ (m : Bytes → Result Program TextFault) (old seen : Book) (still : seen ≡ old) (p : Program) (n : ℕ) (i : Input) where
  cant_seen : CantRecord p (history_at old.runs n) i → CantRecord p (history_at seen.runs n) i
  cant_seen h = subst (λ (b : Book). CantRecord p (history_at b.runs n) i) (sym still) h

  pub given_sticks : (h : Head) (c : Complete) (w : Value) (o : Option Event) → o ≡ event_at old.runs c.run c.event → gives_kind o c.value ≡ true → w ≡ c.value
      → (CantRecord p (history_at seen.runs n) i → StuckInputAt m seen h c.run (ActivityCompleted c.event w)) → CantRecord p (history_at old.runs n) i → StuckGivenAt m old h c
  unfolding StuckGivenAt
  given_sticks h c w o is gives same stuck cant =
      let there : StuckInputAt m old h c.run (ActivityCompleted c.event w) = subst (λ (b : Book). StuckInputAt m b h c.run (ActivityCompleted c.event w)) still (stuck (cant_seen cant)) in
      let over : StuckInputAt m old h c.run (ActivityCompleted c.event c.value) = subst (λ (x : Value). StuckInputAt m old h c.run (ActivityCompleted c.event x)) same there in
      let holds : gives_kind (event_at old.runs c.run c.event) c.value ≡ true = sym (ap (λ (q : Option Event). gives_kind q c.value) is) ∙ gives in
      subst (λ (t : Bool). where_holds t (StuckInputAt m old h c.run (ActivityCompleted c.event c.value))) (sym holds) over

  pub fired_sticks : (h : Head) (d : Due) → Some h ≡ head_at old.runs d.run → (CantRecord p (history_at seen.runs n) i → StuckInputAt m seen h d.run (TimerFired d.id)) → CantRecord p (history_at old.runs n) i → StuckFiredAt m old d
  unfolding StuckFiredAt
  fired_sticks h d is stuck cant =
      let there : StuckInputAt m old h d.run (TimerFired d.id) = subst (λ (b : Book). StuckInputAt m b h d.run (TimerFired d.id)) still (stuck (cant_seen cant)) in
      subst (λ (q : Option Head). needs q (λ x. StuckInputAt m old x d.run (TimerFired d.id))) is there
