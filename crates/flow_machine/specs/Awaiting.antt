-- A run waits on what its standing history leaves open.
use Rattle.std.specs.Prelude.{◌≡◌, ◌≢◌, true, false, List, [], All, None}
use Rattle.flow_base.specs.Syntax.{Bytes, Program}
use Rattle.flow_base.specs.declared.value.Value.{Value}
use Rattle.flow_base.specs.declared.event.Input.TheVariants.{ActivityCompleted, ActivityFailed, TimerFired}
use Rattle.flow_base.specs.declared.event.Event.{Event}
use Rattle.flow_base.specs.declared.book.OpenActivity.{OpenActivity}
use Rattle.flow_base.specs.declared.book.Timer.{Timer}
use Rattle.flow_model.specs.Configuration.{Configuration, is_open}
use Rattle.flow_model.specs.Deliver.{deliver}
use Rattle.flow_model.specs.Stands.{Stands}
use Rattle.flow_model.specs.Open.{open_activities, open_timers}
use Rattle.flow_model.specs.Book.{nth}
use Rattle.flow_model.specs.Apply.{gives_kind}

-- what the activity gives can be delivered
abbrev pub CanComplete : Program → List Event → Configuration → OpenActivity → Type 0
CanComplete p h k t = (v : Value) → gives_kind (nth h t.event) v ≡ true → deliver p k (ActivityCompleted t.event v) ≢ None

abbrev pub CanFail : Program → Configuration → OpenActivity → Type 0
CanFail p k t = (text : Bytes) → deliver p k (ActivityFailed t.event text) ≢ None

abbrev pub CanFire : Program → Configuration → Timer → Type 0
CanFire p k t = deliver p k (TimerFired t.id) ≢ None

-- Each open activity can complete, with a value of the type that it gives.
abbrev pub ActivitiesComplete : Type 0
ActivitiesComplete = (p : Program) (h : List Event) (k : Configuration) → Stands p h k → All (CanComplete p h k) (open_activities h)

-- It can fail, with any text.
abbrev pub ActivitiesFail : Type 0
ActivitiesFail = (p : Program) (h : List Event) (k : Configuration) → Stands p h k → All (CanFail p k) (open_activities h)

-- Each open timer can fire.
abbrev pub TimersFire : Type 0
TimersFire = (p : Program) (h : List Event) (k : Configuration) → Stands p h k → All (CanFire p k) (open_timers h)

-- A closed run has neither open.
abbrev pub ClosedWaitsOnNothing : Type 0
ClosedWaitsOnNothing = (p : Program) (h : List Event) (k : Configuration) → Stands p h k → is_open k.state ≡ false
    → (open_activities h ≡ []) × (open_timers h ≡ [])
