-- What tasks wait on.
use Rattle.std.specs.Prelude.{◌≡◌, ℕ, ◌+◌, ◌<◌, Bool, true, false, List, [], ◌∷◌, ◌++◌, length, take, drop, slice_index_or, nat_eq, Option, Some, None}
use Rattle.flow_base.specs.Syntax.{Bytes}
use Rattle.flow_base.specs.declared.value.Kind.{Kind}
use Rattle.flow_model.specs.Rest.{Rest, rest_of}
use Rattle.flow_nodes.specs.Links.{block_at}
use Rattle.flow_nodes.specs.declared.table.Listing.{Listing}
use Rattle.flow_run.specs.Flat.{shown_doing}
use Rattle.flow_run.specs.declared.cell.Late.{Late}
use Rattle.flow_run.specs.declared.cell.Doing.{Doing}
use Rattle.flow_run.specs.declared.cell.Doing.TheVariants as doing
use Rattle.flow_run.specs.declared.cell.Cell.{Cell}
use Rattle.flow_run.specs.declared.waits.OpenWait.{OpenWait}
use Rattle.flow_run.specs.declared.waits.OpenWait.TheVariants as wait

-- a task that waits on this activity
abbrev pub on_activity : ℕ → Doing → Bool
on_activity n (doing.OnActivity m x k o) = nat_eq m n
on_activity n d = false

-- a task that waits on the timer that this event started
abbrev pub on_timer : ℕ → Doing → Bool
on_timer n (doing.OnTimer m) = nat_eq m n
on_timer n (doing.OnSignalFor x s m late) = nat_eq m n
on_timer n d = false

-- a task that waits on an activity or a timer
abbrev pub waits_itself : Doing → Bool
waits_itself (doing.OnActivity m x k o) = true
waits_itself (doing.OnTimer m) = true
waits_itself (doing.OnSignalFor x s m late) = true
waits_itself d = false

-- the variable that waits on an activity, and the type that it wants
abbrev pub target_in : Doing → Option (Bytes × Kind)
target_in (doing.OnActivity m x k o) = Some (x, k)
target_in d = None

abbrev pub list_of : Option Late → Option ℕ
list_of None = None
list_of (Some l) = Some l.list

-- the list that is done where what a task waits on fails, or comes too late
abbrev pub late_in : Doing → Option ℕ
late_in (doing.OnActivity m x k o) = list_of o
late_in (doing.OnSignalFor x s m late) = Some late
late_in d = None

-- what a task goes on with: a list, or this where there is none
abbrev pub going_on : List Listing → Option ℕ → Doing → Rest
going_on ls None d = shown_doing ls d
going_on ls (Some l) d = rest_of (block_at ls l)

-- no cell does such a thing
abbrev pub NoneOf : (Doing → Bool) → List Cell → Type 0
NoneOf f [] = Unit {0}
NoneOf f (c ∷ cs) = (f c.doing ≡ false) × NoneOf f cs

-- the first cell that does
pub record IsFirst (f : Doing → Bool) (cs : List Cell) (i : ℕ) : Type 0 where
  pub inside : i < length cs
  pub does : (d : Cell) → f (slice_index_or cs i d).doing ≡ true
  pub before : NoneOf f (take i cs)

abbrev pub IsFirstOf : (Doing → Bool) → List Cell → Option ℕ → Type 0
IsFirstOf f cs None = NoneOf f cs
IsFirstOf f cs (Some i) = IsFirst f cs i

-- what a task has open
abbrev pub wait_in : Doing → Option OpenWait
wait_in (doing.OnActivity n x k o) = Some (wait.Activity n x k)
wait_in (doing.OnTimer n) = Some (wait.Timer n)
wait_in (doing.OnSignal x s) = Some (wait.Signal x s)
wait_in (doing.OnSignalFor x s n late) = Some (wait.SignalFor x s n)
wait_in d = None

abbrev pub is_waiting : Doing → Bool
is_waiting (doing.OnActivity n x k o) = true
is_waiting (doing.OnTimer n) = true
is_waiting (doing.OnSignal x s) = true
is_waiting (doing.OnSignalFor x s n late) = true
is_waiting d = false

abbrev pub one_wait : Option OpenWait → List OpenWait
one_wait None = []
one_wait (Some w) = w ∷ []

abbrev pub waits_in_all : List Cell → List OpenWait
waits_in_all [] = []
waits_in_all (c ∷ cs) = one_wait (wait_in c.doing) ++ waits_in_all cs

abbrev pub one_if : Bool → ℕ
one_if true = 1
one_if false = 0

abbrev pub opens_in_all : List Cell → ℕ
opens_in_all [] = 0
opens_in_all (c ∷ cs) = one_if (is_waiting c.doing) + opens_in_all cs
