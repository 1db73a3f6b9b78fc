-- The step: the leftmost place of the rest that can go on does, with at most one command.
use Rattle.std.specs.Prelude.{ℕ, suc, Bool, true, false, List, [], ◌∷◌, Option, Some, None, Result, Ok, Err, nat_lt, bytes_eq, if◌then◌else◌}
use Rattle.flow_base.specs.Syntax.{Bytes, Statement, Let, Assign, Call, WaitSignal, WaitSignalFor, Sleep, If, While, Parallel, Patch, Deprecate, Return, FailWith, Continue, Block, End, Next, ActivityType}
use Rattle.flow_base.specs.declared.value.Value.{Value}
use Rattle.flow_base.specs.declared.value.Kind.{Kind}
use Rattle.flow_base.specs.declared.value.Kind.TheVariants as kind
use Rattle.flow_base.specs.declared.event.Cause.{Cause}
use Rattle.flow_base.specs.declared.event.Cause.TheVariants.{WaitLimit, TurnBudget, ChainLimit, UserFail}
use Rattle.flow_base.specs.declared.event.Cmd.{Cmd}
use Rattle.flow_base.specs.declared.event.Cmd.TheVariants.{Schedule, StartTimer, CancelTimer, RecordMarker, Complete, Fail, ContinueAsNew}
use Rattle.flow_model.specs.Values.{Variables, with_variable, value, values, due, is_true, text_of}
use Rattle.flow_model.specs.Rest.{Rest, Done, OnActivity, OnTimer, OnSignal, OnSignalFor, Raised, Then, Beside, rest_of, branches_of, is_done}

-- What the steps of a turn change beside the rest.
pub record Store : Type 0 where
  pub variables : Variables
  pub buffer : List (Bytes × Value)  -- signals that nobody took, the oldest first
  pub decided : Bytes → Option Bool  -- patches, and whether each took its first list
  pub tests : ℕ  -- `while` conditions that this turn has tested

-- What the steps of a turn only read.
pub record Setting : Type 0 where
  pub activities : List ActivityType
  pub at : ℕ  -- the turn's moment
  pub is_first : Bool  -- whether its input is Started
  pub waits : ℕ  -- the open waits of the whole run, or 32 where they are more
  pub event : ℕ  -- the id that the next command's event gets
  pub answer : Bytes → Bool  -- what an undecided patch answers here

-- What one step does.
pub data Move : Type 0 where
  -- nothing here can step
  Stays : Move
  Goes : Rest → Store → Move
  Asks : Rest → Store → Cmd → Move
  -- the command closes the run
  Ends : Cmd → Move

-- a fault fails the run
abbrev pub raise : Cause → Move
raise c = Ends (Fail c [])

abbrev pub on_value : {A : Type 0} → Result A Cause → (A → Move) → Move
on_value (Ok v) f = f v
on_value (Err c) f = raise c

-- a variable gets a value
abbrev pub set_in : Store → Bytes → Value → Store
set_in t x v = record t { variables = with_variable t.variables x v }

-- what an activity gives, by its declaration; a whole number where it has none
abbrev pub gives_of : List ActivityType → Bytes → Kind
gives_of [] name = kind.Int
gives_of (a ∷ more) name = if bytes_eq a.name name then a.gives else gives_of more name

-- the oldest signal of a name
abbrev pub oldest : Bytes → List (Bytes × Value) → Option Value
oldest name [] = None
oldest name (s ∷ ss) = if bytes_eq s.0 name then Some s.1 else oldest name ss

-- the others
abbrev pub without_oldest : Bytes → List (Bytes × Value) → List (Bytes × Value)
without_oldest name [] = []
without_oldest name (s ∷ ss) = if bytes_eq s.0 name then ss else s ∷ without_oldest name ss

-- a variable gets the value of a signal, which leaves the buffer
abbrev pub take_signal : Store → Bytes → Bytes → Value → Store
take_signal t x name v = record t { variables = with_variable t.variables x v; buffer = without_oldest name t.buffer }

abbrev pub on_signal : Option Value → (Value → Move) → Move → Move
on_signal None f m = m
on_signal (Some v) f m = f v

-- the most waits that a run has open
abbrev pub wait_limit : ℕ
wait_limit = 32

-- a step that opens a wait
abbrev pub waiting : Setting → Move → Move
waiting s m = if nat_lt s.waits wait_limit then m else raise WaitLimit

-- the most `while` conditions that a turn tests
abbrev pub test_limit : ℕ
test_limit = 10000

abbrev pub tested : Store → Store
tested t = record t { tests = suc t.tests }

abbrev pub picked : Bool → Block → Block → Rest
picked true a b = rest_of a
picked false a b = rest_of b

-- a patch gets its answer, for the whole run
abbrev pub decide : Store → Bytes → Bool → Store
decide t id b = record t { decided = λ i. if bytes_eq i id then Some b else t.decided i }

-- a patch, by what is decided: only a first yes is recorded
abbrev pub patched : Setting → Store → Bytes → Block → Block → Option Bool → Move
patched s t id a b (Some first) = Goes (picked first a b) t
patched s t id a b None =
    if s.answer id then Asks (rest_of a) (decide t id true) (RecordMarker id) else Goes (rest_of b) (decide t id false)

-- A statement begins. Arguments and delays are computed before waits are counted.
abbrev pub begin : Setting → Store → Statement → Move
begin s t (Let at name_at x e) = on_value (value t.variables s.at e) (λ v. Goes Done (set_in t x v))
begin s t (Assign at x e) = on_value (value t.variables s.at e) (λ v. Goes Done (set_in t x v))
begin s t (If at e a a_end b b_end) = on_value (value t.variables s.at e) (λ v. Goes (picked (is_true v) a b) t)
begin s t (While at e b end) =
    if nat_lt t.tests test_limit
    then on_value (value t.variables s.at e) (λ v. Goes (if is_true v then Then (rest_of b) (Next (While at e b end) End) else Done) (tested t))
    else raise TurnBudget
begin s t (Call at x activity_at a es r o) =
    on_value (values t.variables s.at es) (λ vs. waiting s (
    Asks (OnActivity s.event x (gives_of s.activities a) o) t (Schedule a vs r.tries r.every (gives_of s.activities a))))
begin s t (Sleep at e) = on_value (due t.variables s.at e) (λ d. waiting s (Asks (OnTimer s.event) t (StartTimer d)))
begin s t (WaitSignal at x signal_at n) =
    on_signal (oldest n t.buffer) (λ v. Goes Done (take_signal t x n v)) (waiting s (Goes (OnSignal x n) t))
begin s t (WaitSignalFor at x signal_at n e b end) =
    on_signal (oldest n t.buffer) (λ v. Goes Done (take_signal t x n v))
    (on_value (due t.variables s.at e) (λ d. waiting s (Asks (OnSignalFor x n s.event b) t (StartTimer d))))
begin s t (Parallel at bs end) = Goes (branches_of bs) t
begin s t (Patch at id_at id a a_end b b_end) = patched s t id a b (t.decided id)
begin s t (Deprecate at id_at id) = patched s t id End End (t.decided id)
begin s t (Return at e) = on_value (value t.variables s.at e) (λ v. Ends (Complete v))
begin s t (FailWith at e) = on_value (value t.variables s.at e) (λ v. Ends (Fail UserFail (text_of v)))
begin s t (Continue at es) =
    on_value (values t.variables s.at es) (λ vs. if s.is_first then raise ChainLimit else Ends (ContinueAsNew vs))

-- the same step, with something around its rest
abbrev pub around : (Rest → Rest) → Move → Move
around f Stays = Stays
around f (Goes r t) = Goes (f r) t
around f (Asks r t c) = Asks (f r) t c
around f (Ends c) = Ends c

-- a sequence, with no empty list of statements left behind: so a loop's rest doesn't grow
abbrev pub followed_by : Block → Rest → Rest
followed_by End r = r
followed_by (Next s b) r = Then r (Next s b)

-- the first statement of a block begins
abbrev pub first_of : Setting → Store → Block → Move
first_of s t End = Stays
first_of s t (Next st b) = around (followed_by b) (begin s t st)

-- the first, unless nothing in it can step
abbrev pub or_move : Move → Move → Move
or_move Stays m = m
or_move (Goes r t) m = Goes r t
or_move (Asks r t c) m = Asks r t c
or_move (Ends c) m = Ends c

-- The leftmost place that can step does.
abbrev pub move : Setting → Store → Rest → Move
move s t Done = Stays
move s t (OnActivity n x k o) = Stays
move s t (OnTimer n) = Stays
move s t (OnSignal x name) = on_signal (oldest name t.buffer) (λ v. Goes Done (take_signal t x name v)) Stays
move s t (OnSignalFor x name n b) =
    on_signal (oldest name t.buffer) (λ v. Asks Done (take_signal t x name v) (CancelTimer n)) Stays
move s t (Raised c text) = Ends (Fail c text)
move s t (Then r b) = if is_done r then first_of s t b else around (λ q. Then q b) (move s t r)
move s t (Beside a b) = or_move (around (λ q. Beside q b) (move s t a)) (around (λ q. Beside a q) (move s t b))
