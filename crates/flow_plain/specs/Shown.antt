-- What the plain run shows of itself: its configuration, and what its parts mean in the definitions.
use Rattle.std.specs.Prelude.{◌≡◌, ℕ, List, [], ◌∷◌, ◌++◌, map, take, drop, Option, Some, None, Bool}
use Rattle.flow_base.specs.Syntax.{Bytes, Statement, Block, End, Next, activities_of, block_of}
use Rattle.flow_base.specs.Shown.{shown_stmt, shown_braced, shown_otherwise, shown_declaration}
use Rattle.flow_base.specs.declared.syntax.Stmt.{Stmt}
use Rattle.flow_base.specs.declared.value.Value.{Value}
use Rattle.flow_base.specs.declared.event.State.{State}
use Rattle.flow_model.specs.Values.{Variables}
use Rattle.flow_values.specs.Named.{look_up}
use Rattle.flow_model.specs.Rest as tree
use Rattle.flow_model.specs.Configuration.{Configuration}
use Rattle.flow_model.specs.Step as step
use Rattle.flow_model.specs.Deliver.{Progress, target_of, replaced, when_completed}
use Rattle.flow_model.specs.Turn as turn
use Rattle.flow_run.specs.Shown.{shown_answers}
use Rattle.flow_plain.specs.declared.rest.Rest.{Rest}
use Rattle.flow_plain.specs.declared.rest.Rest.TheVariants.{Done, OnActivity, OnTimer, OnSignal, OnSignalFor, Raised, Then', Beside'}
use Rattle.flow_plain.specs.declared.step.Store.{Store}
use Rattle.flow_plain.specs.declared.step.Moved.{Moved}
use Rattle.flow_plain.specs.declared.step.Moved.TheVariants as moved
use Rattle.flow_plain.specs.declared.step.Begun.{Begun}
use Rattle.flow_plain.specs.declared.step.Begun.TheVariants as begun
use Rattle.flow_plain.specs.declared.deliver.Turning.{Turning}
use Rattle.flow_plain.specs.declared.deliver.Resumed.{Resumed}
use Rattle.flow_plain.specs.declared.turn.Frame.{Frame}
use Rattle.flow_plain.specs.declared.turn.Stepped.{Stepped}
use Rattle.flow_plain.specs.declared.turn.Stepped.TheVariants as stepped
use Rattle.flow_plain.specs.declared.plain.PlainRun.{PlainRun}

-- the statements of a list from number i on
abbrev pub left_from : List Stmt → ℕ → Block
left_from ss i = block_of (drop i (map shown_stmt ss))

abbrev pub shown_rest : Rest → tree.Rest
shown_rest Done = tree.Done
shown_rest (OnActivity n x k o) = tree.OnActivity n x k (shown_otherwise o)
shown_rest (OnTimer n) = tree.OnTimer n
shown_rest (OnSignal x s) = tree.OnSignal x s
shown_rest (OnSignalFor x s n b) = tree.OnSignalFor x s n (shown_braced b).0
shown_rest (Raised c t) = tree.Raised c t
shown_rest (Then' p r b i to) = tree.Then (shown_rest r) (left_from (take to b.value.items) i)
shown_rest (Beside' p a q b) = tree.Beside (shown_rest a) (shown_rest b)

-- The configuration that a plain run stands for.
abbrev pub plain_configuration : PlainRun → Configuration
plain_configuration r =
    record {
      rest = shown_rest r.rest;
      variables = look_up r.variables;
      buffer = r.buffer;
      decided = look_up r.decided;
      events = r.events;
      moment = r.moment;
      state = r.state;
    }

abbrev pub shown_store : Store → step.Store
shown_store s = record { variables = look_up s.variables; buffer = s.buffer; decided = look_up s.decided; tests = s.tests }

abbrev pub shown_move : Store → Moved → step.Move
shown_move s (moved.Stays r) = step.Stays
shown_move s (moved.Goes r) = step.Goes (shown_rest r) (shown_store s)
shown_move s (moved.Asks r c) = step.Asks (shown_rest r) (shown_store s) c
shown_move s (moved.Ends c) = step.Ends c

-- what a statement does that begins; one that repeats goes on behind its list
abbrev pub shown_begun : Statement → Store → Begun → step.Move
shown_begun st s (begun.Moves m) = shown_move s m
shown_begun st s (begun.Repeats r) = step.Goes (tree.Then (shown_rest r) (Next st End)) (shown_store s)

-- what a step leaves where it doesn't go on
abbrev pub KeepsRest : Store → tree.Rest → Store → Moved → Type 0
KeepsRest old r new (moved.Stays q) = (shown_rest q ≡ r) × (new ≡ old)
KeepsRest old r new (moved.Goes q) = Unit {0}
KeepsRest old r new (moved.Asks q c) = Unit {0}
KeepsRest old r new (moved.Ends c) = new ≡ old

-- what a statement that begins leaves: it always steps
abbrev pub Begins : Store → Store → Moved → Type 0
Begins old new (moved.Stays q) = ⊥
Begins old new (moved.Goes q) = Unit {0}
Begins old new (moved.Asks q c) = Unit {0}
Begins old new (moved.Ends c) = new ≡ old

abbrev pub Starts : Store → Store → Begun → Type 0
Starts old new (begun.Moves m) = Begins old new m
Starts old new (begun.Repeats r) = Unit {0}

abbrev pub shown_progress : Turning → Progress
shown_progress p = record { rest = shown_rest p.rest; store = shown_store p.store; asked = p.asked.items; state = p.state }

abbrev pub shown_frame : Frame → turn.Frame
shown_frame f =
    record {
      activities = activities_of (map shown_declaration f.declarations.now);
      at = f.at;
      is_first = f.is_first;
      events = f.events;
      answer = turn.answer_of (shown_answers f.answers);
    }

abbrev pub shown_next : Stepped → Option Progress
shown_next (stepped.Rests p) = None
shown_next (stepped.Steps p) = Some (shown_progress p)

abbrev pub KeepsProgress : Progress → Stepped → Type 0
KeepsProgress p (stepped.Rests q) = shown_progress q ≡ p
KeepsProgress p (stepped.Steps q) = Unit {0}

abbrev pub shown_started : Option Turning → Option Progress
shown_started None = None
shown_started (Some p) = Some (shown_progress p)

abbrev pub shown_rest_of : Option Rest → Option tree.Rest
shown_rest_of None = None
shown_rest_of (Some r) = Some (shown_rest r)

-- the wait on activity n is there, and this is left once it is over
abbrev pub IsResumed : ℕ → tree.Rest → Option Resumed → Type 0
IsResumed n r None = (target_of n r ≡ None) × (replaced (when_completed n) r ≡ None)
IsResumed n r (Some q) = (target_of n r ≡ Some (q.into, q.kind)) × (replaced (when_completed n) r ≡ Some (shown_rest q.rest))

-- a run within a turn that has asked nothing yet
abbrev pub started_with : tree.Rest → Variables → List (Bytes × Value) → (Bytes → Option Bool) → State → Progress
started_with r vars buffer decided st =
    record { rest = r; store = record { variables = vars; buffer = buffer; decided = decided; tests = 0 }; asked = []; state = st }
