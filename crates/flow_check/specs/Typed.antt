-- What the checking rules are for: in a run of a checked program no expression meets a missing variable or a value of the
-- wrong type. The semantics has a stated value for both (`flow_model/specs/Values.antt`), and no checked program ever asks for it.
use Rattle.std.specs.Prelude.{◌≡◌, ℕ, zero, suc, ◌⊎◌, true, List, [], ◌∷◌, map, Contains, Option, Some, None, Ok}
use Rattle.flow_base.specs.Syntax.{Bytes, Expression, Number, Literal, Variable, Now, Apply, Combine, Statement, Let, Assign, Call, WaitSignal, WaitSignalFor, Sleep, If, While, Parallel, Patch, Deprecate, Return, FailWith, Continue, Block, End, Next, Program}
use Rattle.flow_base.specs.declared.value.Value.{Value}
use Rattle.flow_base.specs.declared.value.Value.TheVariants as value
use Rattle.flow_base.specs.declared.value.Kind.{Kind}
use Rattle.flow_base.specs.declared.value.Kind.TheVariants.{Int, Text}
use Rattle.flow_base.specs.declared.syntax.Parameter.{Parameter}
use Rattle.flow_base.specs.declared.event.Cmd.{Cmd}
use Rattle.flow_base.specs.declared.event.Cmd.TheVariants.{Schedule, CancelTimer, Fail, ContinueAsNew}
use Rattle.flow_base.specs.declared.event.Cause.{Cause}
use Rattle.flow_base.specs.declared.event.Input.{Input}
use Rattle.flow_base.specs.declared.event.Event.{Event}
use Rattle.flow_model.specs.Values.{Variables, value as value_of}
use Rattle.flow_model.specs.Rest.{Rest, Raised, Then, Beside, is_done}
use Rattle.flow_model.specs.Configuration.{Configuration, first_configuration}
use Rattle.flow_model.specs.Step.{Store, Setting, Move, Stays, Goes, Asks, Ends, begin, around, move, oldest, take_signal}
use Rattle.flow_model.specs.Deliver.{Progress, deliver, all_fit}
use Rattle.flow_model.specs.Turn.{Frame, Answers, frame, next, Turn}
use Rattle.flow_model.specs.Stands.{Stands}
use Rattle.flow_model.specs.WellFormed.{WellFormed, Signature, activity_of, signal_of, operand_kind, unary_result, operands_kind, binary_result}

---- Expressions

-- the type of a value
abbrev pub type_of : Value → Kind
type_of (value.Int z) = Int
type_of (value.Text t) = Text

-- a variable is there, and its value has a type
abbrev pub IsThere : Variables → Bytes → Kind → Type 0
IsThere vars x k = (v : Value) × ((vars x ≡ Some v) × (type_of v ≡ k))

-- the type of both operands is the wanted one; where either may be, it is enough that both have it
abbrev pub IsWanted : Option Kind → Kind → Type 0
IsWanted None k = Unit {0}
IsWanted (Some wanted) k = k ≡ wanted

-- An expression has a type: each variable in it is there, and each operand has the type that its operator takes.
abbrev pub HasKind : Variables → Expression → Kind → Type 0
HasKind vars (Number at z) k = k ≡ Int
HasKind vars (Literal at t) k = k ≡ Text
HasKind vars (Variable at x) k = IsThere vars x k
HasKind vars (Now at) k = k ≡ Int
HasKind vars (Apply at op e) k = HasKind vars e (operand_kind op) × (k ≡ unary_result op)
HasKind vars (Combine op e f) k =
    ((j : Kind) × (HasKind vars e j × HasKind vars f j × IsWanted (operands_kind op) j)) × (k ≡ binary_result op)

-- as many expressions as types, each of its own
abbrev pub HaveKinds : Variables → List Expression → List Kind → Type 0
HaveKinds vars [] [] = Unit {0}
HaveKinds vars [] (k ∷ ks) = ⊥
HaveKinds vars (e ∷ es) [] = ⊥
HaveKinds vars (e ∷ es) (k ∷ ks) = HasKind vars e k × HaveKinds vars es ks

---- Statements

-- A statement that begins can compute all that it computes, and what it sets is there, with the type of what it gets.
abbrev pub CanBegin : Program → Variables → Statement → Type 0
CanBegin p vars (Let at name_at x e) = (k : Kind) × HasKind vars e k
CanBegin p vars (Assign at x e) = (k : Kind) × (HasKind vars e k × IsThere vars x k)
CanBegin p vars (Call at x activity_at name es r o) =
    (a : Signature) × ((activity_of p.declarations name ≡ Some a) × HaveKinds vars es a.takes × IsThere vars x a.gives)
CanBegin p vars (WaitSignal at x signal_at name) = (k : Kind) × ((signal_of p.declarations name ≡ Some k) × IsThere vars x k)
CanBegin p vars (WaitSignalFor at x signal_at name e b end) =
    ((k : Kind) × ((signal_of p.declarations name ≡ Some k) × IsThere vars x k)) × HasKind vars e Int
CanBegin p vars (Sleep at e) = HasKind vars e Int
CanBegin p vars (If at e a a_end b b_end) = HasKind vars e Int
CanBegin p vars (While at e b end) = HasKind vars e Int
CanBegin p vars (Parallel at bs end) = Unit {0}
CanBegin p vars (Patch at id_at id a a_end b b_end) = Unit {0}
CanBegin p vars (Deprecate at id_at id) = Unit {0}
CanBegin p vars (Return at e) = (k : Kind) × HasKind vars e k
CanBegin p vars (FailWith at e) = HasKind vars e Text
CanBegin p vars (Continue at es) = HaveKinds vars es (map (λ (q : Parameter). q.kind) p.parameters)

abbrev pub IsFirst : Block → Statement → Type 0
IsFirst End s = ⊥
IsFirst (Next t b) s = t ≡ s

-- A statement is the next one of a rest, in one of its branches: what is before it in its sequence is done.
abbrev pub IsNext : Rest → Statement → Type 0
IsNext (Then r b) s = ((is_done r ≡ true) × IsFirst b s) ⊎ IsNext r s
IsNext (Beside a b) s = IsNext a s ⊎ IsNext b s
IsNext r s = ⊥

-- A move begins a statement that is next in a rest.
abbrev pub Begins : Setting → Store → Rest → Move → Type 0
Begins s t r m = (st : Statement) × ((f : Rest → Rest) × (IsNext r st × (m ≡ around f (begin s t st))))

-- a move takes the oldest signal of a name, for a variable
abbrev pub Takes : Store → Move → Type 0
Takes t m =
    (x : Bytes) × ((name : Bytes) × ((v : Value) × ((q : Rest) × ((oldest name t.buffer ≡ Some v)
    × ((m ≡ Goes q (take_signal t x name v)) ⊎ ((n : ℕ) × (m ≡ Asks q (take_signal t x name v) (CancelTimer n))))))))

-- an activity failed whose call has no `else`
abbrev pub IsRaised : Rest → Cause → Bytes → Type 0
IsRaised (Raised d u) c text = (d ≡ c) × (u ≡ text)
IsRaised (Then r b) c text = IsRaised r c text
IsRaised (Beside a b) c text = IsRaised a c text ⊎ IsRaised b c text
IsRaised r c text = ⊥

-- a move fails the run where an activity failed
abbrev pub Fails : Rest → Move → Type 0
Fails r m = (c : Cause) × ((text : Bytes) × (IsRaised r c text × (m ≡ Ends (Fail c text))))

-- A command has values of the declared types; arguments with which a run continues as new fit the parameters.
abbrev pub IsFit : Program → Cmd → Type 0
IsFit p (Schedule name vs tries every gives) =
    (a : Signature) × ((activity_of p.declarations name ≡ Some a) × (map type_of vs ≡ a.takes) × (gives ≡ a.gives))
IsFit p (ContinueAsNew vs) = all_fit p.parameters vs ≡ true
IsFit p c = Unit {0}

---- Runs

-- so many turns lead a run of the program to a configuration
abbrev pub Reaches : Program → ℕ → Configuration → Type 0
Reaches p zero k = k ≡ first_configuration
Reaches p (suc n) k =
    (old : Configuration) × ((answers : Answers) × ((at : ℕ) × ((i : Input) × ((cs : List Cmd) × (Turn p answers old at i cs k × Reaches p n old)))))

-- so many steps lead from here to there
abbrev pub Steps : ℕ → Frame → Progress → Progress → Type 0
Steps zero f q r = q ≡ r
Steps (suc n) f q r = (m : Progress) × ((next f q ≡ Some m) × Steps n f m r)

-- A moment of a run: turns lead to a configuration, an input is delivered there, and steps of its turn follow.
pub record Moment (p : Program) (q : Progress) : Type 0 where
  pub turns : ℕ
  pub before : Configuration
  pub chain : Reaches p turns before
  pub answers : Answers
  pub at : ℕ
  pub input : Input
  pub start : Progress
  pub delivered : deliver p before input ≡ Some start
  pub count : ℕ
  pub steps : Steps count (frame p before at input answers) start q

---- Laws

-- What a step computes in a run of a checked program: each variable is there, and each value has the type that is wanted.
abbrev pub NothingMissing : Type 0
NothingMissing = (p : Program) (q : Progress) (s : Statement) → WellFormed p → Moment p q → IsNext q.rest s → CanBegin p q.store.variables s

-- Only a statement that is next is begun, so nothing else computes an expression.
abbrev pub OnlyNextBegins : Type 0
OnlyNextBegins = (s : Setting) (t : Store) (r : Rest) → (move s t r ≡ Stays) ⊎ (Begins s t r (move s t r) ⊎ (Takes t (move s t r) ⊎ Fails r (move s t r)))

-- A variable has one type, at all moments of all runs: so whatever is delivered or assigned to it fits.
abbrev pub OneKind : Type 0
OneKind = (p : Program) → WellFormed p → (kinds : Bytes → Option Kind)
    × ((q : Progress) (x : Bytes) (v : Value) → Moment p q → q.store.variables x ≡ Some v → kinds x ≡ Some (type_of v))

-- What a checked program asks for fits.
abbrev pub CommandsFit : Type 0
CommandsFit = (p : Program) (q : Progress) (c : Cmd) → WellFormed p → Moment p q → Contains q.asked c → IsFit p c

-- The type of an expression is that of its value.
abbrev pub ValueHasKind : Type 0
ValueHasKind = (vars : Variables) (at : ℕ) (e : Expression) (k : Kind) (v : Value) → HasKind vars e k → value_of vars at e ≡ Ok v → type_of v ≡ k

-- Turns lead to where a history leaves a run.
abbrev pub StandsReached : Type 0
StandsReached = (p : Program) (h : List Event) (k : Configuration) → Stands p h k → (n : ℕ) × Reaches p n k
