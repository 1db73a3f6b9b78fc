-- Well formed: the checking rules. Each rule that a text breaks is a fault, with its number and its place; a program is well
-- formed where it has none. Each function below has one case for each form of the language.
use Rattle.std.specs.Prelude.{◌≡◌, ℕ, ◌<◌, ◌≤◌, Bool, true, false, ◌&&◌, ◌||◌, List, [], ◌∷◌, ◌++◌, map, length, drop, Contains, Option, Some, None, nat_eq, nat_lt, bytes_eq, if◌then◌else◌, ◌⊎◌}
use Rattle.std.specs.List.{list_any}
use Rattle.flow_base.specs.Codes.{code_number}
use Rattle.flow_base.specs.declared.code.Code.{Code}
use Rattle.flow_base.specs.declared.code.Code.TheVariants as code
use Rattle.flow_base.specs.declared.command.TextFault.{TextFault}
use Rattle.flow_base.specs.declared.value.Kind.{Kind}
use Rattle.flow_base.specs.declared.value.Kind.TheVariants.{Int, Text}
use Rattle.flow_base.specs.declared.syntax.Unary.{Unary}
use Rattle.flow_base.specs.declared.syntax.Unary.TheVariants.{TextOf, Length}
use Rattle.flow_base.specs.declared.syntax.Binary.{Binary}
use Rattle.flow_base.specs.declared.syntax.Binary.TheVariants.{Equal, Differ, Join}
use Rattle.flow_base.specs.declared.syntax.Parameter.{Parameter}
use Rattle.flow_base.specs.declared.syntax.TypeAt.{TypeAt}
use Rattle.flow_base.specs.Syntax.{Bytes, Expression, Number, Literal, Variable, Now, Apply, Combine, Statement, Let, Assign, Call, WaitSignal, WaitSignalFor, Sleep, If, While, Parallel, Patch, Deprecate, Return, FailWith, Continue, Block, End, Next, Otherwise, NoElse, Else, Branches, NoBranch, Branch, Declared, Activity, Signal, Program}
use Rattle.flow_base.specs.declared.syntax.Retry.{Retry}

-- one fault
abbrev pub fault : Code → ℕ → List TextFault
fault code at = record { code = code; at = at } ∷ []

-- a fault at the first of these places, if there is one
abbrev pub fault_at_first : Code → List ℕ → List TextFault
fault_at_first code [] = []
fault_at_first code (at ∷ more) = fault code at

---- Names

-- variables and parameters are one name space, activities another, signals a third, patch ids a fourth
pub data Space : Type 0 where
  variables : Space
  activities : Space
  signals : Space
  patches : Space

-- a name where it is declared
pub record Named : Type 0 where
  pub space : Space
  pub at : ℕ
  pub name : Bytes

abbrev pub named : Space → ℕ → Bytes → Named
named space at name = record { space = space; at = at; name = name }

abbrev pub is_space : Space → Space → Bool
is_space variables variables = true
is_space activities activities = true
is_space signals signals = true
is_space patches patches = true
is_space s t = false

abbrev pub same_name : Named → Named → Bool
same_name n m = is_space n.space m.space && bytes_eq n.name m.name

abbrev pub name_of_parameter : Parameter → Named
name_of_parameter p = named variables p.at p.name

abbrev pub name_of_declared : Declared → Named
name_of_declared (Activity at name_at name takes gives) = named activities name_at name
name_of_declared (Signal at name_at name carries) = named signals name_at name

abbrev mutual
  -- the names that a statement declares, in the order of the text
  pub names_of_statement : Statement → List Named
  names_of_statement (Let at name_at x e) = named variables name_at x ∷ []
  names_of_statement (Call at x activity_at a es r o) = names_of_otherwise o
  names_of_statement (WaitSignalFor at x signal_at s e b end) = names_of_block b
  names_of_statement (If at e a a_end b b_end) = names_of_block a ++ names_of_block b
  names_of_statement (While at e b end) = names_of_block b
  names_of_statement (Parallel at bs end) = names_of_branches bs
  names_of_statement (Patch at id_at id a a_end b b_end) = named patches id_at id ∷ (names_of_block a ++ names_of_block b)
  names_of_statement (Deprecate at id_at id) = named patches id_at id ∷ []
  names_of_statement _ = []

  pub names_of_block : Block → List Named
  names_of_block End = []
  names_of_block (Next s b) = names_of_statement s ++ names_of_block b

  pub names_of_otherwise : Otherwise → List Named
  names_of_otherwise NoElse = []
  names_of_otherwise (Else b end) = names_of_block b

  pub names_of_branches : Branches → List Named
  names_of_branches NoBranch = []
  names_of_branches (Branch at b end bs) = names_of_block b ++ names_of_branches bs

-- all declared names, in the order of the text
abbrev pub names_of : Program → List Named
names_of p = map name_of_parameter p.parameters ++ map name_of_declared p.declarations ++ names_of_block p.body

-- E25 of a patch id, E21 of another name
abbrev pub twice_code : Space → Code
twice_code patches = code.PatchTwice
twice_code s = code.DeclaredTwice

-- E21, E25: a name stands before in its space
abbrev pub declared_twice : List Named → Named → List TextFault
declared_twice before n = if list_any (same_name n) before then fault (twice_code n.space) n.at else []

-- the most declared names, and the most types that an activity takes
abbrev pub name_limit : ℕ
name_limit = 256

-- E26: it is the name with which there are too many
abbrev pub one_too_many : List Named → Named → List TextFault
one_too_many before n = if nat_eq (length before) name_limit then fault code.TooManyNames n.at else []

-- the faults of names, each with those before it
abbrev pub faults_of_names : List Named → List Named → List TextFault
faults_of_names before [] = []
faults_of_names before (n ∷ more) = declared_twice before n ++ one_too_many before n ++ faults_of_names (before ++ n ∷ []) more

-- E26: an activity takes too many types
abbrev pub faults_of_declared : Declared → List TextFault
faults_of_declared (Activity at name_at name takes gives) = fault_at_first code.TooManyNames (map (λ (t : TypeAt). t.at) (drop name_limit takes))
faults_of_declared (Signal at name_at name carries) = []

abbrev pub faults_of_declarations : List Declared → List TextFault
faults_of_declarations [] = []
faults_of_declarations (d ∷ ds) = faults_of_declared d ++ faults_of_declarations ds

---- Types

abbrev pub is_kind : Kind → Kind → Bool
is_kind Int Int = true
is_kind Text Text = true
is_kind j k = false

-- The visible variables, each with its type. One whose value holds a fault has none.
abbrev pub Types : Type 0
Types = Bytes → Option (Option Kind)

abbrev pub no_types : Types
no_types x = None

abbrev pub with_type : Types → Bytes → Option Kind → Types
with_type types x k = λ y. if bytes_eq x y then Some k else types y

-- the type of a variable, if it is visible and has one
abbrev pub type_known : Option (Option Kind) → Option Kind
type_known None = None
type_known (Some k) = k

abbrev pub operand_kind : Unary → Kind
operand_kind Length = Text
operand_kind op = Int

abbrev pub unary_result : Unary → Kind
unary_result TextOf = Text
unary_result op = Int

-- the type of both operands; none where they may be of either type, but of the same
abbrev pub operands_kind : Binary → Option Kind
operands_kind Equal = None
operands_kind Differ = None
operands_kind Join = Some Text
operands_kind op = Some Int

abbrev pub binary_result : Binary → Kind
binary_result Join = Text
binary_result op = Int

abbrev pub operands_fit : Option Kind → Kind → Kind → Bool
operands_fit None j k = is_kind k j
operands_fit (Some wanted) j k = is_kind j wanted && is_kind k wanted

abbrev pub applied_kind : Unary → Option Kind → Option Kind
applied_kind op None = None
applied_kind op (Some k) = if is_kind k (operand_kind op) then Some (unary_result op) else None

abbrev pub combined_kind : Binary → Option Kind → Option Kind → Option Kind
combined_kind op None k = None
combined_kind op (Some j) None = None
combined_kind op (Some j) (Some k) = if operands_fit (operands_kind op) j k then Some (binary_result op) else None

-- The type of an expression. It has none where a part of it holds a fault.
abbrev pub kind_of : Types → Expression → Option Kind
kind_of types (Number at z) = Some Int
kind_of types (Literal at t) = Some Text
kind_of types (Variable at x) = type_known (types x)
kind_of types (Now at) = Some Int
kind_of types (Apply at op e) = applied_kind op (kind_of types e)
kind_of types (Combine op e f) = combined_kind op (kind_of types e) (kind_of types f)

-- where an expression begins
abbrev pub beginning : Expression → ℕ
beginning (Number at z) = at
beginning (Literal at t) = at
beginning (Variable at x) = at
beginning (Now at) = at
beginning (Apply at op e) = at
beginning (Combine op e f) = beginning e

-- E22: a type is known, and isn't the wanted one
abbrev pub wrong_kind : Kind → Option Kind → ℕ → List TextFault
wrong_kind wanted None at = []
wrong_kind wanted (Some k) at = if is_kind k wanted then [] else fault code.BadType at

-- E22: where both operands may have either type, it is the right one that is wrong
abbrev pub wrong_operands : Option Kind → Option Kind → Option Kind → ℕ → ℕ → List TextFault
wrong_operands (Some wanted) j k left_at right_at = wrong_kind wanted j left_at ++ wrong_kind wanted k right_at
wrong_operands None None k left_at right_at = []
wrong_operands None (Some j) k left_at right_at = wrong_kind j k right_at

-- E20: a variable isn't visible
abbrev pub not_visible : Option (Option Kind) → ℕ → List TextFault
not_visible None at = fault code.NotVisible at
not_visible (Some k) at = []

abbrev pub faults_of_expression : Types → Expression → List TextFault
faults_of_expression types (Number at z) = []
faults_of_expression types (Literal at t) = []
faults_of_expression types (Variable at x) = not_visible (types x) at
faults_of_expression types (Now at) = []
faults_of_expression types (Apply at op e) = faults_of_expression types e ++ wrong_kind (operand_kind op) (kind_of types e) (beginning e)
faults_of_expression types (Combine op e f) =
    faults_of_expression types e ++ faults_of_expression types f ++ wrong_operands (operands_kind op) (kind_of types e) (kind_of types f) (beginning e) (beginning f)

-- an expression that is wanted to have a type
abbrev pub faults_of_wanted : Types → Kind → Expression → List TextFault
faults_of_wanted types wanted e = faults_of_expression types e ++ wrong_kind wanted (kind_of types e) (beginning e)

---- Statements

-- what an activity takes and gives
pub record Signature : Type 0 where
  pub takes : List Kind
  pub gives : Kind

abbrev pub kinds_of : List TypeAt → List Kind
kinds_of ts = map (λ (t : TypeAt). t.kind) ts

-- an activity of a name: of two with one name the first
abbrev pub activity_of : List Declared → Bytes → Option Signature
activity_of [] x = None
activity_of (Activity at name_at name takes gives ∷ ds) x = if bytes_eq name x then Some (record { takes = kinds_of takes; gives = gives }) else activity_of ds x
activity_of (Signal at name_at name carries ∷ ds) x = activity_of ds x

-- what a signal carries
abbrev pub signal_of : List Declared → Bytes → Option Kind
signal_of [] x = None
signal_of (Activity at name_at name takes gives ∷ ds) x = signal_of ds x
signal_of (Signal at name_at name carries ∷ ds) x = if bytes_eq name x then Some carries else signal_of ds x

-- What is known where a statement stands.
pub record Scope : Type 0 where
  pub types : Types
  pub activities : Bytes → Option Signature
  pub signals : Bytes → Option Kind
  pub parameters : List Kind
  pub in_parallel : Bool

abbrev pub types_of_parameters : Types → List Parameter → Types
types_of_parameters types [] = types
types_of_parameters types (p ∷ ps) = types_of_parameters (with_type types p.name (Some p.kind)) ps

-- what is known where the body of a program begins
abbrev pub scope_of : Program → Scope
scope_of p =
    record {
      types = types_of_parameters no_types p.parameters;
      activities = activity_of p.declarations;
      signals = signal_of p.declarations;
      parameters = map (λ (q : Parameter). q.kind) p.parameters;
      in_parallel = false;
    }

-- what is known behind a statement: a variable is visible after its `let` to the end of the list where that stands
abbrev pub behind : Scope → Statement → Scope
behind s (Let at name_at x e) = record s { types = with_type s.types x (kind_of s.types e) }
behind s _ = s

-- E20, E22: a value of a type, if it has one, is assigned to a variable; with the places of the name and of the value
abbrev pub faults_of_assigned : Option (Option Kind) → ℕ → Option Kind → ℕ → List TextFault
faults_of_assigned None at k value_at = fault code.NotVisible at
faults_of_assigned (Some None) at k value_at = []
faults_of_assigned (Some (Some wanted)) at k value_at = wrong_kind wanted k value_at

-- E22: arguments against the types at their positions
abbrev pub faults_of_arguments : Types → List Kind → List Expression → List TextFault
faults_of_arguments types wanted [] = []
faults_of_arguments types [] (e ∷ es) = faults_of_expression types e ++ faults_of_arguments types [] es
faults_of_arguments types (k ∷ ks) (e ∷ es) = faults_of_wanted types k e ++ faults_of_arguments types ks es

-- E23: as many arguments as wanted
abbrev pub wrong_count : List Kind → List Expression → ℕ → List TextFault
wrong_count ks es at = if nat_eq (length es) (length ks) then [] else fault code.BadCount at

-- E29, E23, E22: a call of an activity, with the activity's place
abbrev pub faults_of_call : Types → Option Signature → ℕ → List Expression → List TextFault
faults_of_call types None at es = fault code.NotDeclared at ++ faults_of_arguments types [] es
faults_of_call types (Some a) at es = wrong_count a.takes es at ++ faults_of_arguments types a.takes es

abbrev pub given : Option Signature → Option Kind
given None = None
given (Some a) = Some a.gives

-- E29: a signal that isn't declared
abbrev pub unknown_signal : Option Kind → ℕ → List TextFault
unknown_signal None at = fault code.NotDeclared at
unknown_signal (Some k) at = []

-- E28: a number is out of its range
abbrev pub out_of_range : ℕ → ℕ → ℕ → ℕ → List TextFault
out_of_range least most n at = if nat_lt n least || nat_lt most n then fault code.BadRetry at else []

abbrev pub faults_of_retry : Retry → List TextFault
faults_of_retry r = out_of_range 1 20 r.tries r.tries_at ++ out_of_range 0 86400000 r.every r.every_at

-- E24: the run can't end within a parallel block
abbrev pub ends_in_parallel : Scope → ℕ → List TextFault
ends_in_parallel s at = if s.in_parallel then fault code.EndsInParallel at else []

-- the places where branches begin
abbrev pub branch_places : Branches → List ℕ
branch_places NoBranch = []
branch_places (Branch at b end bs) = at ∷ branch_places bs

abbrev pub branch_limit : ℕ
branch_limit = 8

abbrev mutual
  pub faults_of_statement : Scope → Statement → List TextFault
  faults_of_statement s (Let at name_at x e) = faults_of_expression s.types e
  faults_of_statement s (Assign at x e) =
      faults_of_expression s.types e ++ faults_of_assigned (s.types x) at (kind_of s.types e) (beginning e)
  faults_of_statement s (Call at x activity_at a es r o) =
      faults_of_call s.types (s.activities a) activity_at es ++ faults_of_assigned (s.types x) at (given (s.activities a)) at
      ++ faults_of_retry r ++ faults_of_otherwise s o
  faults_of_statement s (WaitSignal at x signal_at name) =
      unknown_signal (s.signals name) signal_at ++ faults_of_assigned (s.types x) at (s.signals name) at
  faults_of_statement s (WaitSignalFor at x signal_at name e b end) =
      unknown_signal (s.signals name) signal_at ++ faults_of_assigned (s.types x) at (s.signals name) at
      ++ faults_of_wanted s.types Int e ++ faults_of_block s b
  faults_of_statement s (Sleep at e) = faults_of_wanted s.types Int e
  faults_of_statement s (If at e a a_end b b_end) = faults_of_wanted s.types Int e ++ faults_of_block s a ++ faults_of_block s b
  faults_of_statement s (While at e b end) = faults_of_wanted s.types Int e ++ faults_of_block s b
  faults_of_statement s (Parallel at bs end) =
      fault_at_first code.TooManyBranches (drop branch_limit (branch_places bs)) ++ faults_of_branches (record s { in_parallel = true }) bs
  faults_of_statement s (Patch at id_at id a a_end b b_end) = faults_of_block s a ++ faults_of_block s b
  faults_of_statement s (Deprecate at id_at id) = []
  faults_of_statement s (Return at e) = faults_of_expression s.types e ++ ends_in_parallel s at
  faults_of_statement s (FailWith at e) = faults_of_wanted s.types Text e ++ ends_in_parallel s at
  faults_of_statement s (Continue at es) =
      wrong_count s.parameters es at ++ faults_of_arguments s.types s.parameters es ++ ends_in_parallel s at

  pub faults_of_block : Scope → Block → List TextFault
  faults_of_block s End = []
  faults_of_block s (Next t b) = faults_of_statement s t ++ faults_of_block (behind s t) b

  pub faults_of_otherwise : Scope → Otherwise → List TextFault
  faults_of_otherwise s NoElse = []
  faults_of_otherwise s (Else b end) = faults_of_block s b

  pub faults_of_branches : Scope → Branches → List TextFault
  faults_of_branches s NoBranch = []
  faults_of_branches s (Branch at b end bs) = faults_of_block s b ++ faults_of_branches s bs

---- Programs

-- all that a program breaks
abbrev pub faults : Program → List TextFault
faults p = faults_of_names [] (names_of p) ++ faults_of_declarations p.declarations ++ faults_of_block (scope_of p) p.body

-- a program breaks the rule with a number at a place
abbrev pub Breaks : Program → Code → ℕ → Type 0
Breaks p code at = Contains (faults p) (record { code = code; at = at })

-- A program keeps every rule.
abbrev pub WellFormed : Program → Type 0
WellFormed p = (code : Code) (at : ℕ) → Breaks p code at → ⊥

-- a fault stands no later than another: by place, then by number
abbrev pub IsNoLater : TextFault → TextFault → Type 0
IsNoLater f g = (f.at < g.at) ⊎ ((f.at ≡ g.at) × (code_number f.code ≤ code_number g.code))

-- The fault with the least place, and of those there the one with the lowest number.
abbrev pub IsFirstFault : Program → TextFault → Type 0
IsFirstFault p f = Breaks p f.code f.at × ((code : Code) (at : ℕ) → Breaks p code at → IsNoLater f (record { code = code; at = at }))

abbrev pub is_earlier : TextFault → TextFault → Bool
is_earlier f g = if nat_eq f.at g.at then nat_lt (code_number f.code) (code_number g.code) else nat_lt f.at g.at

-- the earlier of a fault found so far and another
abbrev pub earlier : Option TextFault → TextFault → Option TextFault
earlier None f = Some f
earlier (Some g) f = if is_earlier f g then Some f else Some g

-- the earliest of a fault found so far and more
abbrev pub earliest : Option TextFault → List TextFault → Option TextFault
earliest found [] = found
earliest found (f ∷ fs) = earliest (earlier found f) fs

-- The fault that is answered, if there is one.
abbrev pub first_fault : Program → Option TextFault
first_fault p = earliest None (faults p)
