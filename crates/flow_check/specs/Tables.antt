-- What the checker's tables show of themselves, in the words of the rules.
use Rattle.std.specs.Prelude.{◌≡◌, ℕ, Bool, false, List, [], ◌∷◌, ◌++◌, length, map, take, min, Option, Some, None, option_map, bytes_eq, nat_eq, if◌then◌else◌}
use Rattle.std.specs.List.{list_any}
use Rattle.std.specs.HashMap.{get_by}
use Rattle.std.specs.HashSet.{contains_by}
use Rattle.flow_base.specs.declared.code.Code.{Code}
use Rattle.flow_base.specs.declared.code.Code.TheVariants as code
use Rattle.flow_base.specs.declared.command.TextFault.{TextFault}
use Rattle.flow_base.specs.Syntax.{Bytes, Expression, Block, End, Next}
use Rattle.flow_base.specs.declared.value.Kind.{Kind}
use Rattle.flow_base.specs.declared.syntax.Parameter.{Parameter}
use Rattle.flow_model.specs.WellFormed as rule
use Rattle.flow_model.specs.WellFormed.{Named, named, same_name, earliest, faults_of_names, faults_of_block, behind, fault}
use Rattle.flow_check.specs.declared.names.Names.{Names}
use Rattle.flow_check.specs.declared.scope.Scope.{Scope}
use Rattle.flow_check.specs.declared.scope.Signature.{Signature}
use Rattle.flow_check.specs.declared.scope.Variable.{Variable}
use Rattle.flow_check.specs.declared.wanted.Wanted.{Wanted}
use Rattle.flow_check.specs.declared.wanted.Wanted.TheVariants as wanted

-- the visible variables, in the order of their declarations
abbrev pub variables_of : Scope → List Variable
variables_of s = s.variables.items

-- the types of variables, each declared behind those before it
abbrev pub types_in : rule.Types → List Variable → rule.Types
types_in types [] = types
types_in types (v ∷ vs) = types_in (rule.with_type types v.name.now v.kind) vs

-- the types of the visible variables
abbrev pub types_of : Scope → rule.Types
types_of s = types_in rule.no_types (variables_of s)

abbrev pub shown_signature : Signature → rule.Signature
shown_signature a = record { takes = rule.kinds_of a.takes.now; gives = a.gives }

-- what the declared activities take and give
abbrev pub activities_of : Scope → Bytes → Option rule.Signature
activities_of s = λ x. option_map shown_signature (get_by (λ k. bytes_eq x k.now) s.activities)

-- what the declared signals carry
abbrev pub signals_of : Scope → Bytes → Option Kind
signals_of s = λ x. get_by (λ k. bytes_eq x k.now) s.signals

abbrev pub kinds_of_parameters : List Parameter → List Kind
kinds_of_parameters ps = map (λ (p : Parameter). p.kind) ps

-- what the program takes
abbrev pub parameters_of : Scope → List Kind
parameters_of s = kinds_of_parameters s.parameters.now

-- the types that are wanted, in their order
abbrev pub kinds_wanted : Wanted → List Kind
kinds_wanted (wanted.Types ts) = rule.kinds_of ts.now
kinds_wanted (wanted.Parameters ps) = kinds_of_parameters ps.now

-- where one answer is missing, another
abbrev pub or_else : {X : Type 0} → Option X → Option X → Option X
or_else None b = b
or_else (Some a) b = Some a

-- what one table says, and where it says nothing, another
abbrev pub first_then : {X : Type 0} → (Bytes → Option X) → (Bytes → Option X) → Bytes → Option X
first_then f g = λ x. or_else (f x) (g x)

abbrev pub nothing_known : {X : Type 0} → Bytes → Option X
nothing_known x = None

-- one entry alone
abbrev pub only : {X : Type 0} → Bytes → X → Bytes → Option X
only name a = λ x. if bytes_eq name x then Some a else None

-- what the table knows, within a parallel block or not
abbrev pub shown_scope : Bool → Scope → rule.Scope
shown_scope in_parallel s =
    record {
      types = types_of s;
      activities = activities_of s;
      signals = signals_of s;
      parameters = parameters_of s;
      in_parallel = in_parallel;
    }

-- an argument at whose position a type may be wanted
abbrev pub faults_of_argument : rule.Types → Option Kind → Expression → List TextFault
faults_of_argument types None e = rule.faults_of_expression types e
faults_of_argument types (Some k) e = rule.faults_of_wanted types k e

-- what is known behind a list of statements
abbrev pub behind_block : rule.Scope → Block → rule.Scope
behind_block m End = m
behind_block m (Next t b) = behind_block (behind m t) b

-- A list of statements takes a table to another, and its faults are noted. What was visible still is, behind it what the
-- list itself declares.
abbrev pub Checks : Bool → Scope → Option TextFault → Block → Scope → Option TextFault → Type 0
Checks in_parallel s found b s' found' =
    (shown_scope in_parallel s' ≡ behind_block (shown_scope in_parallel s) b)
    × ((take (length (variables_of s)) (variables_of s') ≡ variables_of s) × (found' ≡ earliest found (faults_of_block (shown_scope in_parallel s) b)))

-- a table knows what another does
abbrev pub IsSame : Scope → Scope → Type 0
IsSame s s' = (variables_of s' ≡ variables_of s) × (shown_scope false s' ≡ shown_scope false s)

-- These faults are noted, and the table knows what it did before.
abbrev pub Notes : Scope → Option TextFault → List TextFault → Scope → Option TextFault → Type 0
Notes s found fs s' found' = IsSame s s' × (found' ≡ earliest found fs)

-- a statement that ends the run, within a parallel block or not
abbrev pub ends_within : Bool → ℕ → List TextFault
ends_within in_parallel at = if in_parallel then fault code.EndsInParallel at else []

-- The table has the names that were declared, and counts them as far as it needs to.
pub record Lists (n : Names) (before : List Named) : Type 0 where
  pub variables : (x : Bytes) → contains_by (λ k. bytes_eq x k.now) n.variables ≡ list_any (same_name (named rule.variables 0 x)) before
  pub activities : (x : Bytes) → contains_by (λ k. bytes_eq x k.now) n.activities ≡ list_any (same_name (named rule.activities 0 x)) before
  pub signals : (x : Bytes) → contains_by (λ k. bytes_eq x k.now) n.signals ≡ list_any (same_name (named rule.signals 0 x)) before
  pub patches : (x : Bytes) → contains_by (λ k. bytes_eq x k.now) n.patches ≡ list_any (same_name (named rule.patches 0 x)) before
  pub count : n.count ≡ min (length before) 257

-- More names take a table to another, and their faults are noted.
abbrev pub Declares : Names → Option TextFault → List Named → Names → Option TextFault → Type 0
Declares n found more n' found' = (before : List Named) → Lists n before → Lists n' (before ++ more) × (found' ≡ earliest found (faults_of_names before more))

-- the faults of one name, by whether it is new, what it is called where it isn't, and how many there were
abbrev pub noted_name : Bool → Code → ℕ → ℕ → List TextFault
noted_name is_new twice count at = (if is_new then [] else fault twice at) ++ (if nat_eq count 256 then fault code.TooManyNames at else [])
