-- One map from names to types for a whole program: no name is declared twice, so each declaration agrees with it.
use Rattle.std.proofs.Common.{◌≡◌, ℕ, Bool, true, false, ◌&&◌, ◌||◌, List, [], ◌∷◌, ◌++◌, map, Contains, Option, Some, None, refl, sym, ap, subst, ◌∙◌, bytes_eq, arith, append_assoc, if◌then◌else◌}
use Rattle.std.proofs.lemmas.List.{append-nil, map-append}
use Rattle.std.specs.List.{list_any}
use Rattle.std.specs.Cmp.Lexicographic.{bytes_decides}
use Rattle.flow_base.specs.declared.code.Code.{Code}
use Rattle.flow_base.specs.declared.command.TextFault.{TextFault}
use Rattle.flow_base.specs.declared.value.Kind.{Kind}
use Rattle.flow_base.specs.declared.syntax.Parameter.{Parameter}
use Rattle.flow_base.specs.Syntax.{Bytes, Statement, Let, Assign, Call, WaitSignal, WaitSignalFor, Sleep, If, While, Parallel, Patch, Deprecate, Return, FailWith, Continue, Block, End, Next, Otherwise, NoElse, Else, Branches, NoBranch, Branch, Declared, Activity, Signal, Program}
use Rattle.flow_model.specs.WellFormed.{Space, variables, activities, signals, patches, Named, named, is_space, same_name, fault, twice_code, declared_twice, one_too_many, name_of_parameter, name_of_declared, names_of, names_of_statement, names_of_block, names_of_otherwise, names_of_branches, faults_of_names, faults_of_declarations, faults_of_block, faults, WellFormed, Types, with_type, kind_of, scope_of}
use Rattle.flow_check.proofs.HavingKinds.{none_in_both}

---- The declarations of a program, with their types

abbrev pub Typings : Type 0
Typings = List (Bytes × Option Kind)

abbrev pub types_behind : Types → Statement → Types
types_behind types (Let at name_at x e) = with_type types x (kind_of types e)
types_behind types _ = types

-- the variables that a part of a program declares, in the order of the text
abbrev mutual
  pub typings_of_statement : Types → Statement → Typings
  typings_of_statement types (Let at name_at x e) = (x, kind_of types e) ∷ []
  typings_of_statement types (Call at x activity_at a es r o) = typings_of_otherwise types o
  typings_of_statement types (WaitSignalFor at x signal_at s e b end) = typings_of_block types b
  typings_of_statement types (If at e a a_end b b_end) = typings_of_block types a ++ typings_of_block types b
  typings_of_statement types (While at e b end) = typings_of_block types b
  typings_of_statement types (Parallel at bs end) = typings_of_branches types bs
  typings_of_statement types (Patch at id_at id a a_end b b_end) = typings_of_block types a ++ typings_of_block types b
  typings_of_statement types _ = []

  pub typings_of_block : Types → Block → Typings
  typings_of_block types End = []
  typings_of_block types (Next s b) = typings_of_statement types s ++ typings_of_block (types_behind types s) b

  pub typings_of_otherwise : Types → Otherwise → Typings
  typings_of_otherwise types NoElse = []
  typings_of_otherwise types (Else b end) = typings_of_block types b

  pub typings_of_branches : Types → Branches → Typings
  typings_of_branches types NoBranch = []
  typings_of_branches types (Branch at b end bs) = typings_of_block types b ++ typings_of_branches types bs

abbrev pub typing_of_parameter : Parameter → Bytes × Option Kind
typing_of_parameter q = (q.name, Some q.kind)

abbrev pub typings_of : Program → Typings
typings_of p = map typing_of_parameter p.parameters ++ typings_of_block (scope_of p).types p.body

abbrev typed_name : Bytes × Option Kind → Bytes
typed_name e = e.0

-- the map: of two with one name the first
abbrev pub found : Typings → Types
found [] x = None
found (e ∷ es) x = if bytes_eq x e.0 then Some e.1 else found es x

-- declarations agree with a map
abbrev pub Agrees : Types → Typings → Type 0
Agrees G [] = Unit {0}
Agrees G (e ∷ es) = (G e.0 ≡ Some e.1) × Agrees G es

pub agrees_both : (G : Types) (a b : Typings) → Agrees G (a ++ b) → Agrees G a × Agrees G b
agrees_both G [] b h = (tt, h)
agrees_both G (e ∷ a) b h = let rest = agrees_both G a b h.1 in ((h.0, rest.0), rest.1)

---- Their names

abbrev name_in : Space → Bytes → List Bytes
name_in variables x = x ∷ []
name_in activities x = []
name_in signals x = []
name_in patches x = []

-- the names of variables
abbrev variables_of : List Named → List Bytes
variables_of [] = []
variables_of (n ∷ ns) = name_in n.space n.name ++ variables_of ns

variables_of-append : (a b : List Named) → variables_of (a ++ b) ≡ variables_of a ++ variables_of b
variables_of-append [] b = refl
variables_of-append (n ∷ a) b = ap (λ l. name_in n.space n.name ++ l) (variables_of-append a b) ∙ sym (append_assoc (name_in n.space n.name) (variables_of a) (variables_of b))

both_named : (a b : Typings) (m n : List Named) → map typed_name a ≡ variables_of m → map typed_name b ≡ variables_of n → map typed_name (a ++ b) ≡ variables_of (m ++ n)
both_named a b m n h k = map-append typed_name a b ∙ ap (λ l. l ++ map typed_name b) h ∙ ap (λ l. variables_of m ++ l) k ∙ sym (variables_of-append m n)

mutual
  named_statement : (types : Types) (s : Statement) → map typed_name (typings_of_statement types s) ≡ variables_of (names_of_statement s)
  named_statement types (Let at name_at x e) = refl
  named_statement types (Assign at x e) = refl
  named_statement types (Call at x activity_at a es r o) = named_otherwise types o
  named_statement types (WaitSignal at x signal_at s) = refl
  named_statement types (WaitSignalFor at x signal_at s e b end) = named_block types b
  named_statement types (Sleep at e) = refl
  named_statement types (If at e a a_end b b_end) = both_named (typings_of_block types a) (typings_of_block types b) (names_of_block a) (names_of_block b) (named_block types a) (named_block types b)
  named_statement types (While at e b end) = named_block types b
  named_statement types (Parallel at bs end) = named_branches types bs
  named_statement types (Patch at id_at id a a_end b b_end) = both_named (typings_of_block types a) (typings_of_block types b) (names_of_block a) (names_of_block b) (named_block types a) (named_block types b)
  named_statement types (Deprecate at id_at id) = refl
  named_statement types (Return at e) = refl
  named_statement types (FailWith at e) = refl
  named_statement types (Continue at es) = refl

  named_block : (types : Types) (b : Block) → map typed_name (typings_of_block types b) ≡ variables_of (names_of_block b)
  named_block types End = refl
  named_block types (Next s b) = both_named (typings_of_statement types s) (typings_of_block (types_behind types s) b) (names_of_statement s) (names_of_block b) (named_statement types s) (named_block (types_behind types s) b)

  named_otherwise : (types : Types) (o : Otherwise) → map typed_name (typings_of_otherwise types o) ≡ variables_of (names_of_otherwise o)
  named_otherwise types NoElse = refl
  named_otherwise types (Else b end) = named_block types b

  named_branches : (types : Types) (bs : Branches) → map typed_name (typings_of_branches types bs) ≡ variables_of (names_of_branches bs)
  named_branches types NoBranch = refl
  named_branches types (Branch at b end bs) = both_named (typings_of_block types b) (typings_of_branches types bs) (names_of_block b) (names_of_branches bs) (named_block types b) (named_branches types bs)

named_parameters : (ps : List Parameter) → map typed_name (map typing_of_parameter ps) ≡ variables_of (map name_of_parameter ps)
named_parameters [] = refl
named_parameters (q ∷ ps) = ap (λ l. q.name ∷ l) (named_parameters ps)

no_variables : (ds : List Declared) → [] ≡ variables_of (map name_of_declared ds)
no_variables [] = refl
no_variables (Activity at name_at name takes gives ∷ ds) = no_variables ds
no_variables (Signal at name_at name carries ∷ ds) = no_variables ds

named_program : (p : Program) → map typed_name (typings_of p) ≡ variables_of (names_of p)
named_program p =
    let ps = map typing_of_parameter p.parameters in
    let b = typings_of_block (scope_of p).types p.body in
    let first : map typed_name (ps ++ []) ≡ variables_of (map name_of_parameter p.parameters ++ map name_of_declared p.declarations) =
    both_named ps [] (map name_of_parameter p.parameters) (map name_of_declared p.declarations) (named_parameters p.parameters) (no_variables p.declarations) in
    both_named ps b (map name_of_parameter p.parameters ++ map name_of_declared p.declarations) (names_of_block p.body)
    (ap (map typed_name) (sym (append-nil ps)) ∙ first) (named_block (scope_of p).types p.body)

---- No name twice

abbrev Distinct : List Bytes → List Bytes → Type 0
Distinct before [] = Unit {0}
Distinct before (x ∷ xs) = (list_any (bytes_eq x) before ≡ false) × Distinct (before ++ x ∷ []) xs

any_here : (sp : Space) (x y : Bytes) (l : List Bytes) (b : Bool) → list_any (bytes_eq x) l ≡ b → list_any (bytes_eq x) (name_in sp y ++ l) ≡ ((is_space variables sp && bytes_eq x y) || b)
any_here variables x y l b h = ap (λ c. bytes_eq x y || c) h
any_here activities x y l b h = h
any_here signals x y l b h = h
any_here patches x y l b h = h

any_variable : (at : ℕ) (x : Bytes) (ns : List Named) → list_any (bytes_eq x) (variables_of ns) ≡ list_any (same_name (named variables at x)) ns
any_variable at x [] = refl
any_variable at x (n ∷ ns) = any_here n.space x n.name (variables_of ns) (list_any (same_name (named variables at x)) ns) (any_variable at x ns)

not_any : (b : Bool) (code : Code) (at : ℕ) → (if b then fault code at else []) ≡ [] → b ≡ false
not_any true code at h = cc
not_any false code at h = refl

distinct_by : (sp : Space) (at : ℕ) (x : Bytes) (before ns : List Named) → declared_twice before (named sp at x) ≡ [] → Distinct (variables_of (before ++ named sp at x ∷ [])) (variables_of ns)
    → Distinct (variables_of before) (name_in sp x ++ variables_of ns)
distinct_by variables at x before ns h d = (
  any_variable at x before ∙ not_any (list_any (same_name (named variables at x)) before) (twice_code variables) at h,
  subst (λ (l : List Bytes). Distinct l (variables_of ns)) (variables_of-append before (named variables at x ∷ [])) d,
)
distinct_by activities at x before ns h d = subst (λ (l : List Bytes). Distinct l (variables_of ns)) (variables_of-append before (named activities at x ∷ []) ∙ append-nil (variables_of before)) d
distinct_by signals at x before ns h d = subst (λ (l : List Bytes). Distinct l (variables_of ns)) (variables_of-append before (named signals at x ∷ []) ∙ append-nil (variables_of before)) d
distinct_by patches at x before ns h d = subst (λ (l : List Bytes). Distinct l (variables_of ns)) (variables_of-append before (named patches at x ∷ []) ∙ append-nil (variables_of before)) d

distinct_names : (before ns : List Named) → faults_of_names before ns ≡ [] → Distinct (variables_of before) (variables_of ns)
distinct_names before [] h = tt
distinct_names before (n ∷ ns) h =
    let parts = none_in_both (declared_twice before n ++ one_too_many before n) (faults_of_names (before ++ n ∷ []) ns) h in
    let first = none_in_both (declared_twice before n) (one_too_many before n) parts.0 in
    distinct_by n.space n.at n.name before ns first.0 (distinct_names (before ++ n ∷ []) ns parts.1)

neither : (a b : Bool) → (a || b) ≡ false → (a ≡ false) × (b ≡ false)
neither true b h = cc
neither false b h = (refl, h)

found_behind : (bs es : Typings) (x : Bytes) → list_any (bytes_eq x) (map typed_name bs) ≡ false → found (bs ++ es) x ≡ found es x
found_behind [] es x h = refl
found_behind (b ∷ bs) es x h =
    let parts = neither (bytes_eq x b.0) (list_any (bytes_eq x) (map typed_name bs)) h in
    ap (λ t. if t then Some b.1 else found (bs ++ es) x) parts.0 ∙ found_behind bs es x parts.1

found_here : (e : Bytes × Option Kind) (es : Typings) → found (e ∷ es) e.0 ≡ Some e.1
found_here e es = ap (λ t. if t then Some e.1 else found es e.0) ((bytes_decides e.0 e.0).1 refl)

agrees_behind : (bs es : Typings) → Distinct (map typed_name bs) (map typed_name es) → Agrees (found (bs ++ es)) es
agrees_behind bs [] d = tt
agrees_behind bs (e ∷ es) d = (
  found_behind bs (e ∷ es) e.0 d.0 ∙ found_here e es,
  subst (λ (l : Typings). Agrees (found l) es) (append_assoc bs (e ∷ []) es)
      (agrees_behind (bs ++ e ∷ []) es (subst (λ (l : List Bytes). Distinct l (map typed_name es)) (sym (map-append typed_name bs (e ∷ []))) d.1)),
)

---- Well-formed programs

none_at_all : (fs : List TextFault) → ((code : Code) (at : ℕ) → Contains fs (record { code = code; at = at }) → ⊥) → fs ≡ []
none_at_all [] h = refl
none_at_all (f ∷ fs) h = absurd (h f.code f.at (0, omega arith, refl))

-- the types of all variables of a program
abbrev pub kinds : Program → Types
kinds p = found (typings_of p)

pub all_agree : (p : Program) → WellFormed p → Agrees (kinds p) (typings_of p) × (faults_of_block (scope_of p) p.body ≡ [])
all_agree p w =
    let parts = none_in_both (faults_of_names [] (names_of p) ++ faults_of_declarations p.declarations) (faults_of_block (scope_of p) p.body) (none_at_all (faults p) w) in
    let names = none_in_both (faults_of_names [] (names_of p)) (faults_of_declarations p.declarations) parts.0 in
    (agrees_behind [] (typings_of p) (subst (Distinct []) (sym (named_program p)) (distinct_names [] (names_of p) names.0)), parts.1)
