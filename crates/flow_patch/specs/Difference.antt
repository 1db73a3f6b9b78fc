-- Where a text first differs from what it would have to be to wrap another: the place in the new text, or none.
use Rattle.std.specs.Prelude.{◌≡◌, ◌↔◌, ℕ, Bool, true, false, ◌&&◌, List, [], ◌∷◌, Option, Some, None, nat_eq, bytes_eq, if◌then◌else◌}
use Rattle.flow_base.specs.Syntax.{Bytes, Expression, Number, Literal, Variable, Now, Apply, Combine, Statement, Let, Assign, Call, WaitSignal, WaitSignalFor, Sleep, If, While, Parallel, Patch, Deprecate, Return, FailWith, Continue, Block, End, Next, Otherwise, NoElse, Else, Branches, NoBranch, Branch, Declared, Activity, Signal, Program}
use Rattle.flow_base.specs.declared.syntax.Unary.{Unary}
use Rattle.flow_base.specs.declared.syntax.Unary.TheVariants as unary
use Rattle.flow_base.specs.declared.syntax.Binary.{Binary}
use Rattle.flow_base.specs.declared.syntax.Binary.TheVariants as binary
use Rattle.flow_base.specs.declared.syntax.Retry.{Retry}
use Rattle.flow_base.specs.declared.syntax.Parameter.{Parameter}
use Rattle.flow_base.specs.declared.syntax.TypeAt.{TypeAt}
use Rattle.flow_model.specs.Values.{int_same}
use Rattle.flow_model.specs.WellFormed.{is_kind}
use Rattle.flow_patch.specs.Wrap.{joined, new_in, Wrap}

---- The same up to places

abbrev pub unary_number : Unary → ℕ
unary_number unary.Not = 0
unary_number unary.Negate = 1
unary_number unary.TextOf = 2
unary_number unary.Length = 3

abbrev pub binary_number : Binary → ℕ
binary_number binary.Or = 0
binary_number binary.And = 1
binary_number binary.Equal = 2
binary_number binary.Differ = 3
binary_number binary.Less = 4
binary_number binary.AtMost = 5
binary_number binary.Greater = 6
binary_number binary.AtLeast = 7
binary_number binary.Add = 8
binary_number binary.Subtract = 9
binary_number binary.Join = 10
binary_number binary.Multiply = 11
binary_number binary.Divide = 12
binary_number binary.Remain = 13

abbrev pub same_expression : Expression → Expression → Bool
same_expression (Number at z) (Number at' w) = int_same z w
same_expression (Literal at t) (Literal at' u) = bytes_eq t u
same_expression (Variable at x) (Variable at' y) = bytes_eq x y
same_expression (Now at) (Now at') = true
same_expression (Apply at op a) (Apply at' op' b) = nat_eq (unary_number op) (unary_number op') && same_expression a b
same_expression (Combine op a b) (Combine op' c d) =
    nat_eq (binary_number op) (binary_number op') && (same_expression a c && same_expression b d)
same_expression e e' = false

abbrev pub same_expressions : List Expression → List Expression → Bool
same_expressions [] [] = true
same_expressions [] (e' ∷ es') = false
same_expressions (e ∷ es) [] = false
same_expressions (e ∷ es) (e' ∷ es') = same_expression e e' && same_expressions es es'

abbrev pub same_retry : Retry → Retry → Bool
same_retry r r' = nat_eq r.tries r'.tries && nat_eq r.every r'.every

abbrev pub has_else : Otherwise → Bool
has_else NoElse = false
has_else (Else b end) = true

abbrev pub same_flag : Bool → Bool → Bool
same_flag true b = b
same_flag false true = false
same_flag false false = true

-- The heads of two statements: all but their lists, and of a call whether it has an `else`.
abbrev pub same_head : Statement → Statement → Bool
same_head (Let at name_at x e) (Let at' name_at' y d) = bytes_eq x y && same_expression e d
same_head (Assign at x e) (Assign at' y d) = bytes_eq x y && same_expression e d
same_head (Call at x activity_at a es r o) (Call at' y activity_at' b ds q u) =
    bytes_eq x y && (bytes_eq a b && (same_expressions es ds && (same_retry r q && same_flag (has_else o) (has_else u))))
same_head (WaitSignal at x signal_at n) (WaitSignal at' y signal_at' m) = bytes_eq x y && bytes_eq n m
same_head (WaitSignalFor at x signal_at n e b end) (WaitSignalFor at' y signal_at' m d c end') =
    bytes_eq x y && (bytes_eq n m && same_expression e d)
same_head (Sleep at e) (Sleep at' d) = same_expression e d
same_head (If at e a a_end b b_end) (If at' d a' a_end' b' b_end') = same_expression e d
same_head (While at e b end) (While at' d b' end') = same_expression e d
same_head (Parallel at bs end) (Parallel at' cs end') = true
same_head (Patch at id_at id a a_end b b_end) (Patch at' id_at' i a' a_end' b' b_end') = bytes_eq id i
same_head (Deprecate at id_at id) (Deprecate at' id_at' i) = bytes_eq id i
same_head (Return at e) (Return at' d) = same_expression e d
same_head (FailWith at e) (FailWith at' d) = same_expression e d
same_head (Continue at es) (Continue at' ds) = same_expressions es ds
same_head s s' = false

-- the lists within a statement
abbrev pub else_list : Otherwise → Block
else_list NoElse = End
else_list (Else b end) = b

abbrev pub first_list : Statement → Block
first_list (Call at x activity_at a es r o) = else_list o
first_list (WaitSignalFor at x signal_at n e b end) = b
first_list (If at e a a_end b b_end) = a
first_list (While at e b end) = b
first_list (Patch at id_at id a a_end b b_end) = a
first_list s = End

abbrev pub second_list : Statement → Block
second_list (If at e a a_end b b_end) = b
second_list (Patch at id_at id a a_end b b_end) = b
second_list s = End

abbrev pub branches_in : Statement → Branches
branches_in (Parallel at bs end) = bs
branches_in s = NoBranch

---- Places

-- the place of a statement's first token
abbrev pub place_of : Statement → ℕ
place_of (Let at name_at x e) = at
place_of (Assign at x e) = at
place_of (Call at x activity_at a es r o) = at
place_of (WaitSignal at x signal_at n) = at
place_of (WaitSignalFor at x signal_at n e b end) = at
place_of (Sleep at e) = at
place_of (If at e a a_end b b_end) = at
place_of (While at e b end) = at
place_of (Parallel at bs end) = at
place_of (Patch at id_at id a a_end b b_end) = at
place_of (Deprecate at id_at id) = at
place_of (Return at e) = at
place_of (FailWith at e) = at
place_of (Continue at es) = at

-- the place of the first statement, or of the brace where there is none
abbrev pub beginning_of : Block → ℕ → ℕ
beginning_of End end = end
beginning_of (Next s b) end = place_of s

abbrev pub first_place : Option ℕ → Option ℕ → Option ℕ
first_place None o = o
first_place (Some n) o = Some n

---- Lists of statements

-- What becomes of a patch, whose lists have been changed, and of a `deprecate`, with their places and what follows them in the list.
pub record Rebuilding : Type 0 where
  pub patch : (at id_at : ℕ) → Bytes → Block → (first_end : ℕ) → Block → (second_end : ℕ) → Block → Block
  pub deprecate : (at id_at : ℕ) → Bytes → Block → Block

-- A list with each patch in it changed; all else keeps its place.
abbrev mutual
  -- a statement, and then the rest of its list
  pub rebuilt_statement : Rebuilding → Statement → Block → Block
  rebuilt_statement t (Let at name_at x e) k = Next (Let at name_at x e) k
  rebuilt_statement t (Assign at x e) k = Next (Assign at x e) k
  rebuilt_statement t (Call at x activity_at a es r o) k = Next (Call at x activity_at a es r (rebuilt_otherwise t o)) k
  rebuilt_statement t (WaitSignal at x signal_at n) k = Next (WaitSignal at x signal_at n) k
  rebuilt_statement t (WaitSignalFor at x signal_at n e b end) k = Next (WaitSignalFor at x signal_at n e (rebuilt t b) end) k
  rebuilt_statement t (Sleep at e) k = Next (Sleep at e) k
  rebuilt_statement t (If at e a a_end b b_end) k = Next (If at e (rebuilt t a) a_end (rebuilt t b) b_end) k
  rebuilt_statement t (While at e b end) k = Next (While at e (rebuilt t b) end) k
  rebuilt_statement t (Parallel at bs end) k = Next (Parallel at (rebuilt_branches t bs) end) k
  rebuilt_statement t (Patch at id_at id a a_end b b_end) k = t.patch at id_at id (rebuilt t a) a_end (rebuilt t b) b_end k
  rebuilt_statement t (Deprecate at id_at id) k = t.deprecate at id_at id k
  rebuilt_statement t (Return at e) k = Next (Return at e) k
  rebuilt_statement t (FailWith at e) k = Next (FailWith at e) k
  rebuilt_statement t (Continue at es) k = Next (Continue at es) k

  pub rebuilt : Rebuilding → Block → Block
  rebuilt t End = End
  rebuilt t (Next s b) = rebuilt_statement t s (rebuilt t b)

  pub rebuilt_otherwise : Rebuilding → Otherwise → Otherwise
  rebuilt_otherwise t NoElse = NoElse
  rebuilt_otherwise t (Else b end) = Else (rebuilt t b) end

  pub rebuilt_branches : Rebuilding → Branches → Branches
  rebuilt_branches t NoBranch = NoBranch
  rebuilt_branches t (Branch at b end bs) = Branch at (rebuilt t b) end (rebuilt_branches t bs)

-- Each new patch gives way to its second list, and each new `deprecate` to nothing.
abbrev pub splicing : (Bytes → Bool) → Rebuilding
splicing f = record {
  patch = λ at id_at id a a_end b b_end k. if f id then joined b k else Next (Patch at id_at id a a_end b b_end) k;
  deprecate = λ at id_at id k. if f id then k else Next (Deprecate at id_at id) k;
}

abbrev pub spliced : (Bytes → Bool) → Block → Block
spliced f b = rebuilt (splicing f) b

-- Where the second of two lists, which ends at a brace, first differs from the first: heads before the lists within them.
abbrev mutual
  pub difference : Block → Block → (end : ℕ) → Option ℕ
  difference End End end = None
  difference (Next s b) End end = Some end
  difference End (Next s' b') end = Some (place_of s')
  difference (Next s b) (Next s' b') end =
      if same_head s s' then first_place (difference_within s s') (difference b b' end) else Some (place_of s')

  -- within two statements of one head
  pub difference_within : Statement → Statement → Option ℕ
  difference_within s (Call at x activity_at a es r o) = difference_else (first_list s) o
  difference_within s (WaitSignalFor at x signal_at n e b end) = difference (first_list s) b end
  difference_within s (If at e a a_end b b_end) = first_place (difference (first_list s) a a_end) (difference (second_list s) b b_end)
  difference_within s (While at e b end) = difference (first_list s) b end
  difference_within s (Parallel at bs end) = difference_beside (branches_in s) bs end
  difference_within s (Patch at id_at id a a_end b b_end) = first_place (difference (first_list s) a a_end) (difference (second_list s) b b_end)
  difference_within s s' = None

  pub difference_else : Block → Otherwise → Option ℕ
  difference_else b NoElse = None
  difference_else b (Else b' end) = difference b b' end

  -- of branches whose block ends at a brace: where the new text has fewer, it is told there
  pub difference_beside : Branches → Branches → (block_end : ℕ) → Option ℕ
  difference_beside NoBranch NoBranch block_end = None
  difference_beside (Branch at b end bs) NoBranch block_end = Some block_end
  difference_beside NoBranch (Branch at' b' end' bs') block_end = Some at'
  difference_beside (Branch at b end bs) (Branch at' b' end' bs') block_end =
      first_place (difference b b' end') (difference_beside bs bs' block_end)

---- Programs

abbrev pub same_parameter : Parameter → Parameter → Bool
same_parameter p p' = bytes_eq p.name p'.name && is_kind p.kind p'.kind

-- parameters that end at a parenthesis
abbrev pub difference_of_parameters : List Parameter → List Parameter → (end : ℕ) → Option ℕ
difference_of_parameters [] [] end = None
difference_of_parameters (p ∷ ps) [] end = Some end
difference_of_parameters [] (p' ∷ ps') end = Some p'.at
difference_of_parameters (p ∷ ps) (p' ∷ ps') end =
    if same_parameter p p' then difference_of_parameters ps ps' end else Some p'.at

abbrev pub same_types : List TypeAt → List TypeAt → Bool
same_types [] [] = true
same_types [] (t' ∷ ts') = false
same_types (t ∷ ts) [] = false
same_types (t ∷ ts) (t' ∷ ts') = is_kind t.kind t'.kind && same_types ts ts'

abbrev pub same_declared : Declared → Declared → Bool
same_declared (Activity at name_at name takes gives) (Activity at' name_at' name' takes' gives') =
    bytes_eq name name' && (same_types takes takes' && is_kind gives gives')
same_declared (Signal at name_at name carries) (Signal at' name_at' name' carries') = bytes_eq name name' && is_kind carries carries'
same_declared d d' = false

-- the place of the keyword
abbrev pub place_of_declared : Declared → ℕ
place_of_declared (Activity at name_at name takes gives) = at
place_of_declared (Signal at name_at name carries) = at

-- declarations, with the place of what follows them; the new text may have more
abbrev pub difference_of_declarations : List Declared → List Declared → (after : ℕ) → Option ℕ
difference_of_declarations [] ds' after = None
difference_of_declarations (d ∷ ds) [] after = Some after
difference_of_declarations (d ∷ ds) (d' ∷ ds') after =
    if same_declared d d' then difference_of_declarations ds ds' after else Some (place_of_declared d')

-- Where the second program first differs from those that wrap the first.
abbrev pub first_difference : Program → Program → Option ℕ
first_difference p p' =
    first_place (if bytes_eq p.name p'.name then None else Some p'.at)
    (first_place (difference_of_parameters p.parameters p'.parameters p'.parameters_end)
    (first_place (difference_of_declarations p.declarations p'.declarations (beginning_of p'.body p'.body_end))
    (difference p.body (spliced (new_in p) p'.body) p'.body_end)))

-- There is none exactly where it wraps the first.
abbrev pub DifferenceDecides : Type 0
DifferenceDecides = (p p' : Program) → (first_difference p p' ≡ None) ↔ Wrap p p'
