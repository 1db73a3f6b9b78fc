-- Where a new text first differs from the old one with its patches of these ids settled: by its lists, and by one walk over the old
-- text that makes no list. What the old text stands for is looked for at the beginning of a new list, and the rest of the new one goes
-- to the statement behind.
use Rattle.std.specs.Prelude.{◌≡◌, ◌↔◌, ℕ, Bool, false, List, [], ◌∷◌, bytes_eq, Option, Some, None, Result, Ok, Err, if◌then◌else◌}
use Rattle.flow_base.specs.Syntax.{Bytes, Statement, Let, Assign, Call, WaitSignal, WaitSignalFor, Sleep, If, While, Parallel, Patch, Deprecate, Return, FailWith, Continue, Block, End, Next, Otherwise, NoElse, Else, Branches, NoBranch, Branch, Declared, Program}
use Rattle.flow_base.specs.Bare.{bare_block}
use Rattle.flow_patch.specs.Wrap.{joined}
use Rattle.flow_patch.specs.Difference.{Rebuilding, rebuilt, same_head, first_list, second_list, branches_in, place_of, place_of_declared, beginning_of, same_declared, first_place, difference, difference_of_parameters}
use Rattle.flow_patch.specs.Behind.{unless_told, and_behind}
use Rattle.flow_patch.specs.Settle.{deprecated, settled, Settles}

---- The old list with its patches replaced, its places kept

-- A settled patch gives way to its first list, behind its `deprecate`.
abbrev pub replacing : (Bytes → Bool) → Rebuilding
replacing f = record {
  patch = λ at id_at id a a_end b b_end k. if f id then Next (Deprecate at id_at id) (joined a k) else Next (Patch at id_at id a a_end b b_end) k;
  deprecate = λ at id_at id k. Next (Deprecate at id_at id) k;
}

abbrev pub replaced : (Bytes → Bool) → Block → Block
replaced f b = rebuilt (replacing f) b

---- The walk

-- where the lists within a statement end
abbrev pub first_end : Statement → ℕ
first_end (Call at x activity_at a es r (Else b end)) = end
first_end (WaitSignalFor at x signal_at n e b end) = end
first_end (If at e a a_end b b_end) = a_end
first_end (While at e b end) = end
first_end (Parallel at bs end) = end
first_end (Patch at id_at id a a_end b b_end) = a_end
first_end s = 0

abbrev pub second_end : Statement → ℕ
second_end (If at e a a_end b b_end) = b_end
second_end (Patch at id_at id a a_end b b_end) = b_end
second_end s = 0

-- behind all of an old list nothing of the new one may be left
abbrev pub finished : Result Block ℕ → Option ℕ
finished (Ok End) = None
finished (Ok (Next u k)) = Some (place_of u)
finished (Err n) = Some n

-- what is left of a new list, which ends there, behind its first statement, which is to be the old one
abbrev pub met : Statement → Block → (end : ℕ) → (Statement → Option ℕ) → Result Block ℕ
met s End end within = Err end
met s (Next u k) end within = if same_head s u then unless_told (within u) k else Err (place_of u)

abbrev pub is_settled : (Bytes → Bool) → Statement → Bool
is_settled f (Patch at id_at id c c_end d d_end) = f id
is_settled f s = false

-- what stands where a patch was
abbrev pub deprecate_of : Statement → Statement
deprecate_of (Patch at id_at id c c_end d d_end) = deprecated id
deprecate_of s = s

-- what is left behind the `deprecate` of an old patch, which has no lists
abbrev pub behind_deprecated : Statement → Block → (end : ℕ) → Result Block ℕ
behind_deprecated s b' end = met (deprecate_of s) b' end (λ u. None)

abbrev mutual
  -- what is left of a new list behind what an old one stands for, or the place where it differs
  pub left : (Bytes → Bool) → Block → Block → (end : ℕ) → Result Block ℕ
  left f End b' end = Ok b'
  left f (Next s b) b' end =
      and_behind (if is_settled f s then and_behind (behind_deprecated s b' end) (λ k. left_first f s k end) else met s b' end (λ u. left_within f s u)) (λ k. left f b k end)

  -- behind the first list of a patch
  pub left_first : (Bytes → Bool) → Statement → Block → (end : ℕ) → Result Block ℕ
  left_first f (Patch at id_at id c c_end d d_end) b' end = left f c b' end
  left_first f s b' end = Ok b'

  -- where the lists within a new statement first differ from those of an old one
  pub left_within : (Bytes → Bool) → Statement → Statement → Option ℕ
  left_within f (Call at x activity_at a es r o) u = left_else f o u
  left_within f (WaitSignalFor at x signal_at n e c c_end) u = finished (left f c (first_list u) (first_end u))
  left_within f (If at e c c_end d d_end) u = first_place (finished (left f c (first_list u) (first_end u))) (finished (left f d (second_list u) (second_end u)))
  left_within f (While at e c c_end) u = finished (left f c (first_list u) (first_end u))
  left_within f (Parallel at bs block_end) u = left_beside f bs (branches_in u) (first_end u)
  left_within f (Patch at id_at id c c_end d d_end) u = first_place (finished (left f c (first_list u) (first_end u))) (finished (left f d (second_list u) (second_end u)))
  left_within f s u = None

  pub left_else : (Bytes → Bool) → Otherwise → Statement → Option ℕ
  left_else f NoElse u = None
  left_else f (Else c end) u = finished (left f c (first_list u) (first_end u))

  -- of branches, the new ones in a block that ends there
  pub left_beside : (Bytes → Bool) → Branches → Branches → (block_end : ℕ) → Option ℕ
  left_beside f NoBranch NoBranch block_end = None
  left_beside f (Branch at b end bs) NoBranch block_end = Some block_end
  left_beside f NoBranch (Branch at' b' end' bs') block_end = Some at'
  left_beside f (Branch at b end bs) (Branch at' b' end' bs') block_end = first_place (finished (left f b b' end')) (left_beside f bs bs' block_end)

-- behind what one statement stands for
abbrev pub left_statement : (Bytes → Bool) → Statement → Block → (end : ℕ) → Result Block ℕ
left_statement f s b' end = if is_settled f s then and_behind (behind_deprecated s b' end) (λ k. left_first f s k end) else met s b' end (λ u. left_within f s u)

---- Programs

-- declarations, with the place of what follows them
abbrev pub difference_of_all : List Declared → List Declared → (after : ℕ) → Option ℕ
difference_of_all [] [] after = None
difference_of_all [] (d' ∷ ds') after = Some (place_of_declared d')
difference_of_all (d ∷ ds) [] after = Some after
difference_of_all (d ∷ ds) (d' ∷ ds') after =
    if same_declared d d' then difference_of_all ds ds' after else Some (place_of_declared d')

-- Where the second program first differs from the first with its patches of these ids settled.
abbrev pub first_unsettled : (Bytes → Bool) → Program → Program → Option ℕ
first_unsettled f p p' =
    first_place (if bytes_eq p.name p'.name then None else Some p'.at)
    (first_place (difference_of_parameters p.parameters p'.parameters p'.parameters_end)
    (first_place (difference_of_all p.declarations p'.declarations (beginning_of p'.body p'.body_end))
    (difference (replaced f p.body) p'.body p'.body_end)))

---- The laws

-- The walk finds the first difference from the replaced list.
abbrev pub UnsettledIsFound : Type 0
UnsettledIsFound = (f : Bytes → Bool) (b b' : Block) (end : ℕ) → difference (replaced f b) b' end ≡ finished (left f b b' end)

-- The replaced list is the settled one, up to places.
abbrev pub ReplacedIsSettled : Type 0
ReplacedIsSettled = (f : Bytes → Bool) (b : Block) → bare_block (replaced f b) ≡ settled f b

-- There is no first difference exactly where the second program settles these ids.
abbrev pub UnsettledDecides : Type 0
UnsettledDecides = (f : Bytes → Bool) (p p' : Program) → (first_unsettled f p p' ≡ None) ↔ Settles f p p'
