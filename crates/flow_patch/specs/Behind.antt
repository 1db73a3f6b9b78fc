-- The same first difference by one walk over the new text, which makes no list: what a new list stands for, its new patches
-- dropped, is looked for at the beginning of an old one, and the rest of the old one goes to the statement behind.
use Rattle.std.specs.Prelude.{◌≡◌, ℕ, Bool, true, false, not, Option, Some, None, Result, Ok, Err, if◌then◌else◌}
use Rattle.flow_base.specs.Syntax.{Bytes, Statement, Call, WaitSignalFor, If, While, Parallel, Patch, Deprecate, Block, End, Next, Otherwise, NoElse, Else, Branches, NoBranch, Branch}
use Rattle.flow_patch.specs.Wrap.{block_has}
use Rattle.flow_patch.specs.Difference.{same_head, first_list, second_list, branches_in, place_of, first_place, spliced, difference}

-- an id that no patch and no `deprecate` of the list has
abbrev pub unknown_in : Block → Bytes → Bool
unknown_in b id = not (block_has true id b)

-- what is left, where no place is told
abbrev pub unless_told : Option ℕ → Block → Result Block ℕ
unless_told None k = Ok k
unless_told (Some n) k = Err n

-- a new list that ends at a brace: nothing of the old one may be left
abbrev pub ended : Result Block ℕ → (end : ℕ) → Option ℕ
ended (Ok End) end = None
ended (Ok (Next s k)) end = Some end
ended (Err n) end = Some n

abbrev pub and_behind : Result Block ℕ → (Block → Result Block ℕ) → Result Block ℕ
and_behind (Ok k) next = next k
and_behind (Err n) next = Err n

-- what is left behind the first statement, which is to be the new one
abbrev pub behind_first : Statement → Block → (Statement → Option ℕ) → Result Block ℕ
behind_first s' End within = Err (place_of s')
behind_first s' (Next s k) within = if same_head s s' then unless_told (within s) k else Err (place_of s')

-- a patch with a new id, which stands for its second list, or a `deprecate`, which stands for nothing
abbrev pub is_dropped : (Bytes → Bool) → Statement → Bool
is_dropped f (Patch at id_at id c c_end d d_end) = f id
is_dropped f (Deprecate at id_at id) = f id
is_dropped f s = false

abbrev mutual
  -- What is left of an old list behind the statements that a new one stands for, or the place where the new one differs.
  pub behind : (Bytes → Bool) → Block → Block → Result Block ℕ
  behind f End b = Ok b
  behind f (Next s' b') b =
      and_behind (if is_dropped f s' then behind_second f s' b else behind_first s' b (λ s. within f s' s)) (λ k. behind f b' k)

  -- behind the second list of a patch
  pub behind_second : (Bytes → Bool) → Statement → Block → Result Block ℕ
  behind_second f (Patch at id_at id c c_end d d_end) b = behind f d b
  behind_second f s b = Ok b

  -- where the lists within a new statement first differ from those of an old one
  pub within : (Bytes → Bool) → Statement → Statement → Option ℕ
  within f (Call at x activity_at a es r o) s = within_else f o (first_list s)
  within f (WaitSignalFor at x signal_at n e c end) s = ended (behind f c (first_list s)) end
  within f (If at e c c_end d d_end) s = first_place (ended (behind f c (first_list s)) c_end) (ended (behind f d (second_list s)) d_end)
  within f (While at e c end) s = ended (behind f c (first_list s)) end
  within f (Parallel at bs end) s = within_beside f bs (branches_in s) end
  within f (Patch at id_at id c c_end d d_end) s = first_place (ended (behind f c (first_list s)) c_end) (ended (behind f d (second_list s)) d_end)
  within f s' s = None

  pub within_else : (Bytes → Bool) → Otherwise → Block → Option ℕ
  within_else f NoElse b = None
  within_else f (Else c end) b = ended (behind f c b) end

  -- of branches whose block ends at a brace
  pub within_beside : (Bytes → Bool) → Branches → Branches → (block_end : ℕ) → Option ℕ
  within_beside f NoBranch NoBranch block_end = None
  within_beside f NoBranch (Branch at b end bs) block_end = Some block_end
  within_beside f (Branch at' b' end' bs') NoBranch block_end = Some at'
  within_beside f (Branch at' b' end' bs') (Branch at b end bs) block_end =
      first_place (ended (behind f b' b) end') (within_beside f bs' bs block_end)

-- behind what one statement stands for
abbrev pub behind_statement : (Bytes → Bool) → Statement → Block → Result Block ℕ
behind_statement f s' b = if is_dropped f s' then behind_second f s' b else behind_first s' b (λ s. within f s' s)

-- The walk finds the first difference.
abbrev pub WalkFinds : Type 0
WalkFinds = (f : Bytes → Bool) (b b' : Block) (end : ℕ) → difference b (spliced f b') end ≡ ended (behind f b' b) end
