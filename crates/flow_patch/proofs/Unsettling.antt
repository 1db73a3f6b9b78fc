-- One walk over the old text finds where the new one first differs from it, its patches settled.
use Rattle.std.proofs.Common.{◌≡◌, ℕ, List, refl, sym, ap, ◌∙◌, Bool, true, false, Option, Some, None, Result, Ok, Err, ⊎_elim}
use Rattle.std.specs.Prelude.{◌&&◌, bytes_eq, map, if◌then◌else◌}
use Rattle.flow_base.specs.Syntax.{Bytes, Expression, Statement, Let, Assign, Call, WaitSignal, WaitSignalFor, Sleep, If, While, Parallel, Patch, Deprecate, Return, FailWith, Continue, Block, End, Next, Otherwise, NoElse, Else, Branches, NoBranch, Branch}
use Rattle.flow_base.specs.Bare.{bare_expression, bare_retry, bare_statement, bare_block, bare_otherwise, bare_branches}
use Rattle.flow_base.specs.declared.syntax.Retry.{Retry}
use Rattle.std.proofs.lemmas.Bool.{true≢false}
use Rattle.flow_patch.specs.Wrap.{joined}
use Rattle.flow_patch.specs.Difference.{rebuilt_statement, rebuilt_otherwise, rebuilt_branches, same_head, has_else, same_flag, same_expressions, same_retry, first_list, second_list, branches_in, place_of, first_place, difference, difference_within, difference_else, difference_beside}
use Rattle.flow_patch.specs.Behind.{and_behind}
use Rattle.flow_patch.specs.Settle.{deprecated, settling, settled}
use Rattle.flow_patch.specs.Unsettled.{replacing, replaced, first_end, second_end, finished, met, behind_deprecated, left, left_statement, left_else, left_beside, UnsettledIsFound, ReplacedIsSettled}
use Rattle.flow_patch.proofs.Normal.{cases, both as two}
use Rattle.flow_patch.proofs.Rebuilding.{Joins, Bares, joined_end, joined_joined, joined_rebuilt, bare_joined, bare_rebuilt, go_on, go_on_behind, matched}

---- Lists joined

joins : (f : Bytes → Bool) → Joins (replacing f)
joins f = record {
  patch = λ at id_at id a a_end b b_end k m.
      ⊎_elim (λ (e : f id ≡ true). rw e (ap (Next (Deprecate at id_at id)) (joined_joined a k m))) (λ (e : f id ≡ false). rw e refl) (cases (f id));
  deprecate = λ at id_at id k m. refl;
}

---- What comes behind a walk

nothing_left : (b' : Block) (end : ℕ) → difference End b' end ≡ finished (Ok b')
nothing_left End end = refl
nothing_left (Next u k) end = refl

go_on_end : (r : Result Block ℕ) (end : ℕ) → go_on r (λ k. difference End k end) ≡ finished r
go_on_end (Ok k) end = nothing_left k end
go_on_end (Err n) end = refl

-- an old statement s, and t, which is s with its lists replaced
kept : (s t : Statement) (b' k : Block) (end : ℕ) (within : Statement → Option ℕ)
    → ((u : Statement) → same_head t u ≡ same_head s u) → ((u : Statement) → same_head s u ≡ true → difference_within t u ≡ within u)
    → difference (Next t k) b' end ≡ go_on (met s b' end within) (λ r. difference k r end)
kept s t End k end within h w = refl
kept s t (Next u r) k end within h w =
    matched (same_head t u) (same_head s u) (difference_within t u) (within u) r (λ x. difference k x end) (place_of u) (h u) (w u)

---- Heads don't read the lists within

else_replaced : (f : Bytes → Bool) (o : Otherwise) → has_else (rebuilt_otherwise (replacing f) o) ≡ has_else o
else_replaced f NoElse = refl
else_replaced f (Else b end) = refl

head_call : (f : Bytes → Bool) (u : Statement) (at : ℕ) (x : Bytes) (activity_at : ℕ) (a : Bytes) (es : List Expression) (r : Retry) (o : Otherwise)
    → same_head (Call at x activity_at a es r (rebuilt_otherwise (replacing f) o)) u ≡ same_head (Call at x activity_at a es r o) u
head_call f (Call at' y activity_at' b ds q w) at x activity_at a es r o = rw (else_replaced f o) refl
head_call f u at x activity_at a es r o = refl

head_wait : (u : Statement) (at : ℕ) (x : Bytes) (signal_at : ℕ) (n : Bytes) (e : Expression) (b c : Block) (end : ℕ)
    → same_head (WaitSignalFor at x signal_at n e b end) u ≡ same_head (WaitSignalFor at x signal_at n e c end) u
head_wait (WaitSignalFor at' y signal_at' m d b' end') at x signal_at n e b c end = refl
head_wait u at x signal_at n e b c end = refl

head_if : (u : Statement) (at : ℕ) (e : Expression) (a b c d : Block) (m n : ℕ) → same_head (If at e a m b n) u ≡ same_head (If at e c m d n) u
head_if (If at' e' a' m' b' n') at e a b c d m n = refl
head_if u at e a b c d m n = refl

head_while : (u : Statement) (at : ℕ) (e : Expression) (b c : Block) (end : ℕ) → same_head (While at e b end) u ≡ same_head (While at e c end) u
head_while (While at' e' b' end') at e b c end = refl
head_while u at e b c end = refl

head_parallel : (u : Statement) (at : ℕ) (bs cs : Branches) (end : ℕ) → same_head (Parallel at bs end) u ≡ same_head (Parallel at cs end) u
head_parallel (Parallel at' bs' end') at bs cs end = refl
head_parallel u at bs cs end = refl

head_patch : (u : Statement) (at id_at : ℕ) (id : Bytes) (a b c d : Block) (m n : ℕ) → same_head (Patch at id_at id a m b n) u ≡ same_head (Patch at id_at id c m d n) u
head_patch (Patch at' id_at' id' a' m' b' n') at id_at id a b c d m n = refl
head_patch u at id_at id a b c d m n = refl

---- Within two statements of one head

-- what is found in any list that ends anywhere
abbrev Found : (Bytes → Bool) → Block → Type 0
Found f c = (b' : Block) (end : ℕ) → difference (replaced f c) b' end ≡ finished (left f c b' end)

in_wait : (f : Bytes → Bool) (u : Statement) (at : ℕ) (x : Bytes) (signal_at : ℕ) (n : Bytes) (e : Expression) (c : Block) (end : ℕ) → Found f c → same_head (WaitSignalFor at x signal_at n e c end) u ≡ true
    → difference_within (WaitSignalFor at x signal_at n e (replaced f c) end) u ≡ finished (left f c (first_list u) (first_end u))
in_wait f (WaitSignalFor at' y signal_at' m d b' end') at x signal_at n e c end found h = found b' end'
in_wait f u at x signal_at n e c end found h = absurd (true≢false (sym h))

in_while : (f : Bytes → Bool) (u : Statement) (at : ℕ) (e : Expression) (c : Block) (end : ℕ) → Found f c → same_head (While at e c end) u ≡ true
    → difference_within (While at e (replaced f c) end) u ≡ finished (left f c (first_list u) (first_end u))
in_while f (While at' d b' end') at e c end found h = found b' end'
in_while f u at e c end found h = absurd (true≢false (sym h))

abbrev pair : (Bytes → Bool) → Block → Block → Statement → Option ℕ
pair f c d u = first_place (finished (left f c (first_list u) (first_end u))) (finished (left f d (second_list u) (second_end u)))

in_if : (f : Bytes → Bool) (u : Statement) (at : ℕ) (e : Expression) (c : Block) (c_end : ℕ) (d : Block) (d_end : ℕ) → Found f c → Found f d → same_head (If at e c c_end d d_end) u ≡ true
    → difference_within (If at e (replaced f c) c_end (replaced f d) d_end) u ≡ pair f c d u
in_if f (If at' e' a' m b' n) at e c c_end d d_end first second h =
    ap (λ o. first_place o (difference (replaced f d) b' n)) (first a' m) ∙ ap (first_place (finished (left f c a' m))) (second b' n)
in_if f u at e c c_end d d_end first second h = absurd (true≢false (sym h))

in_patch : (f : Bytes → Bool) (u : Statement) (at id_at : ℕ) (id : Bytes) (c : Block) (c_end : ℕ) (d : Block) (d_end : ℕ) → Found f c → Found f d → same_head (Patch at id_at id c c_end d d_end) u ≡ true
    → difference_within (Patch at id_at id (replaced f c) c_end (replaced f d) d_end) u ≡ pair f c d u
in_patch f (Patch at' id_at' i a' m b' n) at id_at id c c_end d d_end first second h =
    ap (λ o. first_place o (difference (replaced f d) b' n)) (first a' m) ∙ ap (first_place (finished (left f c a' m))) (second b' n)
in_patch f u at id_at id c c_end d d_end first second h = absurd (true≢false (sym h))

-- a `deprecate` has no lists, and its places don't count
head_deprecate : (u : Statement) (at id_at : ℕ) (id : Bytes) → same_head (Deprecate at id_at id) u ≡ same_head (deprecated id) u
head_deprecate (Deprecate at' id_at' i) at id_at id = refl
head_deprecate u at id_at id = refl

deprecate_within : (at id_at : ℕ) (id : Bytes) (u : Statement) → same_head (deprecated id) u ≡ true → difference_within (Deprecate at id_at id) u ≡ None
deprecate_within at id_at id (Deprecate at' id_at' i) h = refl
deprecate_within at id_at id u h = absurd (true≢false (sym h))

abbrev FoundElse : (Bytes → Bool) → Otherwise → Type 0
FoundElse f NoElse = Unit {0}
FoundElse f (Else c end) = Found f c

-- one has an `else` where the other has
flags : (x a es r b : Bool) → (x && (a && (es && (r && b)))) ≡ true → b ≡ true
flags x a es r b h = (two r b (two es (r && b) (two a (es && (r && b)) (two x (a && (es && (r && b))) h).1).1).1).1

in_call : (f : Bytes → Bool) (u : Statement) (at : ℕ) (x : Bytes) (activity_at : ℕ) (a : Bytes) (es : List Expression) (r : Retry) (o : Otherwise) → FoundElse f o → same_head (Call at x activity_at a es r o) u ≡ true
    → difference_within (Call at x activity_at a es r (rebuilt_otherwise (replacing f) o)) u ≡ left_else f o u
in_call f (Call at' y activity_at' b ds q NoElse) at x activity_at a es r NoElse found h = refl
in_call f (Call at' y activity_at' b ds q (Else c' end')) at x activity_at a es r NoElse found h = absurd (true≢false (sym (flags (bytes_eq x y) (bytes_eq a b) (same_expressions es ds) (same_retry r q) false h)))
in_call f (Call at' y activity_at' b ds q NoElse) at x activity_at a es r (Else c end) found h = absurd (true≢false (sym (flags (bytes_eq x y) (bytes_eq a b) (same_expressions es ds) (same_retry r q) false h)))
in_call f (Call at' y activity_at' b ds q (Else c' end')) at x activity_at a es r (Else c end) found h = found c' end'
in_call f u at x activity_at a es r o found h = absurd (true≢false (sym h))

in_parallel : (f : Bytes → Bool) (u : Statement) (at : ℕ) (bs : Branches) (end : ℕ) → ((bs' : Branches) (block_end : ℕ) → difference_beside (rebuilt_branches (replacing f) bs) bs' block_end ≡ left_beside f bs bs' block_end)
    → same_head (Parallel at bs end) u ≡ true → difference_within (Parallel at (rebuilt_branches (replacing f) bs) end) u ≡ left_beside f bs (branches_in u) (first_end u)
in_parallel f (Parallel at' bs' end') at bs end found h = found bs' end'
in_parallel f u at bs end found h = absurd (true≢false (sym h))

let_within : (at name_at : ℕ) (x : Bytes) (e : Expression) (u : Statement) → same_head (Let at name_at x e) u ≡ true → difference_within (Let at name_at x e) u ≡ None
let_within at name_at x e (Let at' name_at' x' e') h = refl
let_within at name_at x e u h = absurd (true≢false (sym h))

assign_within : (at : ℕ) (x : Bytes) (e : Expression) (u : Statement) → same_head (Assign at x e) u ≡ true → difference_within (Assign at x e) u ≡ None
assign_within at x e (Assign at' x' e') h = refl
assign_within at x e u h = absurd (true≢false (sym h))

wait_within : (at : ℕ) (x : Bytes) (signal_at : ℕ) (n : Bytes) (u : Statement) → same_head (WaitSignal at x signal_at n) u ≡ true → difference_within (WaitSignal at x signal_at n) u ≡ None
wait_within at x signal_at n (WaitSignal at' x' signal_at' n') h = refl
wait_within at x signal_at n u h = absurd (true≢false (sym h))

sleep_within : (at : ℕ) (e : Expression) (u : Statement) → same_head (Sleep at e) u ≡ true → difference_within (Sleep at e) u ≡ None
sleep_within at e (Sleep at' e') h = refl
sleep_within at e u h = absurd (true≢false (sym h))

return_within : (at : ℕ) (e : Expression) (u : Statement) → same_head (Return at e) u ≡ true → difference_within (Return at e) u ≡ None
return_within at e (Return at' e') h = refl
return_within at e u h = absurd (true≢false (sym h))

fail_within : (at : ℕ) (e : Expression) (u : Statement) → same_head (FailWith at e) u ≡ true → difference_within (FailWith at e) u ≡ None
fail_within at e (FailWith at' e') h = refl
fail_within at e u h = absurd (true≢false (sym h))

continue_within : (at : ℕ) (es : List Expression) (u : Statement) → same_head (Continue at es) u ≡ true → difference_within (Continue at es) u ≡ None
continue_within at es (Continue at' es') h = refl
continue_within at es u h = absurd (true≢false (sym h))

---- The walk

mutual
  walked : (f : Bytes → Bool) (b b' k : Block) (end : ℕ) → difference (joined (replaced f b) k) b' end ≡ go_on (left f b b' end) (λ r. difference k r end)
  walked f End b' k end = refl
  walked f (Next s b) b' k end =
      ap (λ x. difference x b' end) (joined_rebuilt (replacing f) (joins f) s (replaced f b) k)
      ∙ walked_statement f s b' (joined (replaced f b) k) end
      ∙ go_on_behind (left_statement f s b' end) (λ r. left f b r end) (λ r. difference (joined (replaced f b) k) r end) (λ r. difference k r end)
      (λ r. walked f b r k end)

  walked_statement : (f : Bytes → Bool) (s : Statement) (b' k : Block) (end : ℕ) → difference (rebuilt_statement (replacing f) s k) b' end ≡ go_on (left_statement f s b' end) (λ r. difference k r end)
  walked_statement f (Let at name_at x e) b' k end = kept (Let at name_at x e) (Let at name_at x e) b' k end (λ u. None) (λ u. refl) (λ u. let_within at name_at x e u)
  walked_statement f (Assign at x e) b' k end = kept (Assign at x e) (Assign at x e) b' k end (λ u. None) (λ u. refl) (λ u. assign_within at x e u)
  walked_statement f (Call at x activity_at a es r o) b' k end =
      kept (Call at x activity_at a es r o) (Call at x activity_at a es r (rebuilt_otherwise (replacing f) o)) b' k end (λ u. left_else f o u)
      (λ u. head_call f u at x activity_at a es r o) (λ u. in_call f u at x activity_at a es r o (walked_else f o))
  walked_statement f (WaitSignal at x signal_at n) b' k end = kept (WaitSignal at x signal_at n) (WaitSignal at x signal_at n) b' k end (λ u. None) (λ u. refl) (λ u. wait_within at x signal_at n u)
  walked_statement f (WaitSignalFor at x signal_at n e c c_end) b' k end =
      kept (WaitSignalFor at x signal_at n e c c_end) (WaitSignalFor at x signal_at n e (replaced f c) c_end) b' k end (λ u. finished (left f c (first_list u) (first_end u)))
      (λ u. head_wait u at x signal_at n e (replaced f c) c c_end) (λ u. in_wait f u at x signal_at n e c c_end (λ x' end'. walked_whole f c x' end'))
  walked_statement f (Sleep at e) b' k end = kept (Sleep at e) (Sleep at e) b' k end (λ u. None) (λ u. refl) (λ u. sleep_within at e u)
  walked_statement f (If at e c c_end d d_end) b' k end =
      kept (If at e c c_end d d_end) (If at e (replaced f c) c_end (replaced f d) d_end) b' k end (λ u. pair f c d u)
      (λ u. head_if u at e (replaced f c) (replaced f d) c d c_end d_end) (λ u. in_if f u at e c c_end d d_end (λ x' end'. walked_whole f c x' end') (λ x' end'. walked_whole f d x' end'))
  walked_statement f (While at e c c_end) b' k end =
      kept (While at e c c_end) (While at e (replaced f c) c_end) b' k end (λ u. finished (left f c (first_list u) (first_end u)))
      (λ u. head_while u at e (replaced f c) c c_end) (λ u. in_while f u at e c c_end (λ x' end'. walked_whole f c x' end'))
  walked_statement f (Parallel at bs block_end) b' k end =
      kept (Parallel at bs block_end) (Parallel at (rebuilt_branches (replacing f) bs) block_end) b' k end (λ u. left_beside f bs (branches_in u) (first_end u))
      (λ u. head_parallel u at (rebuilt_branches (replacing f) bs) bs block_end) (λ u. in_parallel f u at bs block_end (λ x' end'. walked_beside f bs x' end'))
  walked_statement f (Patch at id_at id c c_end d d_end) b' k end =
      ⊎_elim (λ (e : f id ≡ true). rw e (
      kept (deprecated id) (Deprecate at id_at id) b' (joined (replaced f c) k) end (λ u. None) (λ u. head_deprecate u at id_at id) (λ u h. deprecate_within at id_at id u h)
      ∙ go_on_behind (behind_deprecated (Patch at id_at id c c_end d d_end) b' end) (λ r. left f c r end) (λ r. difference (joined (replaced f c) k) r end) (λ r. difference k r end)
      (λ r. walked f c r k end)))
      (λ (e : f id ≡ false). rw e (
      kept (Patch at id_at id c c_end d d_end) (Patch at id_at id (replaced f c) c_end (replaced f d) d_end) b' k end (λ u. pair f c d u)
      (λ u. head_patch u at id_at id (replaced f c) (replaced f d) c d c_end d_end) (λ u. in_patch f u at id_at id c c_end d d_end (λ x' end'. walked_whole f c x' end') (λ x' end'. walked_whole f d x' end'))))
      (cases (f id))
  walked_statement f (Deprecate at id_at id) b' k end =
      kept (Deprecate at id_at id) (Deprecate at id_at id) b' k end (λ u. None) (λ u. refl) (λ u h. deprecate_within at id_at id u (sym (head_deprecate u at id_at id) ∙ h))
  walked_statement f (Return at e) b' k end = kept (Return at e) (Return at e) b' k end (λ u. None) (λ u. refl) (λ u. return_within at e u)
  walked_statement f (FailWith at e) b' k end = kept (FailWith at e) (FailWith at e) b' k end (λ u. None) (λ u. refl) (λ u. fail_within at e u)
  walked_statement f (Continue at es) b' k end = kept (Continue at es) (Continue at es) b' k end (λ u. None) (λ u. refl) (λ u. continue_within at es u)

  walked_else : (f : Bytes → Bool) (o : Otherwise) → FoundElse f o
  walked_else f NoElse = tt
  walked_else f (Else c end) = λ x' end'. walked_whole f c x' end'

  walked_beside : (f : Bytes → Bool) (bs bs' : Branches) (block_end : ℕ) → difference_beside (rebuilt_branches (replacing f) bs) bs' block_end ≡ left_beside f bs bs' block_end
  walked_beside f NoBranch NoBranch block_end = refl
  walked_beside f NoBranch (Branch at b end bs) block_end = refl
  walked_beside f (Branch at b end bs) NoBranch block_end = refl
  walked_beside f (Branch at b end bs) (Branch at' b' end' bs') block_end =
      ap (λ o. first_place o (difference_beside (rebuilt_branches (replacing f) bs) bs' block_end)) (walked_whole f b b' end')
      ∙ ap (first_place (finished (left f b b' end'))) (walked_beside f bs bs' block_end)

  walked_whole : (f : Bytes → Bool) (b b' : Block) (end : ℕ) → difference (replaced f b) b' end ≡ finished (left f b b' end)
  walked_whole f End b' end = nothing_left b' end
  walked_whole f (Next s b) b' end =
      ap (λ x. difference x b' end) (sym (joined_end (replaced f (Next s b))))
      ∙ ap (λ x. difference x b' end) (joined_rebuilt (replacing f) (joins f) s (replaced f b) End)
      ∙ walked_statement f s b' (joined (replaced f b) End) end
      ∙ go_on_behind (left_statement f s b' end) (λ r. left f b r end) (λ r. difference (joined (replaced f b) End) r end) (λ r. difference End r end)
      (λ r. walked f b r End end)
      ∙ go_on_end (left f (Next s b) b' end) end

pub unsettled_is_found : UnsettledIsFound
unsettled_is_found f b b' end = walked_whole f b b' end

---- The replaced list without places

bares : (f : Bytes → Bool) → Bares (replacing f) (settling f)
bares f = record {
  patch = λ at id_at id a a_end b b_end k. ⊎_elim (λ (e : f id ≡ true). rw e (ap (Next (Deprecate 0 0 id)) (bare_joined a k))) (λ (e : f id ≡ false). rw e refl) (cases (f id));
  deprecate = λ at id_at id k. refl;
}

pub replaced_is_settled : ReplacedIsSettled
replaced_is_settled f b = bare_rebuilt (replacing f) (settling f) (bares f) b
