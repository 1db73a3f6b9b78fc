-- One walk over the new text finds the first difference.
use Rattle.std.proofs.Common.{arith, ◌≡◌, ℕ, zero, suc, ◌<◌, List, [], ◌∷◌, length, drop, refl, sym, ap, ◌∙◌, Bool, true, false, Option, Some, None, Result, Ok, Err, ⊎_elim}
use Rattle.std.specs.Prelude.{bytes_eq, if◌then◌else◌}
use Rattle.flow_base.specs.Syntax.{Bytes, Expression, Statement, Let, Assign, Call, WaitSignal, WaitSignalFor, Sleep, If, While, Parallel, Patch, Deprecate, Return, FailWith, Continue, Block, End, Next, Otherwise, NoElse, Else, Branches, NoBranch, Branch, Program}
use Rattle.flow_base.specs.declared.syntax.Retry.{Retry}
use Rattle.flow_base.specs.declared.syntax.TypeAt.{TypeAt}
use Rattle.std.proofs.lemmas.Bool.{true≢false}
use Rattle.flow_patch.specs.Wrap.{joined, new_in}
use Rattle.flow_patch.specs.Difference.{same_head, same_types, has_else, first_list, second_list, branches_in, place_of, first_place, rebuilt_statement, rebuilt_otherwise, rebuilt_branches, splicing, spliced, difference, difference_within, difference_else, difference_beside, beginning_of, difference_of_parameters, difference_of_declarations, first_difference}
use Rattle.flow_patch.specs.Behind.{ended, behind_first, behind, behind_statement, within_else, within_beside, WalkFinds}
use Rattle.flow_patch.proofs.Normal.{cases}
use Rattle.flow_patch.proofs.Rebuilding.{Joins, joined_end, joined_joined, joined_rebuilt, go_on, go_on_behind, matched}

---- Lists joined

joins : (f : Bytes → Bool) → Joins (splicing f)
joins f = record {
  patch = λ at id_at id a a_end b b_end k m. ⊎_elim (λ (e : f id ≡ true). rw e (joined_joined b k m)) (λ (e : f id ≡ false). rw e refl) (cases (f id));
  deprecate = λ at id_at id k m. ⊎_elim (λ (e : f id ≡ true). rw e refl) (λ (e : f id ≡ false). rw e refl) (cases (f id));
}

---- What comes behind a walk

go_on_end : (r : Result Block ℕ) (end : ℕ) → go_on r (λ k. difference k End end) ≡ ended r end
go_on_end (Ok End) end = refl
go_on_end (Ok (Next s k)) end = refl
go_on_end (Err n) end = refl

---- Heads don't read the lists within

else_spliced : (f : Bytes → Bool) (o : Otherwise) → has_else (rebuilt_otherwise (splicing f) o) ≡ has_else o
else_spliced f NoElse = refl
else_spliced f (Else b end) = refl

head_call : (f : Bytes → Bool) (s : Statement) (at : ℕ) (x : Bytes) (activity_at : ℕ) (a : Bytes) (es : List Expression) (r : Retry) (o : Otherwise)
    → same_head s (Call at x activity_at a es r (rebuilt_otherwise (splicing f) o)) ≡ same_head s (Call at x activity_at a es r o)
head_call f (Call at' y activity_at' b ds q u) at x activity_at a es r o = rw (else_spliced f o) refl
head_call f s at x activity_at a es r o = refl

head_wait : (s : Statement) (at : ℕ) (x : Bytes) (signal_at : ℕ) (n : Bytes) (e : Expression) (b c : Block) (end : ℕ)
    → same_head s (WaitSignalFor at x signal_at n e b end) ≡ same_head s (WaitSignalFor at x signal_at n e c end)
head_wait (WaitSignalFor at' y signal_at' m d b' end') at x signal_at n e b c end = refl
head_wait s at x signal_at n e b c end = refl

head_if : (s : Statement) (at : ℕ) (e : Expression) (a b c d : Block) (m n : ℕ) → same_head s (If at e a m b n) ≡ same_head s (If at e c m d n)
head_if (If at' e' a' m' b' n') at e a b c d m n = refl
head_if s at e a b c d m n = refl

head_while : (s : Statement) (at : ℕ) (e : Expression) (b c : Block) (end : ℕ) → same_head s (While at e b end) ≡ same_head s (While at e c end)
head_while (While at' e' b' end') at e b c end = refl
head_while s at e b c end = refl

head_parallel : (s : Statement) (at : ℕ) (bs cs : Branches) (end : ℕ) → same_head s (Parallel at bs end) ≡ same_head s (Parallel at cs end)
head_parallel (Parallel at' bs' end') at bs cs end = refl
head_parallel s at bs cs end = refl

head_patch : (s : Statement) (at id_at : ℕ) (id : Bytes) (a b c d : Block) (m n : ℕ) → same_head s (Patch at id_at id a m b n) ≡ same_head s (Patch at id_at id c m d n)
head_patch (Patch at' id_at' id' a' m' b' n') at id_at id a b c d m n = refl
head_patch s at id_at id a b c d m n = refl

---- The walk

-- a statement that isn't dropped, its lists spliced, with what is told within
kept : (s' u : Statement) (b k : Block) (end : ℕ) (within : Statement → Option ℕ)
    → place_of u ≡ place_of s' → ((s : Statement) → same_head s u ≡ same_head s s') → ((s : Statement) → difference_within s u ≡ within s)
    → difference b (Next u k) end ≡ go_on (behind_first s' b within) (λ r. difference r k end)
kept s' u End k end within p h w = ap Some p
kept s' u (Next s b) k end within p h w =
    rw p (matched (same_head s u) (same_head s s') (difference_within s u) (within s) b (λ r. difference r k end) (place_of s') (h s) (λ e. w s))

mutual
  walked : (f : Bytes → Bool) (b' b k : Block) (end : ℕ) → difference b (joined (spliced f b') k) end ≡ go_on (behind f b' b) (λ r. difference r k end)
  walked f End b k end = refl
  walked f (Next s' b') b k end =
      ap (λ x. difference b x end) (joined_rebuilt (splicing f) (joins f) s' (spliced f b') k)
      ∙ walked_statement f s' b (joined (spliced f b') k) end
      ∙ go_on_behind (behind_statement f s' b) (λ r. behind f b' r) (λ r. difference r (joined (spliced f b') k) end) (λ r. difference r k end)
      (λ r. walked f b' r k end)

  walked_statement : (f : Bytes → Bool) (s' : Statement) (b k : Block) (end : ℕ)
      → difference b (rebuilt_statement (splicing f) s' k) end ≡ go_on (behind_statement f s' b) (λ r. difference r k end)
  walked_statement f (Let at name_at x e) b k end = kept (Let at name_at x e) (Let at name_at x e) b k end (λ s. None) refl (λ s. refl) (λ s. refl)
  walked_statement f (Assign at x e) b k end = kept (Assign at x e) (Assign at x e) b k end (λ s. None) refl (λ s. refl) (λ s. refl)
  walked_statement f (Call at x activity_at a es r o) b k end =
      kept (Call at x activity_at a es r o) (Call at x activity_at a es r (rebuilt_otherwise (splicing f) o)) b k end (λ s. within_else f o (first_list s)) refl
      (λ s. head_call f s at x activity_at a es r o) (λ s. walked_else f o (first_list s))
  walked_statement f (WaitSignal at x signal_at n) b k end =
      kept (WaitSignal at x signal_at n) (WaitSignal at x signal_at n) b k end (λ s. None) refl (λ s. refl) (λ s. refl)
  walked_statement f (WaitSignalFor at x signal_at n e c c_end) b k end =
      kept (WaitSignalFor at x signal_at n e c c_end) (WaitSignalFor at x signal_at n e (spliced f c) c_end) b k end (λ s. ended (behind f c (first_list s)) c_end) refl
      (λ s. head_wait s at x signal_at n e (spliced f c) c c_end) (λ s. walked_whole f c (first_list s) c_end)
  walked_statement f (Sleep at e) b k end = kept (Sleep at e) (Sleep at e) b k end (λ s. None) refl (λ s. refl) (λ s. refl)
  walked_statement f (If at e c c_end d d_end) b k end =
      kept (If at e c c_end d d_end) (If at e (spliced f c) c_end (spliced f d) d_end) b k end
      (λ s. first_place (ended (behind f c (first_list s)) c_end) (ended (behind f d (second_list s)) d_end)) refl
      (λ s. head_if s at e (spliced f c) (spliced f d) c d c_end d_end)
      (λ s. ap (λ o. first_place o (difference (second_list s) (spliced f d) d_end)) (walked_whole f c (first_list s) c_end)
      ∙ ap (first_place (ended (behind f c (first_list s)) c_end)) (walked_whole f d (second_list s) d_end))
  walked_statement f (While at e c c_end) b k end =
      kept (While at e c c_end) (While at e (spliced f c) c_end) b k end (λ s. ended (behind f c (first_list s)) c_end) refl
      (λ s. head_while s at e (spliced f c) c c_end) (λ s. walked_whole f c (first_list s) c_end)
  walked_statement f (Parallel at bs block_end) b k end =
      kept (Parallel at bs block_end) (Parallel at (rebuilt_branches (splicing f) bs) block_end) b k end (λ s. within_beside f bs (branches_in s) block_end) refl
      (λ s. head_parallel s at (rebuilt_branches (splicing f) bs) bs block_end) (λ s. walked_beside f bs (branches_in s) block_end)
  walked_statement f (Patch at id_at id c c_end d d_end) b k end =
      ⊎_elim (λ (e : f id ≡ true). rw e (walked f d b k end))
      (λ (e : f id ≡ false). rw e (
      kept (Patch at id_at id c c_end d d_end) (Patch at id_at id (spliced f c) c_end (spliced f d) d_end) b k end
      (λ s. first_place (ended (behind f c (first_list s)) c_end) (ended (behind f d (second_list s)) d_end)) refl
      (λ s. head_patch s at id_at id (spliced f c) (spliced f d) c d c_end d_end)
      (λ s. ap (λ o. first_place o (difference (second_list s) (spliced f d) d_end)) (walked_whole f c (first_list s) c_end)
      ∙ ap (first_place (ended (behind f c (first_list s)) c_end)) (walked_whole f d (second_list s) d_end)))) (cases (f id))
  walked_statement f (Deprecate at id_at id) b k end =
      ⊎_elim (λ (e : f id ≡ true). rw e refl)
      (λ (e : f id ≡ false). rw e (kept (Deprecate at id_at id) (Deprecate at id_at id) b k end (λ s. None) refl (λ s. refl) (λ s. refl))) (cases (f id))
  walked_statement f (Return at e) b k end = kept (Return at e) (Return at e) b k end (λ s. None) refl (λ s. refl) (λ s. refl)
  walked_statement f (FailWith at e) b k end = kept (FailWith at e) (FailWith at e) b k end (λ s. None) refl (λ s. refl) (λ s. refl)
  walked_statement f (Continue at es) b k end = kept (Continue at es) (Continue at es) b k end (λ s. None) refl (λ s. refl) (λ s. refl)

  walked_else : (f : Bytes → Bool) (o : Otherwise) (b : Block) → difference_else b (rebuilt_otherwise (splicing f) o) ≡ within_else f o b
  walked_else f NoElse b = refl
  walked_else f (Else c end) b = walked_whole f c b end

  walked_beside : (f : Bytes → Bool) (bs' bs : Branches) (block_end : ℕ) → difference_beside bs (rebuilt_branches (splicing f) bs') block_end ≡ within_beside f bs' bs block_end
  walked_beside f NoBranch NoBranch block_end = refl
  walked_beside f NoBranch (Branch at b end bs) block_end = refl
  walked_beside f (Branch at' b' end' bs') NoBranch block_end = refl
  walked_beside f (Branch at' b' end' bs') (Branch at b end bs) block_end =
      ap (λ o. first_place o (difference_beside bs (rebuilt_branches (splicing f) bs') block_end)) (walked_whole f b' b end')
      ∙ ap (first_place (ended (behind f b' b) end')) (walked_beside f bs' bs block_end)

  walked_whole : (f : Bytes → Bool) (b' b : Block) (end : ℕ) → difference b (spliced f b') end ≡ ended (behind f b' b) end
  walked_whole f End b end = go_on_end (Ok b) end
  walked_whole f (Next s' b') b end =
      ap (λ x. difference b x end) (sym (joined_end (spliced f (Next s' b'))))
      ∙ ap (λ x. difference b x end) (joined_rebuilt (splicing f) (joins f) s' (spliced f b') End)
      ∙ walked_statement f s' b (joined (spliced f b') End) end
      ∙ go_on_behind (behind_statement f s' b) (λ r. behind f b' r) (λ r. difference r (joined (spliced f b') End) end) (λ r. difference r End end)
      (λ r. walked f b' r End end)
      ∙ go_on_end (behind f (Next s' b') b) end

pub walk_finds : WalkFinds
walk_finds f b b' end = walked_whole f b' b end

-- lists of types where the second one ended
pub types_left : (ts us : List TypeAt) (i : ℕ) → i < length ts → length us ≡ 0 → same_types (drop i ts) us ≡ false
types_left [] us i h e = absurd (omega (arith, h))
types_left (t ∷ ts) [] zero h e = refl
types_left (t ∷ ts) (u ∷ us) zero h e = absurd (omega (arith, e))
types_left (t ∷ ts) us (suc i) h e = types_left ts us i (omega (arith, h)) e

---- Programs

-- where all before their bodies is the same
pub first_in_bodies : (p p' : Program) → bytes_eq p.name p'.name ≡ true
    → difference_of_parameters p.parameters p'.parameters p'.parameters_end ≡ None
    → difference_of_declarations p.declarations p'.declarations (beginning_of p'.body p'.body_end) ≡ None
    → first_difference p p' ≡ ended (behind (new_in p) p'.body p.body) p'.body_end
first_in_bodies p p' n q d = rw (n, q, d) (walk_finds (new_in p) p.body p'.body p'.body_end)
