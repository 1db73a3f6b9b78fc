-- Blanks and comments: what a scanner that goes by runs leaves is what is left behind the gap.
use Rattle.std.proofs.Common.{◌≡◌, ℕ, ◌+◌, List, [], ◌∷◌, Bool, true, false, cond, ◌==◌, drop, get_or, one-add, sym, ap, ◌∙◌, refl, subst, arith}
use Rattle.std.specs.List.{prefix_len}
use Rattle.std.proofs.lemmas.Bool.Decides.{nat_tests}
use Rattle.flow_model.specs.Tokens.{is_blank, is_inside_comment, past_gap, past_comment}
use Rattle.flow_tokens.specs.declared.run.Class.TheVariants.{Blank, Comment}
use Rattle.flow_tokens.specs.Classes.{has}

nothing_left_step : (p : ℕ → Bool) (v : Bool) (b : ℕ) (bs : List ℕ) → v ≡ p b → prefix_len p (drop (prefix_len p bs) bs) ≡ 0 → prefix_len p (drop (cond v (1 + prefix_len p bs) 0) (b ∷ bs)) ≡ 0
nothing_left_step p true b bs e ih = ap (λ k. prefix_len p (drop k (b ∷ bs))) (one-add (prefix_len p bs)) ∙ ih
nothing_left_step p false b bs e ih = sym (ap (λ v. cond v (1 + prefix_len p bs) 0) e)

-- a run that is cut off goes no further
pub nothing_left : (p : ℕ → Bool) (bs : List ℕ) → prefix_len p (drop (prefix_len p bs) bs) ≡ 0
nothing_left p [] = refl
nothing_left p (b ∷ bs) = nothing_left_step p (p b) b bs refl (nothing_left p bs)

blank_step : (v : Bool) (b n : ℕ) (bs : List ℕ) → v ≡ is_blank b → past_gap bs ≡ past_gap (drop n bs) → cond v (past_gap bs) (cond (b == 35) (past_comment bs) (b ∷ bs)) ≡ past_gap (drop (cond v (1 + n) 0) (b ∷ bs))
blank_step true b n bs e ih = ih ∙ sym (ap (λ k. past_gap (drop k (b ∷ bs))) (one-add n))
blank_step false b n bs e ih = ap (λ v. cond v (past_gap bs) (cond (b == 35) (past_comment bs) (b ∷ bs))) e

pub gap_past_blanks : (bs : List ℕ) → past_gap bs ≡ past_gap (drop (prefix_len (has Blank) bs) bs)
gap_past_blanks [] = refl
gap_past_blanks (b ∷ bs) = blank_step (is_blank b) b (prefix_len (has Blank) bs) bs refl (gap_past_blanks bs)

line_feed : (b : ℕ) → false ≡ is_inside_comment b → b ≡ 10
line_feed b h = grind (arith, nat_tests)

comment_step : (v : Bool) (b n : ℕ) (bs : List ℕ) → v ≡ is_inside_comment b → past_comment bs ≡ past_gap (drop n bs) → cond v (past_comment bs) (past_gap bs) ≡ past_gap (drop (cond v (1 + n) 0) (b ∷ bs))
comment_step true b n bs e ih = ih ∙ sym (ap (λ k. past_gap (drop k (b ∷ bs))) (one-add n))
comment_step false b n bs e ih = ap (λ x. past_gap (x ∷ bs)) (sym (line_feed b e))

gap_past_comment_inside : (bs : List ℕ) → past_comment bs ≡ past_gap (drop (prefix_len (has Comment) bs) bs)
gap_past_comment_inside [] = refl
gap_past_comment_inside (b ∷ bs) = comment_step (is_inside_comment b) b (prefix_len (has Comment) bs) bs refl (gap_past_comment_inside bs)

pub gap_past_comment : (bs : List ℕ) → get_or bs 0 0 ≡ 35 → past_gap bs ≡ past_gap (drop (prefix_len (has Comment) bs) bs)
gap_past_comment [] e = absurd (omega (arith, e))
gap_past_comment (b ∷ bs) e =
    let P : ℕ → Type 0 = λ x. past_gap (x ∷ bs) ≡ past_gap (drop (prefix_len (has Comment) (x ∷ bs)) (x ∷ bs)) in
    let here : P 35 = gap_past_comment_inside bs ∙ sym (ap (λ k. past_gap (drop k (35 ∷ bs))) (one-add (prefix_len (has Comment) bs))) in
    subst P (sym e) here

neither : {A : Type 0} (v w : Bool) (x y z : A) → v ≡ false → w ≡ false → cond v x (cond w y z) ≡ z
neither v w x y z e f = ap (λ b. cond b x (cond w y z)) e ∙ ap (λ b. cond b y z) f

no_blank : (b n : ℕ) → cond (is_blank b) (1 + n) 0 ≡ 0 → is_blank b ≡ false
no_blank b n h = grind (arith, nat_tests)

no_hash : (b : ℕ) → (b ≡ 35 → ⊥) → (b == 35) ≡ false
no_hash b h = grind (arith, nat_tests)

-- where neither a blank nor a comment stands, the gap has ended
pub gap_ends : (bs : List ℕ) → prefix_len (has Blank) bs ≡ 0 → (get_or bs 0 0 ≡ 35 → ⊥) → past_gap bs ≡ bs
gap_ends [] none other = refl
gap_ends (b ∷ bs) none other = neither (is_blank b) (b == 35) _ _ _ (no_blank b (prefix_len (has Blank) bs) none) (no_hash b other)
