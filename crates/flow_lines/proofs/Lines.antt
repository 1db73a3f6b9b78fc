-- The lines of some bytes, one after the other.
use Rattle.std.proofs.Common.{◌≡◌, ℕ, suc, ◌-◌, ◌<◌, Bool, true, false, eqb, ltb, lt-ltb, List, [], ◌∷◌, ◌++◌, length, get_or, Option, Some, None, IfSome, refl, sym, ap, ◌∙◌, subst, arith}
use Rattle.std.specs.Io.BufRead.{take_through, drop_through, strip_last, first_piece, DropsThrough}
use Rattle.std.proofs.BufReadLemmas.{take_through_nonempty}
use Rattle.flow_lines.specs.Driving.{lines_of, begins_with}
use Rattle.flow_lines.specs.Answering.{FirstLine}

pub by_test : {G : Type 0} (b : Bool) → (b ≡ true → G) → (b ≡ false → G) → G
by_test true holds fails = holds refl
by_test false holds fails = fails refl

-- only the last byte is looked at
strip_last-cons : (b x : ℕ) (xs : List ℕ) → strip_last 10 (b ∷ x ∷ xs) ≡ b ∷ strip_last 10 (x ∷ xs)
strip_last-cons b x xs =
    let e : length (b ∷ x ∷ xs) - 1 ≡ suc (length (x ∷ xs) - 1) = omega arith in
    let p : ltb 0 (length (b ∷ x ∷ xs)) ≡ true = lt-ltb 0 (length (b ∷ x ∷ xs)) (omega arith) in
    let q : ltb 0 (length (x ∷ xs)) ≡ true = lt-ltb 0 (length (x ∷ xs)) (omega arith) in
    rw (e, p, q) (by_test (eqb (get_or (x ∷ xs) (length (x ∷ xs) - 1) 0) 10) (λ t. rw t refl) (λ t. rw t refl))

taken : (x : ℕ) (xs : List ℕ) → (r : List ℕ) × (take_through 10 (x ∷ xs) ≡ x ∷ r)
taken x xs = by_test (eqb x 10) (λ t. ([], rw t refl)) (λ t. (take_through 10 xs, rw t refl))

longer : (b x : ℕ) (xs : List ℕ) → b ∷ first_piece 10 (x ∷ xs) ≡ strip_last 10 (b ∷ take_through 10 (x ∷ xs))
longer b x xs = let t = taken x xs in rw t.1 (sym (strip_last-cons b x t.0))

pub first_line : (bytes : List ℕ) → 0 < length bytes → lines_of bytes ≡ first_piece 10 bytes ∷ lines_of (drop_through 10 bytes)
first_line [] some = absurd (omega arith)
first_line (b ∷ []) some = by_test (eqb b 10) (λ t. rw t (rw t refl)) (λ t. rw t (rw t refl))
first_line (b ∷ x ∷ xs) some =
    by_test (eqb b 10) (λ t. rw t (rw t refl)) (λ t.
    rw t (ap (begins_with b) (first_line (x ∷ xs) (omega arith)) ∙ ap (λ l. l ∷ lines_of (drop_through 10 (x ∷ xs))) (longer b x xs)))

-- what is read up to a line feed is a line
pub first_line_read : (known left : Option (List ℕ)) (before text line : List ℕ) → before ≡ [] → IfSome known (λ bytes. text ≡ before ++ take_through 10 bytes) → DropsThrough known left 10 → 0 < length text → line ≡ strip_last 10 text → IfSome known (λ bytes. FirstLine bytes line left)
first_line_read None left before text line new reads rest some is = tt
first_line_read (Some bytes) left before text line new reads rest some is =
    let all : text ≡ take_through 10 bytes = reads ∙ ap (λ l. l ++ take_through 10 bytes) new in
    record {
      left_is = rest;
      lines_are =
          first_line bytes (take_through_nonempty 10 bytes (subst (λ l. 0 < length l) all some))
          ∙ ap (λ l. l ∷ lines_of (drop_through 10 bytes)) (sym (is ∙ ap (strip_last 10) all));
    }

-- at the end of the input nothing is left
pub ended : (known left : Option (List ℕ)) → IfSome known (λ bytes. bytes ≡ []) → DropsThrough known left 10 → IfSome known (λ bytes. (bytes ≡ []) × (left ≡ Some bytes))
ended None left none rest = tt
ended (Some bytes) left none rest = (none, rest ∙ ap (λ l. Some (drop_through 10 l)) none ∙ ap Some (sym none))
