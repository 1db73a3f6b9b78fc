-- How many batches of lines are given up, from part to part.
use Rattle.std.proofs.Common.{◌≡◌, ◌⊎◌, inl, inr, ℕ, suc, ◌+◌, ◌≤◌, List, [], ◌∷◌, ◌++◌, refl, sym, ◌∙◌, subst, arith}
use Rattle.flow_base.specs.declared.code.Code.{Code}
use Rattle.flow_base.specs.declared.code.Code.TheVariants as code
use Rattle.flow_base.specs.declared.command.Command.{Command}
use Rattle.flow_model.specs.Answers.{IsGivenUp, IsMoreBy}
use Rattle.flow_model.specs.Apply.{Rules}
use Rattle.flow_model.specs.Book.{Book}
use Rattle.flow_model.specs.declared.answer.Answering.{Ghosts as Answerings}
use Rattle.flow_model.proofs.Failures.{more_none, more_then}
use Rattle.flow_lines.specs.Answering.{Part, Lone, Applied, GivenUp, IsPart, OfBatch, book_behind, book_by, commands_in}
use Rattle.flow_lines.specs.Counting.{AreGivenUpBut, IsCounted, IsGivenUpFor}

part_on : (P Q : Book → List Command → Type 0) → ((b : Book) (cs : List Command) → P b cs → Q b cs) → (b : Book) (p : Part)
    → IsGivenUpFor P b p → IsGivenUpFor Q b p
part_on P Q on b (Lone l) h = tt
part_on P Q on b (Applied ls) h = tt
part_on P Q on b (GivenUp ls k) h = λ is. on b (commands_in ls) (h is)

module _ (u : Rules) where
  but_on : (P Q : Book → List Command → Type 0) → ((b : Book) (cs : List Command) → P b cs → Q b cs) → (n : ℕ) (b : Book) (ps : List Part)
      → AreGivenUpBut u P n b ps → AreGivenUpBut u Q n b ps
  but_on P Q on n b [] h = tt
  but_on P Q on n b (p ∷ ps) (inl one) = inl (part_on P Q on b p one.0, but_on P Q on n (book_by u b p) ps one.1)
  but_on P Q on n b (p ∷ ps) (inr one) = inr (one.0, one.1, but_on P Q on one.0 (book_by u b p) ps one.2)

  module _ (P : Book → List Command → Type 0) where
    -- more failures excuse no fewer
    but_more : (k n : ℕ) (b : Book) (ps : List Part) → AreGivenUpBut u P n b ps → AreGivenUpBut u P (k + n) b ps
    but_more k n b [] h = tt
    but_more k n b (p ∷ ps) (inl one) = inl (one.0, but_more k n (book_by u b p) ps one.1)
    but_more k n b (p ∷ ps) (inr one) =
        let is : n ≡ suc one.0 = one.1 in
        inr (k + one.0, omega (arith, is), but_more k one.0 (book_by u b p) ps one.2)

    but_then : (n m : ℕ) (b : Book) (ps qs : List Part) → AreGivenUpBut u P n b ps → AreGivenUpBut u P m (book_behind u b ps) qs
        → AreGivenUpBut u P (n + m) b (ps ++ qs)
    but_then n m b [] qs h later = but_more n m b qs later
    but_then n m b (p ∷ ps) qs (inl one) later = inl (one.0, but_then n m (book_by u b p) ps qs one.1 later)
    but_then n m b (p ∷ ps) qs (inr one) later =
        let is : n ≡ suc one.0 = one.1 in
        inr (one.0 + m, omega (arith, is), but_then one.0 m (book_by u b p) ps qs one.2 later)

module _ {E : Type 0} (a : Answerings E) where
  pub counted_none : (old new : E) (b : Book) → a.failures old ≤ a.failures new → IsCounted a old new b []
  counted_none old new b le = record { failures = 0; counted = more_none (a.failures old) (a.failures new) le; are = tt }

  -- One part, of which it is known what stands behind it.
  module _ (old new : E) (b : Book) (le : a.failures old ≤ a.failures new) where
    excused : (p : Part) → IsGivenUpFor (a.excuses old new) b p → IsCounted a old new b (p ∷ [])
    excused p why = record { failures = 0; counted = more_none (a.failures old) (a.failures new) le; are = inl (why, tt) }

    failed : (p : Part) → IsMoreBy 1 (a.failures old) (a.failures new) → IsCounted a old new b (p ∷ [])
    failed p more = record { failures = 1; counted = more; are = inr (0, refl, tt) }

    by_code : (ls : List (List ℕ)) (k : Code) → ((cs : List Command) → a.gives_up old new b cs code.StoreRefused → a.excuses old new b cs
        ⊎ IsMoreBy 1 (a.failures old) (a.failures new))
        → IsGivenUp k → a.gives_up old new b (commands_in ls) k → IsCounted a old new b (GivenUp ls k ∷ [])
    by_code ls k either (inl is) gives = elim (either (commands_in ls) (subst (a.gives_up old new b (commands_in ls)) is gives)) [
      | inl excuse ↦ excused (GivenUp ls k) (λ _. excuse)
      | inr more ↦ failed (GivenUp ls k) more
    ]
    by_code ls k either (inr is) gives = excused (GivenUp ls k) (λ e. absurd (let clash : code.NoMemory ≡ code.StoreRefused = sym is ∙ e in cc))

    pub counted_one : (most : ℕ) (p : Part) → ((cs : List Command) → a.gives_up old new b cs code.StoreRefused → a.excuses old new b cs
        ⊎ IsMoreBy 1 (a.failures old) (a.failures new))
        → IsPart (OfBatch most (a.gives_up old new)) b p → IsCounted a old new b (p ∷ [])
    counted_one most (Lone l) either is = excused (Lone l) tt
    counted_one most (Applied ls) either is = excused (Applied ls) tt
    counted_one most (GivenUp ls k) either is = by_code ls k either is.0 is.1.1

  -- and more parts behind them
  pub counted_then : (old mid new : E) (b b1 : Book) (ps qs : List Part)
      → ((k : Book) (cs : List Command) → a.excuses old mid k cs → a.excuses old new k cs)
      → ((k : Book) (cs : List Command) → a.excuses mid new k cs → a.excuses old new k cs)
      → b1 ≡ book_behind a.rules b ps → IsCounted a old mid b ps → IsCounted a mid new b1 qs → IsCounted a old new b (ps ++ qs)
  counted_then old mid new b b1 ps qs still since is f g = record {
    failures = f.failures + g.failures;
    counted = more_then f.failures g.failures (a.failures old) (a.failures mid) (a.failures new) f.counted g.counted;
    are = but_then a.rules (a.excuses old new) f.failures g.failures b ps qs
        (but_on a.rules (a.excuses old mid) (a.excuses old new) still f.failures b ps f.are)
        (but_on a.rules (a.excuses mid new) (a.excuses old new) since g.failures (book_behind a.rules b ps) qs
        (subst (λ k. AreGivenUpBut a.rules (a.excuses mid new) g.failures k qs) is g.are));
  }
