-- Open runs that have positions stand.
use Rattle.std.proofs.Common.{◌≡◌, ℕ, zero, suc, ◌+◌, ◌-◌, Bool, true, false, true≢false, List, [], ◌∷◌, Some, refl, sym, ap, ◌∙◌, subst}
use Rattle.std.specs.Prelude.{slice_get, if◌then◌else◌}
use Rattle.std.proofs.lemmas.Option.{none-some, same_Some}
use Rattle.sqlite_trees.specs.declared.store.Store.{Ghosts}
use Rattle.flow_base.specs.declared.book.Run.{Run}
use Rattle.flow_check.specs.Language.{meaning_of}
use Rattle.flow_model.specs.Book.{Book}
use Rattle.flow_model.specs.Configuration.{is_open}
use Rattle.flow_model.specs.Open.{state_of}
use Rattle.flow_run.specs.Position.{config_of}
use Rattle.flow_machine.proofs.Places.{nth_place}
use Rattle.flow_commit.specs.Keeping.{Keeping}
use Rattle.flow_recover.specs.Recovering as recovering
use Rattle.flow_engine.specs.Opening.{KeepsAgain}
use Rattle.flow_recover.specs.declared.positions.Position.{Position}
use Rattle.flow_recover.specs.Positions.{Meaning, open_from, AreOf, ArePositions, IsPosition, IsOpenRun, IsStanding}

open_first : (n : ℕ) (r : Run) (rs : List Run) (v : Bool) → is_open (state_of r.history) ≡ v → open_from n (r ∷ rs) ≡ (if v then (n, r) ∷ open_from (n + 1) rs else open_from (n + 1) rs)
open_first n r rs v e = ap (λ b. if b then (n, r) ∷ open_from (n + 1) rs else open_from (n + 1) rs) e

module _ (u : Meaning) (b : Book) where
  position_stands : (n : ℕ) (r : Run) (q : Position) → IsPosition u b n r q → IsStanding u b r
  position_stands n r q h = (h.program, (config_of h.program q.stance, (h.its_text, h.stands)))

  -- the first run stands, where it is open, and those behind it have positions
  first_stands : (n : ℕ) (x : Run) (rs : List Run) (qs : List Position) (v : Bool) → is_open (state_of x.history) ≡ v → AreOf u b (open_from n (x ∷ rs)) qs
      → (is_open (state_of x.history) ≡ true → IsStanding u b x) × ((more : List Position) × AreOf u b (open_from (n + 1) rs) more)
  first_stands n x rs qs false closed are = (λ opened. absurd (true≢false (sym opened ∙ closed)), (qs, subst (λ l. AreOf u b l qs) (open_first n x rs false closed) are))
  first_stands n x rs [] true opened are = absurd (subst (λ l. AreOf u b l []) (open_first n x rs true opened) are)
  first_stands n x rs (q ∷ qs) true opened are =
      let its = subst (λ l. AreOf u b l (q ∷ qs)) (open_first n x rs true opened) are in
      (λ _. position_stands n x q its.0, (qs, its.1))

  each_stands : (n : ℕ) (rs : List Run) (qs : List Position) → AreOf u b (open_from n rs) qs → (i : ℕ) (r : Run) → slice_get rs i ≡ Some r → is_open (state_of r.history) ≡ true → IsStanding u b r
  each_stands n [] qs are i r there opened = absurd (none-some r there)
  each_stands n (x ∷ rs) qs are zero r there opened =
      let same : x ≡ r = same_Some x r there in
      subst (IsStanding u b) same ((first_stands n x rs qs (is_open (state_of x.history)) refl are).0 (ap (λ (y : Run). is_open (state_of y.history)) same ∙ opened))
  each_stands n (x ∷ rs) qs are (suc i) r there opened =
      let later = (first_stands n x rs qs (is_open (state_of x.history)) refl are).1 in
      each_stands (n + 1) rs later.0 later.1 i r there opened

  pub open_stands : (qs : List Position) → ArePositions u b qs → (n : ℕ) (r : Run) → IsOpenRun b n r → IsStanding u b r
  open_stands qs are n r opened = each_stands 1 b.runs qs are (n - 1) r (nth_place b.runs n r opened.0) opened.1

-- what stands where positions were found, the positions left out
pub keeps_again : {S : Type 0} (g : Ghosts S) (k : Keeping S) (qs : List Position) (b : Book) → recovering.IsBack g k qs b → KeepsAgain g k b
keeps_again g k qs b h = record { fit = h.0; kept = h.1; stands = open_stands meaning_of b qs h.2 }
