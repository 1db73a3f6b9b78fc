-- What a call on tables keeps, from call to call.
use Rattle.std.proofs.Common.{◌≡◌, ◌⊎◌, inl, inr, refl, sym, subst, ◌∙◌}
use Rattle.sqlite_trees.specs.declared.store.Store.{Ghosts}
use Rattle.sqlite.specs.Held.{state}
use Rattle.flow_model.specs.Book.{Book}
use Rattle.flow_tables.specs.Owned.{Stored, IsFit, IsUp, is_sure, IsBarred, IsOurs, Follows, Keeps, LeavesEither, LeavesWritten, IsFileOf, state_of}
use Rattle.flow_view.specs.declared.fault.ViewFault.{ViewFault}
use Rattle.flow_tables.proofs.Stopping.{since_self, since_then}

module _ {S : Type 0} (g : Ghosts S) (a b : Stored S) (follows : Follows g a b) (fit : IsFit g b) where
  pub fit_before : IsFit g a
  fit_before = (subst (λ h. IsOurs (state g h)) follows.0 fit.0, (follows.1 fit.0 fit.1).0)

  pub up_before : IsUp g b → IsUp g a
  up_before up = follows.2 fit.0 fit.1 up

  pub keeps_behind : (k : Book) → Keeps (state_of g a) k → Keeps (state_of g b) k
  keeps_behind k h = (follows.1 fit.0 fit.1).1 k h

  pub either_behind : (k k' : Book) → Keeps (state_of g a) k → LeavesEither (state_of g b) k k'
  either_behind k k' h db may = inl ((keeps_behind k h).stops db may)

pub follows_self : {S : Type 0} (g : Ghosts S) (a : Stored S) → Follows g a a
follows_self g a = (refl, λ ours clean. (clean, λ b keeps. keeps), λ ours clean up. up, λ ours clean. since_self (state_of g a))

pub follows_then : {S : Type 0} (g : Ghosts S) (a b c : Stored S) → Follows g a b → Follows g b c → Follows g a c
follows_then g a b c one two = (
  two.0 ∙ one.0,
  λ ours clean. (let it = two.1 ours clean in let was = one.1 (before ours) it.0 in (was.0, λ k keeps. it.1 k (was.1 k keeps))),
  λ ours clean up. one.2 (before ours) (two.1 ours clean).0 (two.2 ours clean up),
  λ ours clean. since_then (state_of g a) (state_of g b) (state_of g c) (one.3 (before ours) (two.1 ours clean).0) (two.3 ours clean),
)
  where
    before : IsOurs (state g c.opened) → IsOurs (state g b.opened)
    before ours = subst (λ h. IsOurs (state g h)) two.0 ours

-- what was written is what apply makes of the book
pub written_either : {S : Type 0} (g : Ghosts S) (b : Stored S) (sure : Type 0) (k k' k'' : Book) → (sure → k' ≡ k'') → LeavesWritten sure (state_of g b) k k' → LeavesEither (state_of g b) k k''
written_either g b sure k k' k'' same h db may = elim (h db may) [
  | inl before ↦ inl before
  | inr after ↦ inr (subst (λ x. IsFileOf db x) (same after.0) after.1)
]

-- nothing hinders a transaction that is sure
pub not_hindered : {S : Type 0} (g : Ghosts S) (a : Stored S) (f : ViewFault) → is_sure g a → (W : Type 0) → W ⊎ IsBarred (state_of g a) a.refused f → W
not_hindered g a f sure W (inl w) = w
not_hindered g a f sure W (inr (inl noted)) = absurd (let clash = sym sure.none ∙ noted.1 in cc)
not_hindered g a f sure W (inr (inr outside)) = absurd (let clash = sym sure.mode ∙ outside.1 in cc)
