-- A chain of lives may begin with an opening of an empty store that is refused.
use Rattle.std.proofs.Common.{[], ◌∷◌, inl, inr, refl}
use Rattle.sqlite_trees.specs.declared.store.Store.{Ghosts}
use Rattle.sqlite.specs.Tree.{Trees}
use Rattle.sqlite.specs.Held.{Held, state}
use Rattle.sqlite.specs.State.{HasCleanDisk}
use Rattle.flow_base.specs.declared.fault.Fault.{Fault}
use Rattle.flow_model.specs.Book.{no_book}
use Rattle.flow_recover.specs.Recovering.{AreBlank, IsOpenedOver}
use Rattle.flow_engine.specs.Headline.{Life, Refused, seen, IsLife, Begins, Lives}
use Rattle.flow_engine.proofs.Lives.{opened_begin}

module _ {S : Type 0} (g : Ghosts S) where
  -- It is refused over a store that lists nothing, then stopped, and opened again over what that left.
  pub refused_first : (conn back : Held S) (f : Fault) (db left : Trees) (m : Life S) → AreBlank db → (HasCleanDisk (state g conn) → IsOpenedOver (state g conn) db) → IsLife g (Refused conn f back)
      → (state g back).may_leave left → (HasCleanDisk (state g (seen m).conn) → IsOpenedOver (state g (seen m).conn) left) → IsLife g m → Lives g (Begins g no_book) (Refused conn f back ∷ m ∷ [])
  refused_first conn back f db left m none opened life leaves again next =
      (opened_begin g no_book (Refused conn f back) (inl (db, inr (inl (none, refl)), opened)), life, (inl ∣ (left, leaves, again) ∣₁, next, tt))
