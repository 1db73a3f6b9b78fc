-- The positions that opening found.
use Rattle.std.proofs.Common.{◌≡◌, List, sym, subst}
use Rattle.sqlite_trees.specs.declared.store.Store.{Ghosts}
use Rattle.sqlite.specs.Held.{Held, state}
use Rattle.flow_check.specs.Language.{meaning_of}
use Rattle.flow_model.specs.Book.{Book}
use Rattle.flow_tables.specs.Owned.{IsFound}
use Rattle.flow_commit.specs.Keeping.{Keeping, IsFit}
use Rattle.flow_recover.specs.declared.positions.Position.{Position}
use Rattle.flow_recover.specs.Positions.{ArePositions}
use Rattle.flow_recover.specs.Recovering.{IsRecovered}
use Rattle.flow_recover.proofs.Recovering.{one_found}
use Rattle.flow_engine.specs.Opening.{HasFound}

module _ {S : Type 0} (g : Ghosts S) where
  -- what opening gives, over the connection that was handed in
  pub recovered_found : (conn : Held S) (k : Keeping S) (qs : List Position) → k.stored.opened ≡ conn → (IsFit g k → IsRecovered g (state g conn) k qs) → IsFit g k → HasFound g k qs
  recovered_found conn k qs opened recovered fit =
      let its = recovered fit in
      record { book = k.found; found = subst (λ (h : Held S). IsFound (state g h) k.found) (sym opened) its.found; are = its.positions }

  -- They are of the opening, which no command changes.
  pub found_on : (old new : Keeping S) (qs : List Position) → new.stored.opened ≡ old.stored.opened → (IsFit g new → IsFit g old) → (IsFit g old → HasFound g old qs) → IsFit g new → HasFound g new qs
  found_on old new qs same fit has now =
      let its = has (fit now) in
      record { book = its.book; found = subst (λ (h : Held S). IsFound (state g h) its.book) (sym same) its.found; are = its.are }

  -- a store holds one book
  pub found_of : (k : Keeping S) (qs : List Position) (b : Book) → HasFound g k qs → IsFound (state g k.stored.opened) b → ArePositions meaning_of b qs
  found_of k qs b has is = subst (λ x. ArePositions meaning_of x qs) (one_found (state g k.stored.opened) has.book b has.found is) has.are
