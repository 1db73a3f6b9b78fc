-- Rows that can't be read.
use Rattle.std.specs.Prelude.{◌≡◌, ◌≢◌, ◌<◌, get_or}
use Rattle.flow_tables.proofs.Names.{Kind, Row, Error, column, AllByRecursion, List, ℕ, StoreFault, SqliteFailure, OutOfMemory, length, subst, sym, ap, inl, inr, fault_of}
use Rattle.sqlite.specs.Reading.{IsReadError}
use Rattle.sqlite_trees.proofs.ListLemmas.{all-get_or}
use Rattle.flow_sql.specs.Stored.{IsReadAs, AreReadAs}
use Rattle.flow_sql.proofs.Readable.{read_at, is_there}
use Rattle.flow_tables.specs.Asking.{IsOfColumn}
use Rattle.flow_tables.specs.Reads.{IsMisreadAt, IsMisread, AreMisread}
use Rattle.flow_tables.specs.declared.fault.StoreFault.TheVariants.{Refused}

-- an error at a column of this kind, told as a fault
pub column_misread : (r : Row) (at : ℕ) (kind : Kind) (e : Error) (f : StoreFault) → f ≡ fault_of e → IsReadError at (column r at) e → (e ≢ SqliteFailure OutOfMemory → at < length r → IsReadAs kind (column r at) → ⊥) → IsMisreadAt at kind r f
column_misread r at kind e f is named odd = subst (IsMisreadAt at kind r) (sym is) (by_error e named odd)
  where
    by_error : (e : Error) → IsReadError at (column r at) e → (e ≢ SqliteFailure OutOfMemory → at < length r → IsReadAs kind (column r at) → ⊥) → IsMisreadAt at kind r (fault_of e)
    by_error (SqliteFailure OutOfMemory) named odd = tt
    by_error e named odd = (named, λ reads. odd (λ same. let clash = ap fault_of same in cc) (is_there r at kind reads) reads)

-- one row that is misread is enough
pub misread_at : (kinds : List Kind) (rows : List Row) (i : ℕ) (r : Row) (f : StoreFault) → i < length rows → get_or rows i r ≡ r → IsMisread kinds r f → AreMisread kinds rows f
misread_at kinds rows i r f inside is why = inr (i, r, inside, is, why)

-- the error is that of a column
pub misread_error : (kinds : List Kind) (rows : List Row) (e : Error) → AreMisread kinds rows (Refused e) → IsOfColumn e
misread_error kinds rows e (inl none) = let clash = none in cc
misread_error kinds rows e (inr it) = let odd = it.4 in (odd.0, column it.1 odd.0, odd.3.0)

-- rows that read as their kinds aren't misread
pub never_misread : (kinds : List Kind) (rows : List Row) (e : Error) → AllByRecursion (AreReadAs kinds) rows → AreMisread kinds rows (Refused e) → ⊥
never_misread kinds rows e all (inl none) = let clash = none in cc
never_misread kinds rows e all (inr it) =
    let reads = subst (AreReadAs kinds) it.3 (all-get_or (AreReadAs kinds) rows it.0 it.1 all it.2) in
    let odd = it.4 in
    odd.3.1 (read_at kinds it.1 odd.0 odd.1 odd.2 reads)
