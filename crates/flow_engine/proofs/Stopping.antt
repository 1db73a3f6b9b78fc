-- What a stop leaves of two files is opened again, and what closing gives back.
use Rattle.std.proofs.Common.{inl}
use Rattle.std.proofs.Math.Logic.{∥∥₁_map}
use Rattle.sqlite_disk.specs.declared.Disk as disk
use Rattle.sqlite_wal.proofs.LogLemmas.{SeenMayStay}
use Rattle.sqlite_store.specs.Laws.{stays_at}
use Rattle.sqlite.specs.Files.{file_state}
use Rattle.sqlite.proofs.Theorems.{opens_again}
use Rattle.flow_engine.specs.Stopping.{CloseContinues, StopContinues}

pub stop_continues : {D : Type 0} (g : disk.Ghosts D) → StopContinues g
stop_continues g l m numbered sound left may opened = inl (∥∥₁_map (opens_again l.last.store numbered sound left may) (λ r. (r.0, r.1, λ clean. opened clean r.0 ∣ r.2 ∣₁)))

pub close_continues : {D : Type 0} (g : disk.Ghosts D) → SeenMayStay g → CloseContinues g
close_continues g stays l m files copied left may opened =
    let db = (file_state l.last).committed.trees in
    inl ∣ (db, stays_at l.last.store stays copied.was_open, λ clean. opened clean db (copied.left left may).both) ∣₁
