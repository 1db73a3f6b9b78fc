-- A stop of the engine over two files, or its end, and the next opening of them.
use Rattle.std.specs.Prelude.{IsTrue}
use Rattle.sqlite_disk.specs.declared.Disk as disk
use Rattle.sqlite_disk.specs.declared.Files.{Files}
use Rattle.sqlite_wal.specs.Files.{outcomes}
use Rattle.sqlite_wal.specs.Recovery.{Image}
use Rattle.sqlite_store.specs.declared.store.FileStore.{FileStore}
use Rattle.sqlite_store.specs.FileStore as store
use Rattle.sqlite.specs.Tree.{Trees}
use Rattle.sqlite.specs.Closing.{IsCopied}
use Rattle.sqlite.specs.Files.{HoldsDatabase, file_state, over_files}
use Rattle.sqlite.specs.Held.{AreDatabases}
use Rattle.sqlite.specs.State.{HasCleanDisk}
use Rattle.flow_recover.specs.Recovering.{IsOpenedOver}
use Rattle.flow_engine.specs.Headline.{Seen, Continues}

-- Where the two files hold what a stop of this life could leave, and `reopen_files` has opened them (its clause `opened`), the
-- next life continues it.
abbrev pub StopContinues : {D : Type 0} → disk.Ghosts D → Type 0
StopContinues {D} g =
    (l m : Seen (FileStore D g)) → IsTrue (store.view l.last.store).is_numbered → AreDatabases (store.recovers l.last.store)
    → (left : Image) → (store.state l.last.store).may_leave left
    → (HasCleanDisk (file_state m.conn) → (db : Trees) → ∥ HoldsDatabase left db ∥₁ → IsOpenedOver (file_state m.conn) db)
    → Continues over_files l m

-- Where closing the connection gave these two files back with what was committed copied (`copied` of `close_files`), and they hold what
-- a stop may leave of them, and `reopen_files` has opened them, the next life continues the one that was closed.
abbrev pub CloseContinues : {D : Type 0} → disk.Ghosts D → Type 0
CloseContinues {D} g =
    (l m : Seen (FileStore D g)) (files : Files D) → IsCopied l.last files → (left : Image) → outcomes g files.log files.db left
    → (HasCleanDisk (file_state m.conn) → (db : Trees) → ∥ HoldsDatabase left db ∥₁ → IsOpenedOver (file_state m.conn) db)
    → Continues over_files l m
