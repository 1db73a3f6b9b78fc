-- What is carried out of a refused call on the disk below: all that was asked of it, or it has failed itself.
use Rattle.std.specs.Prelude.{◌≡◌, ◌⊎◌, ℕ, ◌<◌, List, length}
use Rattle.sqlite_disk.specs.declared.Disk.{Ghosts}
use Rattle.sqlite_disk.specs.Disk.{Holds, Torn, Only, MoreFaults}

module _ {D : Type 0} (g : Ghosts D) where
  -- it has failed a call
  abbrev pub HasFailed : D → D → Type 0
  HasFailed old new = MoreFaults (g.faults old) (g.faults new)

  -- these bytes were written, and no others
  abbrev pub Writes : ℕ → List ℕ → D → D → Type 0
  Writes at bytes old new = Torn at (length bytes) (g.seen old) (g.seen new) × ((0 < length bytes → Holds (g.seen new) at bytes) ⊎ HasFailed old new)

  -- it was given this length
  abbrev pub Resizes : ℕ → D → D → Type 0
  Resizes len old new = (length (g.seen new) ≡ len) ⊎ HasFailed old new

  -- what it holds was synced
  abbrev pub Syncs : D → D → Type 0
  Syncs old new = Only (g.seen old) (g.may_leave new) ⊎ HasFailed old new
