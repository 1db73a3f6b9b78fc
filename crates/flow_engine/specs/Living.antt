-- What the calls of an engine say, as a life of the headline.
use Rattle.std.specs.Prelude.{◌≡◌, ◌⊎◌, List, []}
use Rattle.sqlite_trees.specs.declared.store.Store.{Ghosts}
use Rattle.sqlite.specs.Held.{Held}
use Rattle.flow_base.specs.declared.fault.Fault.{Fault}
use Rattle.flow_base.specs.declared.fault.Fault.TheVariants as fault
use Rattle.flow_base.specs.declared.submission.Taken.{Taken}
use Rattle.flow_commit.specs.Keeping.{Keeping}
use Rattle.flow_recover.specs.declared.positions.Position.{Position}
use Rattle.flow_engine.specs.declared.done.Done.{Done}
use Rattle.flow_engine.specs.Headline.{IsLife, Lived, Refused}

module _ {S : Type 0} (g : Ghosts S) where
  -- An engine that was opened over this connection, handed out positions and has driven these batches since is a life.
  pub record HasLived (conn : Held S) (last : Keeping S) (batches : List (List Taken)) (dones : List Done) : Type 0 where
    pub first : Keeping S
    pub positions : List Position
    pub is : IsLife g (Lived conn first positions last batches dones)

  -- So is a call that gave a connection back with a fault: its opening was refused, or memory was wanting before its first batch.
  abbrev pub HasEndedEarly : Held S → Fault → Held S → Type 0
  HasEndedEarly conn f back = IsLife g (Refused conn f back) ⊎ ((f ≡ fault.NoMemory _) × ((last : Keeping S) × (last.stored.held ≡ back) × HasLived conn last [] []))
