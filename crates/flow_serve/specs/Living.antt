-- What an engine that serves a hub says, as a life of the headline.
use Rattle.std.specs.Prelude.{◌≡◌, List, All}
use Rattle.sqlite_trees.specs.declared.store.Store.{Ghosts}
use Rattle.sqlite.specs.Held.{Held}
use Rattle.flow_base.specs.declared.submission.Receipt.{Receipt}
use Rattle.flow_base.specs.declared.submission.Taken.{Taken}
use Rattle.flow_commit.specs.Keeping.{Keeping}
use Rattle.flow_recover.specs.declared.positions.Position.{Position}
use Rattle.flow_engine.specs.declared.done.Done.{Done}
use Rattle.flow_engine.specs.Boarding.{RunsBoarded}
use Rattle.flow_engine.specs.Driving.{receipts_told}
use Rattle.flow_engine.specs.Headline.{IsLife, Served}
use Rattle.flow_serve.specs.Serving.{IsBatch}

-- A hub was served since: in batches that are a part of a life, with these receipts and no others.
pub record ServesHub {S : Type 0} (g : Ghosts S) (first last : Keeping S) (told : List Receipt) : Type 0 where
  pub batches : List (List Taken)
  pub dones : List Done
  pub sizes : All IsBatch batches
  pub runs : RunsBoarded g first last batches dones
  pub are : told ≡ receipts_told batches dones

-- An engine that was opened over this connection, handed out positions and has served a hub since is a life, of which the hub was told
-- these receipts.
pub record HasLivedServing {S : Type 0} (g : Ghosts S) (conn : Held S) (last : Keeping S) (told : List Receipt) : Type 0 where
  pub first : Keeping S
  pub positions : List Position
  pub hub : ServesHub g first last told
  pub is : IsLife g (Served conn first positions last hub.batches hub.dones)
