-- What became of our tables by changes of their rows, within a transaction.
use Rattle.std.specs.Prelude.{◌≡◌}
use Rattle.flow_sql.specs.Names.{Tables, State, true}
use Rattle.flow_sql.specs.States.{IsOver}
use Rattle.flow_sql.specs.Stored.{tables_in, AreUtf8}

-- texts that were UTF-8 still are
abbrev pub KeepsUtf8 : State → State → Type 0
KeepsUtf8 old new = AreUtf8 (tables_in old.now) → AreUtf8 (tables_in new.now)

-- The tables were changed so by rows whose texts are UTF-8, and nothing else; what the last commit left is as it was.
pub record Changes (old new : State) (after : Tables) : Type 0 where
  pub over : IsOver true new
  pub tables : tables_in new.now ≡ after
  pub committed : new.committed ≡ old.committed
  pub utf8 : KeepsUtf8 old new
