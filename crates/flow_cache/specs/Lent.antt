-- What positions end as, once a borrow of one of them has ended.
use Rattle.std.specs.Prelude.{◌≡◌, ⊤}
use Rattle.std.specs.Borrow.{Fml, MutBor, follows_so}
use mathlib.Core.Option.{none}
use Rattle.flow_cache.specs.Entries.{Entries, Kept}
use Rattle.flow_cache.specs.contracts.positions.Positions.{the_row}

-- they have the entries es
abbrev pub ends_as : MutBor Kept → Entries → Fml
ends_as k es = follows_so the_row the_row k.ghost_name none (λ _ _. ⊤) (λ n. n ≡ record { entries = es; capacity = k.now.capacity })
