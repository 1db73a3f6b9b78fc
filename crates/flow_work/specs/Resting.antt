-- The end of all work.
use Rattle.std.specs.Prelude.{◌≡◌, ◌⊎◌, true}
use Rattle.flow_hub.specs.declared.known.HubFacts.{HubFacts}
use Rattle.flow_hub.specs.Feeding.{IsIdle}

-- All that was submitted is answered, and the board that was made since says that no run is open; or the hub is closed.
abbrev pub HasRested : HubFacts → Type 0
HasRested k = IsIdle k ⊎ (k.closed ≡ true)
