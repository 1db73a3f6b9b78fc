-- Until when to wait for a task, and what has come where none is given.
use Rattle.std.specs.Prelude.{◌≡◌, true, false}
use Rattle.flow_hub.specs.declared.fed.Fed.{Fed}
use Rattle.flow_hub.specs.declared.fed.Fed.TheVariants as fed
use Rattle.flow_hub.specs.declared.fed.Until.{Until}
use Rattle.flow_hub.specs.declared.fed.Until.TheVariants as until
use Rattle.flow_hub.specs.declared.known.HubFacts.{HubFacts}

-- what has come, beside a task and the hub's closing: at the last, a board behind all that is answered
abbrev pub HasCome : Until → HubFacts → Type 0
HasCome until.There k = ⊥
HasCome until.Rung k = Unit {0}
HasCome until.Boarded k = k.boarded ≡ true

-- what is waited for hasn't come; of a ring nothing is known
abbrev pub IsAwaited : Until → HubFacts → Type 0
IsAwaited until.There k = Unit {0}
IsAwaited until.Rung k = Unit {0}
IsAwaited until.Boarded k = k.boarded ≡ false

-- and where nothing is given, that has
abbrev pub EndsAt : Until → HubFacts → Fed → Type 0
EndsAt u k (fed.Task t) = Unit {0}
EndsAt u k fed.Nothing = HasCome u k
EndsAt u k fed.Closed = Unit {0}
