-- Positions that a keeper begins with.
use Rattle.std.specs.Prelude.{◌≡◌, List, Contains}
use Rattle.flow_machine.specs.Seated.{IsSame}
use Rattle.flow_machine.specs.declared.seats.Led.{Led}
use Rattle.flow_recover.specs.declared.positions.Position.{Position}

-- the one is the position of the other's run, under its text
abbrev pub IsLedTo : Position → Led → Type 0
IsLedTo q l = (l.run ≡ q.run) × ((l.text ≡ q.text) × IsSame l.stance q.stance)

-- each is one of these positions
abbrev pub AreLedTo : List Position → List Led → Type 0
AreLedTo qs ls = (l : Led) → Contains ls l → (q : Position) × (Contains qs q × IsLedTo q l)
