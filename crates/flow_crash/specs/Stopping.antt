-- What stops a file shows.
use Rattle.std.specs.Prelude.{◌≡◌, ℕ, ◌<◌, ◌≤◌, Bool, nat_le}
use Rattle.flow_crash.specs.declared.stop_at.StopAt.{StopAt}
use Rattle.flow_crash.specs.declared.calls.Stop.{Stop}
use Rattle.flow_crash.specs.Numbers.{Rises}

-- where it stops
abbrev pub stop_of : StopAt → Stop
stop_of r = r.stop

-- no call was asked
abbrev pub IsFresh : StopAt → Type 0
IsFresh r = (r.last ≡ 0) × (r.refusals ≡ 0)

-- a file whose last call has this number has met the stop
abbrev pub has_met : ℕ → ℕ → Bool
has_met at last = nat_le at last

-- a call gets a number above that of the last one, unless the file had met its stop
pub record Goes (old new : StopAt) : Type 0 where
  pub stop : new.stop ≡ old.stop
  pub rises : old.last < old.stop.at → Rises old.last new.last
  pub stays : old.stop.at ≤ old.last → new.last ≡ old.last
