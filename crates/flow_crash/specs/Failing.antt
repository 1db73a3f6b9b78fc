-- What has one call fail shows.
use Rattle.std.specs.Prelude.{◌≡◌, ℕ}
use Rattle.flow_crash.specs.declared.fail_at.FailAt.{FailAt}

-- the number of the call that is refused
abbrev pub at_of : FailAt → ℕ
at_of r = r.at

-- no call was asked
abbrev pub IsFresh : FailAt → Type 0
IsFresh r = (r.last ≡ 0) × (r.refusals ≡ 0)
