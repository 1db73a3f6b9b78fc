use Rattle.std.proofs.Common.{◌≡◌, drop}
use Rattle.flow_patch.specs.Settle.{is_among}
use Rattle.flow_patch.proofs.ids.is_among.Given as goal

-- what is left answers for the whole
abbrev pub invariant-loop-one : goal.invariant-loop-one
invariant-loop-one l = is_among l.ids l.id ≡ is_among (drop l.one-index l.ids) l.id
