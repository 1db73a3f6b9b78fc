-- A run is upgraded to each text that wraps its own.
use Rattle.std.proofs.Common.{refl}
use Rattle.flow_model.specs.Apply.{upgrade}
use Rattle.flow_model.proofs.Verdicts.{verdict_of_standing}
use Rattle.flow_patch.specs.Upgrades.{WrappedIsUpgraded}
use Rattle.flow_patch.proofs.Words.{wrapped_stands}

pub wrapped_is_upgraded : WrappedIsUpgraded
unfolding upgrade
wrapped_is_upgraded p p' c w program_of b run text r body k is_run opened s is_text means =
    let there = wrapped_stands p p' r.history k c w s in
    rw (is_run, opened, is_text, means, (verdict_of_standing p' r.history there.0).1 there.1.0) refl
