use Rattle.std.proofs.Common.{◌≡◌}
use Rattle.toml.specs.View.{members_view}
use Rattle.flow_settings.specs.Allowed.{knows_all}
use Rattle.flow_settings.proofs.settings.has_known_keys.Given as goal

abbrev pub invariant-keys : goal.invariant-keys
invariant-keys l =
    (goal.iterator-keys).can_next l.key-iterator × (goal.iterator-keys).is_finite l.key-iterator
    × (knows_all (members_view l.key-iterator) ≡ knows_all (members_view l.table.entries))
