use Rattle.std.proofs.Common.{None, Some, refl}
use Rattle.flow_cache.proofs.Entries.{ends_as_used, entry_at, kept_at, not_kept_at, none_kept}
use Rattle.flow_cache.proofs.positions.Positions.find.Goals as goal
use Rattle.flow_cache.proofs.positions.Positions.find.Goals.{then-is_at, else-is_at}

pub returns-in_err-entry : goal.returns-in_err-entry
returns-in_err-entry c =
    let cache = c.self.inside.cache in
    let missing = entry_at c.args.run c.get.result c.get.ensures.value cache.entries None c.in_err-entry.ensures.value in
    rw (c.from_residual.ensures, ← c.self.view_is) (
      (refl, λ _. tt, ends_as_used c.args.run c.get.result c.get.ensures.value cache c.get-2.follows.lender-at-none c.get-2.follows.holds-at-none),
      record {
        used = tt;
        found = tt;
        none = λ _. none_kept cache.entries c.args.run c.args.text c.args.events missing;
      },
    )

pub returns : goal.returns
returns c =
    let cache = c.self.inside.cache in
    let entry = c.in_ok-entry.entry.now in
    let there = entry_at c.args.run c.get.result c.get.ensures.value cache.entries (Some entry) c.in_ok-entry.ensures.value in
    rw (← c.self.view_is) (
      (refl, λ _. tt, ends_as_used c.args.run c.get.result c.get.ensures.value cache c.get-2.follows.lender-at-none c.get-2.follows.holds-at-none),
      record {
        used = tt;
        found = elim c.if-is_at.branch [
          | then-is_at w ↦ rw w.result-is (kept_at cache.entries c.args.run c.args.text c.args.events entry there (c.is_at.ensures.yes w.if-is_at.true))
          | else-is_at w ↦ rw w.result-is tt
        ];
        none = elim c.if-is_at.branch [
          | then-is_at w ↦ rw w.result-is (λ is. cc)
          | else-is_at w ↦ λ _. not_kept_at cache.entries c.args.run c.args.text c.args.events entry there (c.is_at.ensures.no w.if-is_at.false)
        ];
      },
    )
