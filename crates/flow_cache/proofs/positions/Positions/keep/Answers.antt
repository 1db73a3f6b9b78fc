use Rattle.std.proofs.Common.{ap, inl, inr}
use Rattle.flow_cache.specs.declared.positions.Entry.{Entry}
use Rattle.flow_cache.proofs.Entries.{kept_of, ends_as_kept, there_at}
use Rattle.flow_cache.proofs.positions.Positions.keep.Goals as goal
use Rattle.flow_cache.proofs.positions.Positions.keep.Goals.{in-Ok, in-Err}

pub returns-clause-kept : goal.returns-clause-kept
returns-clause-kept c =
    let cache = c.self.inside.cache in
    let e : Entry = record { text = c.args.text; stance = c.args.stance } in
    rw (← c.self.view_is) (elim c.match-put.branch [
      | in-Ok w ↦ inl (ends_as_kept c.args.run c.get.result c.get.ensures.value e cache c.put.new.self w.in-Ok.ensures.entries)
      | in-Err w ↦ inr (ap kept_of w.in-Err.ensures.err)
    ])

pub returns-clause-replaced : goal.returns-clause-replaced
returns-clause-replaced c =
    let cache = c.self.inside.cache in
    let e : Entry = record { text = c.args.text; stance = c.args.stance } in
    rw (← c.self.view_is) (λ there. elim c.match-put.branch [
      | in-Ok w ↦ ends_as_kept c.args.run c.get.result c.get.ensures.value e cache c.put.new.self w.in-Ok.ensures.entries
      | in-Err w ↦ let taken = w.in-Err.ensures.succeeds (there_at c.args.run c.get.result c.get.ensures.value cache.entries there) in cc
    ])
