use Rattle.std.specs.Prelude.{◌≡◌}
use Rattle.flow_maps.proofs.Names.{rules, ◌∙◌, ap, length, with_next}
use Rattle.flow_maps.proofs.Gathered.{listing_ends}
use Rattle.flow_maps.proofs.gathering.WaitingListGathers.end.Goals as goal

pub returns : goal.returns
returns c n =
    let opened : c.len.result ≡ length c.args.self.opened.items = search rules in
    listing_ends c.args.self _ n c.from_vec.ensures (c.with_next.ensures ∙ ap (λ o. with_next o c.args.self.next) c.moment_of.ensures) opened
