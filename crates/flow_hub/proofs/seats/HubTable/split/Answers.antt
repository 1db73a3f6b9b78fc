use Rattle.std.proofs.Common.{rules, ◌∙◌, sym}
use Rattle.flow_hub.proofs.seats.HubTable.split.Goals as goal

pub split_seat-seat-requires : goal.split_seat-seat-requires
split_seat-seat-requires g c =
    let is = c.mine.view_is in
    (c.mine.invariant.0 ∙ sym c.args.self.now.named, search rules, rw is (c.requires.may c.mine.inside.seat.id))
