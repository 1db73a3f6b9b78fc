use Rattle.std.specs.Prelude.{◌≡◌}
use Rattle.flow_maps.proofs.Names.{None, Some, false, is_some, rules, sym, ◌∙◌, subst, true, Option, IfSome, ℕ, get, nat_cmp}
use Rattle.flow_maps.proofs.Seating.{taken_clear, unseated}
use Rattle.flow_maps.proofs.Signalled.{is_nothing}
use Rattle.flow_maps.proofs.open_seats.OpenSeats.clear.Goals as goal

pub returns-then-not-contains_key : goal.returns-then-not-contains_key
returns-then-not-contains_key c is rs h =
    let none : is_some (get nat_cmp c.args.self.now.by_run c.args.run) ≡ false = search rules in
    unseated c.args.self.now c.args.run rs None h (is_nothing (get nat_cmp c.args.self.now.by_run c.args.run) none) tt

pub returns : goal.returns
returns c is rs h =
    let some : is_some c.take.result ≡ true = search rules in
    taken_clear c.args.self.now c.take.new.self c.args.run c.take.result rs some c.take.ensures h
