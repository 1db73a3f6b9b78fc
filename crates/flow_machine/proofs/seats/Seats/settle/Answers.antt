use Rattle.std.proofs.Common.{rules, ◌≡◌, ℕ, List, [], subst}
use Rattle.flow_machine.specs.Seated.{KeepsAll, Settles, without_entries}
use Rattle.flow_machine.specs.declared.seats.Led.{Led}
use Rattle.flow_machine.specs.declared.seats.Seats.{Seats}
use Rattle.flow_machine.proofs.Seating.{settle_fit}
use Rattle.flow_machine.proofs.seats.Seats.settle.Goals as goal

pub returns-clause-settled : goal.returns-clause-settled
returns-clause-settled c =
    let ahead : c.replace-ahead.result.items ≡ c.args.self.now.ahead.items = search rules in
    let over : c.as_slice.result.now ≡ c.args.self.now.over.items = search rules in
    record {
      between = c.keep_all.new.kept;
      all = subst (λ (ls : List Led). KeepsAll c.args.self.now.kept ls c.keep_all.new.kept) ahead c.keep_all.ensures;
      gone = subst (λ (runs : List ℕ). c.let_all_go.new.kept ≡ without_entries runs c.keep_all.new.kept) over c.let_all_go.ensures;
    }

pub returns-clause-fit : goal.returns-clause-fit
returns-clause-fit c = λ m b fit.
    let none : c.replace-ahead.new.dest.items ≡ [] = search rules in
    let new : Seats = record { alloc = c.args.self.now.alloc; kept = c.let_all_go.new.kept; ahead = c.replace-ahead.new.dest; over = c.replace-over.new.dest } in
    let ahead : c.replace-ahead.result.items ≡ c.args.self.now.ahead.items = search rules in
    let over : c.as_slice.result.now ≡ c.args.self.now.over.items = search rules in
    let settles : Settles c.args.self.now new = record {
      between = c.keep_all.new.kept;
      all = subst (λ (ls : List Led). KeepsAll c.args.self.now.kept ls c.keep_all.new.kept) ahead c.keep_all.ensures;
      gone = subst (λ (runs : List ℕ). c.let_all_go.new.kept ≡ without_entries runs c.keep_all.new.kept) over c.let_all_go.ensures;
    } in
    settle_fit m b c.args.self.now new fit settles none
