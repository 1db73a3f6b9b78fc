use Rattle.std.proofs.Common.{rules, ◌≡◌, ◌||◌, bytes_eq, subst}
use Rattle.std.specs.HashSet.{contains_text}
use Rattle.std.specs.String.{string_bytes}
use Rattle.flow_rows.proofs.TakenNames.{has_one_more}
use Rattle.flow_rows.proofs.taken_names.NamesInUse.add_flow.Goals as goal

pub returns-clause-flows : goal.returns-clause-flows
returns-clause-flows c = λ x.
    let is : string_bytes c.in_ok-name.name ≡ c.args.flow.now = search rules in
    subst (λ bs. contains_text c.insert.new.self x ≡ (contains_text c.args.self.now.flows x || bytes_eq bs x)) is
    (has_one_more c.args.self.now.flows c.insert.new.self (string_bytes c.in_ok-name.name) x c.in_ok-insert.ensures.updates)
