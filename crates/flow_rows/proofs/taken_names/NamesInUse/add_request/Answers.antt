use Rattle.std.proofs.Common.{rules, ◌≡◌, ◌||◌, bytes_eq, subst}
use Rattle.std.specs.HashSet.{contains_text}
use Rattle.std.specs.String.{string_bytes}
use Rattle.flow_rows.proofs.TakenNames.{has_one_more}
use Rattle.flow_rows.proofs.taken_names.NamesInUse.add_request.Goals as goal

pub returns-clause-requests : goal.returns-clause-requests
returns-clause-requests c = λ x.
    let is : string_bytes c.in_ok-name.name ≡ c.args.request.now = search rules in
    subst (λ bs. contains_text c.insert.new.self x ≡ (contains_text c.args.self.now.requests x || bytes_eq bs x)) is
    (has_one_more c.args.self.now.requests c.insert.new.self (string_bytes c.in_ok-name.name) x c.in_ok-insert.ensures.updates)
