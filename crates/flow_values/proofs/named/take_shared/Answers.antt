use Rattle.std.proofs.Common.{rules, []}
use Rattle.flow_values.proofs.named.take_shared.Goals as goal

pub returns-in_ok-value-in-Some-clause-taken : goal.returns-in_ok-value-in-Some-clause-taken
returns-in_ok-value-in-Some-clause-taken c =
    let taken = c.in_ok-value-in-Some.ensures.taken ([], c.in_ok-value-in-Some.value) in
    let oldest = c.in-Some.ensures.1.0 ([], c.in_ok-value-in-Some.value) in
    search (rules, taken, oldest)
