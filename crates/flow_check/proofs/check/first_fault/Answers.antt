use Rattle.flow_check.proofs.Checking.{known_first, first_found}
use Rattle.flow_check.proofs.check.first_fault.Goals as goal

pub returns : goal.returns
returns c =
    let p = c.args.program.now in
    let known = known_first c.none-scope.result c.add_parameters.new.self c.add_declarations.new.self p
    c.none-scope.ensures.types c.none-scope.ensures.activities c.none-scope.ensures.signals (rw c.deref-2.ensures.value at c.none-scope.ensures.parameters)
    (rw c.deref-3.ensures.value at c.in_ok-add_parameters.ensures.types) c.in_ok-add_parameters.ensures.activities c.in_ok-add_parameters.ensures.signals c.in_ok-add_parameters.ensures.parameters
    c.in_ok-add_declarations.ensures.types (rw c.deref-4.ensures.value at c.in_ok-add_declarations.ensures.activities)
    (rw c.deref-4.ensures.value at c.in_ok-add_declarations.ensures.signals) c.in_ok-add_declarations.ensures.parameters in
    first_found p c.add_declarations.new.self c.check_statements.new.scope c.none-found.result c.check_names.new.found c.check_types.new.found c.check_statements.new.found c.get.result
    c.none-found.ensures c.in_ok-check_names.ensures (rw c.deref.ensures.value at c.check_types.ensures) known (rw (c.as_slice.ensures.value, c.deref-5.ensures) at c.in_ok-check_statements.ensures) c.get.ensures
