use Rattle.std.proofs.Common.{ap, ◌∙◌}
use Rattle.flow_check.proofs.Checking.{names_checked}
use Rattle.flow_check.proofs.names.check_names.Goals as goal

pub returns : goal.returns
returns c =
    names_checked c.statement_names.result c.args.program.now c.none-names.result c.parameter_names.new.names c.declaration_names.new.names c.statement_names.new.names
    c.args.found.now c.parameter_names.new.found c.declaration_names.new.found c.statement_names.new.found c.deref.result.now c.deref-2.result.now c.as_slice.result.now
    c.deref.ensures.value c.deref-2.ensures.value (c.as_slice.ensures.value ∙ ap (λ v. v.items) c.deref-3.ensures) c.none-names.ensures c.in_ok-parameter_names.ensures c.in_ok-declaration_names.ensures c.statement_names.ensures
