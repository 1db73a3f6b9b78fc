use Rattle.std.proofs.Common.{◌++◌, ◌∙◌, ap, sym}
use Rattle.std.proofs.lemmas.Result.{on_ok_weaker}
use Rattle.std.proofs.lemmas.Simd.{map-map}
use Rattle.flow_base.specs.Shown.{shown_expr}
use Rattle.flow_syntax.specs.Print.{spaced, listed, expression_words}
use Rattle.flow_syntax.proofs.print_expression.arguments.Goals as goal

pub returns : goal.returns
returns c = on_ok_weaker c.print_list.result (λ h. h ∙ ap (λ xs. c.args.out.now ++ spaced (listed xs)) (sym (map-map expression_words shown_expr c.args.list.now))) c.print_list.ensures
