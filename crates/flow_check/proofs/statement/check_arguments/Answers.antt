use Rattle.std.proofs.Common.{◌∙◌}
use Rattle.flow_check.specs.Tables.{types_of, kinds_wanted}
use Rattle.flow_check.proofs.Expressing.{argument_more}
use Rattle.flow_check.proofs.statement.check_arguments.Goals as goal

pub loop-i-preserved : goal.loop-i-preserved
loop-i-preserved c =
    argument_more (types_of c.args.scope.now) (kinds_wanted c.args.wanted) c.args.arguments.now c.loop-i.i c.index-arguments-i.result c.kind_at.result c.loop-i.found c.check_argument.new.found
    c.loop-i-test.true c.index-arguments-i.is c.kind_at.ensures c.check_argument.ensures ∙ c.loop-i.invariant
