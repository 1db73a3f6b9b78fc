use Rattle.std.proofs.Common.{rules}
use Rattle.flow_plain.specs.Shown.{shown_rest}
use Rattle.flow_plain.proofs.Lefts.{again_before}
use Rattle.flow_plain.proofs.step.repeated.Goals as goal

pub returns : goal.returns
returns c = λ st h.
    again_before c.args.b.value.items c.args.to c.args.i st (shown_rest c.in_ok-new.field-0.value) (shown_rest c.args.r) (search rules) (search rules) h
