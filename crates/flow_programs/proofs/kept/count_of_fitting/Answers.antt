use Rattle.std.proofs.Common.{◌++◌, ◌+◌, ◌-◌, ap, ◌∙◌, take, drop, arith}
use Rattle.flow_programs.specs.Keeping.{fitting}
use Rattle.flow_programs.proofs.Listing.{fits_no_more, fits_on, all_fit}
use Rattle.flow_programs.proofs.kept.count_of_fitting.Goals as goal

pub returns-then-weight-left : goal.returns-then-weight-left
returns-then-weight-left g c = fits_no_more c.args.programs.now c.loop-i.i c.index-programs-i.result (omega arith) c.index-programs-i.is c.args.room c.loop-i.left c.loop-i.invariant (omega (arith, c.weight-weight.ensures, c.if-weight-left.true))

pub loop-i-preserved : goal.loop-i-preserved
loop-i-preserved g c =
    ap (λ n. take (c.loop-i.i + 1) c.args.programs.now ++ fitting (c.loop-i.left - n) (drop (c.loop-i.i + 1) c.args.programs.now)) c.weight-weight.ensures
    ∙ fits_on c.args.programs.now c.loop-i.i c.index-programs-i.result (omega arith) c.index-programs-i.is c.args.room c.loop-i.left c.loop-i.invariant (omega (arith, c.weight-weight.ensures, c.if-weight-left.false))

pub returns : goal.returns
returns g c = all_fit c.args.room c.loop-i.left c.args.programs.now c.loop-i.i (omega arith) (omega arith) c.loop-i.invariant
