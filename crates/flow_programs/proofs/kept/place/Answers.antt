use Rattle.std.proofs.Common.{◌≡◌, true, false, sym, ◌∙◌, bytes_eq, arith, rules}
use Rattle.flow_programs.proofs.Listing.{found, kept_on, none_kept, others_on}
use Rattle.flow_programs.proofs.kept.place.Goals as goal

pub returns-then-is_of-clause-some : goal.returns-then-is_of-clause-some
returns-then-is_of-clause-some g c =
    let ts = c.args.programs.now in
    let t = c.index-programs-i.result in
    let text = c.args.text.now in
    let this : bytes_eq t text ≡ true = sym c.is_of.ensures.test ∙ c.if-is_of.true in
    found ts c.loop-i.i t (omega arith) c.index-programs-i.is text this (c.is_of.ensures.same.0 (search rules)) c.loop-i.invariant.kept c.loop-i.invariant.others

pub loop-i-preserved : goal.loop-i-preserved
loop-i-preserved g c =
    let ts = c.args.programs.now in
    let t = c.index-programs-i.result in
    let text = c.args.text.now in
    let other : bytes_eq t text ≡ false = sym c.is_of.ensures.test ∙ c.if-is_of.false in
    record {
      kept = kept_on ts c.loop-i.i t (omega arith) c.index-programs-i.is text other c.loop-i.invariant.kept;
      others = others_on ts c.loop-i.i t (omega arith) c.index-programs-i.is text other c.loop-i.invariant.others;
    }

pub returns-clause-none : goal.returns-clause-none
returns-clause-none g c = λ _. none_kept c.args.text.now c.args.programs.now c.loop-i.i (omega arith) c.loop-i.invariant.kept
