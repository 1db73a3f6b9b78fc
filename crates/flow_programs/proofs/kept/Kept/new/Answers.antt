use Rattle.std.proofs.Common.{◌≤◌, List, subst, sym}
use Rattle.flow_base.specs.Syntax.{Bytes}
use Rattle.flow_programs.specs.Keeping.{total}
use Rattle.flow_programs.proofs.Listing.{none_counts}
use Rattle.flow_programs.proofs.kept.Kept.new.Goals as goal

pub invariant_of-result : goal.invariant_of-result
invariant_of-result g c = subst (λ (ts : List Bytes). total ts ≤ 1048576) (sym c.new.ensures.items) none_counts
