use Rattle.std.proofs.Common.{◌≡◌, ◌∷◌, ℕ, [], map, take}
use Rattle.flow_base.specs.Shown.{Braced, branches_of, shown_branch}
use Rattle.flow_nodes.specs.Links.{AreLinked, Grows, LeadAll, LeadsTo, LinkEach}
use Rattle.flow_nodes.proofs.linking.+lists.Given as goal

abbrev pub invariant-add_list-loop-stmt : goal.invariant-add_list-loop-stmt
invariant-add_list-loop-stmt l = record {
  linked : AreLinked l.lists.items;
  grows : Grows l.initial.lists.items l.lists.items;
  each : LinkEach l.lists.items (take l.stmt-index l.all) l.links.items;
}

abbrev pub invariant-add_branches-loop-branch : goal.invariant-add_branches-loop-branch
invariant-add_branches-loop-branch l = record {
  linked : AreLinked l.lists.items;
  grows : Grows l.initial.lists.items l.lists.items;
  all : (b : ℕ × Braced) → LeadsTo l.initial.lists.items l.first b.1.0 → LeadAll l.lists.items l.branches.items (branches_of (b ∷ map shown_branch (take l.branch-index l.others)));
}
