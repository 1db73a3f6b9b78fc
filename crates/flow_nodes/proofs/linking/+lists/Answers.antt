use Rattle.std.proofs.Common.{◌≡◌, ◌∷◌, ◌++◌, ℕ, List, [], length, get_or, map, take, sym, subst, rules}
use Rattle.flow_base.specs.Shown.{shown_block, shown_branch}
use Rattle.flow_base.specs.declared.syntax.Stmt.{the_lemmas}
use Rattle.flow_nodes.specs.Links.{AreLinked, Grows, LeadAll, LeadsTo, LinkEach}
use Rattle.flow_nodes.proofs.Growing.{branch_step, each_step, grows_on, leads_on}
use Rattle.flow_nodes.proofs.linking.+lists.Goals as goal

pub add_list-loop-stmt-preserved : goal.add_list-loop-stmt-preserved
add_list-loop-stmt-preserved t c =
    let inv = c.loop-stmt.invariant in
    let within = c.in_ok-within in
    let new = c.add_within.new.lists.items in
    record {
      linked = within.ensures.linked;
      grows = grows_on c.args.lists.now.items c.loop-stmt.lists.items new inv.grows within.ensures.grows;
      each = each_step c.loop-stmt.lists.items new c.as_slice-all.result.now c.loop-stmt.links.items c.push.new.self.items c.loop-stmt.stmt-index c.stmt-item.result within.within (search rules) c.stmt-item.is c.in_ok-push.ensures.items within.ensures.grows inv.each within.ensures.links;
    }

pub add_branches-loop-branch-preserved : goal.add_branches-loop-branch-preserved
add_branches-loop-branch-preserved t c =
    let inv = c.loop-branch.invariant in
    let number = c.in_ok-number in
    let new = c.add_list.new.lists.items in
    let body : (shown_branch c.branch-item.result).1.0 ≡ shown_block c.branch-item.result.body.list.value.items = search (rules, the_lemmas) in
    record {
      linked = number.ensures.linked;
      grows = grows_on c.args.lists.now.items c.loop-branch.lists.items new inv.grows number.ensures.grows;
      all = λ b first. branch_step c.loop-branch.lists.items new c.args.others.now c.loop-branch.branches.items c.push-in-loop-branch.new.self.items c.loop-branch.branch-index c.branch-item.result number.number b (search rules) c.branch-item.is c.in_ok-push-2.ensures.items number.ensures.grows (inv.all b first) (subst (LeadsTo new number.number) (sym body) number.ensures.list);
    }
