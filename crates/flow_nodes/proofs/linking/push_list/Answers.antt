use Rattle.flow_nodes.proofs.Growing.{pushed_grows, pushed_leads, pushed_linked}
use Rattle.std.proofs.Common.{◌≡◌, length, rules}
use Rattle.flow_nodes.proofs.linking.push_list.Goals as goal

pub returns-clause-list : goal.returns-clause-list
returns-clause-list c =
    let size : c.len-number.result ≡ length c.args.lists.now.items = search rules in
    pushed_leads c.args.lists.now.items c.push.new.self.items c.args.list c.len-number.result c.in_ok-push.ensures.items size

pub returns-clause-grows : goal.returns-clause-grows
returns-clause-grows c = pushed_grows c.args.lists.now.items c.push.new.self.items c.args.list c.in_ok-push.ensures.items

pub returns-clause-linked : goal.returns-clause-linked
returns-clause-linked c = pushed_linked c.args.lists.now.items c.push.new.self.items c.args.list c.in_ok-push.ensures.items c.requires.linked c.requires.each
