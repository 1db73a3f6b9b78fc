use Rattle.std.proofs.Common.{rules, ◌≡◌, ◌+◌, [], filter, ap, refl, ◌∙◌, sym}
use Rattle.flow_tables.specs.Owned.{kept_book}
use Rattle.flow_commit.specs.Boards.{is_new, since_all, tasks_of}
use Rattle.flow_commit.proofs.Looking.{draft_is, none_there}
use Rattle.flow_commit.proofs.survey.idle.Goals as goal

pub returns-clause-made : goal.returns-clause-made
returns-clause-made g c fit up were =
    let b = kept_book g.S.Store c.args.tables.now in
    let keys = c.args.posted.now.keys in
    let o = c.in-Some.outlook in
    let new = c.in-Ok.new in
    let named : new.items ≡ filter (is_new keys) o.ready = search rules in
    let next : c.since_next.result ≡ since_all (c.args.at + 1) new.items = search rules in
    let none : new.items ≡ [] = none_there new.items (search rules) in
    draft_is keys c.args.since c.args.at b o new.items _ were (c.in-Some.ensures.kept fit up) named (c.new.ensures ∙ ap (tasks_of b) (sym none)) refl refl next
