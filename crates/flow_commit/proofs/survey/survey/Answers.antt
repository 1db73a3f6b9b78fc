use Rattle.std.proofs.Common.{rules, ◌≡◌, ◌∙◌, ◌+◌, filter, refl}
use Rattle.flow_tables.specs.Calls.{as_view}
use Rattle.flow_tables.proofs.Calls.{looked_by, no_memory_read, not_looked, not_read}
use Rattle.flow_tables.specs.Owned.{book_now}
use Rattle.flow_commit.specs.Boards.{draft_of, is_new, since_all, tasks_of}
use Rattle.flow_commit.proofs.Looking.{draft_is}
use Rattle.flow_commit.proofs.survey.survey.Goals as goal

pub returns-in-Err : goal.returns-in-Err
returns-in-Err g c =
    not_read (as_view g.S.Store) c.args.tables.now c.outlook.new.self c.in-Err.fault (draft_of c.args.posted.now.keys c.args.at) (not_looked {B = Unit {0}} (as_view g.S.Store) c.args.tables.now c.outlook.new.self c.in-Err.fault _ c.in-Err.ensures)

pub returns-in-Err-wanted : goal.returns-in-Err-wanted
returns-in-Err-wanted g c =
    no_memory_read (as_view g.S.Store) c.args.tables.now c.outlook.new.self (tt {0}) c.from.result (draft_of c.args.posted.now.keys c.args.at) c.from.ensures (looked_by (as_view g.S.Store) c.args.tables.now c.outlook.new.self _ (tt {0}) _ c.in-Ok.ensures)

pub returns-in-Ok-tasks_of : goal.returns-in-Ok-tasks_of
returns-in-Ok-tasks_of g c = record {
  reads = λ sure.
      let b = book_now g.S.Store c.args.tables.now in
      let waits = c.in-Ok.ensures.reads (c.tasks_of.ensures.sure sure) in
      let told = c.in-Ok-tasks_of.ensures.reads sure in
      let keys = c.args.posted.now.keys in
      let o = c.in-Ok.found in
      let named : c.in-Ok-wanted.new.items ≡ filter (is_new keys) o.ready = search rules in
      let next : c.since_next-next.result ≡ since_all (c.args.at + 1) c.in-Ok-wanted.new.items = search rules in
      let tasks : c.in-Ok-tasks_of.tasks ≡ tasks_of b c.in-Ok-wanted.new.items = search rules in
      (told.0 ∙ waits.0, draft_is keys c.args.since c.args.at b o c.in-Ok-wanted.new.items _ (c.requires.looked (c.outlook.ensures.sure (c.tasks_of.ensures.sure sure))) waits.1 named tasks refl refl next);
  cause = λ a before fit sure. tt;
  goes_on = λ fit sure. c.in-Ok-tasks_of.ensures.goes_on fit (c.in-Ok.ensures.goes_on (c.tasks_of.ensures.was_true fit) sure);
  sure = λ sure. c.outlook.ensures.sure (c.tasks_of.ensures.sure sure);
  was_true = λ fit. c.outlook.ensures.was_true (c.tasks_of.ensures.was_true fit);
  follows = λ a before. c.tasks_of.ensures.follows a (c.outlook.ensures.follows a before);
}

pub returns : goal.returns
returns g c = record {
  reads = tt;
  cause = λ a before fit sure. c.in-Err-tasks_of.ensures.cause a (c.outlook.ensures.follows a before) fit (c.in-Ok.ensures.goes_on (c.tasks_of.ensures.was_true fit) sure);
  goes_on = tt;
  sure = λ sure. c.outlook.ensures.sure (c.tasks_of.ensures.sure sure);
  was_true = λ fit. c.outlook.ensures.was_true (c.tasks_of.ensures.was_true fit);
  follows = λ a before. c.tasks_of.ensures.follows a (c.outlook.ensures.follows a before);
}
