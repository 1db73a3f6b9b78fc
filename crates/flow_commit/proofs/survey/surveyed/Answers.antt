use Rattle.std.proofs.Common.{ap, ◌∙◌}
use Rattle.flow_tables.specs.Owned.{kept_book}
use Rattle.flow_commit.specs.Boards.{draft_of}
use Rattle.flow_commit.proofs.Following.{follows_self}
use Rattle.flow_commit.proofs.Seating.{one_kept}
use Rattle.flow_commit.proofs.survey.surveyed.Goals as goal

pub returns-in-Some-clause-made : goal.returns-in-Some-clause-made
returns-in-Some-clause-made g c fit b keeps =
    let t = c.args.tables.now in
    let up = c.requires.rests c.if-rests.true fit in
    let first = kept_book g.S.Store t in
    let held = c.idle.ensures.own fit up in
    c.in-Some.ensures.made fit up (c.requires.looked fit up first held) ∙ ap (draft_of c.args.posted.now.keys c.args.at) (one_kept g.S.Store t first b up held keeps)

pub returns-in-Some-clause-follows : goal.returns-in-Some-clause-follows
returns-in-Some-clause-follows g c = follows_self g.S.Store c.args.tables.now

pub returns-in-Some-clause-own : goal.returns-in-Some-clause-own
returns-in-Some-clause-own g c fit up = c.idle.ensures.own fit up

pub returns-in-Some-clause-rest : goal.returns-in-Some-clause-rest
returns-in-Some-clause-rest g c fit = c.in-Some.ensures.rest

pub returns-in-Some-clause-up : goal.returns-in-Some-clause-up
returns-in-Some-clause-up g c fit = c.requires.rests c.if-rests.true fit
