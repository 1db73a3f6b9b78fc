use Rattle.std.proofs.Common.{inr, ap, sym, subst, ◌∙◌}
use Rattle.flow_tables.specs.Owned.{IsFit, kept_book}
use Rattle.flow_commit.specs.Boards.{AllWerePosted, draft_of}
use Rattle.flow_commit.proofs.Following.{fit_before, follows_self, up_before}
use Rattle.flow_commit.proofs.Ends.{done_on, caused_on}
use Rattle.flow_commit.proofs.Sealing.{ok_by}
use Rattle.flow_commit.proofs.survey.drafted.Goals as goal

-- the transaction shows the book that is kept
pub survey-requires : goal.survey-requires
survey-requires g c = record {
  looked = λ sure.
      let old = c.args.tables.now in
      let begun = c.begin_anew.new.tables in
      let fit : IsFit g.S.Store begun = (sure.fit, sure.clean) in
      let was = fit_before g.S.Store old begun c.begin_anew.ensures.follows fit in
      let was_up = up_before g.S.Store old begun c.begin_anew.ensures.follows fit (c.in_default.ensures.up fit) in
      let first = kept_book g.S.Store old in
      let held = c.begin_anew.ensures.own fit was_up in
      subst (AllWerePosted c.args.posted.now.keys c.args.since) (sym ((c.in_default.ensures.begun fit).1 first held)) (c.requires.looked was was_up first held);
}

pub returns-clause-made : goal.returns-clause-made
returns-clause-made g c =
    let begun = c.begin_anew.new.tables in
    let new = c.survey.new.tables in
    ok_by _ _ _ c.survey.result (λ d told on fit b keeps.
    let start = c.in_default.ensures.begun (fit_before g.S.Store begun new (c.survey.ensures.follows begun (follows_self g.S.Store begun)) fit) in
    let read = told (on fit start.0) in
    (read.1 ∙ ap (draft_of c.args.posted.now.keys c.args.at) (start.1 b keeps), read.0 ∙ start.1 b keeps))
    c.survey.ensures.reads c.survey.ensures.goes_on

pub returns-clause-sure : goal.returns-clause-sure
returns-clause-sure g c fit =
    let begun = c.begin_anew.new.tables in
    let new = c.survey.new.tables in
    let start = c.in_default.ensures.begun (fit_before g.S.Store begun new (c.survey.ensures.follows begun (follows_self g.S.Store begun)) fit) in
    done_on _ _ c.survey.result (λ on. on fit start.0) c.survey.ensures.goes_on

pub returns-clause-follows : goal.returns-clause-follows
returns-clause-follows g c = c.survey.ensures.follows c.args.tables.now c.begin_anew.ensures.follows

pub returns-clause-own : goal.returns-clause-own
returns-clause-own g c fit =
    let begun = c.begin_anew.new.tables in
    let new = c.survey.new.tables in
    c.begin_anew.ensures.own (fit_before g.S.Store begun new (c.survey.ensures.follows begun (follows_self g.S.Store begun)) fit)

pub returns-clause-cause : goal.returns-clause-cause
returns-clause-cause g c fit =
    let begun = c.begin_anew.new.tables in
    let new = c.survey.new.tables in
    let start = c.in_default.ensures.begun (fit_before g.S.Store begun new (c.survey.ensures.follows begun (follows_self g.S.Store begun)) fit) in
    caused_on _ _ c.survey.result (λ refuses. inr refuses) (c.survey.ensures.cause c.args.tables.now c.begin_anew.ensures.follows fit start.0)
