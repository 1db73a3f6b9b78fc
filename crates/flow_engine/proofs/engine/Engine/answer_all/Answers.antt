use Rattle.std.proofs.Common.{◌≡◌, ◌+◌, ◌≤◌, length, sym, ap, ◌∙◌, subst, arith, vec_len, vec_capacity, List, None}
use Rattle.std.proofs.lemmas.Result.{IfOk-weaker, IfErr-weaker}
use Rattle.std.specs.Prelude.{MatchResult}
use Rattle.flow_base.specs.declared.command.Command.{Command}
use Rattle.flow_commit.specs.Committing.{HasGoneOn}
use Rattle.flow_commit.specs.Keeping.{Keeping, KeepsBook, rules, kept_book, IsFit}
use Rattle.flow_engine.specs.Answering.{AnswersAll, AreCaused, KeepsAnswered, EndsEarly, LeavesBehind, IsPart, IsPartUpTo, Follows, IsSure}
use Rattle.flow_engine.specs.GivingUp.{GivesUp}
use Rattle.flow_engine.proofs.Singly.{cut_alone, cut_long}
use Rattle.flow_engine.proofs.engine.Engine.answer_all.Goals as goal

pub all_answered-requires-clause-alone : goal.all_answered-requires-clause-alone
all_answered-requires-clause-alone g c = cut_alone c.args.commands.items c.in-Ok-cut.batches.items c.in-Ok-cut.ensures

pub all_answered-requires-clause-room : goal.all_answered-requires-clause-room
all_answered-requires-clause-room g c =
    let many : length c.in-Ok-cut.batches.items ≡ length c.args.commands.items = cut_long c.args.commands.items c.in-Ok-cut.batches.items c.in-Ok-cut.ensures in
    let same : length c.as_slice.result.now ≡ length c.args.commands.items = ap length c.as_slice.ensures.value in
    let room : vec_len c.in-Ok.answers + length c.as_slice.result.now ≤ vec_capacity c.in-Ok.answers = c.in-Ok.ensures.room in
    omega (arith, many, room, same)

pub returns-in-Ok-cut-clause-answers : goal.returns-in-Ok-cut-clause-answers
returns-in-Ok-cut-clause-answers g c =
    IfOk-weaker c.all_answered.result _ _
    (λ l h sure.
    subst (λ (k : Keeping g.row.S.Denot). AnswersAll rules (kept_book g.S.Store k) (kept_book g.S.Store c.all_answered.new.engine) c.args.commands.items l.items) c.tickets-first.ensures
    (subst (λ cs. AnswersAll rules (kept_book g.S.Store c.tickets-first.new.self) (kept_book g.S.Store c.all_answered.new.engine) cs l.items) c.in-Ok-cut.ensures.same
    (h sure c.in-Ok-cut.ensures.taken c.in-Ok-cut.ensures.are)))
    c.all_answered.ensures.answers

pub returns-in-Ok-cut-clause-kept : goal.returns-in-Ok-cut-clause-kept
returns-in-Ok-cut-clause-kept g c =
    IfOk-weaker c.all_answered.result _ _
    (λ l h fit b keeps.
    subst (λ cs. KeepsAnswered g.S.Store c.all_answered.new.engine b cs l.items) c.in-Ok-cut.ensures.same
    (h fit b (subst (λ (k : Keeping g.row.S.Denot). KeepsBook g.S.Store k b) (sym c.tickets-first.ensures) keeps) c.in-Ok-cut.ensures.taken c.in-Ok-cut.ensures.are))
    c.all_answered.ensures.kept

pub returns-in-Ok-cut-clause-count : goal.returns-in-Ok-cut-clause-count
returns-in-Ok-cut-clause-count g c =
    IfOk-weaker c.all_answered.result _ _ (λ l h. h ∙ cut_long c.args.commands.items c.in-Ok-cut.batches.items c.in-Ok-cut.ensures) c.all_answered.ensures.count

pub returns-in-Ok-cut-clause-cause : goal.returns-in-Ok-cut-clause-cause
returns-in-Ok-cut-clause-cause g c =
    let new = c.all_answered.new.engine in
    IfOk-weaker c.all_answered.result _ _
    (λ l h.
    subst (λ (k : Keeping g.row.S.Denot). AreCaused (GivesUp g.S.Store k new) (kept_book g.S.Store k) c.args.commands.items l.items) c.tickets-first.ensures
    (subst (λ cs. AreCaused (GivesUp g.S.Store c.tickets-first.new.self new) (kept_book g.S.Store c.tickets-first.new.self) cs l.items) c.in-Ok-cut.ensures.same (h c.in-Ok-cut.ensures.taken c.in-Ok-cut.ensures.are)))
    c.all_answered.ensures.given_up

pub returns-in-Ok-cut-clause-stopped : goal.returns-in-Ok-cut-clause-stopped
returns-in-Ok-cut-clause-stopped g c =
    IfErr-weaker c.all_answered.result _ _
    (λ u h.
    subst (λ (k : Keeping g.row.S.Denot). EndsEarly g.S.Store k c.all_answered.new.engine c.args.commands.items u) c.tickets-first.ensures
    (subst (λ cs. EndsEarly g.S.Store c.tickets-first.new.self c.all_answered.new.engine cs u) c.in-Ok-cut.ensures.same (h c.in-Ok-cut.ensures.taken c.in-Ok-cut.ensures.are)))
    c.all_answered.ensures.early

pub returns-in-Ok-cut-clause-leaves : goal.returns-in-Ok-cut-clause-leaves
returns-in-Ok-cut-clause-leaves g c =
    IfErr-weaker c.all_answered.result _ _
    (λ u h fit b keeps.
    subst (λ cs. LeavesBehind g.S.Store c.all_answered.new.engine b cs u) c.in-Ok-cut.ensures.same
    (h fit b (subst (λ (k : Keeping g.row.S.Denot). KeepsBook g.S.Store k b) (sym c.tickets-first.ensures) keeps) c.in-Ok-cut.ensures.taken c.in-Ok-cut.ensures.are))
    c.all_answered.ensures.leaves

pub returns-in-Ok-cut-clause-part : goal.returns-in-Ok-cut-clause-part
returns-in-Ok-cut-clause-part g c =
    let old = c.tickets-first.new.self in
    let new = c.all_answered.new.engine in
    subst (λ (k : Keeping g.row.S.Denot). MatchResult c.all_answered.result (λ all. IsPart g.S.Store k new c.args.commands.items all.items None) (λ u. IsPartUpTo g.S.Store k new c.args.commands.items u)) c.tickets-first.ensures
    (subst (λ (cs : List Command). MatchResult c.all_answered.result (λ all. IsPart g.S.Store old new cs all.items None) (λ u. IsPartUpTo g.S.Store old new cs u)) c.in-Ok-cut.ensures.same
    (c.all_answered.ensures.part c.in-Ok-cut.ensures.taken c.in-Ok-cut.ensures.are))

pub returns-in-Ok-cut-clause-sure : goal.returns-in-Ok-cut-clause-sure
returns-in-Ok-cut-clause-sure g c =
    subst (λ (k : Keeping g.row.S.Denot). IsSure g.S.Store c.all_answered.new.engine → IsSure g.S.Store k) c.tickets-first.ensures c.all_answered.ensures.sure

pub returns-in-Ok-cut-clause-follows : goal.returns-in-Ok-cut-clause-follows
returns-in-Ok-cut-clause-follows g c = subst (λ (k : Keeping g.row.S.Denot). Follows g.S.Store k c.all_answered.new.engine) c.tickets-first.ensures c.all_answered.ensures.follows

pub returns-in-Ok-cut-clause-goes_on : goal.returns-in-Ok-cut-clause-goes_on
returns-in-Ok-cut-clause-goes_on g c =
    let new = c.all_answered.new.engine in
    subst (λ (k : Keeping g.row.S.Denot). IsFit g.S.Store new → HasGoneOn g.S.Store k new) c.tickets-first.ensures c.all_answered.ensures.goes_on
