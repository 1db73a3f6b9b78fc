use Rattle.std.proofs.Common.{rules, ◌∙◌, inl, inr, true, false}
use Rattle.flow_hub.proofs.Growing.{before_trans}
use Rattle.flow_work.proofs.Silence.{silent_behind, silent_first}
use Rattle.flow_work.proofs.Telling.{told_as, told_ends, told_then}
use Rattle.flow_work.proofs.desk.Desk.tell_all.Goals as goal

pub returns-then-not-has_pending : goal.returns-then-not-has_pending
returns-then-not-has_pending g c = record { ends = inl (c.has_pending.ensures.none c.if-not-has_pending.true); told = told_ends c.lines.self.submitter false c.lines.invariant.2; grows = c.lines.invariant.3; same = c.lines.invariant.4 }

pub returns-then-not-tell_oldest : goal.returns-then-not-tell_oldest
returns-then-not-tell_oldest g c =
    let new = c.tell_oldest.new.self.submitter in
    let (told, first, printed) = c.tell_oldest.ensures.oldest in
    record {
      ends = inr (silent_behind c.lines.self.submitter new c.lines.invariant.2 (silent_first new c.lines.self.pending.lines.items c.tell_oldest.new.self.pending.lines.items told c.tell_oldest.result first c.if-not-tell_oldest.true));
      told = told_then c.lines.self.submitter new c.tell_oldest.ensures.same c.tell_oldest.ensures.grows c.lines.invariant.2
          (told_as new c.tell_oldest.result false c.if-not-tell_oldest.true c.tell_oldest.ensures.told);
      grows = before_trans c.args.self.now.submitter.was c.lines.self.submitter.was new.was c.lines.invariant.3 c.tell_oldest.ensures.grows;
      same = c.tell_oldest.ensures.same ∙ c.lines.invariant.4;
    }

pub lines-preserved : goal.lines-preserved
lines-preserved g c =
    let old = c.lines.self.submitter in
    let new = c.tell_oldest.new.self.submitter in (
      search rules,
      search rules,
      told_then old new c.tell_oldest.ensures.same c.tell_oldest.ensures.grows c.lines.invariant.2
          (told_as new c.tell_oldest.result true c.if-not-tell_oldest.false c.tell_oldest.ensures.told),
      before_trans c.args.self.now.submitter.was old.was new.was c.lines.invariant.3 c.tell_oldest.ensures.grows,
      c.tell_oldest.ensures.same ∙ c.lines.invariant.4,
    )
