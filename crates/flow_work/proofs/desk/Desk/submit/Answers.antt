use Rattle.std.proofs.Common.{rules, inl, ◌≡◌, ◌∙◌, true, false, refl}
use Rattle.flow_hub.proofs.Growing.{before_self, before_trans}
use Rattle.flow_work.proofs.Silence.{silent_behind, silent_first}
use Rattle.flow_work.proofs.Telling.{told_as, told_ends, told_later, told_none, told_then}
use Rattle.flow_work.proofs.desk.Desk.submit.Goals as goal

pub returns-in-Err-default-HubClosed-clause-told : goal.returns-in-Err-default-HubClosed-clause-told
returns-in-Err-default-HubClosed-clause-told g c =
    told_later c.tries.self.submitter c.submit.new.self c.submit.ensures.same.0 c.submit.ensures.grows (told_ends c.tries.self.submitter false c.tries.invariant.4)

pub returns-then-not-tell_oldest-clause-told : goal.returns-then-not-tell_oldest-clause-told
returns-then-not-tell_oldest-clause-told g c =
    let old = c.tries.self.submitter in
    let new = c.tell_oldest.new.self.submitter in
    let seen = before_trans old.was c.submit.new.self.was new.was c.submit.ensures.grows c.tell_oldest.ensures.grows in
    told_then old new (c.tell_oldest.ensures.same ∙ c.submit.ensures.same.0) seen c.tries.invariant.4
    (told_as new c.tell_oldest.result false c.if-not-tell_oldest.true c.tell_oldest.ensures.told)

pub returns-in-Err-default-HubClosed-clause-silent : goal.returns-in-Err-default-HubClosed-clause-silent
returns-in-Err-default-HubClosed-clause-silent g c = inl (search rules)

pub returns-then-not-tell_oldest-clause-silent : goal.returns-then-not-tell_oldest-clause-silent
returns-then-not-tell_oldest-clause-silent g c =
    let (told, first, printed) = c.tell_oldest.ensures.oldest in
    let new = c.tell_oldest.new.self.submitter in
    silent_behind c.tries.self.submitter new c.tries.invariant.4 (silent_first new c.tries.self.pending.lines.items c.tell_oldest.new.self.pending.lines.items told c.tell_oldest.result first c.if-not-tell_oldest.true)

pub tries-init : goal.tries-init
tries-init g c =
    let first = c.args.self.now.submitter in (
      search rules,
      search rules,
      search rules,
      search rules,
      told_none first true c.args.self.now.pending.lines.items _,
      before_self first.was,
      refl,
    )

pub tries-preserved : goal.tries-preserved
tries-preserved g c =
    let first = c.args.self.now.submitter in
    let old = c.tries.self.submitter in
    let new = c.tell_oldest.new.self.submitter in
    let seen = before_trans old.was c.submit.new.self.was new.was c.submit.ensures.grows c.tell_oldest.ensures.grows in
    let same : new.id ≡ old.id = c.tell_oldest.ensures.same ∙ c.submit.ensures.same.0 in (
      search rules,
      search rules,
      search rules,
      search rules,
      told_then old new same seen c.tries.invariant.4 (told_as new c.tell_oldest.result true c.if-not-tell_oldest.false c.tell_oldest.ensures.told),
      before_trans first.was old.was new.was c.tries.invariant.5 seen,
      same ∙ c.tries.invariant.6,
    )
