use Rattle.std.proofs.Common.{rules, ◌∙◌, refl}
use Rattle.flow_hub.proofs.Growing.{before_self, before_trans}
use Rattle.flow_work.proofs.desk.Desk.rest_shown.Goals as goal

pub rests-init : goal.rests-init
rests-init g c = (search rules, search rules, before_self c.args.self.now.submitter.was, refl, refl)

pub rests-preserved : goal.rests-preserved
rests-preserved g c = (
  search rules,
  search rules,
  before_trans c.args.self.now.submitter.was c.rests.self.submitter.was c.rest_once.new.self.submitter.was c.rests.invariant.2 c.rest_once.ensures.grows,
  c.rest_once.ensures.page ∙ c.rests.invariant.3,
  c.rest_once.ensures.same ∙ c.rests.invariant.4,
)
