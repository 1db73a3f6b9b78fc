use Rattle.std.proofs.Common.{ap, not, ◌&&◌, ◌∙◌, sym}
use Rattle.flow_base.specs.Keys.{key_of}
use Rattle.std.specs.BTreeSet.{contains}
use Rattle.flow_queues.specs.Posting.{key_cmp}
use Rattle.flow_queues.proofs.Chosen.{came}
use Rattle.flow_queues.proofs.posting.add_apart.Goals as goal

-- of a run that isn't gone it comes if it wasn't there
pub returns-in-Ok-clause-new : goal.returns-in-Ok-clause-new
returns-in-Ok-clause-new c =
    c.in-Ok.ensures.new ∙ ap (λ v. not v && not (contains key_cmp c.args.keys.now (key_of c.args.task.now))) (sym (sym c.contains.ensures ∙ c.if-contains.false))

pub returns-in-Ok-clause-added : goal.returns-in-Ok-clause-added
returns-in-Ok-clause-added c q = came c.args.keys.now c.add.new.keys (key_of c.args.task.now) c.in-Ok.fresh c.in-Ok.ensures.new c.in-Ok.ensures.added q
