use Rattle.flow_work.proofs.running.ended_with.Goals as goal

pub returns-clause-part : goal.returns-clause-part
returns-clause-part g c = c.meet.ensures.part

pub returns-clause-submitter : goal.returns-clause-submitter
returns-clause-submitter g c = c.meet.ensures.submitter
