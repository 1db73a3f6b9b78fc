use Rattle.flow_work.proofs.serving.taken_back.Goals as goal

pub returns-clause-part : goal.returns-clause-part
returns-clause-part g c = c.meet.ensures.part

pub returns-clause-submitter : goal.returns-clause-submitter
returns-clause-submitter g c = c.meet.ensures.submitter

pub returns-clause-feed : goal.returns-clause-feed
returns-clause-feed g c = c.meet.ensures.feed
