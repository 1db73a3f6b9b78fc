use Rattle.flow_work.proofs.running.work.Goals as goal

pub returns-clause-ran : goal.returns-clause-ran
returns-clause-ran g c = c.work_shown.ensures.ran

pub returns-clause-printed : goal.returns-clause-printed
returns-clause-printed g c = c.work_shown.ensures.printed
