use Rattle.flow_work.proofs.running.work_shown.Given as goal

abbrev pub ghosts-work_in-B-Room : goal.ghosts-work_in-B-Room
ghosts-work_in-B-Room g a = record { table = a.opened.table }

abbrev pub ghosts-work_in-B-Ledger : goal.ghosts-work_in-B-Ledger
ghosts-work_in-B-Ledger g a = record { name = a.opened.name; parts = a.opened.parts }
