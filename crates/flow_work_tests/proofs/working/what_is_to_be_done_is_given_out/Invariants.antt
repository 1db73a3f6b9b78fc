use Rattle.flow_work_tests.proofs.working.what_is_to_be_done_is_given_out.Given as goal

abbrev pub ghosts-served-B-Room : goal.ghosts-served-B-Room
ghosts-served-B-Room g a = record { table = a.opened.table }

abbrev pub ghosts-served-B-Ledger : goal.ghosts-served-B-Ledger
ghosts-served-B-Ledger g a = record { name = a.opened.name; parts = a.opened.parts }
