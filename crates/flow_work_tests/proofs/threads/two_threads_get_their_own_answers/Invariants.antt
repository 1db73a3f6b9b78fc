use Rattle.flow_work_tests.proofs.threads.two_threads_get_their_own_answers.Given as goal

abbrev pub ghosts-served-B-Room : goal.ghosts-served-B-Room
ghosts-served-B-Room g a = record { table = a.opened.table }

abbrev pub ghosts-served-B-Ledger : goal.ghosts-served-B-Ledger
ghosts-served-B-Ledger g a = record { name = a.opened.name; parts = a.opened.parts }
