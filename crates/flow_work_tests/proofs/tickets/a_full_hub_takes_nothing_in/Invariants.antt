use Rattle.flow_work_tests.proofs.tickets.a_full_hub_takes_nothing_in.Given as goal

abbrev pub ghosts-full-B-Room : goal.ghosts-full-B-Room
ghosts-full-B-Room g a = record { table = a.opened.table }

abbrev pub ghosts-full-B-Ledger : goal.ghosts-full-B-Ledger
ghosts-full-B-Ledger g a = record { name = a.opened.name; parts = a.opened.parts }
