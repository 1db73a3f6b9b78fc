use Rattle.flow_work_tests.proofs.tickets.a_ticket_is_its_submitters_own.Given as goal

abbrev pub ghosts-lent-B-Room : goal.ghosts-lent-B-Room
ghosts-lent-B-Room g a = record { table = a.opened.table }

abbrev pub ghosts-lent-B-Ledger : goal.ghosts-lent-B-Ledger
ghosts-lent-B-Ledger g a = record { name = a.opened.name; parts = a.opened.parts }
