use Rattle.flow_work_tests.proofs.tickets.what_waits_is_answered_after_closing.Given as goal

abbrev pub ghosts-halted-B-Room : goal.ghosts-halted-B-Room
ghosts-halted-B-Room g a = record { table = a.opened.table }

abbrev pub ghosts-halted-B-Ledger : goal.ghosts-halted-B-Ledger
ghosts-halted-B-Ledger g a = record { name = a.opened.name; parts = a.opened.parts }
