use Rattle.flow_work_tests.proofs.feeding.a_closed_hub_gives_nothing_out.Given as goal

abbrev pub ghosts-closed-B-Room : goal.ghosts-closed-B-Room
ghosts-closed-B-Room g a = record { table = a.opened.table }

abbrev pub ghosts-closed-B-Ledger : goal.ghosts-closed-B-Ledger
ghosts-closed-B-Ledger g a = record { name = a.opened.name; parts = a.opened.parts }
